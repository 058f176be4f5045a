-- What a run of workers leaves
use Rattle.std.proofs.Common.{◌≡◌, ◌≢◌, ◌⊎◌, inl, inr, ⊎_elim, Bool, true, false, not, ℕ, zero, suc, ◌+◌, ◌-◌, ◌<◌, ◌≤◌, cond, eqb, List, [], ◌∷◌, ◌++◌, map, sym, refl, ◌∙◌, subst, arith, ne_eqb}
use Rattle.std.specs.Prelude.{All}
use Rattle.std.specs.List.{Contains, range_with_len}
use Rattle.std.proofs.lemmas.List.Elements.{All-cons, All-append, All-nil, All-contains, All-map, Contains-append_left, Contains-append_right, Contains-append_cases, Contains-push, Contains-push_cases}
use mathlib.Core.Logic.{dite}
use mathlib.Core.List.{map-append}
use native.Mathlib.Decide.{ℕ_discrete}
use Rattle.ruled_lock.specs.declared.law.Old.{Old}
use Rattle.ruled_lock.specs.declared.law.View.{View}
use Rattle.ruled_lock.specs.Events.{calls_by}
use Rattle.ruled_lock.specs.Law.{without, parted, joined_views, newcomer, opener, old_of}
use Rattle.ruled_lock.specs.Plays.{AllBack, Tallied}
use Rattle.basis_lock.specs.Acts.{acts_of}
use Rattle.basis_core.specs.Logs.{Base, Noted, by, workers}
use Rattle.f4_engine.specs.Workers.{AllWorkersDone, AreDone, EachDone, HasDone, IsFresh, IsFirstView, OldIsDone}

none : (x : ℕ) → Contains [] x → ⊥
none x (k, l, e) = omega arith

only : (y x : ℕ) → Contains (y ∷ []) x → y ≡ x
only y x c = ⊎_elim (λ (d : Contains [] x). absurd (none x d)) (λ e. e) (Contains-push_cases [] y x c)

head_of : (y : ℕ) (ys : List ℕ) → Contains (y ∷ ys) y
head_of y ys = Contains-append_left (y ∷ []) ys y (Contains-push [] y)

contains_without : (x y : ℕ) → y ≢ x → (xs : List ℕ) → Contains xs y → Contains (without x xs) y
contains_without x y ne [] c = absurd (none y c)
contains_without x y ne (z ∷ zs) c = ⊎_elim
    (λ (h : Contains (z ∷ []) y). let same : z ≡ y = only z y h in
    subst (λ (b : Bool). Contains (cond (not b) (z ∷ without x zs) (without x zs)) y) (sym (ne_eqb z x (λ e. ne (sym same ∙ e)))) (subst (λ (w : ℕ). Contains (z ∷ without x zs) w) same (head_of z (without x zs))))
    (λ (h : Contains zs y). let t = contains_without x y ne zs h in keep (eqb z x) t)
    (Contains-append_cases (z ∷ []) zs y c)
  where
    keep : (b : Bool) → Contains (without x zs) y → Contains (cond (not b) (z ∷ without x zs) (without x zs)) y
    keep true t = t
    keep false t = Contains-append_right (z ∷ []) (without x zs) y t

in_range : (a n x : ℕ) → a ≤ x → x < a + n → Contains (range_with_len a n) x
in_range a zero x l m = absurd (omega arith)
in_range a (suc n) x l m = dite (ℕ_discrete a x) (λ e. subst (λ (w : ℕ). Contains (a ∷ range_with_len (a + 1) n) w) e (head_of a (range_with_len (a + 1) n)))
    (λ ne. Contains-append_right (a ∷ []) (range_with_len (a + 1) n) x (in_range (a + 1) n x (omega arith) (omega arith)))

pub opener_ready : (b : Base) → IsFirstView b.workers (opener workers b)
opener_ready b = record {
  fresh = record { number = refl; mine = refl; olds = refl };
  gives = λ x l m. in_range 1 (b.workers - 1) x (omega arith) (omega arith);
}

pub parted_ready : (n last : ℕ) (v : View Noted Base) → last < n → IsFirstView n v → IsFirstView last (parted last v)
parted_ready n last v l r = record {
  fresh = record { number = r.fresh.number; mine = r.fresh.mine; olds = r.fresh.olds };
  gives = λ x p m. contains_without last x (λ e. omega arith) v.give (r.gives x p (omega arith));
}

pub newcomer_fresh : (last : ℕ) (v : View Noted Base) → IsFresh last (newcomer last v)
newcomer_fresh last v = record { number = refl; mine = refl; olds = refl }

-- a seat that works alone
pub worked_alone : (n x : ℕ) (w : View Noted Base) → n ≤ 1 → x ≡ 0 → HasDone x w → AllWorkersDone n w
worked_alone n x w l is k = record {
  back = λ y m. inl (let number = k.number in omega arith);
  number = k.number ∙ is;
  done = k.done;
  olds = subst (All OldIsDone) (sym k.olds) (All-nil OldIsDone);
}

pub worked_joined : (n last : ℕ) (v w : View Noted Base) → last + 1 ≡ n → AllWorkersDone last v → HasDone last w → AllWorkersDone n (joined_views v w)
worked_joined n last v w is a k =
    let number : w.worker ≡ last = k.number in
    let names : map (λ (q : Old Noted). q.worker) (v.olds ++ (old_of w ∷ w.olds)) ≡ map (λ (q : Old Noted). q.worker) v.olds ++ (w.worker ∷ map (λ (q : Old Noted). q.worker) w.olds) = map-append (λ (q : Old Noted). q.worker) v.olds (old_of w ∷ w.olds) in record {
      back = λ x m. subst (λ (ns : List ℕ). (x ≡ v.worker) ⊎ Contains ns x) (sym names) (dite (ℕ_discrete x last)
          (λ e. inr (Contains-append_right (map (λ (q : Old Noted). q.worker) v.olds) (w.worker ∷ map (λ (q : Old Noted). q.worker) w.olds) x
          (subst (λ (z : ℕ). Contains (w.worker ∷ map (λ (q : Old Noted). q.worker) w.olds) z) (number ∙ sym e) (head_of w.worker (map (λ (q : Old Noted). q.worker) w.olds)))))
          (λ ne. ⊎_elim (λ (e : x ≡ v.worker). inl e) (λ (c : Contains (map (λ (q : Old Noted). q.worker) v.olds) x). inr (Contains-append_left (map (λ (q : Old Noted). q.worker) v.olds) (w.worker ∷ map (λ (q : Old Noted). q.worker) w.olds) x c)) (a.back x (omega arith))));
      number = a.number;
      done = a.done;
      olds = All-append OldIsDone v.olds (old_of w ∷ w.olds) a.olds (All-cons OldIsDone (old_of w) w.olds k.done (subst (All OldIsDone) (sym k.olds) (All-nil OldIsDone)));
    }

pub all_back : (n : ℕ) (v : View Noted Base) → AllWorkersDone n v → AllBack n v
all_back n v a x l = ⊎_elim (λ (e : x ≡ v.worker). inl e) (λ (c : Contains (map (λ (q : Old Noted). q.worker) v.olds) x). inr (inr c)) (a.back x l)

pub each_done : (n : ℕ) (v : View Noted Base) (log : List Noted) → AllWorkersDone n v → Tallied by n v log → EachDone n log
each_done n v log a t x l = ⊎_elim
    (λ (e : x ≡ v.worker). subst (λ (y : ℕ). AreDone (acts_of (calls_by by y log))) (sym e) (subst (λ (es : List Noted). AreDone (acts_of es)) (sym t.own.1) a.done))
    (λ (c : Contains (map (λ (q : Old Noted). q.worker) v.olds) x). All-contains (λ y. AreDone (acts_of (calls_by by y log))) (map (λ (q : Old Noted). q.worker) v.olds) x
    (All-map (λ y. AreDone (acts_of (calls_by by y log))) (λ (q : Old Noted). q.worker) v.olds both_all) c)
    (a.back x l)
  where
    both_all : All (λ (q : Old Noted). AreDone (acts_of (calls_by by q.worker log))) v.olds
    both_all k d m = subst (λ (es : List Noted). AreDone (acts_of es)) (sym (t.olds k d m).1) (a.olds k d m)
