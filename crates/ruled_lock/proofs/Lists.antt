-- Lists of events and of views.
use Rattle.std.proofs.Common.{◌≡◌, ◌≢◌, ◌⊎◌, inl, inr, ⊎_elim, Bool, true, false, not, ℕ, zero, suc, ◌+◌, ◌<◌, ◌≤◌, eqb, cond, List, [], ◌∷◌, ◌++◌, length, drop, sym, refl, ap, ◌∙◌, subst, arith, append_assoc, append-nil, eq-eqb, ne_eqb}
use Rattle.std.specs.Prelude.{All}
use Rattle.std.specs.List.{range_with_len}
use Rattle.std.proofs.lemmas.List.Elements.{All-cons, All-nil, All-head, All-tail}
use mathlib.Core.Logic.{dite}
use native.Mathlib.Decide.{ℕ_discrete}
use mathlib.Core.Option as maybe
use lib.ListN.{get_elem?}
use Rattle.ruled_lock.specs.Events.{calls_by, StartsWith}
use Rattle.ruled_lock.specs.Law.{without}

module _ {A : Type 0} where
  pub within : (l : List A) (i : ℕ) (a : A) → get_elem? l i ≡ maybe.some a → i < length l
  within [] i a e = absurd (maybe.some-ne-none a (sym e))
  within (x ∷ xs) zero a e = omega arith
  within (x ∷ xs) (suc i) a e = let h = within xs i a e in omega arith

  pub drop_front : (xs ys : List A) → drop (length xs) (xs ++ ys) ≡ ys
  drop_front [] ys = refl
  drop_front (x ∷ xs) ys = drop_front xs ys

  -- the last element, with its place
  pub at_snoc_place : (l : List A) (a b : A) (j : ℕ) → get_elem? (l ++ a ∷ []) j ≡ maybe.some b → (get_elem? l j ≡ maybe.some b) ⊎ ((j ≡ length l) × (a ≡ b))
  at_snoc_place [] a b zero e = inr (refl, maybe.some-injective a b e)
  at_snoc_place [] a b (suc j) e = absurd (maybe.some-ne-none b (sym e))
  at_snoc_place (x ∷ xs) a b zero e = inl e
  at_snoc_place (x ∷ xs) a b (suc j) e = ⊎_elim inl (λ t. let n = t.0 in inr (ap suc n, t.1)) (at_snoc_place xs a b j e)

module _ {N : Type 0} (by : N → ℕ) where
  -- an event of another worker is none of this one's
  pub calls_by-other : (x : ℕ) (log : List N) (e : N) → by e ≢ x → calls_by by x (log ++ e ∷ []) ≡ calls_by by x log
  calls_by-other x [] e ne = ap (λ b. cond b (e ∷ []) []) (ne_eqb x (by e) (λ h. ne (sym h)))
  calls_by-other x (y ∷ ys) e ne = ap (λ (zs : List N). cond (eqb x (by y)) (y ∷ zs) zs) (calls_by-other x ys e ne)

  pub calls_by-own : (x : ℕ) (log : List N) (e : N) → by e ≡ x → calls_by by x (log ++ e ∷ []) ≡ calls_by by x log ++ e ∷ []
  calls_by-own x [] e is = ap (λ b. cond b (e ∷ []) []) (eq-eqb x (by e) (sym is))
  calls_by-own x (y ∷ ys) e is = ap (λ (zs : List N). cond (eqb x (by y)) (y ∷ zs) zs) (calls_by-own x ys e is) ∙ pull (eqb x (by y))
    where
      pull : (b : Bool) → cond b (y ∷ (calls_by by x ys ++ e ∷ [])) (calls_by by x ys ++ e ∷ []) ≡ cond b (y ∷ calls_by by x ys) (calls_by by x ys) ++ e ∷ []
      pull true = refl
      pull false = refl

module _ {N : Type 0} where
  pub starts_self : (log : List N) → StartsWith log log
  starts_self log = ([], sym (append-nil log))

  pub starts_longer : (log log' seen : List N) (e : N) → log' ≡ log ++ e ∷ [] → StartsWith log seen → StartsWith log' seen
  starts_longer log log' seen e is (rest, same) = (rest ++ e ∷ [], is ∙ (ap (λ (l : List N). l ++ e ∷ []) same ∙ append_assoc seen rest (e ∷ [])))

-- what holds of the numbers but x holds of those that are left without x
pub all_without : (P Q : ℕ → Type 0) (x : ℕ) → ((y : ℕ) → y ≢ x → P y → Q y) → (xs : List ℕ) → All P xs → All Q (without x xs)
all_without P Q x more [] a = All-nil Q
all_without P Q x more (y ∷ ys) a = let tail = all_without P Q x more ys (All-tail P y ys a) in dite (ℕ_discrete y x)
    (λ e. subst (λ (b : Bool). All Q (cond (not b) (y ∷ without x ys) (without x ys))) (sym (eq-eqb y x e)) tail)
    (λ ne. subst (λ (b : Bool). All Q (cond (not b) (y ∷ without x ys) (without x ys))) (sym (ne_eqb y x ne)) (All-cons Q y (without x ys) (more y ne (All-head P y ys a)) tail))

pub range_all : (P : ℕ → Type 0) (a n : ℕ) → ((x : ℕ) → a ≤ x → x < a + n → P x) → All P (range_with_len a n)
range_all P a zero h = All-nil P
range_all P a (suc n) h = All-cons P a (range_with_len (a + 1) n) (h a (omega arith) (omega arith)) (range_all P (a + 1) n (λ x l m. h x (omega arith) (omega arith)))
