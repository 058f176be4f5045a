-- The flags of the pairs that wait, where those of a job wait no more
use Rattle.std.proofs.Common.{Bool, List, [], ap, append-nil, arith, cond, eq-eqb, eqb-true, false, filter, get_or, length, ltb, map, not, refl}
use Rattle.std.proofs.Common.{subst, suc, sym, take, true, zero, ℕ, ◌++◌, ◌+◌, ◌<◌, ◌==◌, ◌∙◌, ◌∷◌, ◌≡◌, ◌≤◌}
use Rattle.std.proofs.lemmas.Bool.{lt-ltb, ltb-false, ltb-true}
use Rattle.basis_steps.proofs.Counting.{count-append, count_workers}
use Rattle.basis_steps.specs.Criteria.{waiting}
use Rattle.basis_steps.specs.Pairs.{Pair, count, is_same_pair}
use Rattle.basis_steps.specs.States.{job_of, with_others}
use Rattle.pair_queue.proofs.Tabling.{one_at_most}
use Rattle.pair_queue.specs.declared.out.Out.{Out}
use Rattle.pair_queue.specs.Giving.{HasCleared}
use Rattle.pair_queue.specs.Outs.{outs_of}
use Rattle.pair_queue.specs.Tables.{IsFlagTable, flag_cleared, flagged}

-- one more pair
pub more_cleared :
    (job : List Pair) (x : Pair) (old mid new : Pair → Bool)
    → HasCleared job old mid → new ≡ flag_cleared mid x → HasCleared (job ++ (x ∷ [])) old new
more_cleared job x old mid new h step y = (λ i. step i y) ∙ ap (λ b. cond (is_same_pair y x) false b) (h y) ∙ go (count y job) (is_same_pair y x)
    ∙ ap (λ k. cond (ltb 0 k) false (old y)) (sym (count-append y job (x ∷ [])))
  where
    go : (k : ℕ) (b : Bool) → cond b false (cond (ltb 0 k) false (old y)) ≡ cond (ltb 0 (k + (cond b 1 0 + 0))) false (old y)
    go k true = ap (λ t. cond t false (old y)) (sym (lt-ltb 0 (k + (1 + 0)) (omega arith)))
    go k false = ap (λ j. cond (ltb 0 j) false (old y)) same
      where
        same : k ≡ k + (0 + 0)
        same = omega arith

-- the job among the first pairs that are out
pub job_take :
    (w : ℕ) (out : List Out) (i : ℕ) (o d : Out)
    → i < length out → o ≡ get_or out i d
    → job_of w (outs_of (take (i + 1) out)) ≡ job_of w (outs_of (take i out)) ++ cond (o.worker == w) ((o.i, o.j) ∷ []) []
job_take w [] i o d l e = absurd (omega arith)
job_take w (p ∷ out) zero o d l e = subst (λ k. job_of w (outs_of (take k (p ∷ out))) ≡ cond (o.worker == w) ((o.i, o.j) ∷ []) []) one
    (ap (λ (o : Out). job_of w (((o.i, o.j), o.worker) ∷ [])) (sym e) ∙ go o)
  where
    one : 1 ≡ zero + 1
    one = refl

    go : (o : Out) → job_of w (((o.i, o.j), o.worker) ∷ []) ≡ cond (o.worker == w) ((o.i, o.j) ∷ []) []
    go o = by (o.worker == w)
      where
        by : (b : Bool) → map {B = Pair} (λ (e : Pair × ℕ). e.0) (cond b (((o.i, o.j), o.worker) ∷ []) []) ≡ cond b ((o.i, o.j) ∷ []) []
        by true = refl
        by false = refl
job_take w (p ∷ out) (suc i) o d l e = subst
    (λ k. job_of w (outs_of (take k (p ∷ out))) ≡ job_of w (outs_of (p ∷ take i out)) ++ cond (o.worker == w) ((o.i, o.j) ∷ []) []) more
    (by (p.worker == w) (job_take w out i o d (omega arith) e))
  where
    more : suc (i + 1) ≡ suc i + 1
    more = omega arith

    tail : List (Pair × ℕ) → Bool → List (Pair × ℕ)
    tail rest b = cond b (((p.i, p.j), p.worker) ∷ rest) rest

    by : (b : Bool)
        → job_of w (outs_of (take (i + 1) out)) ≡ job_of w (outs_of (take i out)) ++ cond (o.worker == w) ((o.i, o.j) ∷ []) []
        → map {B = Pair} (λ (e : Pair × ℕ). e.0) (cond b (((p.i, p.j), p.worker) ∷ filter (λ e. e.1 == w) (outs_of (take (i + 1) out)))
        (filter (λ e. e.1 == w) (outs_of (take (i + 1) out))))
        ≡ map {B = Pair} (λ (e : Pair × ℕ). e.0) (cond b (((p.i, p.j), p.worker) ∷ filter (λ e. e.1 == w) (outs_of (take i out)))
        (filter (λ e. e.1 == w) (outs_of (take i out)))) ++ cond (o.worker == w) ((o.i, o.j) ∷ []) []
    by true h = ap (λ l. (p.i, p.j) ∷ l) h
    by false h = h

-- one more pair that is out with the worker
pub mine_taken :
    (w : ℕ) (out : List Out) (i : ℕ) (d : Out)
    → i < length out → (get_or out i d).worker ≡ w
    → job_of w (outs_of (take (i + 1) out)) ≡ job_of w (outs_of (take i out)) ++ (((get_or out i d).i, (get_or out i d).j) ∷ [])
mine_taken w out i d l same =
    let o : Out = get_or out i d in
    job_take w out i o d l refl ∙ ap (λ b. job_of w (outs_of (take i out)) ++ cond b ((o.i, o.j) ∷ []) []) (eq-eqb o.worker w same)

pub other_taken :
    (w : ℕ) (out : List Out) (i : ℕ) (d : Out)
    → i < length out → ((get_or out i d).worker ≡ w → ⊥)
    → job_of w (outs_of (take (i + 1) out)) ≡ job_of w (outs_of (take i out))
other_taken w out i d l other =
    let o : Out = get_or out i d in
    job_take w out i o d l refl ∙ ap (λ b. job_of w (outs_of (take i out)) ++ cond b ((o.i, o.j) ∷ []) []) (test_no (o.worker == w) refl)
    ∙ append-nil (job_of w (outs_of (take i out)))
  where
    test_no : (b : Bool) → ((get_or out i d).worker == w) ≡ b → ((get_or out i d).worker == w) ≡ false
    test_no true e = absurd (other (eqb-true (get_or out i d).worker w e))
    test_no false e = e

-- what the worker has not out
pub kept_out : (w : ℕ) (out : List Out) → outs_of (filter (λ o. not (o.worker == w)) out) ≡ with_others w (outs_of out)
kept_out w [] = refl
kept_out w (o ∷ out) = go (o.worker == w) (kept_out w out)
  where
    go : (b : Bool) → outs_of (filter (λ o. not (o.worker == w)) out) ≡ with_others w (outs_of out)
        → outs_of (cond (not b) (o ∷ filter (λ o. not (o.worker == w)) out) (filter (λ o. not (o.worker == w)) out))
        ≡ cond (not b) (((o.i, o.j), o.worker) ∷ with_others w (outs_of out)) (with_others w (outs_of out))
    go true h = h
    go false h = ap (λ l. ((o.i, o.j), o.worker) ∷ l) h

-- the table without the job of a worker
pub table_closed :
    (w : ℕ) (queue : List Pair) (out : List (Pair × ℕ)) (old new : Pair → Bool)
    → HasCleared (job_of w out) old new → IsFlagTable old queue out → IsFlagTable new queue (with_others w out)
table_closed w queue out old new h t = record { flags = λ x. go x (ltb 0 (count x (job_of w out))) refl (h x) }
  where
    go : (x : Pair) (b : Bool) → ltb 0 (count x (job_of w out)) ≡ b → new x ≡ cond (ltb 0 (count x (job_of w out))) false (old x)
        → flagged new x ≡ waiting queue (with_others w out) x
    go x true e f =
        let some : 0 < count x (job_of w out) = ltb-true 0 (count x (job_of w out)) e in
        let none : ◌≡◌ {A = ℕ} (flagged new x) 0 = ap (λ b. cond b 1 0) (f ∙ ap (λ b. cond b false (old x)) e) in
        omega (arith, some, none, t.flags x, one_at_most (old x), count_workers x w out)
    go x false e f =
        let none : count x (job_of w out) ≤ 0 = ltb-false 0 (count x (job_of w out)) e in
        let same : flagged new x ≡ flagged old x = ap (λ b. cond b 1 0) (f ∙ ap (λ b. cond b false (old x)) e) in
        omega (arith, none, same, t.flags x, count_workers x w out)
