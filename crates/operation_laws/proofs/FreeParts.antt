-- The part of a vector with given exponents of the first variables, without these
use Rattle.std.proofs.Common.{Bool, Less, List, [], ap, ap₂, arith, cond, false, inl, inr, refl, subst, suc, sym, true, true≢false, zero, ℕ, ◌*◌, ◌+◌, ◌<◌, ◌∙◌, ◌∷◌, ◌≡◌, ◌⊎◌}
use Rattle.std.specs.Prelude.{IsTrue}
use Rattle.residues.proofs.Congruences.{IsCongruent_of, IsCongruent_trans}
use Rattle.residues.specs.Residues.{IsCongruent}
use Rattle.monomials.proofs.Monomials.{and_left, and_right, same_exponents-refl, same_exponents-true, times-unit, times_comm}
use Rattle.monomials.specs.Exponents.{Exponents, cons, head, nil, same_exponents, tail, times, unit}
use Rattle.formal_sums.proofs.Combining.{IsMember_same, IsMember_scale, IsMember_zero}
use Rattle.formal_sums.proofs.Sameness.{IsSame_of}
use Rattle.formal_sums.proofs.WeightedSums.{indicator_other, indicator_same, key_cases, weighted_sum_ext}
use Rattle.formal_sums.specs.Combinations.{IsMember}
use Rattle.formal_sums.specs.FormalSums.{FormalSum, Key, coefficient, indicator, scale, shift, weighted_sum}
use Rattle.orders.specs.MonomialOrders.{first_variables, other_variables}
use Rattle.bases.specs.Leads.{IsLead}
use Rattle.bases.specs.Settings.{IsLawful, Setting}
use Rattle.division_laws.specs.Elimination.{has_none_of_first}
use Rattle.syzygy_laws.specs.Kernels.{all_kept}
use Rattle.operation_laws.proofs.Eliminate.{Each_kept}
use Rattle.operation_laws.proofs.Linear.{Each_both, Each_of, IsLinear, IsMember_each, IsMember_linear}
use Rattle.operation_laws.specs.Operations.{HasKeptKeys, eliminated}

-- ---- the exponents of the first variables and of the others
first_of_product : {n : ℕ} (k : ℕ) (m v : Exponents n) → first_variables k (times m v) ≡ times (first_variables k m) (first_variables k v)
first_of_product k nil nil = refl
first_of_product zero (cons x m) (cons a v) = ap (cons 0) (first_of_product zero m v)
first_of_product (suc k) (cons x m) (cons a v) = ap (cons (x + a)) (first_of_product k m v)

others_of_product : {n : ℕ} (k : ℕ) (m v : Exponents n) → other_variables k (times m v) ≡ times (other_variables k m) (other_variables k v)
others_of_product k nil nil = refl
others_of_product zero (cons x m) (cons a v) = ap (cons (x + a)) (others_of_product zero m v)
others_of_product (suc k) (cons x m) (cons a v) = ap (cons 0) (others_of_product k m v)

first_again : {n : ℕ} (k : ℕ) (e : Exponents n) → first_variables k (first_variables k e) ≡ first_variables k e
first_again k nil = refl
first_again zero (cons a e) = ap (cons 0) (first_again zero e)
first_again (suc k) (cons a e) = ap (cons a) (first_again k e)

first_of_others : {n : ℕ} (k : ℕ) (e : Exponents n) → first_variables k (other_variables k e) ≡ unit n
first_of_others k nil = refl
first_of_others zero (cons a e) = ap (cons 0) (first_of_others zero e)
first_of_others (suc k) (cons a e) = ap (cons 0) (first_of_others k e)

others_of_first : {n : ℕ} (k : ℕ) (e : Exponents n) → other_variables k (first_variables k e) ≡ unit n
others_of_first k nil = refl
others_of_first zero (cons a e) = ap (cons 0) (others_of_first zero e)
others_of_first (suc k) (cons a e) = ap (cons 0) (others_of_first k e)

pub first_times_others : {n : ℕ} (k : ℕ) (e : Exponents n) → times (first_variables k e) (other_variables k e) ≡ e
first_times_others k nil = refl
first_times_others zero (cons a e) = ap₂ cons (omega arith) (first_times_others zero e)
first_times_others (suc k) (cons a e) = ap₂ cons (omega arith) (first_times_others k e)

-- what has none of the first is its other ones
pub others_alone : {n : ℕ} (k : ℕ) (e : Exponents n) → first_variables k e ≡ unit n → other_variables k e ≡ e
others_alone k nil h = refl
others_alone zero (cons a e) h = ap (cons a) (others_alone zero e (ap tail h))
others_alone (suc k) (cons a e) h = ap₂ cons (sym (ap head h)) (others_alone k e (ap tail h))

pub none_of_kept : {n : ℕ} (k : ℕ) (l : Key n) → has_none_of_first k l ≡ true → first_variables k l.1 ≡ unit n
none_of_kept {n} k l h = same_exponents-true (first_variables k l.1) (unit n) h

first_of_multiple : {n : ℕ} (k : ℕ) (m v : Exponents n) → first_variables k v ≡ unit n → first_variables k (times m v) ≡ first_variables k m
first_of_multiple {n} k m v h =
    first_of_product k m v ∙ ap (times (first_variables k m)) h ∙ times_comm (first_variables k m) (unit n) ∙ times-unit (first_variables k m)

others_of_multiple : {n : ℕ} (k : ℕ) (m v : Exponents n) → first_variables k v ≡ unit n → other_variables k (times m v) ≡ times (other_variables k m) v
others_of_multiple k m v h = others_of_product k m v ∙ ap (times (other_variables k m)) (others_alone k v h)

-- ---- the part of v with e in the first k variables, without these
abbrev pub free_part : {n : ℕ} → ℕ → Exponents n → FormalSum n → FormalSum n
free_part k e [] = []
free_part k e (t ∷ v) = cond (same_exponents (first_variables k t.0.1) e) (((t.0.0, other_variables k t.0.1), t.1) ∷ free_part k e v) (free_part k e v)

-- a weight of keys, for those with e alone
abbrev part_weight : {n : ℕ} → ℕ → Exponents n → (Key n → ℕ) → Key n → ℕ
part_weight k e f l = cond (same_exponents (first_variables k l.1) e) (f (l.0, other_variables k l.1)) 0

weighted_sum-free_part : {n : ℕ} (k : ℕ) (e : Exponents n) (f : Key n → ℕ) (v : FormalSum n) → weighted_sum f (free_part k e v) ≡ weighted_sum (part_weight k e f) v
weighted_sum-free_part k e f [] = refl
weighted_sum-free_part {n} k e f (t ∷ v) =
    step (same_exponents (first_variables k t.0.1) e) (t.0.0, other_variables k t.0.1) t.1 (weighted_sum (part_weight k e f) v) (free_part k e v) (weighted_sum-free_part k e f v)
  where
    step :
        (b : Bool) (l : Key n) (c s : ℕ) (r : FormalSum n) → weighted_sum f r ≡ s
        → weighted_sum f (cond b ((l, c) ∷ r) r) ≡ c * cond b (f l) 0 + s
    step true l c s r h = ap (λ z. c * f l + z) h
    step false l c s r h = let z : s ≡ c * 0 + s = omega arith in h ∙ z

IsLinear_free_part : {n : ℕ} (k : ℕ) (e : Exponents n) → IsLinear (free_part k e)
IsLinear_free_part k e = record { weight = part_weight k e; by_weight = weighted_sum-free_part k e }

-- its coefficients at the keys with none of the first variables are those of v at e times these
pub coefficient_free_part :
    {n : ℕ} (k : ℕ) (e : Exponents n) (v : FormalSum n) (l : Key n) → first_variables k e ≡ e → other_variables k e ≡ unit n → has_none_of_first k l ≡ true
    → coefficient (free_part k e v) l ≡ coefficient v (shift e l)
coefficient_free_part {n} k e v l he ho kept =
    weighted_sum-free_part k e (indicator l) v ∙ weighted_sum_ext (part_weight k e (indicator l)) (indicator (shift e l)) (λ x. at x (same_exponents (first_variables k x.1) e) refl) v
  where
    free : first_variables k l.1 ≡ unit n
    free = none_of_kept k l kept

    there : (x : Key n) → first_variables k x.1 ≡ e → l ≡ (x.0, other_variables k x.1) → shift e l ≡ x
    there x h d = ap (shift e) d ∙ ap (λ m. (x.0, times m (other_variables k x.1))) (sym h) ∙ ap (λ m. (x.0, m)) (first_times_others k x.1)

    back : (x : Key n) → shift e l ≡ x → l ≡ (x.0, other_variables k x.1)
    back x d =
        let z : other_variables k (times e l.1) ≡ l.1 = others_of_multiple k e l.1 free ∙ ap (λ m. times m l.1) ho ∙ times-unit l.1 in
        ap (λ m. (l.0, m)) (sym z) ∙ ap (λ y. (y.0, other_variables k y.1)) d

    first : (x : Key n) → shift e l ≡ x → first_variables k x.1 ≡ e
    first x d = ap (λ y. first_variables k y.1) (sym d) ∙ first_of_multiple k e l.1 free ∙ he

    at : (x : Key n) (b : Bool) → same_exponents (first_variables k x.1) e ≡ b → cond b (indicator l (x.0, other_variables k x.1)) 0 ≡ indicator (shift e l) x
    at x true q = go (key_cases l (x.0, other_variables k x.1))
      where
        go : (l ≡ (x.0, other_variables k x.1)) ⊎ (l ≡ (x.0, other_variables k x.1) → ⊥) → indicator l (x.0, other_variables k x.1) ≡ indicator (shift e l) x
        go (inl d) = indicator_same l _ d ∙ sym (indicator_same (shift e l) x (there x (same_exponents-true (first_variables k x.1) e q) d))
        go (inr ne) = indicator_other l _ ne ∙ sym (indicator_other (shift e l) x (λ d. ne (back x d)))
    at x false q = sym (indicator_other (shift e l) x (λ d. true≢false (sym (same_exponents-refl e) ∙ ap (λ m. same_exponents m e) (sym (first x d)) ∙ q)))

-- and it has no other keys
pub free_part_kept : {n : ℕ} (p k : ℕ) (e : Exponents n) (v : FormalSum n) → HasKeptKeys p (has_none_of_first k) (free_part k e v)
free_part_kept {n} p k e v = λ l off. IsCongruent_of p _ 0 (weighted_sum-free_part k e (indicator l) v ∙ none v l off)
  where
    at : (x l : Key n) → has_none_of_first k l ≡ false → (b : Bool) → ◌≡◌ {A = ℕ} (cond b (indicator l (x.0, other_variables k x.1)) 0) 0
    at x l off true =
        indicator_other l (x.0, other_variables k x.1)
        (λ d. true≢false (sym (same_exponents-refl (unit n)) ∙ ap (λ m. same_exponents m (unit n)) (sym (first_of_others k x.1)) ∙ ap (has_none_of_first k) (sym d) ∙ off))
    at x l off false = refl

    none : (v : FormalSum n) (l : Key n) → has_none_of_first k l ≡ false → weighted_sum (part_weight k e (indicator l)) v ≡ 0
    none [] l off = refl
    none (t ∷ v) l off =
        let z : part_weight k e (indicator l) t.0 ≡ 0 = at t.0 l off (same_exponents (first_variables k t.0.1) e) in
        let y : weighted_sum (part_weight k e (indicator l)) v ≡ 0 = none v l off in
        let zero_is : t.1 * 0 + 0 ≡ 0 = omega arith in
        ap₂ (λ a b. t.1 * a + b) z y ∙ zero_is

-- ---- the module of members with none of the first variables has the parts of its members
free_part-scale :
    {n : ℕ} (k : ℕ) (e : Exponents n) (c : ℕ) (m : Exponents n) (g : FormalSum n) → all_kept (has_none_of_first k) g ≡ true
    → free_part k e (scale c m g) ≡ cond (same_exponents (first_variables k m) e) (scale c (other_variables k m) g) []
free_part-scale {n} k e c m [] h = go (same_exponents (first_variables k m) e)
  where
    go : (b : Bool) → ◌≡◌ {A = FormalSum n} [] (cond b [] [])
    go true = refl
    go false = refl
free_part-scale {n} k e c m (t ∷ g) h =
    ap₂ (λ f o. cond (same_exponents f e) (((t.0.0, o), c * t.1) ∷ free_part k e (scale c m g)) (free_part k e (scale c m g)))
    (first_of_multiple k m t.0.1 free) (others_of_multiple k m t.0.1 free)
    ∙ go (same_exponents (first_variables k m) e) (free_part k e (scale c m g)) (free_part-scale k e c m g (and_right (has_none_of_first k t.0) (all_kept (has_none_of_first k) g) h))
  where
    free : first_variables k t.0.1 ≡ unit n
    free = none_of_kept k t.0 (and_left (has_none_of_first k t.0) (all_kept (has_none_of_first k) g) h)

    go :
        (b : Bool) (r : FormalSum n) → r ≡ cond b (scale c (other_variables k m) g) []
        → cond b (((t.0.0, times (other_variables k m) t.0.1), c * t.1) ∷ r) r ≡ cond b (scale c (other_variables k m) (t ∷ g)) []
    go true r q = ap (λ z. ((t.0.0, times (other_variables k m) t.0.1), c * t.1) ∷ z) q
    go false r q = q

pub free_part_member :
    {n p : ℕ} → 0 < p → (k : ℕ) (e : Exponents n) (G : List (FormalSum n)) (v : FormalSum n) → IsMember p (eliminated k G) v
    → IsMember p (eliminated k G) (free_part k e v)
free_part_member {n} {p} pos k e G =
    let H = eliminated k G in
    IsMember_linear pos (free_part k e) (IsLinear_free_part k e) H H
    (Each_both (IsMember p H) (λ g. Unit {0} × IsTrue (all_kept (has_none_of_first k) g)) (λ g. (c : ℕ) (m : Exponents n) → IsMember p H (free_part k e (scale c m g))) H
    (λ g a free c m. IsMember_same H _ (free_part k e (scale c m g)) (IsSame_of p _ _ (sym (free_part-scale k e c m g free.1))) (multiple g a c m (same_exponents (first_variables k m) e)))
    (IsMember_each p H) (Each_kept (λ g. Unit {0}) (has_none_of_first k) G (Each_of (λ g. Unit {0}) G (λ g. tt))))
  where
    multiple : (g : FormalSum n) → IsMember p (eliminated k G) g → (c : ℕ) (m : Exponents n) (b : Bool) → IsMember p (eliminated k G) (cond b (scale c (other_variables k m) g) [])
    multiple g a c m true = IsMember_scale pos (eliminated k G) c (other_variables k m) g a
    multiple g a c m false = IsMember_zero p (eliminated k G)

-- ---- where keys compare as their multiples do, the part at the first exponents of the lead has its other ones as lead
pub free_part_lead :
    {n : ℕ} (S : Setting n) → IsLawful S → (k : ℕ) (v : FormalSum n) (l : Key n) → IsLead S v l
    → IsLead S (free_part k (first_variables k l.1) v) (l.0, other_variables k l.1)
free_part_lead {n} S lawful k v l lead = record {
  nonzero = λ z. lead.nonzero (subst (λ x. IsCongruent S.modulus (coefficient v x) 0) again (IsCongruent_trans (IsCongruent_of S.modulus _ _ (sym (at (l.0, other_variables k l.1) on))) z));
  above = λ x lt. over x lt (has_none_of_first k x) refl;
}
  where
    again : shift (first_variables k l.1) (l.0, other_variables k l.1) ≡ l
    again = ap (λ m. (l.0, m)) (first_times_others k l.1)

    on : has_none_of_first k (l.0, other_variables k l.1) ≡ true
    on = ap (λ m. same_exponents m (unit n)) (first_of_others k l.1) ∙ same_exponents-refl (unit n)

    at : (x : Key n) → has_none_of_first k x ≡ true → coefficient (free_part k (first_variables k l.1) v) x ≡ coefficient v (shift (first_variables k l.1) x)
    at x kept = coefficient_free_part k (first_variables k l.1) v x (first_again k l.1) (others_of_first k l.1) kept

    over : (x : Key n) → S.compare (l.0, other_variables k l.1) x ≡ Less → (b : Bool) → has_none_of_first k x ≡ b → IsCongruent S.modulus (coefficient (free_part k (first_variables k l.1) v) x) 0
    over x lt true kept =
        let s : S.compare l (shift (first_variables k l.1) x) ≡ Less =
        ap (λ y. S.compare y (shift (first_variables k l.1) x)) (sym again) ∙ lawful.order.kept (first_variables k l.1) (l.0, other_variables k l.1) x ∙ lt in
        IsCongruent_trans (IsCongruent_of S.modulus _ _ (at x kept)) (lead.above (shift (first_variables k l.1) x) s)
    over x lt false off = free_part_kept S.modulus k (first_variables k l.1) v x off
