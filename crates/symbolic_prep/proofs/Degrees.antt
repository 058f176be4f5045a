-- Degrees in ascending order, each at most that of the lead at its place: a key of a lower degree is divided by no lead from there on
use Rattle.std.proofs.Common.{List, [], ap, arith, get_or, inl, inr, length, refl, set, sym, ℕ, ◌+◌, ◌<◌, ◌∙◌, ◌∷◌, ◌≡◌, ◌≤◌, ◌⊎◌}
use Rattle.std.proofs.lemmas.Bool.{cases_eq, cases_lt}
use Rattle.std.proofs.lemmas.List.{get_or-set_other, get_or-set_same, get_or_default, length-set}
use Rattle.std.specs.List.Sorted.{IsNonDecreasingBy}
use Rattle.bases.specs.Leads.{head_key}
use Rattle.formal_sums.specs.FormalSums.{Each}
use Rattle.monomial_orders.specs.Kept.{IsWeighed}
use Rattle.monomials.proofs.Weighing.{weighted_degree-times}
use Rattle.monomials.specs.Exponents.{exponents_of}
use Rattle.monomials.specs.Weights.{weighted_degree}
use Rattle.orders.specs.KeyOrders.{KeyDivides}
use Rattle.term_lists.specs.Vectors.{key_of, sum_of}
use Rattle.term_lists.specs.declared.key.Key.{Key as CodeKey}
use Rattle.symbolic_prep.specs.Divisors.{AreAscendingBounds}
use Rattle.vector_division.specs.Divisors.{IsNoHigher}

-- ---- a key of a lower degree
-- the degree of a multiple is no lower
pub not_divided :
    (n : ℕ) (ws : List ℕ) (v : List (CodeKey × ℕ)) (key : CodeKey) (least : ℕ)
    → Each (λ t. IsWeighed n ws t.0.monomial) v → IsWeighed n ws key.monomial → IsNoHigher least v → key.monomial.degree < least
    → 0 < length v → KeyDivides (head_key (sum_of n v)) (key_of n key) → ⊥
not_divided n ws [] key least hv hk h lt some d = absurd (omega arith)
not_divided n ws (t ∷ v) key least hv hk h lt some d =
    let lead = exponents_of n t.0.monomial.exponents in
    let by = d.0 in
    let e : key.monomial.degree ≡ weighted_degree ws by + t.0.monomial.degree =
    hk.degree ∙ ap (λ z. weighted_degree ws z.1) (sym d.1) ∙ weighted_degree-times ws by lead
    ∙ ap (λ z. weighted_degree ws by + z) (sym hv.0.degree) in
    omega arith

-- ---- the least ones from the last place on
-- from place `from` on they ascend and are at least this one; each is at most the number at its place
pub record AreBoundsFrom (numbers new : List ℕ) (from least : ℕ) : Type 0 where
  pub count : length new ≡ length numbers
  pub below : (j : ℕ) → j < length numbers → get_or new j 0 ≤ get_or numbers j 0
  pub above : (j : ℕ) → from ≤ j → j < length numbers → least ≤ get_or new j 0
  pub ascending : (i j : ℕ) → from ≤ i → i ≤ j → j < length numbers → get_or new i 0 ≤ get_or new j 0

pub bounds_none : (numbers : List ℕ) (from least : ℕ) → length numbers ≤ from → AreBoundsFrom numbers numbers from least
bounds_none numbers from least le = record {
  count = refl;
  below = λ j lt. omega arith;
  above = λ j ge lt. absurd (omega arith);
  ascending = λ i j ge l lt. absurd (omega arith);
}

module _ (numbers new : List ℕ) (i least x : ℕ) (h : AreBoundsFrom numbers new (i + 1) least) (within : i < length numbers) (less : x ≤ least)
    (own : x ≤ get_or new i 0) where
  here : get_or (set new i x) i 0 ≡ x
  here = get_or-set_same new i x 0 (omega (arith, h.count))

  other : (j : ℕ) → (j ≡ i → ⊥) → get_or (set new i x) j 0 ≡ get_or new j 0
  other j ne = get_or-set_other new i j x 0 ne

  no_less : (j : ℕ) → i ≤ j → j < length numbers → x ≤ get_or (set new i x) j 0
  no_less j ge lt = elim (cases_eq j i) [
    | inl e ↦ omega (arith, here, ap (λ z. get_or (set new i x) z 0) e)
    | inr ne ↦ omega (arith, other j ne, h.above j (omega (arith, ne)) lt)
  ]

  pub bounds_more : AreBoundsFrom numbers (set new i x) i x
  bounds_more = record {
    count = length-set new i x ∙ h.count;
    below = λ j lt. below j lt (cases_eq j i);
    above = no_less;
    ascending = λ a j ge le lt. up a j ge le lt (cases_lt i a);
  }
    where
      below : (j : ℕ) → j < length numbers → (j ≡ i) ⊎ (j ≡ i → ⊥) → get_or (set new i x) j 0 ≤ get_or numbers j 0
      below j lt (inl e) =
          let same : get_or new j 0 ≡ get_or new i 0 = ap (λ z. get_or new z 0) e in
          omega (arith, here, ap (λ z. get_or (set new i x) z 0) e, h.below j lt, own, same)
      below j lt (inr ne) = omega (arith, other j ne, h.below j lt)

      up : (a j : ℕ) → i ≤ a → a ≤ j → j < length numbers → (i < a) ⊎ (a ≤ i) → get_or (set new i x) a 0 ≤ get_or (set new i x) j 0
      up a j ge le lt (inl l) =
          omega (arith, other a (λ e. omega (arith, e)), other j (λ e. omega (arith, e)), h.ascending a j (omega arith) le lt)
      up a j ge le lt (inr l) =
          let e : a ≡ i = omega arith in
          omega (arith, here, ap (λ z. get_or (set new i x) z 0) e, no_less j (omega arith) lt)

pub bounds_all : (numbers new : List ℕ) (from least : ℕ) → from ≡ 0 → AreBoundsFrom numbers new from least → AreAscendingBounds numbers new
bounds_all numbers new from least none h = record {
  count = h.count;
  below = h.below;
  ascending = up;
}
  where
    up : IsNonDecreasingBy (λ (d : ℕ). d) new
    up i j d le lt =
        let a : get_or new i d ≡ get_or new i 0 = get_or_default new i d 0 (omega arith) in
        let b : get_or new j d ≡ get_or new j 0 = get_or_default new j d 0 lt in
        omega (arith, a, b, h.ascending i j (omega (arith, none)) le (omega (arith, h.count)))

-- what is at most one degree is at most a greater one
pub up_to_greater : (a b : ℕ) (v : List (CodeKey × ℕ)) → a ≤ b → IsNoHigher b v → IsNoHigher a v
up_to_greater a b [] le h = tt
up_to_greater a b (t ∷ v) le h = omega arith
