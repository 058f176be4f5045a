-- The leads of a reduced basis modulo its ideal
use Rattle.std.proofs.Common.{Equal, Greater, Less, List, Ordering, [], ap, ap₂, append-nil, arith, get_or, inl, inr, length, refl, subst, suc, sym, take, zero, ℕ, ◌%◌, ◌*◌, ◌++◌, ◌+◌, ◌-◌, ◌<◌, ◌∙◌, ◌∷◌, ◌≡◌, ◌≤◌, ◌⊎◌}
use Rattle.std.proofs.lemmas.Bool.{cases_lt}
use Rattle.std.proofs.lemmas.List.{get_or-map, take_more}
use Rattle.std.proofs.Math.Seq.{take-length}
use Rattle.std.specs.Ordering.{ordering_then}
use Rattle.std.specs.Prelude.{slice_index}
use Rattle.residues.proofs.Congruences.{IsCongruent_add, IsCongruent_equal, IsCongruent_minus, IsCongruent_mod, IsCongruent_multiply, IsCongruent_nonzero, IsCongruent_of, IsCongruent_refl, IsCongruent_sym, IsCongruent_trans}
use Rattle.residues.specs.Residues.{IsCongruent}
use Rattle.monomials.specs.Exponents.{Exponents, exponents_of, unit}
use Rattle.formal_sums.proofs.Combining.{IsMember_zero}
use Rattle.formal_sums.proofs.Sameness.{IsSame_append, IsSame_of, coefficient-scale_unit}
use Rattle.formal_sums.proofs.WeightedSums.{coefficient-append, indicator_other}
use Rattle.formal_sums.specs.FormalSums.{FormalSum, IsSame, Key, Term, coefficient, indicator, scale, shift}
use Rattle.orders.proofs.KeyOrdering.{equal_itself, less_of_greater}
use Rattle.orders.specs.KeyOrders.{Descends, KeyDivides}
use Rattle.bases.proofs.NormalForms.{at_head}
use Rattle.bases.specs.Leads.{head_key, leads}
use Rattle.bases.specs.Settings.{IsLawful, Setting}
use Rattle.monomial_orders.specs.Comparisons.{comparison, key_comparison}
use Rattle.monomial_orders.specs.Kept.{Monomial, monomials}
use Rattle.monomial_orders.specs.declared.order.ModOrder.TheVariants.{Pot, Top}
use Rattle.monomial_orders.specs.declared.order.ModOrder.{ModOrder}
use Rattle.monomial_orders.specs.declared.order.Order.{Order}
use Rattle.term_lists.proofs.Parts.{Each_member}
use Rattle.term_lists.specs.Rings.{ring_comparison, setting}
use Rattle.term_lists.specs.Vectors.{HasPositions, IsTerm, IsVector, key_of, sum_of, sums_of}
use Rattle.term_lists.specs.declared.key.Key.{Key as CodeKey}
use Rattle.term_lists.specs.declared.ring.Ring.{Ring}
use Rattle.change_laws.proofs.Expansions.{expansion_linear, expansion_one, expansion_zero}
use Rattle.change_laws.specs.Combinations.{expansion}
use Rattle.change_laws.specs.Standard.{IsStandard}
use Rattle.order_change.proofs.BasisLeads.{length_leads, length_sums, sums_at}
use Rattle.order_change.proofs.Items.{length_monomials}
use Rattle.order_change.proofs.VariableProducts.{spot, spot_other, spot_same}
use Rattle.order_change.specs.Forms.{AreResidues, monomial_vector}
use Rattle.order_change.specs.Tables.{AreTailTerms, IsFormOver, IsBasisGiven, IsSupported, IsTailTerm}

-- minus the sum of the first i terms
pub record IsNegating (n p d : ℕ) (B : List (Exponents n)) (terms : List (CodeKey × ℕ)) (i : ℕ) (form : List ℕ) : Type 0 where
  pub residues : AreResidues p d form
  pub sum : IsSame p (expansion B (slice_index form) ++ sum_of n (take i terms)) []
  pub support : IsSupported n B terms i form

take_none : {X : Type 0} (xs : List X) → take 0 xs ≡ []
take_none [] = refl
take_none (x ∷ xs) = refl

pub negating_first :
    (n p d : ℕ) (B : List (Exponents n)) (terms : List (CodeKey × ℕ)) (form : List ℕ) → 0 < p → length form ≡ d → ((k : ℕ) → slice_index form k ≡ 0)
    → IsNegating n p d B terms 0 form
negating_first n p d B terms form pos long zeros = record {
  residues = record { long = long; small = λ k. let z = zeros k in omega (arith, z, pos) };
  sum = IsSame_append (expansion_zero B (slice_index form) (λ k lt. IsCongruent_of p _ 0 (zeros k))) (IsSame_of p (sum_of n (take 0 terms)) [] (ap (sum_of n) (take_none terms)));
  support = λ k lt some. absurd (let z = zeros k in omega (arith, z, some));
}

pub sum_push : (n : ℕ) (xs : List (CodeKey × ℕ)) (t : CodeKey × ℕ) → sum_of n (xs ++ t ∷ []) ≡ sum_of n xs ++ (key_of n t.0, t.1) ∷ []
sum_push n [] t = refl
sum_push n (x ∷ xs) t = ap (λ l. (key_of n x.0, x.1) ∷ l) (sum_push n xs t)

-- one more term is taken away at its monomial
pub negating_more :
    (n p d : ℕ) (ws : List ℕ) (B : List (Exponents n)) (terms : List (CodeKey × ℕ)) (i : ℕ) (form form' : List ℕ) (t : CodeKey × ℕ) (k m : ℕ)
    → AreTailTerms n ws p B terms → i < length terms → get_or terms i t ≡ t → k < length B → get_or B k (unit n) ≡ exponents_of n t.0.monomial.exponents
    → m ≡ (p - t.1) % p → length form' ≡ length form → ((j : ℕ) → slice_index form' j < p) → slice_index form' k ≡ (slice_index form k + m) % p
    → ((j : ℕ) → (j ≡ k → ⊥) → slice_index form' j ≡ slice_index form j)
    → IsNegating n p d B terms i form → IsNegating n p d B terms (i + 1) form'
negating_more n p d ws B terms i form form' t k m tails lt is kl at minus long small here others h = record {
  residues = record { long = long ∙ h.residues.long; small = small };
  sum = record { by_key = by };
  support = λ j jl some. go j jl some (eq_or j);
}
  where
    c : ℕ
    c = t.1

    tail : IsTailTerm n ws p B t
    tail = tails i t lt is

    eq_or : (j : ℕ) → (j ≡ k) ⊎ (j ≡ k → ⊥)
    eq_or j = by_cases (cases_lt j k) (cases_lt k j)
      where
        by_cases : (j < k) ⊎ (k ≤ j) → (k < j) ⊎ (j ≤ k) → (j ≡ k) ⊎ (j ≡ k → ⊥)
        by_cases (inl l) q = inr (λ e. omega (arith, l, e))
        by_cases (inr g) (inl l) = inr (λ e. omega (arith, l, e))
        by_cases (inr g) (inr l) = inl (omega (arith, g, l))

    go : (j : ℕ) → j < length B → 0 < slice_index form' j → (j ≡ k) ⊎ (j ≡ k → ⊥)
        → (q : ℕ) × (u : CodeKey × ℕ) × (q < i + 1) × (get_or terms q u ≡ u) × (get_or B j (unit n) ≡ exponents_of n u.0.monomial.exponents)
    go j jl some (inl e) = (i, t, omega arith, is, ap (λ z. get_or B z (unit n)) e ∙ at)
    go j jl some (inr ne) = let (q, u, ql, qu, e) = h.support j jl (subst (λ z. 0 < z) (others j ne) some) in (q, u, omega (arith, ql), qu, e)

    adds : (j : ℕ) → (j ≡ k) ⊎ (j ≡ k → ⊥) → IsCongruent p (slice_index form' j) (slice_index form j + m * spot k j)
    adds j (inl e) =
        subst (λ z. IsCongruent p (slice_index form' z) (slice_index form z + m * spot k z)) (sym e)
        (IsCongruent_trans (IsCongruent_of p _ _ here) (IsCongruent_trans (IsCongruent_mod p (slice_index form k + m)) (IsCongruent_of p _ _ (let s = spot_same k in rw s (omega arith)))))
    adds j (inr ne) = IsCongruent_of p _ _ (others j ne ∙ (let s = spot_other k j ne in rw s (omega arith)))

    next : sum_of n (take (i + 1) terms) ≡ sum_of n (take i terms) ++ (key_of n t.0, c) ∷ []
    next = ap (sum_of n) (take_more terms i t lt ∙ ap (λ z. take i terms ++ z ∷ []) is) ∙ sum_push n (take i terms) t

    key : key_of n t.0 ≡ (0, get_or B k (unit n))
    key = ap₂ (λ a b. (a, b)) tail.position (sym at)

    opposite : IsCongruent p (m + c) 0
    opposite =
        let cp = tail.reduced in
        IsCongruent_trans (IsCongruent_add (IsCongruent_trans (IsCongruent_of p m ((p - c) % p) minus) (IsCongruent_mod p (p - c))) (IsCongruent_refl p c))
        (IsCongruent_trans (IsCongruent_of p (p - c + c) (1 + (p - 1) * 1) (omega (arith, cp))) (IsCongruent_minus p 1 (omega (arith, cp))))

    by : (x : Key n) → IsCongruent p (coefficient (expansion B (slice_index form') ++ sum_of n (take (i + 1) terms)) x) 0
    by x =
        let ind = indicator x (0, get_or B k (unit n)) in
        let E = coefficient (expansion B (slice_index form)) x in
        let T = coefficient (sum_of n (take i terms)) x in
        let first : IsCongruent p (coefficient (expansion B (slice_index form')) x) (E + m * (1 * ind + 0)) =
        IsCongruent_trans ((expansion_linear m B (slice_index form) (spot k) (slice_index form') (λ j jl. adds j (eq_or j))).by_key x)
        (IsCongruent_trans (IsCongruent_of p _ _ (coefficient-append (expansion B (slice_index form)) (scale m (unit n) (expansion B (spot k))) x ∙ ap (λ z. E + z) (coefficient-scale_unit m (expansion B (spot k)) x)))
        (IsCongruent_add (IsCongruent_refl p E) (IsCongruent_multiply (IsCongruent_refl p m)
        ((expansion_one B (spot k) k kl (IsCongruent_of p _ 1 (spot_same k)) (λ j l ne. IsCongruent_of p _ 0 (spot_other k j ne))).by_key x)))) in
        let second : coefficient (sum_of n (take (i + 1) terms)) x ≡ T + (c * ind + 0) =
        ap (λ z. coefficient z x) next ∙ coefficient-append (sum_of n (take i terms)) ((key_of n t.0, c) ∷ []) x ∙ ap (λ z. T + (c * indicator x z + 0)) key in
        let old : IsCongruent p (E + T) 0 = IsCongruent_trans (IsCongruent_of p _ _ (sym (coefficient-append (expansion B (slice_index form)) (sum_of n (take i terms)) x))) (h.sum.by_key x) in
        IsCongruent_trans (IsCongruent_of p _ _ (coefficient-append (expansion B (slice_index form')) (sum_of n (take (i + 1) terms)) x))
        (IsCongruent_trans (IsCongruent_add first (IsCongruent_of p _ _ second))
        (IsCongruent_trans (IsCongruent_of p (E + m * (1 * ind + 0) + (T + (c * ind + 0))) (E + T + (m + c) * ind) (omega arith))
        (IsCongruent_trans (IsCongruent_add old (IsCongruent_multiply opposite (IsCongruent_refl p ind))) (IsCongruent_of p (0 + 0 * ind) 0 (omega arith)))))

pub negating_all :
    (n p d : ℕ) (B : List (Exponents n)) (terms : List (CodeKey × ℕ)) (i : ℕ) (form : List ℕ) → IsNegating n p d B terms i form → i ≤ length terms → length terms ≤ i
    → IsSame p (expansion B (slice_index form) ++ sum_of n terms) [] × IsSupported n B terms (length terms) form
negating_all n p d B terms i form h le ge =
    let same : i ≡ length terms = omega (arith, le, ge) in (
      subst (λ z. IsSame p (expansion B (slice_index form) ++ sum_of n z) []) (ap (λ z. take z terms) same ∙ take-length terms) h.sum,
      subst (λ z. IsSupported n B terms z form) same h.support,
    )

then_equal : (x : Ordering) → ordering_then x Equal ≡ x
then_equal Less = refl
then_equal Equal = refl
then_equal Greater = refl

-- keys at the first position are compared by their monomials
pub key_compared : (o : ModOrder) (order : Order) (ws : List ℕ) (n : ℕ) (a b : Exponents n) → key_comparison o order ws n (0, a) (0, b) ≡ comparison order ws n a b
key_compared Pot order ws n a b = refl
key_compared Top order ws n a b = then_equal (comparison order ws n a b)

-- of a vector in normal form, the coefficient at the key of a term
pub coefficient_of :
    {n : ℕ} (S : Setting n) → IsLawful S → (v : FormalSum n) (i : ℕ) (d : Term n) → Descends S.compare v → i < length v
    → coefficient v (get_or v i d).0 ≡ (get_or v i d).1
coefficient_of S lawful [] i d h lt = absurd (omega (arith, lt))
coefficient_of S lawful (t ∷ v) zero d h lt = at_head S lawful t v h
coefficient_of S lawful (t ∷ v) (suc i) d h lt =
    let u = get_or v i d in
    let up : S.compare t.0 u.0 ≡ Greater = Each_member (λ (z : Term _). S.compare t.0 z.0 ≡ Greater) v i d h.0 (omega (arith, lt)) in
    let ne : u.0 ≡ t.0 → ⊥ = λ e. (let q : Equal ≡ Greater = sym (equal_itself lawful.order t.0) ∙ ap (S.compare t.0) (sym e) ∙ up in cc) in
    let z = indicator_other u.0 t.0 ne in
    let r = coefficient_of S lawful v i d h.1 (omega (arith, lt)) in
    rw (z, r) (omega arith)

pub length_sum : (n : ℕ) (xs : List (CodeKey × ℕ)) → length (sum_of n xs) ≡ length xs
length_sum n [] = refl
length_sum n (x ∷ xs) = ap suc (length_sum n xs)

-- a term of the sum
pub term_at : (n : ℕ) (xs : List (CodeKey × ℕ)) (i : ℕ) (u : CodeKey × ℕ) (d : Term n) → i < length xs → get_or xs i u ≡ u → get_or (sum_of n xs) i d ≡ (key_of n u.0, u.1)
term_at n [] i u d lt e = absurd (omega (arith, lt))
term_at n (x ∷ xs) zero u d lt e = ap₂ (λ a b. (a, b)) (ap (λ (z : CodeKey × ℕ). key_of n z.0) e) (ap (λ (z : CodeKey × ℕ). z.1) e)
term_at n (x ∷ xs) (suc i) u d lt e = term_at n xs i u d (omega (arith, lt)) e

pub lead_position : (n : ℕ) (v : List (CodeKey × ℕ)) → HasPositions 1 v → (head_key (sum_of n v)).0 ≡ 0
lead_position n [] h = refl
lead_position n (t ∷ v) h = let lt = h.0 in omega (arith, lt)

module _ (n : ℕ) (ring : Ring) (basis : List (List (CodeKey × ℕ))) (heads standard : List Monomial) (h : IsBasisGiven n ring basis heads standard) where
  pub given_positive : 0 < ring.modulus.value
  given_positive = let above = h.lawful.domain.above_one in omega (arith, above)

  pub count : length heads ≡ length (sums_of n basis)
  count = sym (length_monomials n heads) ∙ ap length h.leads_are ∙ length_leads (sums_of n basis)

  pub count_basis : length heads ≡ length basis
  count_basis = count ∙ length_sums n basis

  -- a lead as a key
  pub lead_at : (k : ℕ) → k < length heads → leads (sums_of n basis) k ≡ (0, get_or (monomials n heads) k (unit n))
  lead_at k lt =
      let v = get_or basis k [] in
      let kb : k < length basis = omega (arith, lt, count_basis) in
      ap₂ (λ a b. (a, b))
      (ap (λ g. (head_key g).0) (sums_at n basis k) ∙ lead_position n v (Each_member (HasPositions 1) basis k [] h.positions kb))
      (sym (ap (λ l. get_or l k (unit n)) h.leads_are ∙ get_or-map (λ g. (head_key g).1) (sums_of n basis) k [] (unit n) (omega (arith, kb, length_sums n basis))))

  pub given_vector : (g : ℕ) → g < length heads → IsVector n ring.weights ring.modulus.value (ring_comparison ring n) (get_or basis g [])
  given_vector g lt = Each_member (IsVector n ring.weights ring.modulus.value (ring_comparison ring n)) basis g [] h.vectors (omega (arith, lt, count_basis))

  -- no member is zero
  pub given_some : (g : ℕ) → g < length heads → get_or basis g [] ≡ [] → ⊥
  given_some g lt e =
      let monic = h.reduced.monic g (omega (arith, lt, count)) in
      let zero : get_or (sums_of n basis) g [] ≡ [] = sums_at n basis g ∙ ap (sum_of n) e in
      IsCongruent_nonzero ring.modulus.value 1 (omega arith) h.lawful.domain.above_one
      (IsCongruent_trans (IsCongruent_sym monic.one) (IsCongruent_of ring.modulus.value _ 0 (ap (λ z. coefficient z (leads (sums_of n basis) g)) zero)))

  module _ (g : ℕ) (lt : g < length heads) (t : CodeKey × ℕ) (tail : List (CodeKey × ℕ)) (is : get_or basis g [] ≡ t ∷ tail) where
    member : get_or (sums_of n basis) g [] ≡ (key_of n t.0, t.1) ∷ sum_of n tail
    member = sums_at n basis g ∙ ap (sum_of n) is

    vector : IsVector n ring.weights ring.modulus.value (ring_comparison ring n) (t ∷ tail)
    vector = subst (IsVector n ring.weights ring.modulus.value (ring_comparison ring n)) is (given_vector g lt)

    head_is : key_of n t.0 ≡ (0, get_or (monomials n heads) g (unit n))
    head_is = sym (ap head_key member) ∙ lead_at g lt

    below_head : (i : ℕ) (u : CodeKey × ℕ) → i < length tail → get_or tail i u ≡ u → ring_comparison ring n (key_of n t.0) (key_of n u.0) ≡ Greater
    below_head i u il iu =
        let d : Term n = (key_of n u.0, u.1) in
        let e : get_or (sum_of n tail) i d ≡ d = term_at n tail i u d il iu in
        let il' : i < length (sum_of n tail) = subst (λ z. i < z) (sym (length_sum n tail)) il in
        subst (λ z. ring_comparison ring n (key_of n t.0) z.0 ≡ Greater) e (Each_member (λ (z : Term n). ring_comparison ring n (key_of n t.0) z.0 ≡ Greater) (sum_of n tail) i d vector.descends.0 il')

    tail_position : (i : ℕ) (u : CodeKey × ℕ) → i < length tail → get_or tail i u ≡ u → u.0.position ≡ 0
    tail_position i u il iu =
        let positions : HasPositions 1 (t ∷ tail) = subst (HasPositions 1) is (Each_member (HasPositions 1) basis g [] h.positions (omega (arith, lt, count_basis))) in
        let small : u.0.position < 1 = subst (λ (z : CodeKey × ℕ). z.0.position < 1) iu (Each_member (λ (z : CodeKey × ℕ). z.0.position < 1) tail i u positions.1 il) in
        omega (arith, small)

    tail_term : (i : ℕ) (u : CodeKey × ℕ) → i < length tail → get_or tail i u ≡ u → IsTerm n ring.weights ring.modulus.value u
    tail_term i u il iu = subst (IsTerm n ring.weights ring.modulus.value) iu (Each_member (IsTerm n ring.weights ring.modulus.value) tail i u vector.each.1 il)

    -- the coefficient of the member at the key of a term of its tail
    tail_nonzero : (i : ℕ) (u : CodeKey × ℕ) → i < length tail → get_or tail i u ≡ u → IsCongruent ring.modulus.value (coefficient (get_or (sums_of n basis) g []) (key_of n u.0)) 0 → ⊥
    tail_nonzero i u il iu z =
        let S = setting ring n (ring_comparison ring n) 1 in
        let d : Term n = (key_of n u.0, u.1) in
        let v : FormalSum n = (key_of n t.0, t.1) ∷ sum_of n tail in
        let e : get_or v (suc i) d ≡ d = term_at n tail i u d il iu in
        let term = tail_term i u il iu in
        let long : suc i < length v = omega (arith, il, length_sum n tail) in
        let c : coefficient v (key_of n u.0) ≡ u.1 = ap (λ (x : Term n). coefficient v x.0) (sym e) ∙ coefficient_of S h.lawful v (suc i) d vector.descends long ∙ ap (λ (x : Term n). x.1) e in
        IsCongruent_nonzero ring.modulus.value u.1 term.nonzero term.reduced
        (IsCongruent_trans (IsCongruent_of ring.modulus.value _ _ (sym c ∙ ap (λ w. coefficient w (key_of n u.0)) (sym member))) z)

    -- no lead divides it
    tail_standard : (i : ℕ) (u : CodeKey × ℕ) → i < length tail → get_or tail i u ≡ u → IsStandard (monomials n heads) (exponents_of n u.0.monomial.exponents)
    tail_standard i u il iu k kl (m, e) = go (cases_lt k g) (cases_lt g k)
      where
        kh : k < length heads
        kh = omega (arith, kl, length_monomials n heads)

        divides : KeyDivides (leads (sums_of n basis) k) (key_of n u.0)
        divides = (m, ap (shift m) (lead_at k kh) ∙ ap₂ (λ a b. (a, b)) (sym (tail_position i u il iu)) e)

        other : (g ≡ k → ⊥) → ⊥
        other ne = tail_nonzero i u il iu (h.reduced.apart g k (key_of n u.0) (omega (arith, lt, count)) (omega (arith, kh, count)) ne divides)

        own : k ≡ g → ⊥
        own same =
            let d : shift m (key_of n t.0) ≡ key_of n u.0 = ap (shift m) (head_is ∙ sym (lead_at g lt) ∙ ap (leads (sums_of n basis)) (sym same)) ∙ divides.1 in
            let up : ring_comparison ring n (key_of n u.0) (key_of n t.0) ≡ Less = less_of_greater h.lawful.order (key_of n t.0) (key_of n u.0) (below_head i u il iu) in
            h.lawful.order.not_below m (key_of n t.0) (ap (λ z. ring_comparison ring n z (key_of n t.0)) d ∙ up)

        go : (k < g) ⊎ (g ≤ k) → (g < k) ⊎ (k ≤ g) → ⊥
        go (inl l) q = other (λ z. omega (arith, l, z))
        go (inr l) (inl q) = other (λ z. omega (arith, q, z))
        go (inr l) (inr q) = own (omega (arith, l, q))

    pub given_tail : AreTailTerms n ring.weights ring.modulus.value (monomials n standard) tail
    given_tail i u il iu = record {
      weighed = (tail_term i u il iu).weighed;
      reduced = (tail_term i u il iu).reduced;
      position = tail_position i u il iu;
      has = h.are_standard.all (exponents_of n u.0.monomial.exponents) (tail_standard i u il iu);
    }

    head_one : t.1 ≡ 1
    head_one =
        let S = setting ring n (ring_comparison ring n) 1 in
        let monic = h.reduced.monic g (omega (arith, lt, count)) in
        let c : coefficient (get_or (sums_of n basis) g []) (leads (sums_of n basis) g) ≡ t.1 =
        ap₂ coefficient member (ap head_key member) ∙ at_head S h.lawful (key_of n t.0, t.1) (sum_of n tail) vector.descends in
        IsCongruent_equal ring.modulus.value t.1 1 vector.each.0.reduced h.lawful.domain.above_one (IsCongruent_trans (IsCongruent_of ring.modulus.value _ _ (sym c)) monic.one)

    -- the lead is minus the tail
    pub given_lead :
        (row : List ℕ) → AreResidues ring.modulus.value (length standard) row
        → IsSame ring.modulus.value (expansion (monomials n standard) (slice_index row) ++ sum_of n tail) []
        → IsSupported n (monomials n standard) tail (length tail) row
        → IsFormOver n ring basis standard (get_or (monomials n heads) g (unit n)) row
    given_lead row residues sum support = record {
      residues = record { long = residues.long ∙ sym (length_monomials n standard); small = residues.small };
      same = record {
        left = [];
        right = get_or (sums_of n basis) g [];
        left_member = IsMember_zero ring.modulus.value (sums_of n basis);
        right_member = h.reduced.basis.members g (omega (arith, lt, count));
        sums = record { by_key = by };
      };
      below = under;
    }
      where
        m : Exponents n
        m = get_or (monomials n heads) g (unit n)

        by : (x : Key n) → IsCongruent ring.modulus.value (coefficient (monomial_vector m ++ []) x) (coefficient (expansion (monomials n standard) (slice_index row) ++ get_or (sums_of n basis) g []) x)
        by x =
            let a = coefficient (monomial_vector m) x in
            let e = coefficient (expansion (monomials n standard) (slice_index row)) x in
            let c = coefficient (sum_of n tail) x in
            let z : IsCongruent ring.modulus.value (e + c) 0 = IsCongruent_trans (IsCongruent_of ring.modulus.value _ _ (sym (coefficient-append (expansion (monomials n standard) (slice_index row)) (sum_of n tail) x))) (sum.by_key x) in
            let whole : get_or (sums_of n basis) g [] ≡ monomial_vector m ++ sum_of n tail = member ∙ ap₂ (λ k q. (k, q) ∷ sum_of n tail) head_is head_one in
            IsCongruent_trans (IsCongruent_of ring.modulus.value _ (a + 0) (ap (λ w. coefficient w x) (append-nil (monomial_vector m)) ∙ omega arith))
            (IsCongruent_trans (IsCongruent_add (IsCongruent_refl ring.modulus.value a) (IsCongruent_sym z))
            (IsCongruent_of ring.modulus.value (a + (e + c)) _
            ((let q : a + (e + c) ≡ e + (a + c) = omega arith in q)
            ∙ sym (ap (λ w. coefficient (expansion (monomials n standard) (slice_index row) ++ w) x) whole ∙ coefficient-append (expansion (monomials n standard) (slice_index row)) (monomial_vector m ++ sum_of n tail) x
            ∙ ap (λ w. e + w) (coefficient-append (monomial_vector m) (sum_of n tail) x)))))

        under : (k : ℕ) → k < length (monomials n standard) → 0 < slice_index row k → comparison ring.order ring.weights n m (get_or (monomials n standard) k (unit n)) ≡ Less → ⊥
        under k kl some up =
            let (j, u, jl, ju, e) = support k kl some in
            let key : key_of n u.0 ≡ (0, exponents_of n u.0.monomial.exponents) = ap (λ z. (z, exponents_of n u.0.monomial.exponents)) (tail_position j u jl ju) in
            let low : comparison ring.order ring.weights n m (exponents_of n u.0.monomial.exponents) ≡ Greater =
            sym (key_compared ring.module_order ring.order ring.weights n m (exponents_of n u.0.monomial.exponents)) ∙ ap₂ (ring_comparison ring n) (sym head_is) (sym key) ∙ below_head j u jl ju in
            let q : Less ≡ Greater = sym up ∙ ap (comparison ring.order ring.weights n m) e ∙ low in
            cc
