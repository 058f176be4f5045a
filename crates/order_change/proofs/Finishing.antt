-- The reduced basis in the new order
use Rattle.std.proofs.Common.{Less, List, [], ap, ap₂, arith, get_or, inl, inr, length, subst, sym, ℕ, ◌<◌, ◌∙◌, ◌∷◌, ◌≡◌, ◌≤◌, ◌⊎◌}
use Rattle.std.proofs.lemmas.List.{get_or-map}
use Rattle.std.specs.Ordering.{ordering_reverse}
use Rattle.std.specs.Prelude.{slice_index}
use Rattle.monomials.specs.Exponents.{Exponents, times, unit}
use Rattle.formal_sums.proofs.OfRank.{IsOfRank_of}
use Rattle.formal_sums.specs.FormalSums.{Each, FormalSum, HasRank, IsOfRank, Key, shift}
use Rattle.bases.proofs.Leading.{IsLead_of_monic}
use Rattle.bases.specs.Bases.{IsCovered, IsReducedBasis, IsReducedSet}
use Rattle.bases.specs.Leads.{IsNormal, head_key, leads}
use Rattle.bases.specs.Settings.{IsLawful}
use Rattle.monomial_orders.specs.Comparisons.{comparison}
use Rattle.monomial_orders.specs.Kept.{Monomial, monomials}
use Rattle.monomial_orders.specs.Laws.{comparison_order}
use Rattle.monomial_orders.specs.declared.order.Order.{Order}
use Rattle.term_lists.proofs.NormalVectors.{residues_of}
use Rattle.term_lists.proofs.Parts.{Each_member}
use Rattle.term_lists.specs.Rings.{ring_comparison, setting, variables}
use Rattle.term_lists.specs.Vectors.{HasPositions, IsVector, sum_of, sums_of}
use Rattle.term_lists.specs.declared.key.Key.{Key as CodeKey}
use Rattle.term_lists.specs.declared.ring.Ring.{Ring}
use Rattle.groebner_iface.specs.Runs.{IsReducedBasisOf}
use Rattle.change_laws.proofs.Independent.{echelon_independent, uncovered_independent}
use Rattle.change_laws.proofs.NewBases.{change_reduced}
use Rattle.change_laws.specs.Changes.{IsChange}
use Rattle.change_laws.specs.Combinations.{AreIndependent}
use Rattle.change_laws.specs.Standard.{AreStandard, Has, lead_monomials}
use Rattle.order_change.proofs.Adding.{echelon, no_row}
use Rattle.order_change.proofs.BasisLeads.{length_leads, length_sums, sums_at}
use Rattle.order_change.proofs.Items.{length_monomials}
use Rattle.order_change.proofs.Sorting.{ascending_distinct}
use Rattle.order_change.proofs.Stepping.{table_products}
use Rattle.order_change.proofs.Tails.{count, key_compared, lead_at, lead_position}
use Rattle.order_change.specs.Changing.{AreVariableProducts, HasDivisor, IsChanged, IsFormModulo}
use Rattle.order_change.specs.Lists.{AreMonomials}
use Rattle.order_change.specs.Products.{HaveRoom, IsAscending, variable_product_at}
use Rattle.order_change.specs.Reordered.{with_order}
use Rattle.order_change.specs.Tables.{IsFormOver, IsBasisGiven, IsTableOver}

-- a polynomial has rank 1
polynomial_rank : (n p : ℕ) (v : List (CodeKey × ℕ)) → HasPositions 1 v → IsOfRank p 1 (sum_of n v)
polynomial_rank n p v h = IsOfRank_of p 1 (sum_of n v) (go v h)
  where
    go : (w : List (CodeKey × ℕ)) → HasPositions 1 w → HasRank 1 (sum_of n w)
    go [] g = tt
    go (t ∷ w) g = (g.0, go w g.1)

-- the standard monomials of a basis are independent
given_independent :
    (n : ℕ) (ring : Ring) (basis : List (List (CodeKey × ℕ))) (heads standard : List Monomial) → IsBasisGiven n ring basis heads standard
    → AreIndependent ring.modulus.value (sums_of n basis) (monomials n standard)
given_independent n ring basis heads standard h =
    uncovered_independent (setting ring n (ring_comparison ring n) 1) h.lawful (sums_of n basis) (sums_of n basis) h.reduced.basis (monomials n standard) h.are_standard.distinct free
  where
    free : (m : Exponents n) → Has (monomials n standard) m → IsCovered (setting ring n (ring_comparison ring n) 1) (sums_of n basis) (0, m) → ⊥
    free m has (k, kl, lead, (q, e)) =
        let kh : k < length heads = omega (arith, kl, count n ring basis heads standard h) in
        h.are_standard.standard m has k (omega (arith, kh, length_monomials n heads))
        (q, ap (λ (x : Key n). times q x.1) (sym (lead_at n ring basis heads standard h k kh)) ∙ ap (λ (x : Key n). x.1) e)

module _ (n : ℕ) (ring : Ring) (F : List (FormalSum n)) (B : List (Exponents n)) (members : List (List (CodeKey × ℕ))) (lawful : IsLawful (setting ring n (ring_comparison ring n) 1)) (base : AreIndependent ring.modulus.value F B) (h : IsChanged n ring F B members) where
  count_members : length (monomials n h.heads) ≡ length (sums_of n members)
  count_members = ap length h.members_are.heads_are ∙ length_leads (sums_of n members)

  -- a lead as a key
  new_lead : (k : ℕ) → k < length (sums_of n members) → leads (sums_of n members) k ≡ (0, get_or (monomials n h.heads) k (unit n))
  new_lead k lt =
      let v = get_or members k [] in
      let kb : k < length members = omega (arith, lt, length_sums n members) in
      ap₂ (λ a b. (a, b))
      (ap (λ g. (head_key g).0) (sums_at n members k) ∙ lead_position n v (Each_member (HasPositions 1) members k [] h.members_are.positions kb))
      (sym (ap (λ l. get_or l k (unit n)) h.members_are.heads_are ∙ get_or-map (λ g. (head_key g).1) (sums_of n members) k [] (unit n) lt))

  covered : (m : Exponents n) → HasDivisor (monomials n h.heads) m → IsCovered (setting ring n (ring_comparison ring n) 1) (sums_of n members) (0, m)
  covered m (k, kl, (q, e)) =
      let lt : k < length (sums_of n members) = omega (arith, kl, count_members) in (
        k,
        lt,
        IsLead_of_monic (setting ring n (ring_comparison ring n) 1) lawful (h.members_are.monic k (omega (arith, lt, length_sums n members))),
        (q, ap (shift q) (new_lead k lt) ∙ ap (λ z. (0, z)) e),
      )

  cover_or : (m : Exponents n) → Has (monomials n h.monos) m ⊎ HasDivisor (monomials n h.heads) m → Has (monomials n h.monos) m ⊎ IsCovered (setting ring n (ring_comparison ring n) 1) (sums_of n members) (0, m)
  cover_or m (inl has) = inl has
  cover_or m (inr d) = inr (covered m d)

  is_change : IsChange (setting ring n (ring_comparison ring n) 1) F (monomials n h.monos) (sums_of n members)
  is_change = record {
    members = λ i lt. h.members_are.inside i (omega (arith, lt, length_sums n members));
    normal = λ i lt.
        let v = Each_member (IsVector n ring.weights ring.modulus.value (ring_comparison ring n)) members i [] h.members_are.vectors (omega (arith, lt, length_sums n members)) in
        subst (IsNormal (setting ring n (ring_comparison ring n) 1)) (sym (sums_at n members i))
        (record { descends = v.descends; residues = residues_of n ring.weights ring.modulus.value (get_or members i []) v.each });
    monic = λ i lt. h.members_are.monic i (omega (arith, lt, length_sums n members));
    positions = λ i lt. ap (λ (x : Key n). x.0) (new_lead i lt);
    distinct = ascending_distinct (comparison ring.order ring.weights n) (comparison_order ring.order ring.weights n) (monomials n h.monos) h.standard.ascending;
    independent = echelon_independent lawful.domain F B (monomials n h.monos) (λ l. slice_index (get_or h.rows l no_row).form) (λ l. slice_index (get_or h.rows l no_row).combination) (λ l. (get_or h.rows l no_row).pivot)
        (echelon n ring F B lawful h.monos h.forms h.rows h.standard) base;
    first = cover_or (unit n) h.turned.first;
    closed = λ k i kl il. cover_or (variable_product_at n (monomials n h.monos) i k) (h.turned.had i k il (let le = h.over i il in omega (arith, kl, le, length_monomials n h.monos)));
    uncovered = λ m has (k, lt, lead, (q, e)). h.members_are.uncovered m has k (omega (arith, lt, count_members))
        (q, ap (λ (x : Key n). times q x.1) (sym (new_lead k lt)) ∙ ap (λ (x : Key n). x.1) e);
    tails = λ i k lt nz. h.members_are.tails i k (omega (arith, lt, length_sums n members)) nz;
    apart = λ i j il jl ne (q, e). h.members_are.apart i j (omega (arith, il, count_members, length_monomials n h.heads)) (omega (arith, jl, count_members, length_monomials n h.heads)) ne
        (q, ap (λ (x : Key n). times q x.1) (sym (new_lead j jl)) ∙ ap (λ (x : Key n). x.1) e ∙ ap (λ (x : Key n). x.1) (new_lead i il));
  }

  pub changed_reduced : ((i : ℕ) → i < length F → IsOfRank ring.modulus.value 1 (get_or F i [])) → IsReducedBasis (setting ring n (ring_comparison ring n) 1) F (sums_of n members)
  changed_reduced ranks = record {
    reduced = change_reduced (setting ring n (ring_comparison ring n) 1) lawful (omega arith) F ranks (monomials n h.monos) (sums_of n members) is_change;
    descends = λ i j ij jl.
        let il : i < length (sums_of n members) = omega (arith, ij, jl) in
        let down : comparison ring.order ring.weights n (get_or (monomials n h.heads) j (unit n)) (get_or (monomials n h.heads) i (unit n)) ≡ Less =
        h.members_are.falls i j ij (omega (arith, jl, count_members, length_monomials n h.heads)) in
        ap₂ (ring_comparison ring n) (new_lead i il) (new_lead j jl)
        ∙ key_compared ring.module_order ring.order ring.weights n (get_or (monomials n h.heads) i (unit n)) (get_or (monomials n h.heads) j (unit n))
        ∙ (comparison_order ring.order ring.weights n).total.antisymm (get_or (monomials n h.heads) i (unit n)) (get_or (monomials n h.heads) j (unit n))
        ∙ ap ordering_reverse down;
  }

-- what the change asks for
pub ready :
    (n : ℕ) (ring : Ring) (basis : List (List (CodeKey × ℕ))) (standard : List Monomial) (order : Order) (form : List ℕ) (table : List (List (List ℕ)))
    → IsFormOver n ring basis standard (unit n) form → IsTableOver n ring basis standard table
    → IsFormModulo n (with_order order ring) (sums_of n basis) (monomials n standard) (unit n) form × AreVariableProducts n ring.modulus.value (sums_of n basis) (monomials n standard) table
ready n ring basis standard order form table f t =
    (record { residues = f.residues; is = f.same }, table_products (comparison ring.order ring.weights n) ring.modulus.value (sums_of n basis) (monomials n standard) table t)

-- the answer
pub answer :
    (n : ℕ) (ring : Ring) (order : Order) (basis members : List (List (CodeKey × ℕ))) (heads standard : List Monomial) → variables ring ≡ n → IsBasisGiven n ring basis heads standard
    → IsLawful (setting (with_order order ring) n (ring_comparison (with_order order ring) n) 1)
    → IsChanged n (with_order order ring) (sums_of n basis) (monomials n standard) members
    → IsReducedBasisOf (with_order order ring) 1 basis members
answer n ring order basis members heads standard same h lawful changed =
    record {
      vectors = subst (λ z. Each (IsVector z ring.weights ring.modulus.value (ring_comparison (with_order order ring) z)) members) (sym same) changed.members_are.vectors;
      positions = changed.members_are.positions;
      basis = subst (λ z. IsReducedBasis (setting (with_order order ring) z (ring_comparison (with_order order ring) z) 1) (sums_of z basis) (sums_of z members)) (sym same)
          (changed_reduced n (with_order order ring) (sums_of n basis) (monomials n standard) members lawful (given_independent n ring basis heads standard h) changed
          (λ i lt. subst (IsOfRank ring.modulus.value 1) (sym (sums_at n basis i)) (polynomial_rank n ring.modulus.value (get_or basis i []) (Each_member (HasPositions 1) basis i [] h.positions (omega (arith, lt, length_sums n basis))))));
    }

-- a reduced basis with its leads and its standard monomials
pub given :
    (n : ℕ) (ring : Ring) (basis : List (List (CodeKey × ℕ))) (heads standard : List Monomial) → variables ring ≡ n
    → IsLawful (setting ring (variables ring) (ring_comparison ring (variables ring)) 1) → IsReducedBasisOf ring 1 basis basis
    → AreMonomials (variables ring) ring.weights heads → monomials (variables ring) heads ≡ lead_monomials (sums_of (variables ring) basis)
    → AreMonomials n ring.weights standard → AreStandard (monomials n heads) (monomials n standard) → IsAscending (comparison ring.order ring.weights n) (monomials n standard)
    → HaveRoom standard → length standard ≤ 256 → IsBasisGiven n ring basis heads standard
given n ring basis heads standard same lawful h heads_of heads_are standard_of are_standard rise room few = record {
  lawful = subst (λ z. IsLawful (setting ring z (ring_comparison ring z) 1)) same lawful;
  vectors = subst (λ z. Each (IsVector z ring.weights ring.modulus.value (ring_comparison ring z)) basis) same h.vectors;
  positions = h.positions;
  reduced = subst (λ z. IsReducedSet (setting ring z (ring_comparison ring z) 1) (sums_of z basis) (sums_of z basis)) same h.basis.reduced;
  leads_of = subst (λ z. AreMonomials z ring.weights heads) same heads_of;
  leads_are = subst (λ z. monomials z heads ≡ lead_monomials (sums_of z basis)) same heads_are;
  standard_of = standard_of;
  are_standard = are_standard;
  ascending = rise;
  room = room;
  few = few;
}
