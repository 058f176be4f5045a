-- A polynomial whose lead has no variable in common with those of a basis divides no zero modulo the ideal
use Rattle.std.proofs.Common.{List, [], ap, append-nil, ap₂, arith, get_or, inl, inr, max, refl, subst, sym, ℕ, ◌++◌, ◌+◌, ◌-◌, ◌<◌, ◌∙◌, ◌∷◌, ◌≡◌, ◌≤◌, ◌⊎◌, ◌*◌}
use Rattle.residues.proofs.Congruences.{IsCongruent_add, IsCongruent_minus, IsCongruent_nonzero, IsCongruent_of, IsCongruent_refl, IsCongruent_sym, IsCongruent_trans}
use Rattle.residues.specs.Residues.{IsCongruent}
use Rattle.monomials.proofs.Monomials.{times_comm}
use Rattle.monomials.specs.Exponents.{Divides, Exponents, cons, head, lcm, nil, tail, times, unit}
use Rattle.formal_sums.proofs.Combining.{Each_map, IsMember_append, IsMember_same, IsMember_scale, IsMember_through}
use Rattle.formal_sums.proofs.Multiplying.{IsSame_product, product_comm}
use Rattle.formal_sums.proofs.OfRank.{HasRank_kept, IsOfRank_append, IsOfRank_of, IsOfRank_same, IsOfRank_scale, IsSame_kept, kept}
use Rattle.formal_sums.proofs.Sameness.{IsSame_append, IsSame_of, IsSame_refl, IsSame_scale, IsSame_sym, IsSame_trans, weighted_sum-minus}
use Rattle.formal_sums.proofs.TakenAway.{taken_away}
use Rattle.formal_sums.proofs.WeightedSums.{coefficient-append, indicator_other}
use Rattle.formal_sums.specs.Combinations.{IsMember}
use Rattle.formal_sums.specs.FormalSums.{FormalSum, HasRank, IsOfRank, IsPolynomial, IsSame, Key, Term, coefficient, indicator, product, scale, shift}
use Rattle.orders.proofs.KeyOrdering.{less_of_greater}
use Rattle.orders.specs.KeyOrders.{Descends}
use Rattle.bases.proofs.Leading.{IsLead_scale, positive}
use Rattle.bases.proofs.NormalForms.{IsNormal_lead, head_lead}
use Rattle.bases.proofs.Normalizing.{normal_exists}
use Rattle.bases.specs.Bases.{HasFreeTerms, IsCovered}
use Rattle.bases.specs.Leads.{HasReducedResidues, IsLead, IsNormal, head_key, leads}
use Rattle.bases.specs.Settings.{IsLawful, Setting}
use Rattle.division_laws.proofs.SumLeads.{lead_greater}
use Rattle.operation_laws.proofs.Dividing.{remainder_exists}
use Rattle.operation_laws.proofs.Linear.{Each_at}
use Rattle.operation_laws.proofs.Multiply.{IsMember_product, product-append, product_scale}
use Rattle.operation_laws.specs.Lifts.{IsRemainder}
use Rattle.operation_laws.specs.Operations.{IsRun}
use Rattle.ideal_ops.specs.CoprimeLeads.{HasCoprimeLead}
use Rattle.ideal_ops.proofs.Dividing.{member_rank}

-- ---- monomials
one_place : (a l m x : ℕ) → a + l ≡ max a l → x + a ≡ m + l → m - a + a ≡ m
one_place a l m x e d = omega (arith, e, d)

-- what divides a product, and has no variable in common with the one factor, divides the other
coprime_divides : {n : ℕ} (a l m x : Exponents n) → times a l ≡ lcm a l → times x a ≡ times m l → Divides a m
coprime_divides nil nil nil nil e d = (nil, refl)
coprime_divides (cons a u) (cons l v) (cons m w) (cons x y) e d =
    let rest = coprime_divides u v w y (ap tail e) (ap tail d) in
    (cons (m - a) rest.0, ap₂ cons (one_place a l m x (ap head e) (ap head d)) rest.1)

-- ---- polynomials
polynomial_of : {n : ℕ} (v : FormalSum n) → HasRank 1 v → IsPolynomial v
polynomial_of v h = Each_map (λ t. t.0.0 < 1) (λ t. t.0.0 ≡ 0) v (λ t lt. omega (arith, lt)) h

-- a member of an ideal times a polynomial is one
pub member_times : {n p : ℕ} → 0 < p → (F : List (FormalSum n)) (v b : FormalSum n) → IsOfRank p 1 v → HasRank 1 b → IsMember p F v → IsMember p F (product v b)
member_times {n} {p} pos F v b r h a =
    let e : IsSame p (kept 1 v) v = IsSame_kept 1 v r in
    IsMember_same F (product b (kept 1 v)) (product v b)
    (IsSame_trans (product_comm p b (kept 1 v) (polynomial_of b h) (polynomial_of (kept 1 v) (HasRank_kept 1 v))) (IsSame_product pos (kept 1 v) v b e))
    (IsMember_product pos F b (kept 1 v) (IsMember_same F v (kept 1 v) (IsSame_sym e) a))

module _ {n : ℕ} (S : Setting n) (lawful : IsLawful S) where
  -- the terms of a normal form of a polynomial stand at position 0
  normal_polynomial : (v : FormalSum n) → Descends S.compare v → HasReducedResidues S v → IsOfRank S.modulus 1 v → HasRank 1 v
  normal_polynomial [] d r z = tt
  normal_polynomial (t ∷ v) d r z = (low, normal_polynomial v d.1 r.1 (record { past = rest }))
    where
      low : t.0.0 < 1
      low = go (cases t.0.0)
        where
          cases : (a : ℕ) → (a < 1) ⊎ (1 ≤ a)
          cases a = grind arith

          go : (t.0.0 < 1) ⊎ (1 ≤ t.0.0) → t.0.0 < 1
          go (inl h) = h
          go (inr h) = absurd ((head_lead S lawful t v d r).nonzero (z.past t.0 h))

      rest : (k : Key n) → 1 ≤ k.0 → IsCongruent S.modulus (coefficient v k) 0
      rest k le =
          let o : indicator k t.0 ≡ 0 = indicator_other k t.0 (λ e. let q : k.0 ≡ t.0.0 = ap (λ x. x.0) e in absurd (omega (arith, q, le, low))) in
          let y : t.1 * indicator k t.0 ≡ 0 = ap (λ x. t.1 * x) o ∙ omega arith in
          IsCongruent_trans (IsCongruent_of S.modulus (coefficient v k) (coefficient (t ∷ v) k) (omega (arith, y))) (z.past k le)

  module _ (b : FormalSum n) (l : Key n) (lead : IsLead S b l) (at : l.0 ≡ 0) where
    swap : (k : Key n) → k.0 < 1 → shift k.1 l ≡ shift l.1 k
    swap k h = let e : l.0 ≡ k.0 = omega (arith, at, h) in ap₂ (λ i m. (i, m)) e (times_comm k.1 l.1)

    multiple_lead : (t : Term n) → (0 < t.1) × (t.1 < S.modulus) → IsLead S (scale t.1 t.0.1 b) (shift t.0.1 l)
    multiple_lead t r = IsLead_scale S lawful t.1 t.0.1 b l (λ q. IsCongruent_nonzero S.modulus t.1 r.0 r.1 q) lead

    -- the lead of a product is that of its factors' leads
    product_lead : (t : Term n) (w : FormalSum n) → Descends S.compare (t ∷ w) → HasReducedResidues S (t ∷ w) → HasRank 1 (t ∷ w) → IsLead S (product (t ∷ w) b) (shift t.0.1 l)
    product_lead t [] d r h = subst (λ v. IsLead S v (shift t.0.1 l)) (sym (append-nil (scale t.1 t.0.1 b))) (multiple_lead t r.0)
    product_lead t (u ∷ w) d r h =
        lead_greater S (scale t.1 t.0.1 b) (product (u ∷ w) b) (shift t.0.1 l) (shift u.0.1 l) lawful (multiple_lead t r.0) (product_lead u w d.1 r.1 h.1)
        (ap₂ S.compare (swap u.0 h.1.0) (swap t.0 h.0) ∙ lawful.order.kept l.1 u.0 t.0 ∙ less_of_greater lawful.order t.0 u.0 d.0.0)

  -- where v less u is a remainder's part x, u is v less x
  other_part : (v u : FormalSum n) → IsSame S.modulus u (v ++ scale (S.modulus - 1) (unit n) (v ++ scale (S.modulus - 1) (unit n) u))
  other_part v u = taken_away S.modulus v u (v ++ scale (S.modulus - 1) (unit n) u) (positive S lawful) (record { by_key = same })
    where
      same : (k : Key n) → IsCongruent S.modulus (coefficient v k) (coefficient (u ++ (v ++ scale (S.modulus - 1) (unit n) u)) k)
      same k =
          let x = coefficient v k in
          let y = coefficient u k in
          let d : coefficient (u ++ (v ++ scale (S.modulus - 1) (unit n) u)) k ≡ y + (x + (S.modulus - 1) * y) =
          coefficient-append u (v ++ scale (S.modulus - 1) (unit n) u) k ∙ ap (λ z. y + z) (weighted_sum-minus S.modulus (indicator k) v u) in
          IsCongruent_sym (IsCongruent_trans (IsCongruent_of S.modulus _ (x + (y + (S.modulus - 1) * y)) (d ∙ omega arith))
          (IsCongruent_trans (IsCongruent_add (IsCongruent_refl S.modulus x) (IsCongruent_minus S.modulus y (positive S lawful))) (IsCongruent_of S.modulus (x + 0) x (omega arith))))

head_at : {n : ℕ} (b : FormalSum n) → HasRank 1 b → (head_key b).0 ≡ 0
head_at [] h = refl
head_at (t ∷ b) h = let lt = h.0 in omega (arith, lt)

module _ {n : ℕ} (S : Setting n) (lawful : IsLawful S) (one : S.rank ≡ 1) (F G : List (FormalSum n)) (run : IsRun S F G)
    (b : FormalSum n) (normal : IsNormal S b) (polynomial : HasRank 1 b) (coprime : HasCoprimeLead b G) where
  -- a normal form that b takes into the ideal is 0
  only_zero : (w : FormalSum n) → IsNormal S w → HasRank 1 w → HasFreeTerms S G w → IsMember S.modulus F (product w b) → w ≡ []
  only_zero [] h r free member = refl
  only_zero (t ∷ w) h r free member = absurd (go (run.reduced.reduced.basis.covers (product (t ∷ w) b) (shift t.0.1 (head_key b)) member
      (product_lead S lawful b (head_key b) (IsNormal_lead S lawful b normal coprime.nonzero) (head_at b polynomial) t w h.descends h.residues r)))
    where
      go : IsCovered S G (shift t.0.1 (head_key b)) → ⊥
      go (i, lt, first, (m, e)) =
          let q = coprime_divides (leads G i).1 (head_key b).1 t.0.1 m (Each_at (λ g. times (head_key g).1 (head_key b).1 ≡ lcm (head_key g).1 (head_key b).1) [] G coprime.coprime i lt) (ap (λ k. k.1) e) in
          let d : (leads G i).0 ≡ (head_key b).0 = ap (λ k. k.0) e in
          let z = head_at b polynomial in
          let low = r.0 in
          let same : (leads G i).0 ≡ t.0.0 = omega (arith, d, z, low) in
          (head_lead S lawful t w h.descends h.residues).nonzero (free t.0 (i, lt, first, (q.0, ap₂ (λ j k. (j, k)) same q.1)))

  -- so what b takes into the ideal is there
  pub nonzerodivisor : (v : FormalSum n) → IsOfRank S.modulus 1 v → IsMember S.modulus F (product v b) → IsMember S.modulus F v
  nonzerodivisor v rank member = by_remainder (remainder_exists S lawful G run.list (λ i lt. IsOfRank_of S.modulus S.rank (get_or G i []) (Each_at (HasRank S.rank) [] G run.ranks i lt)) v (subst (λ m. IsOfRank S.modulus m v) (sym one) rank))
    where
      by_rest : (u : FormalSum n) → IsNormal S u → HasFreeTerms S G u → IsMember S.modulus G (v ++ scale (S.modulus - 1) (unit n) u) → IsMember S.modulus F v
      by_rest u h free inside =
          let x : FormalSum n = v ++ scale (S.modulus - 1) (unit n) u in
          let pos = positive S lawful in
          let x_rank : IsOfRank S.modulus 1 x = subst (λ m. IsOfRank S.modulus m x) one (member_rank S.modulus S.rank G run.ranks x inside) in
          let x_in : IsMember S.modulus F x = IsMember_through pos F G run.reduced.reduced.basis.members x inside in
          let e : IsSame S.modulus u (v ++ scale (S.modulus - 1) (unit n) x) = other_part S lawful v u in
          let u_rank : IsOfRank S.modulus 1 u = IsOfRank_same (IsSame_sym e) (IsOfRank_append v (scale (S.modulus - 1) (unit n) x) rank (IsOfRank_scale (S.modulus - 1) (unit n) x x_rank)) in
          let parts : product (v ++ scale (S.modulus - 1) (unit n) x) b ≡ product v b ++ scale (S.modulus - 1) (unit n) (product x b) =
          product-append v (scale (S.modulus - 1) (unit n) x) b ∙ ap (λ z. product v b ++ z) (product_scale (S.modulus - 1) (unit n) x b) in
          let u_in : IsMember S.modulus F (product u b) =
          IsMember_same F (product v b ++ scale (S.modulus - 1) (unit n) (product x b)) (product u b)
          (IsSame_trans (IsSame_of S.modulus _ _ (sym parts)) (IsSame_product pos (v ++ scale (S.modulus - 1) (unit n) x) u b (IsSame_sym e)))
          (IsMember_append F (product v b) (scale (S.modulus - 1) (unit n) (product x b)) member (IsMember_scale pos F (S.modulus - 1) (unit n) (product x b) (member_times pos F x b x_rank polynomial x_in))) in
          let none : u ≡ [] = only_zero u h (normal_polynomial S lawful u h.descends h.residues u_rank) free u_in in
          subst (IsMember S.modulus F) (append-nil v) (subst (λ y. IsMember S.modulus F (v ++ scale (S.modulus - 1) (unit n) y)) none x_in)

      by_normal : (w : FormalSum n) → IsRemainder S G v w → (u : FormalSum n) × IsNormal S u × IsSame S.modulus w u → IsMember S.modulus F v
      by_normal w h (u, is, e) =
          by_rest u is (λ k c. IsCongruent_trans (IsCongruent_sym (e.by_key k)) (h.free k c))
          (IsMember_same G (v ++ scale (S.modulus - 1) (unit n) w) (v ++ scale (S.modulus - 1) (unit n) u)
          (IsSame_append (IsSame_refl S.modulus v) (IsSame_scale (positive S lawful) (S.modulus - 1) (unit n) e)) h.member)

      by_remainder : (w : FormalSum n) × IsRemainder S G v w → IsMember S.modulus F v
      by_remainder (w, h) = by_normal w h (normal_exists S lawful w)
