-- Remainders: 0 for members alone, and one for each vector
use Rattle.std.proofs.Common.{List, [], ap, append-nil, arith, inl, inr, subst, sym, ℕ, ◌*◌, ◌++◌, ◌+◌, ◌-◌, ◌<◌, ◌∙◌, ◌≡◌}
use Rattle.residues.proofs.Congruences.{IsCongruent_add, IsCongruent_minus, IsCongruent_multiply, IsCongruent_of, IsCongruent_of_minus, IsCongruent_refl, IsCongruent_trans}
use Rattle.residues.specs.Residues.{IsCongruent}
use Rattle.monomials.specs.Exponents.{unit}
use Rattle.formal_sums.proofs.Combining.{IsMember_append, IsMember_same, IsMember_scale}
use Rattle.formal_sums.proofs.Sameness.{weighted_sum-minus}
use Rattle.formal_sums.specs.Combinations.{IsMember}
use Rattle.formal_sums.specs.FormalSums.{FormalSum, IsSame, Key, coefficient, indicator, scale}
use Rattle.bases.proofs.Leading.{positive}
use Rattle.bases.proofs.NormalForms.{normal_unique}
use Rattle.bases.proofs.Normalizing.{HasLead, has_lead}
use Rattle.bases.specs.Bases.{HasFreeTerms, IsCovered, IsGroebnerBasis}
use Rattle.bases.specs.Leads.{IsLead, IsNormal}
use Rattle.bases.specs.Settings.{IsLawful, Setting}

-- v - (v - w) is w
minus_twice :
    {n : ℕ} (p : ℕ) (v w : FormalSum n) → 0 < p
    → IsSame p (v ++ scale (p - 1) (unit n) (v ++ scale (p - 1) (unit n) w)) w
minus_twice {n} p v w pos = record {
  by_key = λ k.
      let x = coefficient v k in
      let y = coefficient w k in
      let e : coefficient (v ++ scale (p - 1) (unit n) w) k ≡ x + (p - 1) * y = weighted_sum-minus p (indicator k) v w in
      let z = coefficient (v ++ scale (p - 1) (unit n) w) k in
      let d : coefficient (v ++ scale (p - 1) (unit n) (v ++ scale (p - 1) (unit n) w)) k ≡ x + (p - 1) * z = weighted_sum-minus p (indicator k) v (v ++ scale (p - 1) (unit n) w) in
      IsCongruent_of_minus pos
      (IsCongruent_trans (IsCongruent_of p _ (z + (p - 1) * z) (ap (λ q. q + (p - 1) * y) d ∙ (rw e (omega arith)))) (IsCongruent_minus p z pos));
}

module _ {n : ℕ} (S : Setting n) (lawful : IsLawful S) (F G : List (FormalSum n)) (basis : IsGroebnerBasis S F G) where
  -- a member without a covered lead is 0
  pub remainder_zero :
      (v : FormalSum n)
      → IsMember S.modulus F v → ((k : Key n) → IsLead S v k → IsCovered S G k → ⊥) → IsSame S.modulus v []
  remainder_zero v member free = go (has_lead S lawful v)
    where
      go : HasLead S v → IsSame S.modulus v []
      go (inl z) = z
      go (inr (k, lead)) = absurd (free k lead (basis.covers v k member lead))

  -- two vectors that differ by a member, and have no covered key, are the same
  pub remainder_unique : (v w : FormalSum n) → IsMember S.modulus F (v ++ scale (S.modulus - 1) (unit n) w)
      → HasFreeTerms S G v → HasFreeTerms S G w → IsSame S.modulus v w
  remainder_unique v w member free free' = record { by_key = λ k. IsCongruent_of_minus (positive S lawful) (IsCongruent_trans (IsCongruent_of S.modulus _ _ (sym (value k))) (zero.by_key k)) }
    where
      d : FormalSum n
      d = v ++ scale (S.modulus - 1) (unit n) w

      value : (k : Key n) → coefficient d k ≡ coefficient v k + (S.modulus - 1) * coefficient w k
      value k = weighted_sum-minus S.modulus (indicator k) v w

      none : (k : Key n) → IsCovered S G k → IsCongruent S.modulus (coefficient d k) 0
      none k c =
          IsCongruent_trans (IsCongruent_of S.modulus _ _ (value k))
          (IsCongruent_trans (IsCongruent_add (free k c) (IsCongruent_multiply (IsCongruent_refl S.modulus (S.modulus - 1)) (free' k c))) (IsCongruent_of S.modulus (0 + (S.modulus - 1) * 0) 0 (omega arith)))

      zero : IsSame S.modulus d []
      zero = remainder_zero d member (λ k lead c. lead.nonzero (none k c))

module _ {n : ℕ} (S : Setting n) (lawful : IsLawful S) (F G : List (FormalSum n)) (basis : IsGroebnerBasis S F G) where
  -- normal forms without covered terms that differ by a member are one list
  pub normal_form_unique :
      (v w : FormalSum n)
      → IsMember S.modulus F (v ++ scale (S.modulus - 1) (unit n) w) → IsNormal S v → IsNormal S w
      → HasFreeTerms S G v → HasFreeTerms S G w → v ≡ w
  normal_form_unique v w member nv nw fv fw =
      normal_unique S lawful v w nv.descends nw.descends nv.residues nw.residues
      (remainder_unique S lawful F G basis v w member fv fw)

  -- members have the empty normal form
  pub normal_form_of_member :
      (v w : FormalSum n)
      → IsMember S.modulus F (v ++ scale (S.modulus - 1) (unit n) w) → IsNormal S w → HasFreeTerms S G w
      → IsMember S.modulus F v → w ≡ []
  normal_form_of_member v w member nw fw a =
      normal_unique S lawful w [] nw.descends tt nw.residues tt
      (remainder_zero S lawful F G basis w inside (λ k lead c. lead.nonzero (fw k c)))
    where
      inside : IsMember S.modulus F w
      inside =
          IsMember_same F (v ++ scale (S.modulus - 1) (unit n) (v ++ scale (S.modulus - 1) (unit n) w)) w (minus_twice S.modulus v w (positive S lawful))
          (IsMember_append F v _ a (IsMember_scale (positive S lawful) F (S.modulus - 1) (unit n) (v ++ scale (S.modulus - 1) (unit n) w) member))

  -- what has the empty normal form is a member
  pub member_of_normal_form :
      (v : FormalSum n) → IsMember S.modulus F (v ++ scale (S.modulus - 1) (unit n) []) → IsMember S.modulus F v
  member_of_normal_form v member = subst (IsMember S.modulus F) (append-nil v) member
