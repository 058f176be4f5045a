-- A list of vectors of at most one term each is a Gröbner basis as it stands (IVA chapter 2, section 4)
use Rattle.std.proofs.Common.{List, [], ap, ap₂, arith, get_or, inl, inr, length, refl, subst, suc, sym, ℕ, ◌*◌, ◌+◌, ◌<◌, ◌∙◌, ◌∷◌, ◌≡◌, ◌⊎◌}
use Rattle.std.proofs.lemmas.List.{length-map}
use Rattle.residues.proofs.Congruences.{IsCongruent_of, IsCongruent_sym, IsCongruent_trans}
use Rattle.formal_sums.proofs.Combining.{IsMember_itself}
use Rattle.formal_sums.proofs.WeightedSums.{coefficient-append, indicator_other, key_cases}
use Rattle.formal_sums.specs.Combinations.{IsMember, combination}
use Rattle.formal_sums.specs.FormalSums.{Each, FormalSum, HasRank, Key, coefficient, indicator, scale, shift}
use Rattle.bases.specs.Bases.{IsCovered, IsGroebnerBasis}
use Rattle.bases.specs.Leads.{IsLead, head_key, leads}
use Rattle.bases.specs.Representations.{place}
use Rattle.bases.specs.Settings.{IsLawful, Setting}
use Rattle.term_lists.proofs.NormalVectors.{vector_lead}
use Rattle.term_lists.proofs.Parts.{Each_member}
use Rattle.term_lists.specs.Rings.{ring_comparison, setting, variables}
use Rattle.term_lists.specs.Vectors.{AreVectorsOver, IsVectorOver, sum_of, sums_of}
use Rattle.term_lists.specs.declared.key.Key.{Key as CodeKey}
use Rattle.term_lists.specs.declared.ring.Ring.{Ring}
use Rattle.vector_division.proofs.Members.{sums_at}

nothing : (x d : ℕ) → d ≡ 0 → x * d + 0 ≡ 0
nothing x d z = rw z (omega arith)

-- it is 0, or has one term, which is its lead
abbrev IsOneTerm : {n : ℕ} → Setting n → FormalSum n → Type 0
IsOneTerm S g = (length g < 2) × ((g ≡ []) ⊎ IsLead S g (head_key g))

module _ {n : ℕ} (S : Setting n) (G : List (FormalSum n)) (k : Key n) where
  -- a multiple of it is 0 at k, or its lead divides k
  multiple_cases :
      (c : ℕ) (t : Key n) (g : FormalSum n) → IsOneTerm S g
      → (IsLead S g (head_key g) × (shift t.1 (head_key g) ≡ k)) ⊎ (coefficient (scale c t.1 g) k ≡ 0)
  multiple_cases c t [] h = inr refl
  multiple_cases c t (u ∷ []) h = go (key_cases k (shift t.1 u.0)) h.1
    where
      go :
          (k ≡ shift t.1 u.0) ⊎ (k ≡ shift t.1 u.0 → ⊥) → ((u ∷ []) ≡ []) ⊎ IsLead S (u ∷ []) u.0
          → (IsLead S (u ∷ []) u.0 × (shift t.1 u.0 ≡ k)) ⊎ (coefficient (scale c t.1 (u ∷ [])) k ≡ 0)
      go (inr ne) q = inr (nothing (c * u.1) (indicator k (shift t.1 u.0)) (indicator_other k (shift t.1 u.0) ne))
      go (inl e) (inl none) = absurd (let l : 1 ≡ 0 = ap length none in omega arith)
      go (inl e) (inr lead) = inl (lead, sym e)
  multiple_cases c t (u ∷ w ∷ g) h = absurd (let l = h.0 in omega (arith, l))

  module _ (each : (i : ℕ) → i < length G → IsOneTerm S (get_or G i [])) where
    -- a combination is 0 at k, or k is covered
    combination_cases : (a : FormalSum n) → HasRank (length G) a → IsCovered S G k ⊎ (coefficient (combination G a) k ≡ 0)
    combination_cases [] h = inr refl
    combination_cases (t ∷ a) h =
        go (multiple_cases t.1 t.0 (get_or G t.0.0 []) (each t.0.0 h.0)) (combination_cases a h.1)
      where
        go :
            (IsLead S (get_or G t.0.0 []) (leads G t.0.0) × (place G t ≡ k)) ⊎ (coefficient (scale t.1 t.0.1 (get_or G t.0.0 [])) k ≡ 0)
            → IsCovered S G k ⊎ (coefficient (combination G a) k ≡ 0) → IsCovered S G k ⊎ (coefficient (combination G (t ∷ a)) k ≡ 0)
        go (inl e) r = inl (t.0.0, h.0, e.0, (t.0.1, e.1))
        go (inr first) (inl c) = inl c
        go (inr first) (inr z) = inr (coefficient-append (scale t.1 t.0.1 (get_or G t.0.0 [])) (combination G a) k ∙ ap₂ ◌+◌ first z)

-- vectors of one term each
basis_of_terms :
    {n : ℕ} (S : Setting n) (G : List (FormalSum n)) → ((i : ℕ) → i < length G → IsOneTerm S (get_or G i [])) → IsGroebnerBasis S G G
basis_of_terms {n} S G each = record { members = IsMember_itself S.modulus G; covers = covers }
  where
    covers : (v : FormalSum n) (k : Key n) → IsMember S.modulus G v → IsLead S v k → IsCovered S G k
    covers v k member lead = go (combination_cases S G k each member.cofactors member.positions)
      where
        go : IsCovered S G k ⊎ (coefficient (combination G member.cofactors) k ≡ 0) → IsCovered S G k
        go (inl c) = c
        go (inr z) =
            absurd (lead.nonzero (IsCongruent_trans (IsCongruent_sym (member.sums.by_key k))
            (IsCongruent_of S.modulus (coefficient (combination G member.cofactors) k) 0 z)))

module _ (ring : Ring) (rank : ℕ) (lawful : IsLawful (setting ring (variables ring) (ring_comparison ring (variables ring)) rank)) where
  abbrev S : Setting (variables ring)
  S = setting ring (variables ring) (ring_comparison ring (variables ring)) rank

  one_term : (v : List (CodeKey × ℕ)) → IsVectorOver ring (ring_comparison ring) v → length v < 2 → IsOneTerm S (sum_of (variables ring) v)
  one_term [] h few = (omega arith, inl refl)
  one_term (t ∷ v) h few =
      (subst (λ l. l < 2) (sym (length-map (t ∷ v) _)) few, inr (vector_lead ring (ring_comparison ring) rank t v lawful h))

  pub basis_as_it_stands :
      (list : List (List (CodeKey × ℕ))) → AreVectorsOver ring (ring_comparison ring) list → Each (λ v. length v < 2) list
      → IsGroebnerBasis S (sums_of (variables ring) list) (sums_of (variables ring) list)
  basis_as_it_stands list vectors few = basis_of_terms S (sums_of (variables ring) list) each
    where
      each : (i : ℕ) → i < length (sums_of (variables ring) list) → IsOneTerm S (get_or (sums_of (variables ring) list) i [])
      each i lt =
          let n = variables ring in
          let lt' : i < length list = subst (λ z. i < z) (length-map list (λ v. sum_of n v)) lt in
          subst (IsOneTerm S) (sym (sums_at n list i))
          (one_term (get_or list i []) (Each_member (IsVectorOver ring (ring_comparison ring)) list i [] vectors lt')
          (Each_member (λ v. length v < 2) list i [] few lt'))
