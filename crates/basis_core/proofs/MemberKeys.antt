-- The keys of members' vectors and of products of these, and which of them occur
use Rattle.std.proofs.Common.{◌*◌, List, [], ap, arith, cond, get_or, inl, inr, refl, subst, suc, sym, zero, ℕ, ◌∙◌, ◌∷◌, ◌≡◌, ◌⊎◌}
use Rattle.residues.proofs.Congruences.{IsCongruent_of, IsCongruent_trans}
use Rattle.monomials.specs.Exponents.{Exponents, exponents_of}
use Rattle.formal_sums.proofs.WeightedSums.{same_key-shift, weighted_sum-scale, weighted_sum_ext}
use Rattle.formal_sums.specs.FormalSums.{Each, FormalSum, Key, coefficient, indicator, scale, shift}
use Rattle.bases.specs.Leads.{head_key}
use Rattle.bases.specs.Settings.{IsLawful, Setting}
use Rattle.term_lists.proofs.NormalVectors.{residues_of}
use Rattle.term_lists.specs.Rings.{ring_comparison}
use Rattle.term_lists.specs.Vectors.{IsVector, IsVectorOver, sum_of, sums_of}
use Rattle.term_lists.specs.declared.key.Key.{Key as CodeKey}
use Rattle.module_vectors.specs.Trails.{HasKey, IsInProduct, KeptProduct, kept_product_lead}
use Rattle.vector_division.proofs.Members.{sums_at}
use Rattle.vector_division.proofs.Occurring.{at_key, nonzeros, occurs, scaled_key}
use Rattle.basis_steps.specs.Divisions.{Occurs}
use Rattle.basis_steps.specs.Outcomes as plain
use Rattle.basis_steps.specs.Outcomes.{product_vector}
use Rattle.basis_steps.specs.States.{vectors}
use Rattle.basis_core.specs.Members.{Shared, MemberShown, members_of}
use Rattle.basis_core.specs.Outcomes.{indexed_product_of}
use Rattle.basis_core.specs.Members.{IsMemberShown}
use Rattle.basis_core.specs.Rows.{vectors_in}

-- ---- the members' vectors
pub vector_at : (n : ℕ) (ms : List MemberShown) (k : ℕ) → get_or (vectors (members_of n ms)) k [] ≡ sum_of n (get_or (vectors_in ms) k [])
vector_at n [] k = refl
vector_at n (m ∷ ms) zero = refl
vector_at n (m ∷ ms) (suc k) = vector_at n ms k

pub member_vector :
    (shared : Shared) (ms : List MemberShown) (k : ℕ)
    → Each (IsMemberShown shared) ms → IsVectorOver shared.ring (ring_comparison shared.ring) (get_or (vectors_in ms) k [])
member_vector shared [] k h = record { each = tt; descends = tt }
member_vector shared (m ∷ ms) zero h = h.0.vector.vector
member_vector shared (m ∷ ms) (suc k) h = member_vector shared ms k h.1

-- ---- keys of products
-- the lead of a product, by the vectors of a list
pub lead_same : (n : ℕ) (list : List (List (CodeKey × ℕ))) (s : KeptProduct) → plain.product_lead (sums_of n list) (indexed_product_of n s) ≡ kept_product_lead n list s
lead_same n list s = ap (λ v. shift (exponents_of n s.1.exponents) (head_key v)) (sums_at n list s.0)

-- what occurs in a product is a key of it
pub occurs_in :
    (n p : ℕ) (vs : List (List (CodeKey × ℕ))) (G : List (FormalSum n)) (s : KeptProduct) (k : Key n)
    → get_or G s.0 [] ≡ sum_of n (get_or vs s.0 []) → Occurs p (product_vector G (indexed_product_of n s)) k → IsInProduct n vs k s
occurs_in n p vs G s k e o = go (occurs (scale 1 (exponents_of n s.1.exponents) (get_or G s.0 [])) k)
  where
    go :
        HasKey (scale 1 (exponents_of n s.1.exponents) (get_or G s.0 [])) k
        ⊎ (coefficient (scale 1 (exponents_of n s.1.exponents) (get_or G s.0 [])) k ≡ 0)
        → IsInProduct n vs k s
    go (inl h) =
        let r = scaled_key 1 (exponents_of n s.1.exponents) (get_or G s.0 []) k h in
        (r.0, subst (λ v. HasKey v r.0) e r.1, r.2)
    go (inr z) = absurd (o (IsCongruent_of p _ _ z))

coefficient_shifted : {n : ℕ} (m : Exponents n) (v : FormalSum n) (k : Key n) → coefficient (scale 1 m v) (shift m k) ≡ coefficient v k
coefficient_shifted m v k =
    weighted_sum-scale (indicator (shift m k)) 1 m v
    ∙ ap (λ x. 1 * x) (weighted_sum_ext _ (indicator k) (λ l. ap (λ b. cond b 1 0) (same_key-shift m k l)) v)
    ∙ omega arith

module _ {n : ℕ} (S : Setting n) (lawful : IsLawful S) where
  -- a key of a vector occurs in it
  pub key_occurs :
      (v : List (CodeKey × ℕ)) (k : Key n)
      → IsVector n S.weights S.modulus S.compare v → HasKey (sum_of n v) k → Occurs S.modulus (sum_of n v) k
  key_occurs v k h there =
      at_key (λ l. Occurs S.modulus (sum_of n v) l) (sum_of n v) k
      (nonzeros S lawful (sum_of n v) h.descends (residues_of n S.weights S.modulus v h.each)) there

  -- a key of a product of a vector occurs in it
  pub in_occurs :
      (vs : List (List (CodeKey × ℕ))) (G : List (FormalSum n)) (s : KeptProduct) (k : Key n)
      → get_or G s.0 [] ≡ sum_of n (get_or vs s.0 []) → IsVector n S.weights S.modulus S.compare (get_or vs s.0 [])
      → IsInProduct n vs k s → Occurs S.modulus (product_vector G (indexed_product_of n s)) k
  in_occurs vs G s k e v (l, there, is) z =
      let t : Exponents n = exponents_of n s.1.exponents in
      let same : coefficient (sum_of n (get_or vs s.0 [])) l ≡ coefficient (scale 1 t (get_or G s.0 [])) k =
      sym (coefficient_shifted t (sum_of n (get_or vs s.0 [])) l) ∙ (λ i. coefficient (scale 1 t (sym e i)) (sym is i)) in
      key_occurs (get_or vs s.0 []) l v there (IsCongruent_trans (IsCongruent_of S.modulus _ _ same) z)
