-- The products of a row: those of its parts, of the job's members
use Rattle.std.proofs.Common.{List, [], ap, map, refl, subst, ℕ, ◌<◌, ◌∷◌, ◌≡◌}
use Rattle.std.specs.Prelude.{Contains}
use Rattle.formal_sums.proofs.Combining.{Each_map}
use Rattle.formal_sums.proofs.OfRank.{IsOfRank_of}
use Rattle.formal_sums.specs.FormalSums.{Each, HasRank}
use Rattle.monomial_orders.specs.Kept.{IsWeighed}
use Rattle.term_lists.proofs.NormalVectors.{residues_of}
use Rattle.term_lists.specs.Rings.{variables}
use Rattle.term_lists.specs.Vectors.{StandsFor, sum_of}
use Rattle.term_lists.specs.declared.key.Key.{Key as CodeKey}
use Rattle.member_products.proofs.Ranks.{ranked_by}
use Rattle.member_products.specs.Generators.{IsRanked, IsVectorOf}
use Rattle.vector_division.proofs.Occurring.{occurring}
use Rattle.vector_division.specs.Reductions.{cofactors_of, unscaled}
use Rattle.vector_division.specs.declared.reduction.ScaledProduct.{ScaledProduct}
use Rattle.pair_criteria.specs.declared.pair.Pair.{Pair as CodePair}
use Rattle.basis_core.proofs.Tracking.{vectors_rank}
use Rattle.basis_core.specs.Members.{IsMemberShown, MembersShown, Shared, setting_of}
use Rattle.basis_core.specs.Outcomes.{indexed_product_of, indexed_products_of}
use Rattle.s_vectors.proofs.TopParts.{shared_lawful}
use Rattle.s_vectors.specs.Divided.{IsDivided}
use Rattle.s_vectors.specs.Parts.{IsPart}

keys_are : (n : ℕ) (qs : List ScaledProduct) → map (λ t. t.0) (cofactors_of n qs) ≡ indexed_products_of n (map unscaled qs)
keys_are n [] = refl
keys_are n (q ∷ qs) = ap (λ l. indexed_product_of n (unscaled q) ∷ l) (keys_are n qs)

part_positions : (n : ℕ) (ws : List ℕ) (p count : ℕ) (qs : List ScaledProduct) → Each (IsPart n ws p count) qs → HasRank count (cofactors_of n qs)
part_positions n ws p count [] h = tt
part_positions n ws p count (q ∷ qs) h = (h.0.index, part_positions n ws p count qs h.1)

pub part_terms : (n : ℕ) (ws : List ℕ) (p count : ℕ) (qs : List ScaledProduct) → Each (IsPart n ws p count) qs → Each (λ q. IsWeighed n ws q.monomial × (q.residue < p)) qs
part_terms n ws p count qs h = Each_map _ _ qs (λ q i. (i.weighed, i.reduced)) h

module _ (shared : Shared) (parts : List ScaledProduct) (products : List (CodeKey × ℕ)) (iv : IsVectorOf shared.ring products) (same : StandsFor shared.ring products (cofactors_of (variables shared.ring) parts)) where
  -- each of them is one of the parts', but for its coefficient
  pub row_listed : Each (λ t. Contains (indexed_products_of (variables shared.ring) (map unscaled parts)) t.0) (sum_of (variables shared.ring) products)
  row_listed =
      let n = variables shared.ring in
      Each_map _ _ (sum_of n products) (λ t h. subst (λ l. Contains l t.0) (keys_are n parts) h)
      (occurring (setting_of n shared) (shared_lawful n shared) (sum_of n products) (cofactors_of n parts) iv.descends (residues_of n shared.ring.weights shared.ring.modulus.value products iv.each) same)

  pub row_ranked : (count : ℕ) → Each (IsPart (variables shared.ring) shared.ring.weights shared.ring.modulus.value count) parts → IsRanked shared.ring count products
  row_ranked count h =
      ranked_by shared.ring count products _ iv same
      (IsOfRank_of shared.ring.modulus.value count (cofactors_of (variables shared.ring) parts) (part_positions (variables shared.ring) shared.ring.weights shared.ring.modulus.value count parts h))

-- what is left of an S-vector has the rank
pub divided_ranked :
    (m : MembersShown) (x : CodePair) (parts : List ScaledProduct) (v : List (CodeKey × ℕ))
    → Each (IsMemberShown m.shared) m.list → IsDivided m x parts v → IsRanked m.shared.ring m.shared.rank v
divided_ranked m x parts v tracked d = ranked_by m.shared.ring m.shared.rank v _ d.vector d.sum (vectors_rank m.shared m.list tracked (cofactors_of (variables m.shared.ring) parts))
