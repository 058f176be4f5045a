-- Members stay combinations of the generators
use Rattle.std.proofs.Common.{List, [], ap, append-nil, arith, get_or, length, subst, sym, ℕ, ◌++◌, ◌<◌, ◌∙◌, ◌∷◌, ◌≡◌}
use Rattle.std.proofs.lemmas.List.{get_or-map}
use Rattle.monomials.specs.Exponents.{Exponents, unit}
use Rattle.formal_sums.proofs.Combining.{IsSame_combination, combination-append, combination-scale, scale-one}
use Rattle.formal_sums.proofs.OfRank.{IsOfRank_append, IsOfRank_of, IsOfRank_scale}
use Rattle.formal_sums.proofs.Sameness.{IsSame_append, IsSame_of, IsSame_scale, IsSame_sym, IsSame_trans}
use Rattle.formal_sums.specs.Combinations.{combination}
use Rattle.formal_sums.specs.FormalSums.{FormalSum, scale}
use Rattle.term_lists.specs.Rings.{variables}
use Rattle.term_lists.specs.Vectors.{StandsFor, sum_of, sums_of}
use Rattle.term_lists.specs.declared.key.Key.{Key as CodeKey}
use Rattle.term_lists.specs.declared.ring.Ring.{Ring}
use Rattle.basis_steps.proofs.Growing.{each_at}
use Rattle.member_products.proofs.Ranks.{of_rank, ranked_by, ring_lawful}
use Rattle.member_products.specs.Generators.{AreGenerators, IsRanked, IsVectorOf}
use Rattle.cofactor_track.specs.Members.{IsCombined}

module _ (ring : Ring) (rank : ℕ) (generators : List (List (CodeKey × ℕ))) where
  -- a multiple
  pub combined_multiple :
      (c : ℕ) (m : Exponents (variables ring)) (v a w b : List (CodeKey × ℕ))
      → IsCombined ring rank generators v a → IsVectorOf ring w → IsVectorOf ring b
      → StandsFor ring w (scale c m (sum_of (variables ring) v)) → StandsFor ring b (scale c m (sum_of (variables ring) a))
      → IsCombined ring rank generators w b
  combined_multiple c m v a w b h iw ib sw sb =
      let n = variables ring in
      let p = ring.modulus.value in
      let G : List (FormalSum n) = sums_of n generators in
      let one : 1 < p = (ring_lawful ring rank).domain.above_one in
      let pos : 0 < p = omega arith in
      record {
        vector = ranked_by ring rank w _ iw sw (IsOfRank_scale c m _ (of_rank ring rank v h.vector.positions));
        cof = ranked_by ring (length generators) b _ ib sb (IsOfRank_scale c m _ (of_rank ring (length generators) a h.cof.positions));
        sums = IsSame_trans sw (IsSame_trans (IsSame_scale pos c m h.sums) (IsSame_trans (IsSame_of p _ _ (sym (combination-scale G c m (sum_of n a)))) (IsSame_combination pos G _ _ (IsSame_sym sb))));
      }

  -- a sum with a multiple of another
  pub combined_sum :
      (c : ℕ) (m : Exponents (variables ring)) (u a v b w d : List (CodeKey × ℕ))
      → IsCombined ring rank generators u a → IsCombined ring rank generators v b → IsVectorOf ring w → IsVectorOf ring d
      → StandsFor ring w (sum_of (variables ring) u ++ scale c m (sum_of (variables ring) v))
      → StandsFor ring d (sum_of (variables ring) a ++ scale c m (sum_of (variables ring) b))
      → IsCombined ring rank generators w d
  combined_sum c m u a v b w d h g iw id sw sd =
      let n = variables ring in
      let p = ring.modulus.value in
      let G : List (FormalSum n) = sums_of n generators in
      let one : 1 < p = (ring_lawful ring rank).domain.above_one in
      let pos : 0 < p = omega arith in
      let e : combination G (sum_of n a ++ scale c m (sum_of n b)) ≡ combination G (sum_of n a) ++ scale c m (combination G (sum_of n b)) =
      combination-append G (sum_of n a) (scale c m (sum_of n b)) ∙ ap (λ z. combination G (sum_of n a) ++ z) (combination-scale G c m (sum_of n b)) in
      record {
        vector = ranked_by ring rank w _ iw sw (IsOfRank_append _ _ (of_rank ring rank u h.vector.positions) (IsOfRank_scale c m _ (of_rank ring rank v g.vector.positions)));
        cof = ranked_by ring (length generators) d _ id sd (IsOfRank_append _ _ (of_rank ring (length generators) a h.cof.positions) (IsOfRank_scale c m _ (of_rank ring (length generators) b g.cof.positions)));
        sums = IsSame_trans sw (IsSame_trans (IsSame_append h.sums (IsSame_scale pos c m g.sums)) (IsSame_trans (IsSame_of p _ _ (sym e)) (IsSame_combination pos G _ _ (IsSame_sym sd))));
      }

  -- a generator, with the cofactors e_i
  pub combined_generator :
      (i : ℕ) (v a : List (CodeKey × ℕ))
      → AreGenerators ring rank generators → i < length generators → v ≡ get_or generators i [] → IsVectorOf ring a
      → StandsFor ring a (((i, unit (variables ring)), 1) ∷ [])
      → IsCombined ring rank generators v a
  combined_generator i v a h lt e ia sa =
      let n = variables ring in
      let p = ring.modulus.value in
      let G : List (FormalSum n) = sums_of n generators in
      let one : 1 < p = (ring_lawful ring rank).domain.above_one in
      let pos : 0 < p = omega arith in
      let u : FormalSum n = ((i, unit n), 1) ∷ [] in
      let same : sum_of n v ≡ combination G u =
      ap (sum_of n) e ∙ sym (get_or-map (sum_of n) generators i [] [] lt) ∙ sym (append-nil (scale 1 (unit n) (get_or G i [])) ∙ scale-one (get_or G i [])) in
      record {
        vector = subst (IsRanked ring rank) (sym e) (each_at (IsRanked ring rank) generators i [] h lt);
        cof = ranked_by ring (length generators) a u ia sa (IsOfRank_of p (length generators) u (lt, tt));
        sums = IsSame_trans (IsSame_of p _ _ same) (IsSame_combination pos G _ _ (IsSame_sym sa));
      }
