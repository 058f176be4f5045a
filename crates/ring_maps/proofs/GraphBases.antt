-- What the reduced basis of a graph shows: preimages, and polynomials as images (IVA chapter 3, section 3 and chapter 7, section 3)
use Rattle.std.proofs.Common.{Bool, List, [], ap, append-nil, ap₂, arith, false, get_or, length, refl, subst, sym, true, true≢false, ℕ, ◌*◌, ◌++◌, ◌+◌, ◌-◌, ◌<◌, ◌∙◌, ◌∷◌, ◌≡◌}
use Rattle.std.proofs.lemmas.List.{length-map}
use Rattle.std.specs.Prelude.{◌&&◌}
use Rattle.residues.proofs.Congruences.{IsCongruent_of, IsCongruent_trans}
use Rattle.residues.specs.Residues.{IsCongruent}
use Rattle.monomials.proofs.Monomials.{and_left, and_right}
use Rattle.monomials.specs.Exponents.{unit}
use Rattle.formal_sums.proofs.Combining.{IsMember_same}
use Rattle.formal_sums.proofs.OfRank.{IsOfRank_append, IsOfRank_member, IsOfRank_of, IsOfRank_same, IsOfRank_scale}
use Rattle.formal_sums.proofs.Sameness.{IsSame_of, IsSame_past, IsSame_refl, IsSame_sym, IsSame_trans}
use Rattle.formal_sums.proofs.TakenAway.{taken_away}
use Rattle.formal_sums.proofs.WeightedSums.{indicator_other}
use Rattle.formal_sums.specs.Combinations.{IsMember, IsSameModule, combination}
use Rattle.formal_sums.specs.FormalSums.{Each, FormalSum, HasRank, IsOfRank, IsSame, Key, coefficient, indicator, scale}
use Rattle.orders.specs.KeyOrders.{top}
use Rattle.orders.specs.WeightedOrders.{weighted_elimination}
use Rattle.bases.proofs.Leading.{positive}
use Rattle.bases.specs.Bases.{IsReducedBasis}
use Rattle.bases.specs.Settings.{IsLawful, Setting}
use Rattle.reduced_bases.proofs.Comparing.{IsReducedBasis_same}
use Rattle.division_laws.specs.Elimination.{has_none_of_first}
use Rattle.syzygy_laws.specs.Kernels.{all_kept}
use Rattle.operation_laws.proofs.Linear.{Each_at, IsSame_linear}
use Rattle.operation_laws.proofs.RunFacts.{run_of}
use Rattle.operation_laws.proofs.Running.{lawful_elimination, run_itself}
use Rattle.operation_laws.specs.Lifts.{IsRemainder}
use Rattle.operation_laws.specs.Operations.{HasKeptKeys, elimination_setting}
use Rattle.map_laws.proofs.Evaluating.{in_first_rank}
use Rattle.map_laws.proofs.Images.{found_law, graph_run, image_law, kernel_members, preimage_law}
use Rattle.map_laws.proofs.KernelBasis.{second_free, second_reduced}
use Rattle.map_laws.proofs.SecondVariables.{second_rank}
use Rattle.map_laws.proofs.Substituting.{IsLinear_substituted}
use Rattle.map_laws.specs.Graphs.{from_second, graph_list, in_first, of_second}
use Rattle.map_laws.specs.Substitution.{substituted}
use Rattle.term_lists.proofs.NormalVectors.{residues_of, vector_positions}
use Rattle.term_lists.specs.Rings.{ring_comparison, setting, variables}
use Rattle.term_lists.specs.Vectors.{HasPositions, IsVectorOver, StandsFor, sum_of, sums_of}
use Rattle.term_lists.specs.declared.ring.Ring.{Ring}
use Rattle.module_vectors.specs.declared.trail.WorkStop.{WorkStop}
use Rattle.module_vectors.specs.declared.trail.WorkStop.TheVariants as works
use Rattle.vector_division.proofs.Freeing.{HasFreeTerms_of_uncovered}
use Rattle.vector_division.proofs.Occurring.{nonzeros}
use Rattle.vector_division.specs.Divisions.{DivisionStops}
use Rattle.groebner_iface.specs.Runs.{IsReducedBasisOf}
use Rattle.syzygy_engine.specs.Answers.{IsBasisOfThose}
use Rattle.syzygy_engine.specs.Runs.{AreVectorsFor}
use Rattle.syzygy_engine.proofs.Standing.{Terms, rank_of_positions, ranks_of_positions, stand_basis, stand_module}
use Rattle.syzygy_engine.proofs.VectorLists.{positions_for}
use Rattle.ideal_ops.specs.GradedOrders.{IsGrevlex}
use Rattle.ideal_ops.proofs.GradedOrders.{graded_lawful, graded_setting, in_own_order}
use Rattle.ideal_ops.specs.Products.{WorkStops}
use Rattle.ring_maps.specs.Graphs.{IsExpressionTrail}
use Rattle.remainders.specs.Remainders.{IsRemainderOf}
use Rattle.ring_maps.specs.GraphRings.{IsGraphRing}
use Rattle.ring_maps.specs.Multiples.{AreWeightMultiples}
use Rattle.ring_maps.specs.GraphSteps.{IsBasisOfGraph, IsGraphBasis}
use Rattle.ring_maps.specs.Maps.{HasImage, IsExpression, IsInPreimage, grevlex_setting}
use Rattle.ring_maps.proofs.AlikeOrders.{basis_alike, multiple_alike}
use Rattle.ring_maps.proofs.GraphRings.{doubled_graph, graph_count, graph_modulus, graph_setting}

-- ---- kept keys
-- where the terms are kept, the other keys have no coefficient
kept_keys : {m : ℕ} (keep : Key m → Bool) (v : FormalSum m) → all_kept keep v ≡ true → (k : Key m) → keep k ≡ false → coefficient v k ≡ 0
kept_keys keep [] h k off = refl
kept_keys keep (t ∷ v) h k off =
    let on = and_left (keep t.0) (all_kept keep v) h in
    let i : indicator k t.0 ≡ 0 = indicator_other k t.0 (λ e. true≢false (sym on ∙ ap keep (sym e) ∙ off)) in
    ap₂ (λ x y. t.1 * x + y) i (kept_keys keep v (and_right (keep t.0) (all_kept keep v) h) k off) ∙ omega arith

-- and where they have none, terms with a coefficient are kept
kept_terms :
    {m : ℕ} (p : ℕ) (keep : Key m → Bool) (w v : FormalSum m) → Each (λ t. IsCongruent p (coefficient w t.0) 0 → ⊥) v → HasKeptKeys p keep w → all_kept keep v ≡ true
kept_terms p keep w [] h kept = refl
kept_terms p keep w (t ∷ v) h kept = ap₂ ◌&&◌ (go (keep t.0) refl) (kept_terms p keep w v h.1 kept)
  where
    go : (b : Bool) → keep t.0 ≡ b → keep t.0 ≡ true
    go true e = e
    go false e = absurd (h.0 (kept t.0 e))

from_second_rank : {m : ℕ} (n r : ℕ) (v : FormalSum m) → HasRank r v → HasRank r (from_second n v)
from_second_rank n r [] h = tt
from_second_rank n r (t ∷ v) h = (h.0, from_second_rank n r v h.1)

swapped : {n p : ℕ} (v w : FormalSum n) → IsSame p (v ++ w) (w ++ v)
swapped {n} {p} v w =
    IsSame_trans (IsSame_past v w w [] (IsSame_of p _ _ (sym (append-nil w)))) (IsSame_of p _ _ (ap (λ z. w ++ z) (append-nil v)))

-- a run over the ring that is doubled gives such a basis
pub of_doubled : (ring graph : Ring) (images list basis : List Terms) → IsGraphBasis ring images list graph basis → IsBasisOfGraph ring images list graph basis
of_doubled ring graph images list basis h = record { listed = h.listed; ring_of = doubled_graph ring graph h.run.doubled; vectors = h.run.vectors; reduced = h.reduced }

module _ (ring graph : Ring) (images list basis : List Terms) (h : IsBasisOfGraph ring images list graph basis)
    (lawful : (rank : ℕ) → IsLawful (setting ring (variables ring) (ring_comparison ring (variables ring)) rank))
    (f : Each (HasPositions 1) images) (l : Each (HasPositions 1) list) where
  abbrev S : Setting (variables ring)
  S = setting ring (variables ring) (ring_comparison ring (variables ring)) 1

  abbrev T : Setting (variables graph)
  T = elimination_setting graph.weights (variables graph) (variables ring) (setting ring (variables ring) (ring_comparison ring (variables ring)) 1)

  -- with the ring's weights twice
  abbrev D : Setting (variables graph)
  D = elimination_setting (ring.weights ++ ring.weights) (variables graph) (variables ring) (setting ring (variables ring) (ring_comparison ring (variables ring)) 1)

  abbrev I : List (FormalSum (variables graph))
  I = graph_list ring.modulus.value (variables graph) (sums_of (variables ring) images) (sums_of (variables ring) list)

  two : variables graph ≡ variables ring + variables ring
  two = graph_count ring graph h.ring_of

  lawful_T : IsLawful T
  lawful_T = lawful_elimination graph.weights (variables graph) (variables ring) S (lawful 1)

  same : IsSameModule ring.modulus.value (sums_of (variables graph) h.listed) I
  same = subst (λ p. IsSameModule p (sums_of (variables graph) h.listed) I) (graph_modulus ring graph h.ring_of) (stand_module graph h.listed I h.vectors.stand)

  -- it is that of the graph, as a list of formal sums
  pub is_graph : IsReducedBasis T I (sums_of (variables graph) basis)
  is_graph =
      IsReducedBasis_same T lawful_T (sums_of (variables graph) h.listed) I (sums_of (variables graph) basis) same
      (subst (λ U. IsReducedBasis U (sums_of (variables graph) h.listed) (sums_of (variables graph) basis)) (graph_setting ring graph 1 S h.ring_of refl refl) h.reduced.basis)

  -- where its weights behind are those of the ring, or a multiple of them, it is so by the ring's weights twice
  pub by_same_weights : graph.weights ≡ ring.weights ++ ring.weights → IsReducedBasis D I (sums_of (variables graph) basis)
  by_same_weights e = subst (λ w. IsReducedBasis (elimination_setting w (variables graph) (variables ring) S) I (sums_of (variables graph) basis)) e is_graph

  pub by_multiples :
      (vs : List ℕ) → graph.weights ≡ ring.weights ++ vs → length vs ≡ variables ring → AreWeightMultiples ring.weights vs
      → IsReducedBasis D I (sums_of (variables graph) basis)
  by_multiples vs e count h =
      let n = variables ring in
      basis_alike ring.modulus.value 1 (ring.weights ++ vs) (ring.weights ++ ring.weights) (top (weighted_elimination (ring.weights ++ vs) n))
      (top (weighted_elimination (ring.weights ++ ring.weights) n)) (λ k l. multiple_alike n ring.weights vs k l ring.weighted count two h) I (sums_of (variables graph) basis)
      (subst (λ w. IsReducedBasis (elimination_setting w (variables graph) n S) I (sums_of (variables graph) basis)) e is_graph)

  second_ranks : Each (HasRank 1) (of_second (variables ring) (sums_of (variables graph) basis))
  second_ranks =
      let n = variables ring in
      second_rank S graph.weights I (sums_of (variables graph) basis) (lawful 1) two
      (graph_run S graph.weights (sums_of n images) (lawful 1) refl two (ranks_of_positions n 1 images f) (sums_of n list) (sums_of (variables graph) basis)
      (ranks_of_positions n 1 list l) is_graph)

  -- ---- preimages
  pub member_positions : (members : List Terms) → AreVectorsFor ring (of_second (variables ring) (sums_of (variables graph) basis)) members → Each (HasPositions 1) members
  member_positions members stand = positions_for ring 1 (lawful 1) members (of_second (variables ring) (sums_of (variables graph) basis)) stand second_ranks

  -- where the ring's own order compares them as the graph's does, they are the reduced basis of their module
  pub members_itself :
      IsReducedBasis D I (sums_of (variables graph) basis) → IsGrevlex ring 1 → (members : List Terms) → AreVectorsFor ring (of_second (variables ring) (sums_of (variables graph) basis)) members
      → IsReducedBasisOf ring 1 members members
  members_itself doubled graded members stand =
      let n = variables ring in
      let G = sums_of (variables graph) basis in
      let K = graded_setting ring 1 in
      let ok = graded_lawful ring 1 (lawful 1) in
      stand_basis ring 1 members (of_second n G) (lawful 1) stand.vectors stand.stand (member_positions members stand)
      (in_own_order ring 1 (lawful 1) graded (of_second n G) second_ranks
      (second_reduced K ring.weights ok two refl ring.weighted I G
      (graph_run K (ring.weights ++ ring.weights) (sums_of n images) ok refl two (ranks_of_positions n 1 images f) (sums_of n list) G (ranks_of_positions n 1 list l) doubled)))

  pub basis_of_preimage :
      (members answer : List Terms) → AreVectorsFor ring (of_second (variables ring) (sums_of (variables graph) basis)) members → IsReducedBasisOf ring 1 members answer
      → IsBasisOfThose ring 1 (IsInPreimage ring images list) answer
  basis_of_preimage members answer stand run =
      let n = variables ring in
      let G = sums_of (variables graph) basis in
      let M = sums_of n members in
      let R = sums_of n answer in
      record {
        basis = record {
          vectors = run.vectors;
          positions = run.positions;
          basis = run_itself S (lawful 1) M R (run_of S (lawful 1) M R (ranks_of_positions n 1 members (member_positions members stand)) run.basis);
        };
        members = λ v.
            preimage_law S graph.weights (sums_of n images) (lawful 1) refl two (ranks_of_positions n 1 images f) (sums_of n list) R G v
            (ranks_of_positions n 1 list l) is_graph (IsReducedBasis_same S (lawful 1) M (of_second n G) R (stand_module ring members (of_second n G) stand.stand) run.basis);
      }

module _ (ring graph : Ring) (images basis : List Terms) (h : IsGraphBasis ring images [] graph basis)
    (lawful : (rank : ℕ) → IsLawful (setting ring (variables ring) (ring_comparison ring (variables ring)) rank)) (f : Each (HasPositions 1) images)
    (g u rest : Terms) (g_low : HasPositions 1 g) (hu : StandsFor graph u (in_first (variables graph) (sum_of (variables ring) g)))
    (hd : IsRemainderOf graph basis u rest) (hr : IsVectorOver graph (ring_comparison graph) rest) where
  abbrev S' : Setting (variables ring)
  S' = setting ring (variables ring) (ring_comparison ring (variables ring)) 1

  abbrev ws : List ℕ
  ws = ring.weights ++ ring.weights

  abbrev T' : Setting (variables graph)
  T' = elimination_setting (ring.weights ++ ring.weights) (variables graph) (variables ring) (setting ring (variables ring) (ring_comparison ring (variables ring)) 1)

  abbrev F : List (FormalSum (variables ring))
  F = sums_of (variables ring) images

  abbrev G : List (FormalSum (variables graph))
  G = sums_of (variables graph) basis

  abbrev v : FormalSum (variables graph)
  v = in_first (variables graph) (sum_of (variables ring) g)

  abbrev w : FormalSum (variables graph)
  w = sum_of (variables graph) rest

  ring_of : IsGraphRing ring graph
  ring_of = doubled_graph ring graph h.run.doubled

  twice : variables graph ≡ variables ring + variables ring
  twice = graph_count ring graph ring_of

  modulus : graph.modulus.value ≡ ring.modulus.value
  modulus = graph_modulus ring graph ring_of

  f_ranks : Each (HasRank 1) F
  f_ranks = ranks_of_positions (variables ring) 1 images f

  of_graph : IsReducedBasis T' (graph_list ring.modulus.value (variables graph) F []) G
  of_graph = by_same_weights ring graph images [] basis (of_doubled ring graph images [] basis h) lawful f tt h.run.doubled.weights

  pos : 0 < ring.modulus.value
  pos = positive S' (lawful 1)

  lawful_graph : IsLawful (setting graph (variables graph) (ring_comparison graph (variables graph)) 1)
  lawful_graph = subst IsLawful (sym (graph_setting ring graph 1 S' ring_of refl refl)) (lawful_elimination graph.weights (variables graph) (variables ring) S' (lawful 1))

  -- ---- the remainder
  divided : IsSame ring.modulus.value v (combination G hd.cofactors ++ w)
  divided = subst (λ p. IsSame p v (combination G hd.cofactors ++ w)) modulus (IsSame_trans (IsSame_sym hu) hd.sum)

  inside : IsMember ring.modulus.value G (combination G hd.cofactors)
  inside = record {
    cofactors = hd.cofactors;
    positions = subst (λ k. HasRank k hd.cofactors) (sym (length-map basis (λ b. sum_of (variables graph) b))) hd.ranks;
    sums = IsSame_refl ring.modulus.value (combination G hd.cofactors);
  }

  remains : IsRemainder T' G v w
  remains = record {
    member = IsMember_same G (combination G hd.cofactors) (v ++ scale (ring.modulus.value - 1) (unit (variables graph)) w)
        (taken_away ring.modulus.value v (combination G hd.cofactors) w pos divided) inside;
    free = HasFreeTerms_of_uncovered T' G w hd.free;
  }

  rest_rank : IsOfRank ring.modulus.value 1 w
  rest_rank =
      let p = ring.modulus.value in
      let m = variables graph in
      let a = combination G hd.cofactors in
      let first : IsOfRank p 1 v = IsOfRank_of p 1 v (in_first_rank m 1 (sum_of (variables ring) g) (rank_of_positions (variables ring) 1 g g_low)) in
      let member : IsOfRank p 1 a =
      IsOfRank_member 1 G (λ i lt. IsOfRank_of p 1 (get_or G i []) (Each_at (HasRank 1) [] G (ranks_of_positions m 1 basis h.reduced.positions) i lt)) a inside in
      IsOfRank_same (IsSame_sym (taken_away p v w a pos (IsSame_trans divided (swapped a w)))) (IsOfRank_append v (scale (p - 1) (unit m) a) first (IsOfRank_scale (p - 1) (unit m) a member))

  rest_low : HasRank 1 w
  rest_low =
      rank_of_positions (variables graph) 1 rest
      (vector_positions graph (ring_comparison graph) 1 1 rest w lawful_graph hr (IsSame_refl graph.modulus.value w) (subst (λ p. IsOfRank p 1 w) (sym modulus) rest_rank))

  -- where it has a first variable, no polynomial has the image
  pub no_expression : all_kept (has_none_of_first (variables ring)) w ≡ false → (x : FormalSum (variables ring)) → HasImage ring images g x → ⊥
  no_expression e x image =
      let n = variables ring in
      let kept = found_law S' ws F (lawful 1) refl twice f_ranks G of_graph (sum_of n g) x w remains image.0 image.1 in
      let nonzero = nonzeros (setting graph (variables graph) (ring_comparison graph (variables graph)) 1) lawful_graph w hr.descends (residues_of (variables graph) graph.weights graph.modulus.value rest hr.each) in
      true≢false (sym (kept_terms graph.modulus.value (has_none_of_first n) w w nonzero (subst (λ p. HasKeptKeys p (has_none_of_first n) w) (sym modulus) kept)) ∙ e)

  -- else it is the polynomial
  module _ (e : all_kept (has_none_of_first (variables ring)) w ≡ true) (q : Terms) (hq : IsVectorOver ring (ring_comparison ring) q)
      (stands : StandsFor ring q (from_second (variables ring) w)) where
    kept : HasKeptKeys ring.modulus.value (has_none_of_first (variables ring)) w
    kept = λ k off. IsCongruent_of ring.modulus.value (coefficient w k) 0 (kept_keys (has_none_of_first (variables ring)) w e k off)

    low : HasPositions 1 q
    low =
        vector_positions ring (ring_comparison ring) 1 1 q (from_second (variables ring) w) (lawful 1) hq stands
        (IsOfRank_of ring.modulus.value 1 (from_second (variables ring) w) (from_second_rank (variables ring) 1 w rest_low))

    pub is_expression : IsExpression ring images g q
    is_expression =
        let n = variables ring in
        let p = ring.modulus.value in
        let I = graph_list p (variables graph) F [] in
        let image = image_law S' ws F (lawful 1) refl twice f_ranks G of_graph (sum_of n g) w remains.member kept in
        let K = grevlex_setting ring in
        let ok = graded_lawful ring 1 (lawful 1) in
        let run = graph_run K ws F ok refl twice f_ranks [] G tt of_graph in
        record {
          vector = hq;
          positions = low;
          image_is = (IsOfRank_of p 1 (sum_of n q) (rank_of_positions n 1 q low), IsSame_trans (IsSame_linear pos (substituted F) (IsLinear_substituted F) (sum_of n q) (from_second n w) stands) image);
          kernel = of_second n G;
          basis = second_reduced K ring.weights ok twice refl ring.weighted I G run;
          members = λ x. kernel_members S' ws F (lawful 1) refl twice f_ranks G of_graph x;
          free = λ k c. IsCongruent_trans (stands.by_key k) (second_free K ring.weights ok twice refl ring.weighted I G run w remains.free kept k c);
        }

-- the trail of the division is that of the expression
pub expression_stops :
    (ring graph : Ring) (images basis : List Terms) (g u : Terms) (stop : WorkStop) → IsGraphBasis ring images [] graph basis
    → IsVectorOver graph (ring_comparison graph) u → StandsFor graph u (in_first (variables graph) (sum_of (variables ring) g))
    → DivisionStops graph u basis stop → WorkStops (IsExpressionTrail ring images g) stop
expression_stops ring graph images basis g u works.Memory h hu s d = d
expression_stops ring graph images basis g u (works.Degree t) h hu s d = record {
  over = graph;
  list = h.listed;
  run = h.run;
  basis = basis;
  reduced = h.reduced;
  vector = u;
  over_graph = hu;
  stands = s;
  division = d;
}
