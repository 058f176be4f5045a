-- Lists of vectors of a ring that stand for formal sums
use Rattle.std.proofs.Common.{List, [], arith, get_or, length, refl, ℕ, ◌++◌, ◌<◌, ◌∷◌}
use Rattle.formal_sums.proofs.OfRank.{IsOfRank_of}
use Rattle.formal_sums.proofs.Sameness.{IsSame_of}
use Rattle.formal_sums.proofs.WeightedSums.{Each_append}
use Rattle.formal_sums.specs.FormalSums.{Each, FormalSum, HasRank}
use Rattle.bases.specs.Settings.{IsLawful}
use Rattle.operation_laws.proofs.Linear.{Each_at, Each_tabulate}
use Rattle.term_lists.proofs.NormalVectors.{vector_positions}
use Rattle.term_lists.specs.Rings.{ring_comparison, setting, variables}
use Rattle.term_lists.specs.Vectors.{HasPositions, IsVectorOver, StandsFor}
use Rattle.term_lists.specs.declared.ring.Ring.{Ring}
use Rattle.syzygy_engine.specs.Runs.{AreVectorsFor}
use Rattle.syzygy_engine.proofs.Standing.{Terms, stand_next}

-- their positions are below the rank of the formal sums
pub positions_for :
    (ring : Ring) (rank : ℕ) → IsLawful (setting ring (variables ring) (ring_comparison ring (variables ring)) rank)
    → (list : List Terms) (G : List (FormalSum (variables ring))) → AreVectorsFor ring G list → Each (HasRank rank) G → Each (HasPositions rank) list
positions_for ring rank lawful list G h ranks = Each_tabulate (HasPositions rank) [] list (λ k lt.
    let l : k < length G = omega (arith, lt, h.stand.count) in
    vector_positions ring (ring_comparison ring) rank rank (get_or list k []) (get_or G k []) lawful (Each_at _ [] list h.vectors k lt)
    (h.stand.each k)
    (IsOfRank_of ring.modulus.value rank (get_or G k []) (Each_at (HasRank rank) [] G ranks k l)))

-- one vector more
pub vectors_next :
    (ring : Ring) (list : List Terms) (G : List (FormalSum (variables ring))) (v : Terms) (g : FormalSum (variables ring))
    → AreVectorsFor ring G list → IsVectorOver ring (ring_comparison ring) v → StandsFor ring v g → AreVectorsFor ring (G ++ g ∷ []) (list ++ v ∷ [])
vectors_next ring list G v g h hv s = record {
  vectors = Each_append _ list (v ∷ []) h.vectors (hv, tt);
  stand = stand_next ring list G v g h.stand s;
}

pub vectors_none : (ring : Ring) → AreVectorsFor ring [] []
vectors_none ring = record { vectors = tt; stand = record { count = refl; each = λ i. IsSame_of ring.modulus.value _ _ refl } }
