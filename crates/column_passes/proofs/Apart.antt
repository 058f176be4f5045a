-- Rows that pivots clear
use Rattle.std.specs.Prelude.{None, Option, Some}
use Rattle.std.proofs.Common.{List, [], subst, ℕ, ◌*◌, ◌++◌, ◌<◌, ◌∷◌, ◌≡◌}
use Rattle.residues.specs.Residues.{IsCongruent}
use Rattle.monomials.specs.Exponents.{unit}
use Rattle.formal_sums.specs.FormalSums.{Each, FormalSum, coefficient}
use Rattle.minimal_laws.proofs.Clearing.{cleared_component}
use Rattle.minimal_laws.specs.Cancellation.{cleared}
use Rattle.minimal_laws.specs.Minimal.{IsConstantAt}
use Rattle.column_passes.specs.Passing.{Pivot}
use Rattle.column_passes.proofs.Lists.{all_map}
use Rattle.column_passes.proofs.Reordering.{AreChosen, IsChosen, grown, pivots_after, through}
use Rattle.column_passes.proofs.Zeros.{IsZeroAt, each_both, zero_cleared, zero_coefficient}

module _ {n : ℕ} (p : ℕ) where
  -- the column of each pivot has its constant, and is zero in these rows, and in those of the pivots before
  abbrev pub AreZeroBefore : List ℕ → List (Pivot n) → Type 0
  AreZeroBefore rows [] = Unit {0}
  AreZeroBefore rows (s ∷ pivots) =
      (IsConstantAt p s.column s.row × IsCongruent p (s.inverse * coefficient s.column (s.row, unit n)) 1)
      × Each (λ r. IsZeroAt p r s.column) rows × AreZeroBefore (s.row ∷ rows) pivots

  module _ (pos : 0 < p) where
    zero_all :
        (rows : List ℕ) (pivots : List (Pivot n)) (v : FormalSum n) → AreZeroBefore rows pivots → Each (λ r. IsZeroAt p r v) rows
        → Each (λ (s : Pivot n). IsZeroAt p s.row (through p pivots v)) pivots × Each (λ r. IsZeroAt p r (through p pivots v)) rows
    zero_all rows [] v h z = (tt, z)
    zero_all rows (s ∷ pivots) v h z =
        let v' = cleared p s.row s.inverse s.column v in
        let here : IsZeroAt p s.row v' = cleared_component pos s.row s.inverse s.column h.0.1 h.0.0.alone v in
        let others : Each (λ r. IsZeroAt p r v') rows = each_both _ _ _ rows (λ r a b. zero_cleared p pos r s.row s.inverse s.column v a b) h.1 z in
        let q = zero_all (s.row ∷ rows) pivots v' h.2 (here, others) in
        ((q.1.0, q.0), q.1.1)

    apart_end :
        (rows : List ℕ) (pivots : List (Pivot n)) (s : Pivot n) → AreZeroBefore rows pivots → IsConstantAt p s.column s.row
        → IsCongruent p (s.inverse * coefficient s.column (s.row, unit n)) 1 → Each (λ r. IsZeroAt p r s.column) rows
        → Each (λ (t : Pivot n). IsZeroAt p t.row s.column) pivots → AreZeroBefore rows (pivots ++ s ∷ [])
    apart_end rows [] s h k e zr zs = ((k, e), zr, tt)
    apart_end rows (t ∷ pivots) s h k e zr zs = (h.0, h.1, apart_end (t.row ∷ rows) pivots s h.2 k e (zs.0, zr) zs.1)

    pub grown_apart :
        (choice : Option (ℕ × ℕ)) (c : ℕ) (v : FormalSum n) (pivots : List (Pivot n)) → AreZeroBefore [] pivots → IsChosen p choice (through p pivots v)
        → AreZeroBefore [] (grown p choice c v pivots)
    grown_apart None c v pivots h k = h
    grown_apart (Some a) c v pivots h k = apart_end [] pivots _ h k.0 k.2 tt (zero_all [] pivots v h tt).0

    pub chosen_apart :
        (F : ℕ → FormalSum n) (choice : ℕ → Option (ℕ × ℕ)) (pivots : List (Pivot n)) (cs : List ℕ) → AreZeroBefore [] pivots → AreChosen p F choice pivots cs
        → AreZeroBefore [] (pivots_after p F choice pivots cs)
    chosen_apart F choice pivots [] h k = h
    chosen_apart F choice pivots (c ∷ cs) h k = chosen_apart F choice (grown p (choice c) c (F c) pivots) cs (grown_apart (choice c) c (F c) pivots h k.0) k.1

    -- so a constant after them stands in another row
    pub free_row :
        (pivots : List (Pivot n)) (v : FormalSum n) (r : ℕ) → AreZeroBefore [] pivots → IsConstantAt p (through p pivots v) r
        → Each (λ (s : Pivot n). s.row ≡ r → ⊥) pivots
    free_row pivots v r h k =
        all_map _ _ pivots (λ s z e. k.nonzero
        (subst (λ q. IsCongruent p (coefficient (through p pivots v) (q, unit n)) 0) e (zero_coefficient p pos s.row (through p pivots v) (unit n) z)))
        (zero_all [] pivots v h tt).0
