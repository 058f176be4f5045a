-- Vectors that have the second variables of a graph alone
use Rattle.std.proofs.Common.{List, [], ap, append_assoc, false, map, sym, true, ℕ, ◌++◌, ◌∙◌, ◌∷◌, ◌≡◌}
use Rattle.std.proofs.lemmas.List.{map-append}
use Rattle.formal_sums.specs.FormalSums.{FormalSum}
use Rattle.division_laws.specs.Elimination.{has_none_of_first}
use Rattle.syzygy_laws.specs.Kernels.{all_kept}
use Rattle.operation_laws.specs.Operations.{eliminated}
use Rattle.map_laws.specs.Graphs.{from_second, of_second}
use Rattle.term_lists.proofs.Merges.{sum_of-append}
use Rattle.term_lists.specs.Vectors.{sum_of}
use Rattle.term_lists.specs.declared.key.Key.{Key as CodeKey}
use Rattle.syzygy_engine.proofs.Standing.{Terms}
use Rattle.ideal_ops.proofs.Free.{free_kept, free_left}

-- ---- terms, taken out of the front
pub second_step :
    (n m : ℕ) (done rest rest' : Terms) (x y : CodeKey × ℕ) (all : Terms) → rest ≡ x ∷ rest' → sum_of n (y ∷ []) ≡ from_second n (sum_of m (x ∷ []))
    → sum_of n done ++ from_second n (sum_of m rest) ≡ from_second n (sum_of m all)
    → sum_of n (done ++ y ∷ []) ++ from_second n (sum_of m rest') ≡ from_second n (sum_of m all)
second_step n m done rest rest' x y all e s h =
    ap (λ z. z ++ from_second n (sum_of m rest')) (sum_of-append n done (y ∷ []) ∙ ap (λ z. sum_of n done ++ z) s)
    ∙ append_assoc (sum_of n done) (from_second n (sum_of m (x ∷ []))) (from_second n (sum_of m rest'))
    ∙ ap (λ z. sum_of n done ++ from_second n (sum_of m z)) (sym e) ∙ h

-- ---- the members of a basis, one after another
pub second_kept :
    {m : ℕ} (n : ℕ) (G : List (FormalSum m)) (g : FormalSum m) → all_kept (has_none_of_first n) g ≡ true → of_second n (G ++ g ∷ []) ≡ of_second n G ++ from_second n g ∷ []
second_kept n G g e = ap (map (from_second n)) (free_kept n G g e) ∙ map-append (from_second n) (eliminated n G) (g ∷ [])

pub second_left :
    {m : ℕ} (n : ℕ) (G : List (FormalSum m)) (g : FormalSum m) → all_kept (has_none_of_first n) g ≡ false → of_second n (G ++ g ∷ []) ≡ of_second n G
second_left n G g e = ap (map (from_second n)) (free_left n G g e)
