use Rattle.std.specs.Prelude.{IfOk}
use Rattle.std.proofs.Common.{List, [], ap, subst, subst₂, sym, ℕ, ◌∙◌, ◌≡◌}
use Rattle.formal_sums.specs.FormalSums.{FormalSum}
use Rattle.term_lists.specs.Rings.{variables}
use Rattle.term_lists.specs.Vectors.{sums_of}
use Rattle.term_lists.specs.declared.key.Key.{Key as CodeKey}
use Rattle.column_passes.specs.Passing.{AreGradedColumns}
use Rattle.constant_passes.specs.Choosing.{IsChosen, columns_without_rows}
use Rattle.column_passes.proofs.Lists.{map_same}
use Rattle.minimal_betti.proofs.Stepped.{lowered_alike}
use Rattle.minimal_betti.proofs.complementing.chosen_in.Goals as goal

pub chosen-requires-clause-graded : goal.chosen-requires-clause-graded
chosen-requires-clause-graded c = λ rows told.
    let ring = c.args.ring.now in
    let n = variables ring in
    let F = c.as_slice.result.now in
    let same : columns_without_rows rows (sums_of n F) ≡ sums_of n c.args.map.now.columns =
    lowered_alike n rows [] c.none_leaving-none.result F told c.none_leaving-none.ensures ∙ map_same (sums_of n F)
    ∙ ap (λ (z : List (List (CodeKey × ℕ))). sums_of n z) c.as_slice.ensures in
    subst₂ (λ (ds : List ℕ) (H : List (FormalSum n)). AreGradedColumns ring ds H) (sym c.deref.ensures.value) (sym same) c.requires.graded

pub returns : goal.returns
returns c =
    let ring = c.args.ring.now in
    let n = variables ring in
    let F = c.as_slice.result.now in
    subst (λ (H : List (FormalSum n)). IfOk c.chosen.result (IsChosen ring H))
    (map_same (sums_of n F) ∙ ap (λ (z : List (List (CodeKey × ℕ))). sums_of n z) c.as_slice.ensures)
    (c.chosen.ensures [] c.none_leaving-none.ensures)
