use Rattle.std.specs.Prelude.{IfSome}
use Rattle.std.proofs.Common.{ap, map, subst, ◌∙◌}
use Rattle.term_lists.specs.Rings.{variables}
use Rattle.column_passes.specs.Passing.{Pivot}
use Rattle.column_passes.specs.Placing.{all_removed}
use Rattle.minimal_betti.specs.Complementing.{AreComplemented}
use Rattle.minimal_betti.proofs.complementing.complemented_map.Goals as goal

pub complemented_columns-requires-clause-rows : goal.complemented_columns-requires-clause-rows
complemented_columns-requires-clause-rows c =
    (map (λ (s : Pivot (variables c.args.ring.now)). s.row) c.requires.chosen.pivots, c.requires.chosen.rows)

pub complemented_columns-requires-clause-indices : goal.complemented_columns-requires-clause-indices
complemented_columns-requires-clause-indices c =
    (map (λ (s : Pivot (variables c.args.ring.now)). s.index) c.requires.chosen.pivots, c.requires.chosen.indices)

pub complemented_columns-requires-clause-after : goal.complemented_columns-requires-clause-after
complemented_columns-requires-clause-after c = c.requires.after

pub returns-in_ok-degrees-in-Some : goal.returns-in_ok-degrees-in-Some
returns-in_ok-degrees-in-Some c = λ choice out after.
    let ring = c.args.ring.now in
    let is = map (λ (s : Pivot (variables ring)). s.index) choice.pivots in
    record {
      columns = subst (λ o. IfSome o (AreComplemented ring choice.pivots out c.args.map.columns)) c.in-Some.is
          (c.in_ok-complemented_columns.ensures choice.pivots out choice.firsts choice.rows choice.indices after);
      degrees = c.in_ok-degrees-in-Some.ensures out after ∙ ap (all_removed out) (c.in_ok-stay-in-Some.ensures is choice.indices);
    }
