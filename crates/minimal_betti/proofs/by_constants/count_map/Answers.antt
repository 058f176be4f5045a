use Rattle.std.proofs.Common.{List, ap, map, subst, subst₂, sym, ℕ, ◌∙◌, ◌≡◌}
use Rattle.betti_laws.specs.Tables.{occurrences}
use Rattle.term_lists.specs.Rings.{variables}
use Rattle.term_lists.specs.Vectors.{sums_of}
use Rattle.term_lists.specs.declared.key.Key.{Key as CodeKey}
use Rattle.resolution_maps.specs.Resolved.{degrees_of}
use Rattle.column_passes.specs.Passing.{AreGradedColumns, Pivot}
use Rattle.column_passes.specs.Placing.{ArePlacesAfter, all_removed}
use Rattle.constant_passes.specs.Choosing.{IsChosen, columns_without_rows}
use Rattle.constant_passes.specs.declared.leaving.Chosen.{Chosen}
use Rattle.minimal_betti.proofs.by_constants.count_map.Goals as goal

pub chosen-requires-clause-graded : goal.chosen-requires-clause-graded
chosen-requires-clause-graded c = λ rows told.
    let ring = c.args.ring.now in
    let m = c.args.map.now in
    let degrees : c.deref-2.result.now ≡ degrees_of ring m.row_degrees.items m.columns =
    c.deref-2.ensures.value ∙ c.in_ok-degrees.ensures ∙ ap (λ (z : List ℕ). degrees_of ring z m.columns) c.deref.ensures.value in
    subst₂ (λ (ds : List ℕ) (F : List (List (CodeKey × ℕ))). AreGradedColumns ring ds (columns_without_rows rows (sums_of (variables ring) F))) (sym degrees)
    (sym c.as_slice.ensures) (c.requires.graded rows told)

pub returns : goal.returns
returns c = λ rows told.
    let ring = c.args.ring.now in
    let n = variables ring in
    let m = c.args.map.now in
    let choice : IsChosen ring (columns_without_rows rows (sums_of n m.columns)) c.replace.new.dest =
    subst₂ (λ (F : List (List (CodeKey × ℕ))) (x : Chosen). IsChosen ring (columns_without_rows rows (sums_of n F)) x) c.as_slice.ensures
    (sym c.replace.ensures.after)
    (c.in_ok-next.ensures rows told) in
    let out = map (λ (s : Pivot n). s.row) choice.pivots in
    let indices = map (λ (s : Pivot n). s.index) choice.pivots in
    let kept = c.in_ok-kept.ensures out (subst (λ (x : Chosen). ArePlacesAfter out x.rows) c.replace.ensures.after choice.rows) in
    record {
      choice = choice;
      counted = λ counts here before. c.in_ok-push_step.ensures counts (λ d. here d ∙ ap (occurrences d) (sym (c.deref-3.ensures.value ∙ kept))) before;
      degrees = c.in_ok-left.ensures indices (subst (λ (x : Chosen). ArePlacesAfter indices x.indices) c.replace.ensures.after choice.indices)
          ∙ ap (all_removed indices) (c.in_ok-degrees.ensures ∙ ap (λ (z : List ℕ). degrees_of ring z m.columns) c.deref.ensures.value);
    }
