use Rattle.std.proofs.Common.{[], ap, arith, get_or, subst₂, sym, ◌<◌, ◌∙◌}
use Rattle.std.proofs.lemmas.List.{get_or_default}
use Rattle.formal_sums.proofs.Linear.{linear_same}
use Rattle.formal_sums.proofs.Sameness.{IsSame_of, IsSame_trans}
use Rattle.minimal_laws.proofs.Rows.{linear_without_row}
use Rattle.minimal_laws.specs.Cancellation.{cleared}
use Rattle.term_lists.specs.Rings.{variables}
use Rattle.term_lists.specs.Vectors.{StandsFor, sum_of}
use Rattle.vector_division.proofs.Members.{sums_at}
use Rattle.column_passes.specs.Clearing.{ClearingStops}
use Rattle.minimal_betti.proofs.splitting.split_column.Goals as goal

pub splitting_stop-requires-clause-stop : goal.splitting_stop-requires-clause-stop
splitting_stop-requires-clause-stop c =
    let columns = c.args.columns.now in
    let x = c.index-as_slice-at.result in
    let at = c.index-as_slice-at.is ∙ ap (λ l. get_or l c.args.at.column x) c.as_slice.ensures
    ∙ get_or_default columns c.args.at.column x [] c.requires.inside in
    let y = c.index-as_slice-i.result in
    let other = c.in_ok-v.ensures ∙ c.index-as_slice-i.is ∙ ap (λ l. get_or l c.args.i y) c.as_slice-2.ensures
    ∙ get_or_default columns c.args.i y [] c.requires.index in
    subst₂ (λ w v. ClearingStops c.args.at.row w v c.in-Err.stop) at other c.in-Err.ensures.stop

pub returns-in-Ok-clause-sum : goal.returns-in-Ok-clause-sum
returns-in-Ok-clause-sum c =
    let ring = c.args.ring.now in
    let n = variables ring in
    let p = ring.modulus.value in
    let above : 1 < p = (c.lawful_setting.ensures 0).domain.above_one in
    let x = c.index-as_slice-at.result in
    let columns = c.args.columns.now in
    let at = c.index-as_slice-at.is ∙ ap (λ l. get_or l c.args.at.column x) c.as_slice.ensures
    ∙ get_or_default columns c.args.at.column x [] c.requires.inside in
    let w = ap (sum_of n) at ∙ sym (sums_at n columns c.args.at.column) in
    let y = c.index-as_slice-i.result in
    let other = c.in_ok-v.ensures ∙ c.index-as_slice-i.is ∙ ap (λ l. get_or l c.args.i y) c.as_slice-2.ensures
    ∙ get_or_default columns c.args.i y [] c.requires.index in
    let h = subst₂ (λ z v. StandsFor ring c.in-Ok.cleared (cleared p c.args.at.row c.args.inverse z (sum_of n v))) w other c.in-Ok.ensures.sum in
    IsSame_trans (IsSame_of p _ _ (c.vector_without.ensures.sum n)) (linear_same (omega (arith, above)) (linear_without_row c.args.at.row) h)

pub splitting_stop-requires-clause-inside : goal.splitting_stop-requires-clause-inside
splitting_stop-requires-clause-inside c = c.requires.inside

pub splitting_stop-requires-clause-index : goal.splitting_stop-requires-clause-index
splitting_stop-requires-clause-index c = c.requires.index

pub splitting_stop-requires-clause-apart : goal.splitting_stop-requires-clause-apart
splitting_stop-requires-clause-apart c = c.requires.apart

pub splitting_stop-requires-clause-columns : goal.splitting_stop-requires-clause-columns
splitting_stop-requires-clause-columns c = c.requires.columns

pub cleared_vector-requires-clause-inverse : goal.cleared_vector-requires-clause-inverse
cleared_vector-requires-clause-inverse c = c.requires.inverse
