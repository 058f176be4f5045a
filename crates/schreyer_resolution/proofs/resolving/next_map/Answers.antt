use Rattle.std.specs.Prelude.{IfErr, IfOk}
use Rattle.std.proofs.Common.{subst₂, sym, ◌∙◌}
use Rattle.schreyer_resolution.specs.Columns.{ColumnStops}
use Rattle.schreyer_resolution.specs.Progress.{IsNextMap}
use Rattle.schreyer_resolution.proofs.FirstMaps.{split_unique}
use Rattle.schreyer_resolution.proofs.resolving.next_map.Goals as goal

pub map_above-requires-clause-maps : goal.map_above-requires-clause-maps
map_above-requires-clause-maps c = c.in-Some.ensures.cases.0

pub map_above-requires-clause-top : goal.map_above-requires-clause-top
map_above-requires-clause-top c = c.requires.top c.in-Some.below.now c.in-Some.columns.now c.in-Some.ensures.cases.0

pub map_above-requires-clause-heads : goal.map_above-requires-clause-heads
map_above-requires-clause-heads c = c.requires.heads c.in-Some.below.now c.in-Some.columns.now c.in-Some.ensures.cases.0

pub returns-clause-next : goal.returns-clause-next
returns-clause-next c = λ below last e.
    let u = split_unique c.in-Some.below.now below c.in-Some.columns.now last (sym c.in-Some.ensures.cases.0 ∙ e) in
    subst₂ (λ b l. IfOk c.map_above.result (IsNextMap c.args.ring.now b l)) u.0 u.1 c.map_above.ensures.next

pub returns-clause-stop : goal.returns-clause-stop
returns-clause-stop c = λ below last e.
    let u = split_unique c.in-Some.below.now below c.in-Some.columns.now last (sym c.in-Some.ensures.cases.0 ∙ e) in
    subst₂ (λ b l. IfErr c.map_above.result (ColumnStops c.args.ring.now b l)) u.0 u.1 c.map_above.ensures.stop
