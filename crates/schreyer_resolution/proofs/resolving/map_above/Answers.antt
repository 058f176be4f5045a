use Rattle.std.specs.Prelude.{IfErr, IfOk}
use Rattle.std.proofs.Common.{[], subst, sym, ◌++◌, ◌∷◌, ◌≡◌}
use Rattle.schreyer_resolution.specs.Columns.{ColumnStops}
use Rattle.schreyer_resolution.specs.Progress.{IsNextMap, IsTopMap}
use Rattle.schreyer_resolution.proofs.FirstMaps.{none_at_all, some_at_all}
use Rattle.schreyer_resolution.proofs.resolving.map_above.Goals as goal

pub second_map-requires-clause-maps : goal.second_map-requires-clause-maps
second_map-requires-clause-maps c =
    subst (λ b. c.args.maps.now ≡ b ++ c.args.columns.now ∷ []) (none_at_all c.args.below.now c.if-is_empty.ensures) c.requires.maps

pub second_map-requires-clause-top : goal.second_map-requires-clause-top
second_map-requires-clause-top c = subst (λ b. IsTopMap c.args.ring.now b c.args.columns.now) (none_at_all c.args.below.now c.if-is_empty.ensures) c.requires.top

pub later_map-requires-clause-some : goal.later_map-requires-clause-some
later_map-requires-clause-some c = some_at_all c.args.below.now c.if-is_empty.ensures

pub returns-then-is_empty-clause-next : goal.returns-then-is_empty-clause-next
returns-then-is_empty-clause-next c =
    subst (λ b. IfOk c.second_map.result (IsNextMap c.args.ring.now b c.args.columns.now)) (sym (none_at_all c.args.below.now c.if-is_empty.ensures)) c.second_map.ensures.next

pub returns-then-is_empty-clause-stop : goal.returns-then-is_empty-clause-stop
returns-then-is_empty-clause-stop c =
    subst (λ b. IfErr c.second_map.result (ColumnStops c.args.ring.now b c.args.columns.now)) (sym (none_at_all c.args.below.now c.if-is_empty.ensures)) c.second_map.ensures.stop

pub later_map-requires-clause-maps : goal.later_map-requires-clause-maps
later_map-requires-clause-maps c = c.requires.maps

pub later_map-requires-clause-top : goal.later_map-requires-clause-top
later_map-requires-clause-top c = c.requires.top
