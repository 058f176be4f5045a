use Rattle.std.proofs.Common.{ap, subst, subst₂, sym, ◌++◌, ◌+◌}
use Rattle.formal_sums.specs.FormalSums.{Each}
use Rattle.term_lists.specs.Rings.{ring_comparison, variables}
use Rattle.term_lists.specs.Vectors.{AreVectorsOver, HasPositions, sums_of}
use Rattle.syzygy_laws.specs.Syzygies.{marked}
use Rattle.groebner_iface.specs.Calls.{NoTrail}
use Rattle.groebner_iface.specs.Runs.{IsReducedBasisOf}
use Rattle.groebner_iface.proofs.CallingRuns.{run_stops}
use Rattle.syzygy_engine.specs.Marking.{position_ring}
use Rattle.syzygy_engine.specs.Runs.{AreVectorsFor, IsRunFor}
use Rattle.syzygy_engine.proofs.ModuloRuns.{list_positions}
use Rattle.syzygy_engine.proofs.modulo.modulo_basis.Goals as goal

pub first_mark-requires : goal.first_mark-requires
first_mark-requires g c = c.requires.room

pub heads_marked-requires-clause-heads : goal.heads_marked-requires-clause-heads
heads_marked-requires-clause-heads g c = c.requires.heads

pub heads_marked-requires-clause-members : goal.heads_marked-requires-clause-members
heads_marked-requires-clause-members g c = c.requires.members

pub reduced-requires-clause-vectors : goal.reduced-requires-clause-vectors
reduced-requires-clause-vectors g c = subst (λ r. AreVectorsOver r (ring_comparison r) c.in_ok-list.list) (sym c.requires.by_position) c.in_ok-list.ensures.vectors

pub reduced-requires-clause-positions : goal.reduced-requires-clause-positions
reduced-requires-clause-positions g c =
    let ring = c.args.ring.now in
    let n = variables ring in
    let rank = c.args.rank in
    let heads = c.args.heads.now in
    let list = c.in_ok-list.list in
    let stand = subst (λ m. AreVectorsFor (position_ring ring) (marked m 0 (sums_of n heads) ++ sums_of n c.args.members) list) c.first_mark.ensures c.in_ok-list.ensures in
    subst (λ l. Each (HasPositions (rank + l)) list) (sym c.len.ensures)
    (list_positions ring rank heads c.args.members list (c.lawful_setting.ensures 0) c.requires.heads_positions c.requires.members_positions stand)

pub returns-in-Ok-clause-basis : goal.returns-in-Ok-clause-basis
returns-in-Ok-clause-basis g c =
    let ring = c.args.ring.now in
    let n = variables ring in
    let list = c.in_ok-list.list in (
      list,
      subst (λ m. AreVectorsFor (position_ring ring) (marked m 0 (sums_of n c.args.heads.now) ++ sums_of n c.args.members) list) c.first_mark.ensures c.in_ok-list.ensures,
      subst₂ (λ r l. IsReducedBasisOf r (c.args.rank + l) list c.in-Ok.basis) c.requires.by_position c.len.ensures c.in-Ok.ensures.basis,
    )

pub returns-clause-stop : goal.returns-clause-stop
returns-clause-stop g c =
    let ring = c.args.ring.now in
    let n = variables ring in
    let rank = c.args.rank in
    let list = c.in_ok-list.list in
    let stand = subst (λ m. AreVectorsFor (position_ring ring) (marked m 0 (sums_of n c.args.heads.now) ++ sums_of n c.args.members) list) c.first_mark.ensures c.in_ok-list.ensures in
    rw c.from.ensures
    (run_stops _ _ _ _ (IsRunFor (position_ring ring) _ (marked rank 0 (sums_of n c.args.heads.now) ++ sums_of n c.args.members)) NoTrail c.args.by_position.now (rank + c.len.result) list c.in-Err.stop
    (c.requires.by_position, ap (λ l. rank + l) c.len.ensures, stand) c.in-Err.ensures.stop)
