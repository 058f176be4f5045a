use Rattle.std.proofs.Common.{length, subst, sym}
use Rattle.std.proofs.lemmas.List.{length-map}
use Rattle.formal_sums.specs.FormalSums.{Each}
use Rattle.ext_laws.specs.Transposes.{rows_of}
use Rattle.term_lists.specs.Rings.{variables}
use Rattle.term_lists.specs.Vectors.{HasPositions, sum_of, sums_of}
use Rattle.groebner_iface.specs.Calls.{NoTrail}
use Rattle.groebner_iface.proofs.CallingRuns.{more_stops}
use Rattle.syzygy_engine.specs.Kernels.{IsSyzygyRun}
use Rattle.syzygy_engine.proofs.VectorLists.{positions_for}
use Rattle.ext_modules.specs.Ext.{IsTransposedRun}
use Rattle.ext_modules.proofs.Presenting.{kernel_is}
use Rattle.ext_modules.proofs.RowVectors.{rows_ranks}
use Rattle.ext_modules.proofs.homology.kernel_of_columns.Goals as goal

pub syzygies-requires-clause-positions : goal.syzygies-requires-clause-positions
syzygies-requires-clause-positions g c κs within =
    let ring = c.args.ring.now in
    let n = variables ring in
    let columns = c.args.columns.now in
    let C = sums_of n columns in
    let rows = c.in_ok-rows.rows in
    subst (λ m. Each (HasPositions m) rows) (sym c.in_ok-width.ensures.value)
    (positions_for ring (length columns) (c.lawful_setting.ensures (length columns)) rows (rows_of c.args.count C) c.in_ok-rows.ensures
    (rows_ranks c.args.count (length columns) C (sym (length-map columns (λ v. sum_of n v)))))

pub syzygies-requires-clause-room : goal.syzygies-requires-clause-room
syzygies-requires-clause-room g c κs within = c.in_ok-width.ensures.room

pub returns-in-Ok-clause-kernel : goal.returns-in-Ok-clause-kernel
returns-in-Ok-clause-kernel g c =
    kernel_is c.args.ring.now (c.lawful_setting.ensures 0) c.args.count c.args.columns.now c.in_ok-rows.rows c.in-Ok.kernel c.requires.positions c.in_ok-rows.ensures
    c.in-Ok.ensures.basis c.in-Ok.ensures.syzygies

pub returns-clause-stop : goal.returns-clause-stop
returns-clause-stop g c =
    let ring = c.args.ring.now in
    let rows = c.in_ok-rows.rows in
    more_stops _ _ _ _ (IsSyzygyRun ring c.in_ok-width.width rows) (IsTransposedRun ring c.args.count c.args.columns.now) NoTrail NoTrail
    (λ r m l h. record { rows = rows; stand = c.in_ok-rows.ensures; run = subst (λ z. IsSyzygyRun ring z rows r m l) c.in_ok-width.ensures.value h }) (λ t h. h)
    c.in-Err.stop c.in-Err.ensures.stop
