use Rattle.std.proofs.Common.{ap, arith, inl, inr, length, refl, subst, sym, ◌++◌, ◌+◌, ◌∙◌}
use Rattle.std.proofs.lemmas.List.{length-map}
use Rattle.formal_sums.specs.FormalSums.{Each}
use Rattle.term_lists.specs.Rings.{variables}
use Rattle.term_lists.specs.Vectors.{HasPositions, sum_of, sums_of}
use Rattle.syzygy_laws.specs.Kernels.{kernel_of}
use Rattle.syzygy_laws.specs.Syzygies.{marked}
use Rattle.groebner_iface.specs.Calls.{NoTrail}
use Rattle.groebner_iface.specs.Runs.{IsReducedBasisOf}
use Rattle.groebner_iface.proofs.CallingRuns.{more_stops, run_stops}
use Rattle.syzygy_engine.specs.Marking.{position_ring}
use Rattle.syzygy_engine.specs.Modulo.{AreModuloRuns}
use Rattle.syzygy_engine.specs.Runs.{AreVectorsFor, IsRunFor}
use Rattle.syzygy_engine.proofs.Counted.{one_run, one_run_more}
use Rattle.syzygy_engine.proofs.Marks.{loose_list}
use Rattle.syzygy_engine.proofs.ModuloRuns.{kernel_again, kernel_at_one, kernel_by_position, kernel_low}
use Rattle.syzygy_engine.proofs.RunAnswers.{later_stops}
use Rattle.syzygy_engine.proofs.modulo.kernel_modulo.Goals as goal

pub first_mark-requires : goal.first_mark-requires
first_mark-requires g c = c.requires.room

pub kernel_part-requires : goal.kernel_part-requires
kernel_part-requires g c = loose_list (position_ring c.args.ring.now) c.in-Ok.basis c.in-Ok.ensures.basis.2.vectors

pub returns-in-Err-clause-stop : goal.returns-in-Err-clause-stop
returns-in-Err-clause-stop g c =
    let ring = c.args.ring.now in
    let n = variables ring in
    let rank = c.args.rank in
    let X = sums_of n c.args.heads.now in
    let Y = sums_of n c.args.members in
    let count = length-map c.args.heads.now (λ v. sum_of n v) in
    more_stops _ _ _ _ (IsRunFor (position_ring ring) (rank + length c.args.heads.now) (marked rank 0 X ++ Y)) (AreModuloRuns ring rank X Y) NoTrail NoTrail
    (λ r m l h. inl (h.0, h.1 ∙ ap (λ s. rank + s) (sym count), h.2)) (λ t h. h) c.in-Err.stop c.in-Err.ensures.stop

pub returns-then-len-eq1-clause-basis : goal.returns-then-len-eq1-clause-basis
returns-then-len-eq1-clause-basis g c =
    let ring = c.args.ring.now in
    let n = variables ring in
    let rank = c.args.rank in
    let heads = c.args.heads.now in
    let kernel = c.in_ok-kernel.kernel in
    let first = c.in-Ok.ensures.basis in
    let part = subst (λ m. AreVectorsFor ring (kernel_of m (sums_of n c.in-Ok.basis)) kernel) c.first_mark.ensures (record { vectors = c.in_ok-kernel.ensures.vectors; stand = c.in_ok-kernel.ensures.kernel }) in
    kernel_at_one ring rank heads c.args.members first.0 c.in-Ok.basis kernel (c.lawful_setting.ensures 0) c.requires.heads_positions c.requires.members_positions first.1 first.2 part (omega (arith, c.len.ensures, c.if-len-eq1.true))

pub returns-in-Pot-clause-basis : goal.returns-in-Pot-clause-basis
returns-in-Pot-clause-basis g c =
    let ring = c.args.ring.now in
    let n = variables ring in
    let rank = c.args.rank in
    let heads = c.args.heads.now in
    let kernel = c.in_ok-kernel.kernel in
    let first = c.in-Ok.ensures.basis in
    let part = subst (λ m. AreVectorsFor ring (kernel_of m (sums_of n c.in-Ok.basis)) kernel) c.first_mark.ensures (record { vectors = c.in_ok-kernel.ensures.vectors; stand = c.in_ok-kernel.ensures.kernel }) in
    kernel_by_position ring rank heads c.args.members first.0 c.in-Ok.basis kernel (c.lawful_setting.ensures 0) c.requires.heads_positions c.requires.members_positions first.1 first.2 part c.in-Pot.is

pub reduced-requires-clause-positions : goal.reduced-requires-clause-positions
reduced-requires-clause-positions g c =
    let ring = c.args.ring.now in
    let n = variables ring in
    let rank = c.args.rank in
    let heads = c.args.heads.now in
    let kernel = c.in_ok-kernel.kernel in
    let first = c.in-Ok.ensures.basis in
    let part = subst (λ m. AreVectorsFor ring (kernel_of m (sums_of n c.in-Ok.basis)) kernel) c.first_mark.ensures (record { vectors = c.in_ok-kernel.ensures.vectors; stand = c.in_ok-kernel.ensures.kernel }) in
    subst (λ m. Each (HasPositions m) kernel) (sym c.len-in-Top.ensures) (kernel_low ring rank heads c.args.members first.0 c.in-Ok.basis kernel (c.lawful_setting.ensures 0) c.requires.heads_positions c.requires.members_positions first.1 first.2 part)

pub returns-in-Ok-reduced-clause-basis : goal.returns-in-Ok-reduced-clause-basis
returns-in-Ok-reduced-clause-basis g c =
    let ring = c.args.ring.now in
    let n = variables ring in
    let rank = c.args.rank in
    let heads = c.args.heads.now in
    let kernel = c.in_ok-kernel.kernel in
    let first = c.in-Ok.ensures.basis in
    let part = subst (λ m. AreVectorsFor ring (kernel_of m (sums_of n c.in-Ok.basis)) kernel) c.first_mark.ensures (record { vectors = c.in_ok-kernel.ensures.vectors; stand = c.in_ok-kernel.ensures.kernel }) in
    let second = subst (λ m. IsReducedBasisOf ring m kernel c.in-Ok-reduced.answer) c.len-in-Top.ensures c.in-Ok-reduced.ensures.basis in
    kernel_again ring rank heads c.args.members first.0 c.in-Ok.basis kernel (c.lawful_setting.ensures 0) c.requires.heads_positions c.requires.members_positions first.1 first.2 part c.in-Ok-reduced.answer second

pub returns-clause-stop : goal.returns-clause-stop
returns-clause-stop g c =
    let ring = c.args.ring.now in
    let n = variables ring in
    let rank = c.args.rank in
    let heads = c.args.heads.now in
    let kernel = c.in_ok-kernel.kernel in
    let first = c.in-Ok.ensures.basis in
    let part = subst (λ m. AreVectorsFor ring (kernel_of m (sums_of n c.in-Ok.basis)) kernel) c.first_mark.ensures (record { vectors = c.in_ok-kernel.ensures.vectors; stand = c.in_ok-kernel.ensures.kernel }) in
    let X = sums_of n heads in
    let Y = sums_of n c.args.members in
    let count = length-map heads (λ v. sum_of n v) in
    rw c.from.ensures
    (later_stops _ _ _ _ _ _ (AreModuloRuns ring rank X Y) NoTrail _ c.in-Ok.ensures.same
    (run_stops _ _ _ _ (AreModuloRuns ring rank X Y) NoTrail ring _ kernel c.in-Err-reduced.stop
    (inr (record {
      first_ring = position_ring ring;
      first_rank = rank + length heads;
      first_list = first.0;
      before = (refl, ap (λ s. rank + s) (sym count), first.1);
      basis = c.in-Ok.basis;
      reduced = first.2;
      kept = part;
      own_ring = refl;
      own_rank = c.len-in-Top.ensures ∙ sym count;
    }))
    c.in-Err-reduced.ensures.stop))

pub returns-in-Err-clause-runs : goal.returns-in-Err-clause-runs
returns-in-Err-clause-runs g c = one_run c.args.ring.now _ _ c.in-Err.ensures.runs

pub returns-then-len-eq1-clause-runs : goal.returns-then-len-eq1-clause-runs
returns-then-len-eq1-clause-runs g c = one_run c.args.ring.now _ _ c.in-Ok.ensures.runs

pub returns-in-Pot-clause-runs : goal.returns-in-Pot-clause-runs
returns-in-Pot-clause-runs g c = one_run c.args.ring.now _ _ c.in-Ok.ensures.runs

pub returns-in-Ok-reduced-clause-runs : goal.returns-in-Ok-reduced-clause-runs
returns-in-Ok-reduced-clause-runs g c = one_run_more c.args.ring.now _ _ _ c.in-Top.is c.in-Ok.ensures.runs c.in-Ok-reduced.ensures.run

pub returns-clause-runs : goal.returns-clause-runs
returns-clause-runs g c = one_run_more c.args.ring.now _ _ _ c.in-Top.is c.in-Ok.ensures.runs c.in-Err-reduced.ensures.run
