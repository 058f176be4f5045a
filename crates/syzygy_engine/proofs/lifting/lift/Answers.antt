use Rattle.std.proofs.Common.{false, subst, sym, true, ◌∙◌, ◌≡◌}
use Rattle.division_laws.specs.Elimination.{is_from_position}
use Rattle.syzygy_laws.specs.Kernels.{all_kept, lowered}
use Rattle.term_lists.specs.Rings.{variables}
use Rattle.term_lists.specs.Vectors.{StandsFor, sum_of}
use Rattle.syzygy_engine.proofs.LeftOver.{left_out, lift_of, lift_positions, rest_stops}
use Rattle.syzygy_engine.proofs.Marks.{loose}
use Rattle.syzygy_engine.proofs.lifting.lift.Goals as goal

pub returns-in-Err-clause-stop : goal.returns-in-Err-clause-stop
returns-in-Err-clause-stop g c =
    let run = c.in_ok-by_position.ensures.basis in
    rw c.from.ensures
    (rest_stops _ _ _ _ c.args.ring.now c.args.rank c.args.list.now run.0 c.in_ok-by_position.basis c.args.v.now c.in-Err.stop c.in_ok-by_position.ensures.same run.1 run.2 c.in-Err.ensures.stop)

pub returns-then-not-is_from-clause-none : goal.returns-then-not-is_from-clause-none
returns-then-not-is_from-clause-none g c =
    let ring = c.args.ring.now in
    let n = variables ring in
    let run = c.in_ok-by_position.ensures.basis in
    let rest = c.in-Ok.rest in
    let found = c.in-Ok.ensures.sum in
    left_out ring c.args.rank c.args.list.now run.0 c.in_ok-by_position.basis (c.lawful_setting.ensures 0) c.requires.positions run.1 run.2 c.args.v.now rest c.requires.vector_positions
    found.0 found.1 found.2 c.in-Ok.ensures.rest c.in-Ok.ensures.reduced
    (subst (λ m. all_kept (is_from_position m) (sum_of n rest) ≡ false) c.first_mark-mark.ensures (sym (c.is_from.ensures n) ∙ c.if-not-is_from.true))

pub lowered_vector-requires-clause-terms : goal.lowered_vector-requires-clause-terms
lowered_vector-requires-clause-terms g c = loose c.args.ring.now c.in-Ok.rest c.in-Ok.ensures.rest.each

pub returns-clause-lift : goal.returns-clause-lift
returns-clause-lift g c =
    let ring = c.args.ring.now in
    let n = variables ring in
    let run = c.in_ok-by_position.ensures.basis in
    let rest = c.in-Ok.rest in
    let found = c.in-Ok.ensures.sum in
    lift_of ring c.args.rank c.args.list.now run.0 c.in_ok-by_position.basis (c.lawful_setting.ensures 0) c.requires.positions run.1 run.2 c.args.v.now rest c.requires.vector_positions
    found.0 found.1 found.2 c.in-Ok.ensures.rest c.in-Ok.ensures.reduced
    (subst (λ m. all_kept (is_from_position m) (sum_of n rest) ≡ true) c.first_mark-mark.ensures (sym (c.is_from.ensures n) ∙ c.if-not-is_from.false))
    c.in_ok-cofactors.cofactors c.scale.new.self c.neg.result c.neg.ensures.value
    (subst (λ m. StandsFor ring c.in_ok-cofactors.cofactors (lowered m (sum_of n rest))) c.first_mark-mark.ensures c.in_ok-cofactors.ensures.sum) c.scale.ensures.multiple

pub returns-clause-positions : goal.returns-clause-positions
returns-clause-positions g c =
    let ring = c.args.ring.now in
    let n = variables ring in
    let run = c.in_ok-by_position.ensures.basis in
    let rest = c.in-Ok.rest in
    let found = c.in-Ok.ensures.sum in
    lift_positions ring c.args.rank c.args.list.now run.0 c.in_ok-by_position.basis (c.lawful_setting.ensures 0) c.requires.positions run.1 run.2 c.args.v.now rest c.requires.vector_positions
    found.0 found.1 found.2 c.in-Ok.ensures.rest c.in-Ok.ensures.reduced
    (subst (λ m. all_kept (is_from_position m) (sum_of n rest) ≡ true) c.first_mark-mark.ensures (sym (c.is_from.ensures n) ∙ c.if-not-is_from.false))
    c.in_ok-cofactors.cofactors c.scale.new.self c.neg.result c.neg.ensures.value
    (subst (λ m. StandsFor ring c.in_ok-cofactors.cofactors (lowered m (sum_of n rest))) c.first_mark-mark.ensures c.in_ok-cofactors.ensures.sum) c.scale.ensures.multiple c.scale.ensures.vector

pub rest_by_position-requires-clause-vector : goal.rest_by_position-requires-clause-vector
rest_by_position-requires-clause-vector g c = c.requires.vector

pub first_mark-mark-requires : goal.first_mark-mark-requires
first_mark-mark-requires g c = c.requires.room
