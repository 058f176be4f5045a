use Rattle.syzygy_engine.proofs.OneLift.{one_lift_of}
use Rattle.syzygy_engine.proofs.laws.one_lift.Goals as goal

pub returns : goal.returns
returns c = λ list v a b va vb x y. one_lift_of c.args.ring.now list (c.lawful_setting.ensures 0) v a b va vb x y
