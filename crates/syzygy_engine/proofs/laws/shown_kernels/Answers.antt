use Rattle.syzygy_engine.proofs.Generated.{by_position_done, generate}
use Rattle.syzygy_engine.proofs.laws.shown_kernels.Goals as goal

pub returns : goal.returns
returns c = record {
  generate = λ rank list kernel low shown. generate c.args.ring.now rank list kernel (c.lawful_setting.ensures 0) low shown;
  reduced = λ rank list kernel low shown vectors e. by_position_done c.args.ring.now rank list kernel (c.lawful_setting.ensures 0) low shown vectors e;
}
