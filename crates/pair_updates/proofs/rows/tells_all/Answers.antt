use Rattle.std.proofs.Common.{◌/◌, ◌^◌}
use Rattle.std.proofs.lemmas.Bool.{eq-eqb, eqb-true}
use Rattle.pair_updates.proofs.ToldRows.{none_high, none_left}
use Rattle.pair_updates.proofs.rows.tells_all.Goals as goal

pub returns : goal.returns
returns c = (
  (λ e. none_high c.args.word 48 (eqb-true (c.args.word / 2 ^ 48) 0 e)),
  (λ h. eq-eqb (c.args.word / 2 ^ 48) 0 (none_left c.args.word 48 h)),
)
