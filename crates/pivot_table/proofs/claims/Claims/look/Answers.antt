use Rattle.std.proofs.Common.{rules}
use Rattle.pivot_table.proofs.Keeps.{looks}
use Rattle.pivot_table.proofs.claims.Claims.look.Goals as goal

pub load-found-requires : goal.load-found-requires
load-found-requires c = (search rules, search rules, looks _ _ _ _ _ _ (search rules) (search rules))
