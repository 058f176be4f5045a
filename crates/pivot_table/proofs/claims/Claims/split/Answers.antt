use Rattle.std.proofs.Common.{rules}
use Rattle.pivot_table.proofs.Keeps.{splits}
use Rattle.pivot_table.proofs.claims.Claims.split.Goals as goal

pub split_seat-requires : goal.split_seat-requires
split_seat-requires c = (search rules, search rules, splits _ _ _ _)
