use Rattle.std.proofs.Common.{rules}
use Rattle.ruled_lock.proofs.Steps.{looks}
use Rattle.ruled_lock.proofs.lock.Lock.look.Goals as goal

pub load-requires : goal.load-requires
load-requires g c = let p = c.requires in (p.0, search rules, looks _ _ _ _ _ _ _ _ p.2 p.3)
