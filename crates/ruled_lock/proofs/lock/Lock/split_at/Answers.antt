use Rattle.std.proofs.Common.{rules, subst}
use Rattle.std.specs.List.{Contains}
use Rattle.ruled_lock.proofs.Steps.{splits}
use Rattle.ruled_lock.proofs.lock.Lock.split_at.Goals as goal

pub split_seat-requires : goal.split_seat-requires
split_seat-requires g c = let p = c.requires in
    (p.0.0, search rules, splits _ _ _ _ _ _ _ _ p.0.2 p.0.3 (subst (Contains c.args.place.now.me.0.give) p.2 p.1))
