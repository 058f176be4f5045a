use Rattle.std.proofs.Common.{Some, subst, sym, Option, refl}
use Rattle.std.specs.Prelude.{IsSome}
use Rattle.ruled_lock.proofs.Hands.{one_slot, same_hand}
use Rattle.ruled_lock.proofs.lock.Lock.lift.Goals as goal

pub exchange-requires : goal.exchange-requires
exchange-requires g c = let q = c.requires in (q.1.0, (Some q.0, one_slot c.args.place.now.me.1 0 (Some q.0) q.1.1))

pub unwrap-requires : goal.unwrap-requires
unwrap-requires g c = let q = c.requires in subst (λ (o : Option g.row.C.Denot). IsSome o) (sym (same_hand c.args.place.now.me.1 0 (Some q.0) c.exchange.result q.1.1 c.exchange.ensures.2)) refl
