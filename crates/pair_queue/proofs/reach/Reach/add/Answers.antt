use Rattle.std.proofs.Common.{arith, subst, ℕ, ◌∙◌}
use Rattle.pair_queue.proofs.Reaching.{reached_more}
use Rattle.pair_queue.specs.Reaches.{BitsStay, HasRoomFor}
use Rattle.pair_queue.proofs.reach.Reach.add.Goals as goal

pub returns-clause-reach : goal.returns-clause-reach
returns-clause-reach c =
    let m = c.args.leads.now in
    let room : HasRoomFor m.variables c.len-2.result c.reserve.new.words.items =
    subst (λ (n : ℕ). HasRoomFor n c.len-2.result c.reserve.new.words.items) (c.len.ensures ∙ c.weights.ensures.variables)
    c.in_ok-reserve.ensures.room in
    let stay : BitsStay c.args.self.now.words.items c.mark_members.new.words.items =
    λ i r l one. c.mark_members.ensures.stay i r l (c.in_ok-reserve.ensures.stay i r l one) in
    record {
      room = λ d v ld lv. omega (arith, room d v (omega (arith, ld, c.len-2.ensures)) lv, c.mark_members.ensures.len);
      reached = reached_more m c.args.first c.requires.first c.args.self.now c.mark_members.new.words.items c.requires.earlier stay c.mark_members.ensures.here;
    }
