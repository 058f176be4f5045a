use Rattle.std.proofs.Common.{subst, ◌++◌}
use Rattle.std.proofs.lemmas.List.{nil_from_length}
use Rattle.formal_sums.specs.FormalSums.{IsSame}
use Rattle.term_tables.proofs.Sums.{IsSame_comm, no_rest, slot_added}
use Rattle.term_tables.specs.Digits.{packed_sum}
use Rattle.term_tables.proofs.slots.put_all.Goals as goal

pub loop-slot-init : goal.loop-slot-init
loop-slot-init c = record { sum = λ n p bs z. IsSame_comm p (packed_sum n bs c.args.larger.now.items) (packed_sum n bs c.args.slots.now) }

pub loop-slot-preserved : goal.loop-slot-preserved
loop-slot-preserved c = record {
  sum = λ n p bs z.
      slot_added n p c.args.square bs c.in-Some.slot.now c.loop-slot.rest.now c.in-Some.more.now c.put.new.slots.items c.loop-slot.larger.items _ c.in-Some.ensures.cases.0 z
      (c.put.ensures.sum n p bs z c.if-not-put.false) (c.loop-slot.invariant.sum n p bs z);
}

pub returns : goal.returns
returns c = λ n p bs z done.
    no_rest n p (packed_sum n bs c.loop-slot.larger.items) _
    (subst (λ xs. IsSame p (packed_sum n bs c.loop-slot.larger.items ++ packed_sum n bs xs) (packed_sum n bs c.args.slots.now ++ packed_sum n bs c.args.larger.now.items))
    (nil_from_length c.loop-slot.rest.now c.in_default.ensures.cases) (c.loop-slot.invariant.sum n p bs z))
