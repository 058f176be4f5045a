use Rattle.term_tables.proofs.Sums.{free_sum, no_slot_of}
use Rattle.term_tables.proofs.slots.free_slots.Goals as goal

pub returns : goal.returns
returns c = λ n p bs. free_sum n p bs c.args.count c.in_ok-vec.field-0.items (c.in_ok-vec.ensures.items_if_clones_equal (λ y e. no_slot_of y e))
