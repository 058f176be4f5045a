use Rattle.formal_sums.specs.FormalSums.{product}
use Rattle.term_tables.proofs.Sums.{from_nothing}
use Rattle.term_tables.specs.Digits.{packed_sum}
use Rattle.term_tables.proofs.slots.slots_of.Goals as goal

pub returns-then-branch : goal.returns-then-branch
returns-then-branch c = λ n p bs z h.
    from_nothing n p (packed_sum n bs c.insert_products.new.slots.items) (product (packed_sum n bs c.args.a.now) (packed_sum n bs c.args.b.now)) (packed_sum n bs c.in_ok-slots.slots.items)
    (c.in_ok-slots.ensures n p bs) (c.in_ok-insert_products.ensures n p bs z h c.if-branch.true)
