use Rattle.term_tables.proofs.Sums.{from_nothing}
use Rattle.term_tables.specs.Digits.{packed_sum}
use Rattle.term_tables.proofs.slots.doubled.Goals as goal

pub returns-then-put_all : goal.returns-then-put_all
returns-then-put_all c = λ n p bs z.
    from_nothing n p (packed_sum n bs c.put_all.new.larger.items) (packed_sum n bs c.args.slots.now) (packed_sum n bs c.in_ok-larger.larger.items)
    (c.in_ok-larger.ensures n p bs) (c.put_all.ensures n p bs z c.if-put_all.true)
