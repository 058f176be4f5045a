use Rattle.std.proofs.Common.{ap, cond, nat_eq, sym, ◌==◌, ◌∙◌}
use Rattle.std.specs.Int.{bit_at}
use Rattle.pair_queue.proofs.Words.{bit_cleared, bit_set}
use Rattle.pair_queue.proofs.row.with_flag.Goals as goal

pub returns-then-set : goal.returns-then-set
returns-then-set c = λ r l. bit_set c.args.word c.args.place r c.requires
    ∙ ap (λ s. cond (nat_eq r c.args.place) s (bit_at c.args.word r == 1)) (sym c.if-set.true)

pub returns-else-set : goal.returns-else-set
returns-else-set c = λ r l. bit_cleared c.args.word c.args.place r c.requires l
    ∙ ap (λ s. cond (nat_eq r c.args.place) s (bit_at c.args.word r == 1)) (sym c.if-set.false)
