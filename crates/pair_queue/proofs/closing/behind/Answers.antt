use Rattle.pair_queue.proofs.Words.{bits_behind, less_behind}
use Rattle.pair_queue.proofs.closing.behind.Goals as goal

pub returns-clause-bits : goal.returns-clause-bits
returns-clause-bits c = bits_behind c.args.word c.args.place

pub returns-clause-less : goal.returns-clause-less
returns-clause-less c = less_behind c.args.word c.args.place
