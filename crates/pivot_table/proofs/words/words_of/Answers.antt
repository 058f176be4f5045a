use Rattle.std.proofs.Common.{rules, arith}
use Rattle.pivot_table.proofs.Keeps.{word_fits}
use Rattle.pivot_table.proofs.words.words_of.Goals as goal

pub word_of_old-requires : goal.word_of_old-requires
word_of_old-requires c = let h = word_fits c.args.leads.now c.args.held.now c.loop-old.old-index c.requires (search rules) in omega arith
