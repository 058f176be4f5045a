use Rattle.std.proofs.Common.{ap, ◌∙◌}
use Rattle.pair_queue.proofs.Words.{no_words}
use Rattle.pair_queue.specs.Rows.{flags_of}
use Rattle.pair_queue.proofs.row.Row.new.Goals as goal

pub returns : goal.returns
returns c = ap flags_of c.new.ensures.items ∙ no_words
