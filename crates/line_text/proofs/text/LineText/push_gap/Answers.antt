use Rattle.std.proofs.Common.{◌*◌, ◌+◌, refl}
use Rattle.line_text.proofs.Runs.{bytes_of_gap, pushed}
use Rattle.line_text.proofs.text.LineText.push_gap.Goals as goal

pub returns-clause-ok : goal.returns-clause-ok
returns-clause-ok c =
    pushed c.push_zero_bytes.result c.args.self.now c.push_zero_bytes.new.self _ _ (bytes_of_gap c.args.count (2 * c.args.count + 1) refl) c.push_zero_bytes.ensures.items
