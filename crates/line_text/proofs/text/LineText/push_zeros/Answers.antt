use Rattle.std.proofs.Common.{◌*◌, refl}
use Rattle.line_text.proofs.Runs.{bytes_of_entries, pushed}
use Rattle.line_text.proofs.text.LineText.push_zeros.Goals as goal

pub returns-clause-ok : goal.returns-clause-ok
returns-clause-ok c =
    pushed c.push_zero_bytes.result c.args.self.now c.push_zero_bytes.new.self _ _ (bytes_of_entries c.args.count (2 * c.args.count) refl) c.push_zero_bytes.ensures.items
