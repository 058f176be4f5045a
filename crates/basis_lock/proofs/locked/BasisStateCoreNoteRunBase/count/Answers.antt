use Rattle.std.proofs.Common.{ap, length, sym, ◌∙◌}
use Rattle.basis_core.specs.Logs.{number_at_beginning}
use Rattle.basis_core.proofs.Logging.{length_notes}
use Rattle.basis_lock.proofs.locked.BasisStateCoreNoteRunBase.count.Goals as goal

pub returns : goal.returns
returns c = ap length c.history.ensures ∙ sym (length_notes (number_at_beginning c.args.self.now) c.args.self.now.members c.args.self.now.history)
