use Rattle.std.proofs.Common.{subst, sym}
use Rattle.session_lang.specs.Fitting.{IsGiven}
use Rattle.session_lang.proofs.session.Session.operand.Goals as goal

pub found-value-requires : goal.found-value-requires
found-value-requires c = subst (IsGiven c.args.self.now) (sym c.as_bytes.ensures.value) c.requires
