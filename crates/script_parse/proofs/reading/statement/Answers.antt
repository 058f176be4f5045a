use Rattle.std.proofs.Common.{subst, sym}
use Rattle.std.specs.List.{AllByRecursion}
use Rattle.std.specs.Option.{option_copied}
use Rattle.script_forms.specs.Forms.{IsLineOf}
use Rattle.script_forms.specs.Written.{Written}
use Rattle.script_parse.specs.Tests.{AreStepsOfPolynomial}
use Rattle.script_parse.proofs.Answering.{blank, early, line_answered, line_of, line_polynomials, ring_answered}
use Rattle.script_parse.proofs.reading.statement.Goals as goal

pub returns-in-Err : goal.returns-in-Err
returns-in-Err c = early (option_copied c.args.ring) c.args.names.now c.args.line.now c.in-Err.stop c.in-Err.ensures

pub returns-in-Nothing : goal.returns-in-Nothing
returns-in-Nothing c = blank (option_copied c.args.ring) c.args.names.now c.args.line.now c.in-Ok.form c.in-Nothing.is c.in-Ok.ensures

pub returns-in-Ring : goal.returns-in-Ring
returns-in-Ring c =
    ring_answered (option_copied c.args.ring) c.args.names.now c.args.line.now c.in-Ok.form c.in-Ring.form c.ring_statement.result c.in-Ring.is c.in-Ok.ensures
    (c.ring_statement.ensures (option_copied c.args.ring) c.args.names.now)

pub line_statement-requires-clause-written : goal.line_statement-requires-clause-written
line_statement-requires-clause-written c =
    subst (λ l. (w : Written) × IsLineOf c.in-Line.head l w) (sym c.deref.ensures.value) (line_of c.args.line.now c.in-Ok.form c.in-Line.head c.in-Line.polynomials c.in-Line.is c.in-Ok.ensures)

pub line_statement-requires-clause-polynomials : goal.line_statement-requires-clause-polynomials
line_statement-requires-clause-polynomials c = subst (λ l. AllByRecursion AreStepsOfPolynomial l) (sym c.deref.ensures.value) (line_polynomials c.args.line.now c.in-Ok.form c.in-Line.head c.in-Line.polynomials c.in-Line.is c.in-Ok.ensures)

pub returns-in-Line : goal.returns-in-Line
returns-in-Line c = line_answered (option_copied c.args.ring) c.args.names.now c.args.line.now c.in-Ok.form c.in-Line.head c.in-Line.polynomials c.line_statement.result c.in-Line.is c.in-Ok.ensures
    (λ w is. c.line_statement.ensures w (subst (λ l. IsLineOf c.in-Line.head l w) (sym c.deref.ensures.value) is))
