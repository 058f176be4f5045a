use Rattle.std.proofs.Common.{map}
use Rattle.poly_grammar.specs.Lexemes.{lexeme}
use Rattle.script_forms.proofs.Lines.{ring_found, ring_none}
use Rattle.script_forms.proofs.form.ring_form.Goals as goal

pub returns-in-Ok : goal.returns-in-Ok
returns-in-Ok c = ring_found c.args.line.now (map lexeme c.args.tokens.now) c.in-Ok.form c.in-Ok.ensures

pub returns-in-Err : goal.returns-in-Err
returns-in-Err c = ring_none c.args.line.now (map lexeme c.args.tokens.now) c.in-Err.stop c.in-Err.ensures
