use Rattle.std.proofs.Common.{subst, sym}
use Rattle.script_forms.specs.Forms.{IsLineOf}
use Rattle.script_parse.proofs.Stating.{is_expressed, is_shown}
use Rattle.script_parse.specs.Tests.{IsStated}
use Rattle.script_parse.proofs.ring_needed.stated.Goals as goal

pub show_statement-requires-clause-some : goal.show_statement-requires-clause-some
show_statement-requires-clause-some c =
    let is = subst (λ h. IsLineOf h c.args.polynomials.now c.requires.written.0) c.in-Show.is c.requires.written.1 in
    is_shown c.args.polynomials.now c.requires.written.0 is

pub returns-in-Ask : goal.returns-in-Ask
returns-in-Ask c = subst (λ h. IsStated c.args.ring.now c.args.line.now h c.args.polynomials.now c.ask_statement.result) (sym c.in-Ask.is) (c.ask_statement.ensures c.args.ring.now c.args.polynomials.now)

pub returns-in-Equal : goal.returns-in-Equal
returns-in-Equal c = subst (λ h. IsStated c.args.ring.now c.args.line.now h c.args.polynomials.now c.equal_statement.result) (sym c.in-Equal.is) (c.equal_statement.ensures c.args.ring.now c.args.polynomials.now)

pub returns-in-Change : goal.returns-in-Change
returns-in-Change c = subst (λ h. IsStated c.args.ring.now c.args.line.now h c.args.polynomials.now c.change_statement.result) (sym c.in-Change.is) (c.change_statement.ensures c.args.ring.now c.args.polynomials.now)

pub show_statement-requires-clause-workable : goal.show_statement-requires-clause-workable
show_statement-requires-clause-workable c = c.requires.workable

pub ideal_statement-requires-clause-workable : goal.ideal_statement-requires-clause-workable
ideal_statement-requires-clause-workable c = c.requires.workable

pub module_statement-requires-clause-workable : goal.module_statement-requires-clause-workable
module_statement-requires-clause-workable c = c.requires.workable

pub let_statement-requires-clause-workable : goal.let_statement-requires-clause-workable
let_statement-requires-clause-workable c = c.requires.workable

pub divide_statement-requires-clause-workable : goal.divide_statement-requires-clause-workable
divide_statement-requires-clause-workable c = c.requires.workable

pub express_statement-requires-clause-some : goal.express_statement-requires-clause-some
express_statement-requires-clause-some c =
    let is = subst (λ h. IsLineOf h c.args.polynomials.now c.requires.written.0) c.in-Express.is c.requires.written.1 in
    is_expressed c.args.polynomials.now c.requires.written.0 is

pub express_statement-requires-clause-workable : goal.express_statement-requires-clause-workable
express_statement-requires-clause-workable c = c.requires.workable

pub returns-in-Ext : goal.returns-in-Ext
returns-in-Ext c = subst (λ h. IsStated c.args.ring.now c.args.line.now h c.args.polynomials.now c.ext_statement.result) (sym c.in-Ext.is) (c.ext_statement.ensures c.args.ring.now c.args.polynomials.now)
