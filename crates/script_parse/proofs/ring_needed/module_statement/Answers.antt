use Rattle.std.proofs.Common.{Some, subst, sym}
use Rattle.script_parse.specs.Statements.{Says}
use Rattle.script_parse.specs.declared.stated.Statement.TheVariants as statements
use Rattle.script_parse.proofs.Stating.{module_says}
use Rattle.script_parse.proofs.ring_needed.module_statement.Goals as goal

pub returns-in-Ok : goal.returns-in-Ok
returns-in-Ok c = λ w is.
    subst (λ r. Says (Some c.args.ring.now) c.args.line.now w (statements.Module c.in_ok-name.name r c.in-Ok.list)) (sym c.from.ensures)
    (module_says c.args.ring.now c.args.line.now c.args.polynomials.now c.args.given c.args.rank c.args.shape c.in_ok-name.name c.in-Some.entries c.in-Ok.list c.in_ok-name.ensures c.in-Some.ensures.0 c.requires.fits
    c.in-Ok.ensures w is)

pub name_of-requires : goal.name_of-requires
name_of-requires c = c.requires.ascii

pub vectors_value-requires-clause-workable : goal.vectors_value-requires-clause-workable
vectors_value-requires-clause-workable c = c.requires.workable
