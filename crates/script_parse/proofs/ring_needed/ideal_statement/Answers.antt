use Rattle.script_parse.proofs.Stating.{ideal_says}
use Rattle.script_parse.proofs.ring_needed.ideal_statement.Goals as goal

pub returns-in-Ok : goal.returns-in-Ok
returns-in-Ok c = ideal_says c.args.ring.now c.args.line.now c.args.polynomials.now c.args.given c.in_ok-name.name c.in-Ok.list c.in_ok-name.ensures c.requires.workable c.in-Ok.ensures

pub name_of-requires : goal.name_of-requires
name_of-requires c = c.requires.ascii

pub list_value-requires : goal.list_value-requires
list_value-requires c = c.requires.workable
