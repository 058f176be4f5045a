use Rattle.script_parse.proofs.Stating.{preimage_says}
use Rattle.script_parse.proofs.operation_line.preimage.Goals as goal

pub returns-in-Ok : goal.returns-in-Ok
returns-in-Ok c = preimage_says c.args.ring.now c.args.line.now c.args.polynomials.now c.args.value c.in_ok-name.name c.in-Ok.images c.in_ok-name.ensures c.requires.workable c.in-Ok.ensures

pub name_of-requires : goal.name_of-requires
name_of-requires c = c.requires.ascii

pub list_value-requires : goal.list_value-requires
list_value-requires c = c.requires.workable
