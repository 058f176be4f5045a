use Rattle.script_parse.proofs.operation_line.syzygies.Goals as goal

pub name_of-requires : goal.name_of-requires
name_of-requires c = c.requires
