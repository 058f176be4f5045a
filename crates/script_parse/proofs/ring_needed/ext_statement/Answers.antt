use Rattle.script_parse.proofs.ring_needed.ext_statement.Goals as goal

pub name_of-requires : goal.name_of-requires
name_of-requires c = c.requires
