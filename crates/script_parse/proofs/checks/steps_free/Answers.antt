use Rattle.script_parse.proofs.checks.steps_free.Goals as goal

pub is_no_value-requires : goal.is_no_value-requires
is_no_value-requires c = c.requires
