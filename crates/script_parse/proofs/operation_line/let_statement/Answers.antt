use Rattle.script_parse.proofs.operation_line.let_statement.Goals as goal

pub name_of-requires : goal.name_of-requires
name_of-requires c = c.requires.ascii

pub operation_of-requires-clause-ascii : goal.operation_of-requires-clause-ascii
operation_of-requires-clause-ascii c = c.requires.places

pub operation_of-requires-clause-workable : goal.operation_of-requires-clause-workable
operation_of-requires-clause-workable c = c.requires.workable

pub operation_of-requires-clause-written : goal.operation_of-requires-clause-written
operation_of-requires-clause-written c = c.requires.written
