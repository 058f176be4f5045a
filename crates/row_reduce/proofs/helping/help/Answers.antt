use Rattle.row_reduce.proofs.helping.help.Goals as goal

pub help_through-left-requires-clause-ready : goal.help_through-left-requires-clause-ready
help_through-left-requires-clause-ready c = c.requires.ready

pub help_through-left-requires-clause-mine : goal.help_through-left-requires-clause-mine
help_through-left-requires-clause-mine c = c.requires.mine
