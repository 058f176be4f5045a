use Rattle.std.proofs.Common.{ap, ◌∙◌}
use Rattle.script_parse.proofs.NamePlaces.{given}
use Rattle.script_parse.specs.Places.{with_info}
use Rattle.script_parse.proofs.name_table.NameTable.give.Goals as goal

pub returns-in-Ok-clause-given : goal.returns-in-Ok-clause-given
returns-in-Ok-clause-given c =
    c.in-Ok.ensures.keys ∙ given c.args.info c.self.inside.infos.keys ∙ ap (with_info c.args.info) c.self.view_is
