use Rattle.std.proofs.Common.{ap, ◌∙◌}
use Rattle.script_parse.proofs.NamePlaces.{place_found}
use Rattle.script_parse.specs.Places.{place_named}
use Rattle.script_parse.proofs.name_table.NameTable.place_of.Goals as goal

pub returns : goal.returns
returns c =
    c.get_index_of.ensures.index ∙ place_found c.self.inside.infos.keys c.args.name.now
    ∙ ap (λ infos. place_named infos c.args.name.now) c.self.view_is
