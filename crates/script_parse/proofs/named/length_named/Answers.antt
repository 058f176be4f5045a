use Rattle.std.proofs.Common.{Some, ap, sym, ◌∙◌}
use Rattle.script_parse.proofs.NamePlaces.{length_at, no_length, place_bound}
use Rattle.script_parse.proofs.named.length_named.Goals as goal

pub info_at-requires : goal.info_at-requires
info_at-requires c = place_bound c.args.names.now c.args.text.now c.in-Some.i (sym c.place_of.ensures ∙ c.in-Some.is)

pub returns-in-Some : goal.returns-in-Some
returns-in-Some c =
    ap (λ info. Some info.length) c.info_at.ensures
    ∙ sym (length_at c.args.names.now c.args.text.now c.in-Some.i c.info_at.result.now (sym c.place_of.ensures ∙ c.in-Some.is))

pub returns-in-None : goal.returns-in-None
returns-in-None c = sym (no_length c.args.names.now c.args.text.now (sym c.place_of.ensures ∙ c.in-None.is))
