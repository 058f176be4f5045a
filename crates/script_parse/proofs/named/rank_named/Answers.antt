use Rattle.std.proofs.Common.{Some, ap, sym, ◌∙◌}
use Rattle.script_parse.proofs.NamePlaces.{rank_at, no_rank, place_bound}
use Rattle.script_parse.proofs.named.rank_named.Goals as goal

pub info_at-requires : goal.info_at-requires
info_at-requires c = place_bound c.args.names.now c.args.text.now c.in-Some.i (sym c.place_of.ensures ∙ c.in-Some.is)

pub returns-in-Some : goal.returns-in-Some
returns-in-Some c =
    ap (λ info. Some info.rank) c.info_at.ensures
    ∙ sym (rank_at c.args.names.now c.args.text.now c.in-Some.i c.info_at.result.now (sym c.place_of.ensures ∙ c.in-Some.is))

pub returns-in-None : goal.returns-in-None
returns-in-None c = sym (no_rank c.args.names.now c.args.text.now (sym c.place_of.ensures ∙ c.in-None.is))
