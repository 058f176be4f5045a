use Rattle.std.proofs.Common.{subst, sym}
use Rattle.s_vectors.specs.Parts.{IsGreatProduct}
use Rattle.s_vectors.proofs.sums.great_stop.Goals as goal

pub returns-in-Ok : goal.returns-in-Ok
returns-in-Ok c = subst (IsGreatProduct c.args.products.now c.in-Some.number) (sym c.in-Ok.ensures.ok) c.in-Some.ensures.some

pub unreachable-requires : goal.unreachable-requires
unreachable-requires c = c.requires c.in-None.ensures.none
