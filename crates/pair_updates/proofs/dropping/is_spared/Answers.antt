use Rattle.std.proofs.lemmas.Bool.{false≢true}
use Rattle.pair_updates.proofs.CriterionTests.{not_true}
use Rattle.pair_updates.proofs.dropping.is_spared.Goals as goal

pub product_spares-requires : goal.product_spares-requires
product_spares-requires c = (c.is_of_group.ensures.0 c.if-not-is_of_group.false).pair

pub returns-then-not-is_of_group : goal.returns-then-not-is_of_group
returns-then-not-is_of_group c = record {
  both = λ e. absurd (false≢true e);
  applies = λ e. absurd (false≢true e);
  none = λ g p. absurd (not_true _ c.if-not-is_of_group.true (c.is_of_group.ensures.1 g));
}

pub returns : goal.returns
returns c = record {
  both = λ e. c.is_of_group.ensures.0 c.if-not-is_of_group.false;
  applies = c.product_spares.ensures.0;
  none = λ g p. c.product_spares.ensures.1 p;
}
