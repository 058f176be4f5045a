use Rattle.std.proofs.Common.{ap, ap₂, arith, length, suc, take, ◌∙◌, ◌≡◌}
use Rattle.term_lists.specs.Rings.{variables}
use Rattle.degree_engine.proofs.LastVariable.{lowered_monomial_is}
use Rattle.degree_engine.proofs.last_variable.lowered_monomial.Goals as goal

pub split_at-requires : goal.split_at-requires
split_at-requires c =
    let count : variables c.args._more.now ≡ suc (variables c.args.ring.now) = c.requires.more.count in
    omega (arith, ap length c.exponents.ensures.value, c.len.ensures, c.requires.monomial.variables, count)

pub from_exponents-requires : goal.from_exponents-requires
from_exponents-requires c =
    let ring = c.args.ring.now in
    let weighted : length ring.weights ≡ variables ring = ring.weighted in
    omega (arith, weighted, c.split_at.ensures.front_len, c.len.ensures)

pub returns : goal.returns
returns c = record {
  monomial = lowered_monomial_is c.args.ring.now c.in_ok-from_exponents.field-0 c.split_at.result.0.now
      (c.split_at.ensures.front_len ∙ c.len.ensures) c.in_ok-from_exponents.ensures.weighed;
  at_one = c.in_ok-from_exponents.ensures.ok ∙ c.split_at.ensures.front ∙ ap₂ take c.len.ensures c.exponents.ensures.value;
}
