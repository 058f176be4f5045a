use Rattle.std.proofs.Common.{[], ap, sym, ◌++◌, ◌+◌, ◌∙◌, ◌∷◌}
use Rattle.degree_engine.proofs.LastVariable.{as_many, raised_monomial_is}
use Rattle.degree_engine.proofs.last_variable.raised_monomial.Goals as goal

pub from_exponents-requires : goal.from_exponents-requires
from_exponents-requires c = record {
  variables = as_many c.args._ring.now c.args.more.now c.in_ok-power.power c.args.m.now c.deref.result.now c.requires.more c.requires.monomial
      (c.deref.ensures.value ∙ c.in_ok-exponents.ensures ∙ ap (λ l. l ++ c.in_ok-power.power ∷ []) c.exponents.ensures.value);
}

pub returns : goal.returns
returns c =
    let is =
    raised_monomial_is c.args._ring.now c.args.more.now c.args.degree c.in_ok-power.power c.args.m.now c.in_ok-from_exponents.field-0 c.deref.result.now
    c.requires.more c.requires.monomial
    (c.deref.ensures.value ∙ c.in_ok-exponents.ensures ∙ ap (λ l. l ++ c.in_ok-power.power ∷ []) c.exponents.ensures.value)
    (ap (λ d. d + c.in_ok-power.power) (sym c.degree.ensures.value) ∙ c.in_ok-power.ensures) c.in_ok-from_exponents.ensures.ok
    c.in_ok-from_exponents.ensures.weighed in
    record { monomial = is.monomial; at_one = is.at_one; degree = is.degree }
