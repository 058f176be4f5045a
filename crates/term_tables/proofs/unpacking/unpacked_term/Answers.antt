use Rattle.std.proofs.Common.{refl, subst, sym, ◌∙◌}
use Rattle.monomial_orders.specs.Kept.{IsWeighed}
use Rattle.term_tables.proofs.Numbers.{digits_long}
use Rattle.term_tables.proofs.unpacking.unpacked_term.Goals as goal

pub from_exponents-requires : goal.from_exponents-requires
from_exponents-requires c = record {
  variables = digits_long c.args.bases.now c.args.weights.now c.deref.result.now c.args.term.now.1 c.requires
      (c.deref.ensures.value ∙ c.in_ok-put_digits.ensures c.if-not-branch.false);
}

pub returns-in-Ok : goal.returns-in-Ok
returns-in-Ok c =
    let put = c.deref.ensures.value ∙ c.in_ok-put_digits.ensures c.if-not-branch.false in
    record {
      weighed = subst (λ n. IsWeighed n c.args.weights.now c.in-Ok.monomial)
          (sym (digits_long c.args.bases.now c.args.weights.now c.deref.result.now c.args.term.now.1 c.requires put)) c.in-Ok.ensures.weighed;
      position = refl;
      exponents = c.in-Ok.ensures.ok ∙ put;
      residue = refl;
    }
