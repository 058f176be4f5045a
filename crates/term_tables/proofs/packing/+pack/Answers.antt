use Rattle.term_tables.proofs.Numbers.{packed_digits, packed_within}
use Rattle.term_tables.proofs.packing.+pack.Goals as goal

pub returns-clause-digits : goal.returns-clause-digits
returns-clause-digits t c =
    packed_digits c.args.is_left c.args.bases.now c.args.exponents.now c.in-Some.b.now c.in-Some.other_bases.now c.in-Some-split_first.e.now c.in-Some-split_first.others.now
    c.in_ok-k.k c.base.result c.limit.result c.in_ok-sum.sum c.in-Some.ensures.cases.0 c.in-Some-split_first.ensures.cases.0 c.limit.ensures c.if-e-limit.false c.base.ensures.value c.in_ok-sum.ensures
    c.in_ok-k.ensures.digits

pub returns-clause-within : goal.returns-clause-within
returns-clause-within t c =
    packed_within c.args.is_left c.args.bases.now c.in-Some.b.now c.in-Some.other_bases.now c.in-Some-split_first.e.now
    c.in_ok-k.k c.base.result c.limit.result c.in_ok-sum.sum c.in-Some.ensures.cases.0 c.limit.ensures c.if-e-limit.false c.base.ensures.value c.in_ok-sum.ensures
    c.in_ok-k.ensures.within
