use Rattle.pair_updates.proofs.PairOrder.{by_degree, by_indices, by_monomial}
use Rattle.pair_updates.proofs.comparing.compare_pairs.Goals as goal

pub returns-in-Equal-compare : goal.returns-in-Equal-compare
returns-in-Equal-compare c =
    by_indices c.args.leads.now c.args.x.now c.args.y.now c.degree.result c.degree-2.result c.requires.left c.requires.right
    c.degree.ensures.value c.degree-2.ensures.value c.then.result c.in-Equal.ensures c.in-Equal-compare.ensures cc

pub returns-in_default-compare : goal.returns-in_default-compare
returns-in_default-compare c =
    by_monomial c.args.leads.now c.args.x.now c.args.y.now c.degree.result c.degree-2.result c.requires.left c.requires.right
    c.degree.ensures.value c.degree-2.ensures.value c.compare.result c.in-Equal.ensures c.compare.ensures c.in_default-compare.not-Equal

pub returns-in_default : goal.returns-in_default
returns-in_default c =
    by_degree c.args.leads.now c.args.x.now c.args.y.now c.degree.result c.degree-2.result c.requires.left c.requires.right
    c.degree.ensures.value c.degree-2.ensures.value c.cmp.result c.cmp.ensures c.in_default.not-Equal
