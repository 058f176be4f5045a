use Rattle.dense_reduction.proofs.Reducing.{product_is, product_none}
use Rattle.dense_reduction.proofs.reduction.product_of.Goals as goal

pub returns-then-residue-eq0-clause-congruent : goal.returns-then-residue-eq0-clause-congruent
returns-then-residue-eq0-clause-congruent c =
    product_none c.args.modulus.now.value c.args.factor c.args.number c.residue_of-residue.result c.residue_of-residue.ensures c.if-residue-eq0.true

pub returns-clause-congruent : goal.returns-clause-congruent
returns-clause-congruent c =
    product_is c.args.modulus.now.value c.args.factor c.args.number c.residue_of-residue.result c.mul.result c.mul.ensures.value c.residue_of-residue.ensures
