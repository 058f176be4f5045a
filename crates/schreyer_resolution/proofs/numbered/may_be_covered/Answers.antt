use Rattle.std.proofs.Common.{refl, sym, ◌∙◌}
use Rattle.term_lists.specs.Vectors.{key_of}
use Rattle.row_matrix.proofs.KeyProducts.{length_sums}
use Rattle.row_matrix.specs.Hashes.{key_product}
use Rattle.schreyer_resolution.proofs.Pushing.{occur_sums}
use Rattle.schreyer_resolution.proofs.numbered.may_be_covered.Goals as goal

pub returns-else-mark-2-clause-never : goal.returns-else-mark-2-clause-never
returns-else-mark-2-clause-never c = λ f n ws weighed lt lk.
    let t = c.args.t.now in
    let key = c.args.key.now in
    c.may_divide.ensures f n ws c.args.columns.now (key_product t key) c.requires.index weighed
    (length_sums t.exponents key.monomial.exponents (lt ∙ sym lk) ∙ lt) refl
    (occur_sums t.exponents key.monomial.exponents c.args.variables c.args.mark.variables (lt ∙ sym lk) c.requires.variables (c.requires.mark.variables c.if-mark.true))

pub returns-clause-never : goal.returns-clause-never
returns-clause-never c = λ f n ws weighed lt lk.
    c.requires.mark.never c.if-mark.false n (key_of n (key_product c.args.t.now c.args.key.now)) refl
