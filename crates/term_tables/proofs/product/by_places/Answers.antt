use Rattle.std.proofs.Common.{subst}
use Rattle.formal_sums.proofs.Sameness.{IsSame_trans}
use Rattle.formal_sums.specs.FormalSums.{IsSame, product}
use Rattle.term_tables.proofs.Numbers.{no_carries}
use Rattle.term_tables.proofs.Sums.{each_ok, filled}
use Rattle.term_tables.specs.Digits.{packed_sum}
use Rattle.term_tables.specs.Tables.{ranked_sum, table_sum}
use Rattle.term_tables.proofs.product.by_places.Goals as goal

pub returns-clause-sum : goal.returns-clause-sum
returns-clause-sum c = λ n.
    let bs = c.args.bases.now in
    let p = c.args.ring.now.modulus.value in
    let table = filled n p bs c.args.places c.in_ok-sums.sums.items c.add_products.new.sums.items (product (packed_sum n bs c.args.left.now) (packed_sum n bs c.args.right.now))
    (c.in_ok-sums.ensures.items_if_clones_equal (λ y e. e))
    (c.add_products.ensures.sum n p bs c.square.ensures.multiple (no_carries p bs c.args.left.now c.args.right.now c.requires.left c.requires.right)) in
    each_ok _ (λ v. IsSame p (ranked_sum n bs v.items) (product (packed_sum n bs c.args.left.now) (packed_sum n bs c.args.right.now))) c.ranked_terms.result
    (λ v e. IsSame_trans (subst (λ xs. IsSame p (ranked_sum n bs v.items) (table_sum n bs 0 xs)) c.deref.ensures.value e) table) (c.ranked_terms.ensures.sum n)
