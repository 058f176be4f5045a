use Rattle.std.proofs.Common.{ap, arith, ◌*◌, ◌+◌, ◌-◌, ◌<◌, ◌∙◌, ◌≡◌, ◌≤◌}
use Rattle.residues.proofs.Congruences.{IsCongruent_of}
use Rattle.dense_reduction.proofs.Adding.{product_below}
use Rattle.dense_reduction.proofs.EightSums.{IsSumBelow, sum_less}
use Rattle.dense_reduction.proofs.accumulating.add_product.Goals as goal

pub overflow_mul-more : goal.overflow_mul-more
overflow_mul-more c =
    let p = c.args.modulus.now.value in
    let below : c.args.factor * c.args.residue < p * p = product_below p c.args.factor c.args.residue c.requires.factor c.requires.residue in
    let product : c.from.result * c.from-2.result ≡ c.args.factor * c.args.residue =
    ap (λ x. x * c.from-2.result) c.from.ensures ∙ ap (λ x. c.args.factor * x) c.from-2.ensures in
    let room = c.requires.limit.room in
    omega (arith, below, product, room)

pub overflow_add-more : goal.overflow_add-more
overflow_add-more c =
    let p = c.args.modulus.now.value in
    let below : c.args.factor * c.args.residue < p * p = product_below p c.args.factor c.args.residue c.requires.factor c.requires.residue in
    let product : c.from.result * c.from-2.result ≡ c.args.factor * c.args.residue =
    ap (λ x. x * c.from-2.result) c.from.ensures ∙ ap (λ x. c.args.factor * x) c.from-2.ensures in
    let room = c.requires.limit.room in
    omega (arith, below, product, room, c.requires.sum)

pub returns-then-more-limit-clause-congruent : goal.returns-then-more-limit-clause-congruent
returns-then-more-limit-clause-congruent c =
    let product : c.from.result * c.from-2.result ≡ c.args.factor * c.args.residue =
    ap (λ x. x * c.from-2.result) c.from.ensures ∙ ap (λ x. c.args.factor * x) c.from-2.ensures in
    IsCongruent_of c.args.modulus.now.value (c.args.sum + c.from.result * c.from-2.result) (c.args.sum + c.args.factor * c.args.residue)
    (ap (λ x. c.args.sum + x) product)

pub returns-else-more-limit-clause-small : goal.returns-else-more-limit-clause-small
returns-else-more-limit-clause-small c =
    let p = c.args.modulus.now.value in
    let below : c.args.factor * c.args.residue < p * p = product_below p c.args.factor c.args.residue c.requires.factor c.requires.residue in
    let product : c.from.result * c.from-2.result ≡ c.args.factor * c.args.residue =
    ap (λ x. x * c.from-2.result) c.from.ensures ∙ ap (λ x. c.args.factor * x) c.from-2.ensures in
    let some = c.requires.limit.some in
    omega (arith, below, product, some, c.requires.sum)

pub returns-else-more-limit-clause-congruent : goal.returns-else-more-limit-clause-congruent
returns-else-more-limit-clause-congruent c =
    let p = c.args.modulus.now.value in
    let more = c.args.sum + c.from.result * c.from-2.result in
    let product : c.from.result * c.from-2.result ≡ c.args.factor * c.args.residue =
    ap (λ x. x * c.from-2.result) c.from.ensures ∙ ap (λ x. c.args.factor * x) c.from-2.ensures in
    let sum : more ≡ c.args.sum + c.args.factor * c.args.residue = ap (λ x. c.args.sum + x) product in
    let less : c.args.limit ≤ c.args.sum + c.args.factor * c.args.residue = omega (arith, sum, c.if-more-limit.false) in
    let h : IsSumBelow p c.args.limit c.args.sum c.args.factor c.args.residue (more - c.args.limit) =
    sum_less p c.args.limit c.args.sum c.args.factor c.args.residue (more - c.args.limit) c.requires.limit c.requires.sum
    c.requires.factor c.requires.residue less (ap (λ x. x - c.args.limit) sum) in
    h.congruent
