use Rattle.std.proofs.Common.{[]}
use Rattle.formal_sums.specs.Combinations.{combination}
use Rattle.term_lists.specs.Rings.{variables}
use Rattle.term_lists.specs.Vectors.{StandsFor, sum_of, sums_of}
use Rattle.row_matrix.proofs.MonicMatrices.{ok_more}
use Rattle.complements.specs.Complements.{IsComplement}
use Rattle.complements.proofs.numbered.by_terms.Goals as goal

pub returns-clause-sum : goal.returns-clause-sum
returns-clause-sum c =
    let ring = c.args.ring.now in
    let n = variables ring in
    let columns = c.args.columns.now in
    let factors = c.args.factors.now in
    ok_more (λ w. StandsFor ring w (combination (sums_of n columns) (sum_of n factors))) (λ w. IsComplement ring columns [] w) c.combine.result
    (λ w h. record { factors = sum_of n factors; sum = h }) c.combine.ensures.sum
