use Rattle.term_lists.specs.Rings.{variables}
use Rattle.term_lists.specs.Vectors.{HasPositions}
use Rattle.sparse_poly.proofs.Results.{both_ok}
use Rattle.poly_value.proofs.Sums.{normal_positions}
use Rattle.poly_value.proofs.parts.normal.Goals as goal

pub returns-clause-polynomial : goal.returns-clause-polynomial
returns-clause-polynomial g c =
    let ring = g.F.Frame.over c.args.frame.now in
    both_ok _ _ (λ v. HasPositions 1 v) c.from_terms.result
    (λ v. normal_positions (g.met.F.Frame.laws c.args.frame.now (variables ring) 1) ring.weights ring.modulus.value c.args.terms.items v c.requires.positions)
    c.from_terms.ensures.vector c.from_terms.ensures.same
