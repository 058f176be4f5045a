use Rattle.std.proofs.lemmas.Result.{on_ok_weaker}
use Rattle.monomials.specs.Exponents.{exponents_of}
use Rattle.term_lists.specs.Rings.{variables}
use Rattle.term_lists.specs.Vectors.{sum_of}
use Rattle.cofactor_track.proofs.Differences.{less_of_sum}
use Rattle.cofactor_track.proofs.changes.subtract_vector.Goals as goal

pub returns-clause-less : goal.returns-clause-less
returns-clause-less c =
    let n = variables c.args.ring.now in
    on_ok_weaker c.add_scaled.result
    (λ h. less_of_sum c.args.ring.now.modulus.value c.args.c c.neg-minus.result (exponents_of n c.args.t.now.exponents) (sum_of n c.args.u.now) (sum_of n c.args.v.now) (sum_of n c.add_scaled.new.self) c.neg-minus.ensures.value h)
    c.add_scaled.ensures.sum
