use Rattle.std.proofs.Common.{arith, subst, ◌+◌, ◌≡◌}
use Rattle.vector_division.specs.Marks.{HasBitsTo}
use Rattle.symbolic_prep.proofs.words.with_exponent.Goals as goal

pub returns : goal.returns
returns c = λ places h a b d e.
    let at = c.args.at in
    let p : at + 1 + 1 ≡ at + 2 = omega arith in
    let q : at + 2 + 1 ≡ at + 3 = omega arith in
    let r : at + 3 + 1 ≡ at + 4 = omega arith in
    let first = c.with_place-first.ensures places h (omega (arith, a)) in
    let second = subst (HasBitsTo places c.with_place-second.result) p (c.with_place-second.ensures places first b) in
    let third = subst (HasBitsTo places c.with_place-third.result) q (c.with_place-third.ensures places second d) in
    subst (HasBitsTo places c.with_place.result) r (c.with_place.ensures places third e)
