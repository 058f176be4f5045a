use Rattle.std.proofs.Common.{arith, subst, ◌*◌, ◌+◌, ◌≡◌}
use Rattle.symbolic_prep.proofs.UnaryBits.{four_at, unary_all}
use Rattle.symbolic_prep.proofs.words.unary_word.Goals as goal
use Rattle.symbolic_prep.specs.Unary.{in_fours}
use Rattle.vector_division.proofs.Masking.{no_bits}
use Rattle.vector_division.specs.Marks.{HasBitsTo}

pub returns : goal.returns
returns c = unary_all c.args.exponents.now c.loop-i.word c.loop-i.i (omega arith) c.loop-i.invariant

pub loop-i-init : goal.loop-i-init
loop-i-init c = no_bits (in_fours c.args.exponents.now)

pub loop-i-preserved : goal.loop-i-preserved
loop-i-preserved c =
    let m = c.args.exponents.now in
    let i = c.loop-i.i in
    let at = four_at m i in
    let next : 4 * i + 4 ≡ 4 * (i + 1) = omega arith in
    subst (HasBitsTo (in_fours m) c.with_exponent-word.result) next
    (c.with_exponent-word.ensures (in_fours m) c.loop-i.invariant at.0 at.1 at.2 at.3)
