use Rattle.std.proofs.Common.{arith}
use Rattle.vector_division.proofs.Masking.{bit_added, bit_skipped}
use Rattle.vector_division.proofs.marks.bits_in_turn.Goals as goal
use Rattle.vector_division.proofs.marks.bits_in_turn.Goals.{then-exponents-i-gt0, else-exponents-i-gt0}

pub loop-i-preserved : goal.loop-i-preserved
loop-i-preserved c =
    let m = c.args.exponents.now in
    elim c.if-exponents-i-gt0.branch [
      | then-exponents-i-gt0 w ↦ (let h = w.if-exponents-i-gt0 in rw w.bits-is (bit_added m c.loop-i.bits c.loop-i.i (omega arith) (omega (arith, h.true)) c.loop-i.invariant))
      | else-exponents-i-gt0 w ↦ (let h = w.if-exponents-i-gt0 in rw w.bits-is (bit_skipped m c.loop-i.bits c.loop-i.i (omega (arith, h.false)) c.loop-i.invariant))
    ]
