use Rattle.std.proofs.Common.{arith, string_bytes}
use Rattle.poly_text.proofs.Writing.{begins_more, powers_skipped, powers_taken}
use Rattle.poly_text.proofs.polynomial.append_powers.Goals.{then-exponent-gt0+in-Ok, else-exponent-gt0}
use Rattle.poly_text.proofs.polynomial.append_powers.Goals as goal

pub loop-i-preserved : goal.loop-i-preserved
loop-i-preserved c = elim c.if-exponent-gt0.branch [
  | then-exponent-gt0+in-Ok w ↦
      rw (w.out-is, w.begun-is) (
        begins_more _ c.loop-i.out _ _ c.loop-i.invariant.0 w.in-Ok.ensures.ok,
        powers_taken string_bytes c.args.vars.now c.args.exponents.now c.loop-i.i c.index-vars-i.result c.loop-i.begun w.as_bytes.result.now c.loop-i.out _ _
            c.requires c.loop-i-test.true c.index-vars-i.is w.if-exponent-gt0.true w.as_bytes.ensures.value w.in-Ok.ensures.ok c.loop-i.invariant.1,
      )
  | else-exponent-gt0 w ↦
      rw (w.out-is, w.begun-is) (
        c.loop-i.invariant.0,
        powers_skipped string_bytes c.args.vars.now c.args.exponents.now c.loop-i.i c.index-vars-i.result c.loop-i.begun c.loop-i.out _
            c.requires c.loop-i-test.true c.index-vars-i.is (omega (arith, w.if-exponent-gt0.false)) c.loop-i.invariant.1,
      )
]
