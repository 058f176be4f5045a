use Rattle.std.proofs.Common.{arith, length, refl, subst, sym, ◌+◌, ◌<◌}
use Rattle.symbolic_prep.proofs.Dividing.{AreListed, listed_more}
use Rattle.symbolic_prep.specs.declared.divisors.Divisor.{Divisor}
use Rattle.vector_division.specs.Marks.{IsMarkOf}
use Rattle.symbolic_prep.proofs.divisors.list_divisors.Goals as goal

pub loop-i-preserved : goal.loop-i-preserved
loop-i-preserved g c =
    let list = g.L.Vectors.listed c.args.list.now in
    let i = c.loop-i.i in
    let d : Divisor = record { member = i; terms = length c.terms.result.now; mark = c.mark_of.result } in
    let lt : i < length list = omega (arith, c.loop-i-test.true, c.count-i-end.ensures) in
    record {
      count = omega arith;
      room = omega arith;
      listed = subst (λ xs. AreListed list xs (i + 1)) (sym c.push_reserved.ensures.items)
          (listed_more list c.loop-i.divisors.items i d c.loop-i.invariant.listed
          (record { within = lt; mark = subst (λ v. IsMarkOf v c.mark_of.result) c.at-v.ensures c.mark_of.ensures }) refl);
    }
