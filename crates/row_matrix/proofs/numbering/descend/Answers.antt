use Rattle.std.proofs.Common.{ap, arith, sym, ◌∙◌}
use Rattle.std.specs.Ordering.{is_lt}
use Rattle.term_lists.specs.Rings.{variables}
use Rattle.row_matrix.proofs.KeyPlaces.{sorted_more}
use Rattle.row_matrix.specs.Naming.{by_descent}
use Rattle.row_matrix.proofs.numbering.descend.Goals as goal

pub loop-k-preserved : goal.loop-k-preserved
loop-k-preserved g c =
    let n = variables (g.F.Frame.over c.args.frame.now) in
    let compare = g.F.Frame.compare c.args.frame.now n in
    let keys = c.args.keys.now in
    let v = c.loop-k.invariant in
    record {
      some = omega arith;
      sorted = sorted_more (λ i j. is_lt (by_descent n compare keys i j)) c.args.numbers.now c.loop-k.k v.some c.loop-k-test.true v.sorted
          (sym (ap is_lt c.descending.ensures) ∙ sym c.is_lt-is_above.ensures ∙ c.if-is_above.false);
    }

pub returns : goal.returns
returns g c = λ t j d low lt. c.loop-k.invariant.sorted j d low (omega (arith, c.loop-k-test.false))
