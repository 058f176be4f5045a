use Rattle.std.proofs.Common.{ap, arith, drop, length, subst, sym, take, ◌-◌, ◌∙◌}
use Rattle.std.proofs.lemmas.List.Edits.{length-swap}
use Rattle.formal_sums.specs.FormalSums.{Each}
use Rattle.pair_updates.proofs.Swapping.{each_swap, put_back_one}
use Rattle.pair_updates.specs.Pairs.{IsRealPair}
use Rattle.pair_queue.proofs.skipping.put_back.Goals as goal

pub loop-last-preserved : goal.loop-last-preserved
loop-last-preserved c =
    let inv = c.loop-last.invariant in
    let q = c.loop-last.queue.items in
    let old = c.args.queue.now.items in
    let last = c.loop-last.last in
    let first = c.loop-last.first in
    let some = c.loop-last-test.true in
    let one = put_back_one q old last first c.args.kept c.args.next (last - 1) (first - 1) (omega (arith, some))
    (omega (arith, some, inv.place, c.requires.kept))
    (omega (arith, some, inv.place, c.requires.kept)) (omega (arith, some, inv.place, inv.high, c.requires.kept, c.requires.next, inv.len)) inv.high
    (omega (arith, c.requires.kept, c.requires.next)) inv.front inv.rest in
    record {
      len = ap length c.swap.ensures ∙ length-swap q (last - 1) (first - 1) ∙ inv.len;
      low = omega (arith, some);
      high = omega (arith, inv.high);
      place = omega (arith, some, inv.place, c.requires.kept);
      front = ap (take (last - 1)) c.swap.ensures ∙ one.0;
      rest = ap (drop (first - 1)) c.swap.ensures ∙ one.1;
      real = λ m h. subst (Each (IsRealPair m)) (sym c.swap.ensures) (each_swap (IsRealPair m) q (last - 1) (first - 1) (inv.real m h));
    }
