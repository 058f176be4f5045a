use Rattle.std.proofs.Common.{arith, length, set, subst, ◌+◌, ◌-◌, ◌<◌, ◌≡◌}
use Rattle.symbolic_prep.proofs.Degrees.{AreBoundsFrom, bounds_all, bounds_more, bounds_none}
use Rattle.symbolic_prep.proofs.divisors.set_least.Goals as goal

pub returns : goal.returns
returns c = bounds_all c.args.degrees.now c.loop-k.degrees (length c.args.degrees.now - c.loop-k.k) c.loop-k.least (omega arith) c.loop-k.invariant

pub loop-k-init : goal.loop-k-init
loop-k-init c = bounds_none c.args.degrees.now (length c.args.degrees.now - 0) 4294967295 (omega arith)

pub loop-k-preserved : goal.loop-k-preserved
loop-k-preserved c =
    let old = c.args.degrees.now in
    let items = c.loop-k.degrees in
    let i = length items - 1 - c.loop-k.k in
    let least = c.min-least.result in
    let lt : i < length old = omega (arith, c.loop-k.invariant.count) in
    let before : length old - c.loop-k.k ≡ i + 1 = omega (arith, c.loop-k.invariant.count) in
    let after : i ≡ length old - (c.loop-k.k + 1) = omega (arith, c.loop-k.invariant.count) in
    let bounds = subst (λ z. AreBoundsFrom old items z c.loop-k.least) before c.loop-k.invariant in
    subst (λ z. AreBoundsFrom old (set items i least) z least) after
    (bounds_more old items i c.loop-k.least least bounds lt (omega arith) (omega arith))
