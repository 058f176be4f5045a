use Rattle.std.proofs.Common.{arith, length, subst, sym, ◌<◌, ◌∙◌, ◌≡◌}
use Rattle.vector_division.proofs.LeastDegrees.{by_kept}
use Rattle.vector_division.proofs.Trying.{all_are_divisors, turned}
use Rattle.vector_division.specs.Divisors.{AreBy}
use Rattle.vector_division.proofs.divisors.all_divisors.Goals as goal

pub returns : goal.returns
returns g c =
    let list = g.L.Vectors.listed c.args.list.now in
    let f = turned c.args.from_last (length list) in
    let e : c.loop-k.k ≡ length list = omega arith in
    let by : AreBy f (length list) list c.loop-k.divisors.items =
    record { count = c.loop-k.invariant.listed ∙ e; each = λ m d lt at. c.loop-k.invariant.each m d (subst (λ t. m < t) (sym e) lt) at } in
    λ n. all_are_divisors list c.set_least.new.divisors.items c.args.from_last n
    (by_kept f (length list) list c.loop-k.divisors.items c.set_least.new.divisors.items c.set_least.ensures.kept by) c.set_least.ensures.least

pub set_least-requires-clause-behind : goal.set_least-requires-clause-behind
set_least-requires-clause-behind g c =
    let list = g.L.Vectors.listed c.args.list.now in
    let e : c.loop-k.k ≡ length list = omega arith in
    λ i d ge lt at. absurd (omega (arith, ge, lt, e, c.loop-k.invariant.listed))
