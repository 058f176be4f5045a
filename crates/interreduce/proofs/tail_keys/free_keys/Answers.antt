use Rattle.std.proofs.Common.{IfOk, subst, sym}
use Rattle.term_lists.specs.Rings.{variables}
use Rattle.vector_division.specs.Divisors.{AreDivisors}
use Rattle.interreduce.proofs.Choosing.{needed_are_enough}
use Rattle.interreduce.proofs.tail_keys.free_keys.Goals as goal

pub put_tail-requires-clause-divisors : goal.put_tail-requires-clause-divisors
put_tail-requires-clause-divisors g c =
    let n = variables (g.F.Frame.over c.args.frame.now) in
    let list = g.L.Vectors.listed c.args.list.now in
    subst (AreDivisors n list) (sym c.deref.ensures.value)
    (subst (λ r. IfOk r (λ divisors. AreDivisors n list divisors.items)) c.in_ok-divisors.was (c.divisors_at.ensures n (needed_are_enough n (g.F.Frame.compare c.args.frame.now n) list c.args.kept.now c.requires.needed)))
