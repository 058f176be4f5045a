use Rattle.std.proofs.Common.{IfOk, subst, sym}
use Rattle.term_lists.specs.Rings.{variables}
use Rattle.vector_division.specs.Divisors.{AreDivisors}
use Rattle.interreduce.proofs.Choosing.{needed_are_enough}
use Rattle.interreduce.proofs.interreduction.reduced_by_list.Goals as goal

pub reduced_side_by_side-requires-clause-divisors : goal.reduced_side_by_side-requires-clause-divisors
reduced_side_by_side-requires-clause-divisors g c κs within =
    let n = variables (g.F.Frame.over c.args.frame.now) in
    let list = g.L.Vectors.listed c.args.list.now in
    subst (AreDivisors n list) (sym c.deref.ensures.value)
    (subst (λ r. IfOk r (λ divisors. AreDivisors n list divisors.items)) c.in_ok-divisors.was (c.divisors_at.ensures n (needed_are_enough n (g.F.Frame.compare c.args.frame.now n) list c.args.kept.now c.requires.needed)))

pub reduced_in_turn-requires-clause-divisors : goal.reduced_in_turn-requires-clause-divisors
reduced_in_turn-requires-clause-divisors g c =
    let n = variables (g.F.Frame.over c.args.frame.now) in
    let list = g.L.Vectors.listed c.args.list.now in
    subst (AreDivisors n list) (sym c.deref-else-is_worth_threads.ensures.value)
    (subst (λ r. IfOk r (λ divisors. AreDivisors n list divisors.items)) c.in_ok-divisors.was (c.divisors_at.ensures n (needed_are_enough n (g.F.Frame.compare c.args.frame.now n) list c.args.kept.now c.requires.needed)))

pub reduced_in_turn-requires-clause-vectors : goal.reduced_in_turn-requires-clause-vectors
reduced_in_turn-requires-clause-vectors g c = c.requires.vectors
