use Rattle.std.proofs.Common.{[], arith, length, length-append, subst, sym, ◌+◌, ◌++◌, ◌<◌, ◌∷◌, ◌≡◌}
use Rattle.vector_division.specs.Divisors.{AreDivisors}
use Rattle.interreduce.proofs.Earlier.{front_of}
use Rattle.interreduce.proofs.batches.push_known.Goals as goal

pub insert_divisor-requires-clause-some : goal.insert_divisor-requires-clause-some
insert_divisor-requires-clause-some c =
    let known = c.args.known.now in
    let v = c.args.v in
    let more : length (known ++ v ∷ []) ≡ length known + 1 = length-append known (v ∷ []) in
    subst (λ (z : _). 0 < length z) (sym c.in_ok-push.ensures.ok) (omega (arith, more))

pub insert_divisor-requires-clause-place : goal.insert_divisor-requires-clause-place
insert_divisor-requires-clause-place c = c.requires.place

pub insert_divisor-requires-clause-divisors : goal.insert_divisor-requires-clause-divisors
insert_divisor-requires-clause-divisors c = λ n.
    subst (λ z. AreDivisors n z c.args.divisors.now.items)
    (sym (front_of c.args.known.now c.push.new.self c.args.v c.in_ok-push.ensures.ok)) (c.requires.divisors n)

pub returns-clause-known : goal.returns-clause-known
returns-clause-known c = c.in_ok-push.ensures.ok

pub returns-clause-divisors : goal.returns-clause-divisors
returns-clause-divisors c = c.in_ok-insert_divisor.ensures.divisors
