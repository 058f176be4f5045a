use Rattle.std.proofs.Common.{subst, sym}
use Rattle.term_lists.specs.Rings.{variables}
use Rattle.vector_division.specs.Divisors.{AreDivisors}
use Rattle.vector_division.specs.Reductions.{cofactors_of}
use Rattle.remainders.proofs.Resting.{cofactor_rank}
use Rattle.remainders.proofs.remaining.by_terms.Goals as goal

pub reduce_by-requires-clause-divisors : goal.reduce_by-requires-clause-divisors
reduce_by-requires-clause-divisors c =
    let n = variables c.args.ring.now in
    subst (AreDivisors n c.args.list.now) (sym c.deref.ensures.value) (c.in_ok-divisors.ensures n)

pub returns-in-Ok-clause-rest : goal.returns-in-Ok-clause-rest
returns-in-Ok-clause-rest c = rw c.rest_of.ensures c.in-Ok.ensures.rest

pub returns-in-Ok-clause-remainder : goal.returns-in-Ok-clause-remainder
returns-in-Ok-clause-remainder c =
    let ring = c.args.ring.now in
    let n = variables ring in
    let qs = c.in-Ok.reduction.quotients.items in
    rw c.rest_of.ensures (record {
      cofactors = cofactors_of n qs;
      ranks = cofactor_rank n ring.weights ring.modulus.value c.args.list.now qs c.in-Ok.ensures.quotients;
      sum = c.in-Ok.ensures.sum;
      free = c.in-Ok.ensures.reduced;
    })
