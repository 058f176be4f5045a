use Rattle.std.proofs.Common.{ap, length, subst, sym, ◌++◌, ◌∙◌, ◌≤◌}
use Rattle.vector_division.specs.Divisors.{AreDivisors}
use Rattle.interreduce.proofs.batches.with_batch.Goals as goal

pub batch_tails-requires-clause-divisors : goal.batch_tails-requires-clause-divisors
batch_tails-requires-clause-divisors g c κs within = λ n.
    subst (AreDivisors n c.args.known) (sym c.deref.ensures.value) (c.requires.divisors n)

pub batch_tails-requires-clause-place : goal.batch_tails-requires-clause-place
batch_tails-requires-clause-place g c κs within =
    subst (λ z. c.args.place ≤ length z) (sym c.deref.ensures.value) c.requires.place

pub batch_tails-requires-clause-free : goal.batch_tails-requires-clause-free
batch_tails-requires-clause-free g c κs within = c.requires.free

pub batch_tails-requires-clause-serving : goal.batch_tails-requires-clause-serving
batch_tails-requires-clause-serving g c κs within = c.requires.serving

pub push_all-requires-clause-place : goal.push_all-requires-clause-place
push_all-requires-clause-place g c = c.requires.place

pub push_all-requires-clause-divisors : goal.push_all-requires-clause-divisors
push_all-requires-clause-divisors g c = λ n.
    subst (λ z. AreDivisors n z c.args.divisors.now.items) (sym c.in_ok-more.ensures.known) (c.requires.divisors n)

pub returns-clause-known : goal.returns-clause-known
returns-clause-known g c =
    let members = c.in_ok-more.members.items in
    record {
      members = members;
      behind = c.in_ok-push_all.ensures.known ∙ ap (λ z. z ++ members) c.in_ok-more.ensures.known;
      tails = c.in_ok-more.ensures.tails;
    }

pub returns-clause-divisors : goal.returns-clause-divisors
returns-clause-divisors g c = c.in_ok-push_all.ensures.divisors
