use Rattle.std.proofs.Common.{[], ap, append-nil, arith, get_or, length, map, subst, sym, take, ◌++◌, ◌-◌, ◌∙◌, ◌≡◌}
use Rattle.term_lists.specs.Rings.{variables}
use Rattle.interreduce.specs.Members.{HaveReducedTails}
use Rattle.interreduce.proofs.Earlier.{free_of_known, none_before}
use Rattle.interreduce.proofs.batches.batch_tails.Goals as goal

pub reduced_by_known-requires-clause-divisors : goal.reduced_by_known-requires-clause-divisors
reduced_by_known-requires-clause-divisors g c κs within = c.requires.divisors (variables (g.F.Frame.over c.args.frame.now))

pub reduced_by_known-requires-clause-known : goal.reduced_by_known-requires-clause-known
reduced_by_known-requires-clause-known g c κs within = c.requires.known

pub reduced_by_known-requires-clause-free : goal.reduced_by_known-requires-clause-free
reduced_by_known-requires-clause-free g c κs within =
    free_of_known (variables (g.F.Frame.over c.args.frame.now)) (g.L.Vectors.listed c.args.list.now) c.args.known c.args.free.now
    c.requires.serving c.requires.free

pub tails_together-requires-clause-free : goal.tails_together-requires-clause-free
tails_together-requires-clause-free g c κs within = c.requires.free

pub tails_together-requires-clause-serving : goal.tails_together-requires-clause-serving
tails_together-requires-clause-serving g c κs within = c.requires.serving

pub tails_together-requires-clause-known : goal.tails_together-requires-clause-known
tails_together-requires-clause-known g c κs within = c.requires.known

pub tails_together-requires-clause-divisors : goal.tails_together-requires-clause-divisors
tails_together-requires-clause-divisors g c κs within = c.requires.divisors

pub returns-clause-tails : goal.returns-clause-tails
returns-clause-tails g c =
    let ring = g.F.Frame.over c.args.frame.now in
    let compare = g.F.Frame.compare c.args.frame.now in
    let list = g.L.Vectors.listed c.args.list.now in
    let batch = c.args.batch.now in
    let known = c.args.known in
    let none : length batch - 1 ≡ 0 = omega arith in
    let front : map (λ i. get_or list i []) (take (length batch - 1) batch) ≡ [] = none_before (λ i. get_or list i []) batch (length batch - 1) none in
    subst (λ z. HaveReducedTails ring compare list z batch c.in_ok-members.members.items)
    (sym (ap (λ z. known ++ z) front ∙ append-nil known)) c.in_ok-members.ensures
