use Rattle.std.proofs.Common.{leb, leb-true, leb-false, arith, rules}
use Rattle.std.proofs.lemmas.List.Sorted.{IsPartitionPoint-from_clause, IsPartitionedBy-leb}
use Rattle.symbolic_prep.proofs.Dividing.{through_last}
use Rattle.symbolic_prep.specs.Divisors.{position_of}
use Rattle.symbolic_prep.proofs.divisors.count_through.Goals as goal

pub returns-clause-point : goal.returns-clause-point
returns-clause-point c =
    let parted = IsPartitionedBy-leb position_of _ c.args.position c.requires in
    let point = IsPartitionPoint-from_clause (λ d. leb (position_of d) c.args.position) _ _ c.partition_point.ensures.partitioned parted (λ a r q k. search rules) in
    (λ k d low h. leb-true _ _ (point.0 k d low h), λ k d low h. leb-false _ _ (point.1 k d low h))

pub returns-then-position-clause-point : goal.returns-then-position-clause-point
returns-then-position-clause-point c = through_last c.args.divisors.now c.args.position c.in-Some.last.now c.requires (search rules) (omega (arith, c.if-position.true, c.position.ensures))
