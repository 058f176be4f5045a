use Rattle.std.proofs.Common.{arith, inl, inr, leb, leb-false, rules, subst, sym, ℕ, ◌<◌}
use Rattle.std.proofs.lemmas.Bool.{cases_lt}
use Rattle.std.proofs.lemmas.List.Sorted.{IsPartitionPoint-from_clause, IsPartitionedBy-leb}
use Rattle.symbolic_prep.specs.Divisors.{position_of}
use Rattle.symbolic_prep.proofs.divisors.count_possible.Goals as goal

pub returns-clause-behind : goal.returns-clause-behind
returns-clause-behind c =
    let least = c.args.least.now in
    let degree = c.args.degree in
    let parted = IsPartitionedBy-leb (λ (d : ℕ). d) least degree c.requires.degrees in
    let point = IsPartitionPoint-from_clause (λ d. leb d degree) _ _ c.partition_point.ensures.partitioned parted (λ a r q k. search rules) in
    λ i d le lt at. elim (cases_lt i c.count_through-through.result) [
      | inl before ↦ inr (leb-false _ _ (point.1 i 0 (omega arith) (omega arith)))
      | inr behind ↦ inl (subst (λ d. c.args.position < position_of d) (sym at) (c.count_through-through.ensures.point.1 i d (omega arith) lt))
    ]
