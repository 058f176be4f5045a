use Rattle.std.proofs.Common.{rules, subst, sym}
use Rattle.std.proofs.lemmas.List.Sorted.{IsNonDecreasingBy-from_sort_by_key}
use Rattle.formal_sums.specs.FormalSums.{Each}
use Rattle.symbolic_prep.specs.Divisors.{AreLeastDegrees, HaveBits, IsDivisorOf}
use Rattle.symbolic_prep.proofs.Dividing.{all_permuted, by_rank, each_permuted, rank_of}
use Rattle.symbolic_prep.proofs.divisors.divisors_of.Goals as goal

pub bits_of-requires : goal.bits_of-requires
bits_of-requires g c =
    let list = g.L.Vectors.listed c.args.list.now in
    let sorted = c.sort_unstable_by_key.new.self.items in
    subst (Each (IsDivisorOf list)) (sym c.deref.ensures.value)
    (each_permuted list c.in_ok-sorted.sorted.items sorted c.sort_unstable_by_key.ensures.permutation c.in_ok-sorted.ensures.each)

pub least_degrees-requires : goal.least_degrees-requires
least_degrees-requires g c =
    let list = g.L.Vectors.listed c.args.list.now in
    let sorted = c.sort_unstable_by_key.new.self.items in
    subst (Each (IsDivisorOf list)) (sym c.deref-2.ensures.value)
    (each_permuted list c.in_ok-sorted.sorted.items sorted c.sort_unstable_by_key.ensures.permutation c.in_ok-sorted.ensures.each)

pub returns : goal.returns
returns g c =
    let list = g.L.Vectors.listed c.args.list.now in
    let before = c.in_ok-sorted.sorted.items in
    let sorted = c.sort_unstable_by_key.new.self.items in
    let same = c.sort_unstable_by_key.ensures.permutation in
    record {
      each = each_permuted list before sorted same c.in_ok-sorted.ensures.each;
      all = all_permuted list before sorted same c.in_ok-sorted.ensures.all;
      ascending = by_rank sorted (IsNonDecreasingBy-from_sort_by_key rank_of sorted c.sort_unstable_by_key.ensures.sorted (λ a r q k. search rules));
      kept = subst (λ ds. HaveBits list ds c.in_ok-bits.bits.items) c.deref.ensures.value c.in_ok-bits.ensures;
      degrees = subst (λ ds. AreLeastDegrees list ds c.in_ok-least.least.items) c.deref-2.ensures.value c.in_ok-least.ensures;
    }
