use Rattle.std.proofs.Common.{length, rules, subst, ◌<◌}
use Rattle.std.proofs.lemmas.Fn.{always_returns_same}
use Rattle.std.proofs.lemmas.List.Sorted.{Contains-permutation, IsPermutation-trans}
use Rattle.std.specs.List.{range_with_len}
use Rattle.std.specs.List.Sorted.{IsPermutation, IsSortedBy}
use Rattle.std.specs.Ordering.{is_lt}
use Rattle.term_lists.proofs.Gathers.{Each_permutation}
use Rattle.term_lists.specs.Rings.{variables}
use Rattle.row_matrix.proofs.KeyPlaces.{descent_weak, range_all, range_below, sorted_falls}
use Rattle.row_matrix.specs.Naming.{by_descent}
use Rattle.row_matrix.proofs.numbering.sorted_numbers.Goals as goal

pub returns-then-descend-clause-known : goal.returns-then-descend-clause-known
returns-then-descend-clause-known g c =
    let count = length c.args.keys.now in
    Each_permutation (λ i. i < count) (range_with_len 0 count) c.in_ok-numbers.numbers.items c.in_ok-numbers.ensures (range_below count)

pub returns-then-descend-clause-all : goal.returns-then-descend-clause-all
returns-then-descend-clause-all g c = λ i lt.
    let count = length c.args.keys.now in
    Contains-permutation (range_with_len 0 count) c.in_ok-numbers.numbers.items i c.in_ok-numbers.ensures (range_all count i lt)

pub returns-then-descend-clause-falls : goal.returns-then-descend-clause-falls
returns-then-descend-clause-falls g c =
    let n = variables (g.F.Frame.over c.args.frame.now) in
    let compare = g.F.Frame.compare c.args.frame.now n in
    let laws = g.met.F.Frame.laws c.args.frame.now n 0 in
    let keys = c.args.keys.now in
    let count = length keys in
    sorted_falls n compare laws keys c.in_ok-numbers.numbers.items
    (Each_permutation (λ i. i < count) (range_with_len 0 count) c.in_ok-numbers.numbers.items c.in_ok-numbers.ensures (range_below count))
    (subst (IsSortedBy (λ i j. is_lt (by_descent n compare keys i j))) c.deref.ensures.value (c.descend.ensures c.if-descend.true))

pub returns-clause-known : goal.returns-clause-known
returns-clause-known g c =
    let count = length c.args.keys.now in
    let sorted = c.sort_unstable_by.new.self.items in
    let moved : IsPermutation (range_with_len 0 count) sorted =
    IsPermutation-trans (range_with_len 0 count) c.in_ok-numbers.numbers.items sorted c.in_ok-numbers.ensures c.sort_unstable_by.ensures.permutation in
    Each_permutation (λ i. i < count) (range_with_len 0 count) sorted moved (range_below count)

pub returns-clause-all : goal.returns-clause-all
returns-clause-all g c = λ i lt.
    let count = length c.args.keys.now in
    let sorted = c.sort_unstable_by.new.self.items in
    let moved : IsPermutation (range_with_len 0 count) sorted =
    IsPermutation-trans (range_with_len 0 count) c.in_ok-numbers.numbers.items sorted c.in_ok-numbers.ensures c.sort_unstable_by.ensures.permutation in
    Contains-permutation (range_with_len 0 count) sorted i moved (range_all count i lt)

pub returns-clause-falls : goal.returns-clause-falls
returns-clause-falls g c =
    let n = variables (g.F.Frame.over c.args.frame.now) in
    let compare = g.F.Frame.compare c.args.frame.now n in
    let laws = g.met.F.Frame.laws c.args.frame.now n 0 in
    let keys = c.args.keys.now in
    let count = length keys in
    let sorted = c.sort_unstable_by.new.self.items in
    let moved : IsPermutation (range_with_len 0 count) sorted =
    IsPermutation-trans (range_with_len 0 count) c.in_ok-numbers.numbers.items sorted c.in_ok-numbers.ensures c.sort_unstable_by.ensures.permutation in
    sorted_falls n compare laws keys sorted (Each_permutation (λ i. i < count) (range_with_len 0 count) sorted moved (range_below count))
    (c.sort_unstable_by.ensures.sorted (λ i j. is_lt (by_descent n compare keys i j)) (descent_weak n compare laws keys)
    (always_returns_same _ _ _ (λ a r f k. search rules)))
