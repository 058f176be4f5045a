use Rattle.std.proofs.Common.{[], rules, subst, sym}
use Rattle.resolution_laws.specs.Resolutions.{IsCanonicalMap}
use Rattle.term_lists.specs.Rings.{ring_comparison, setting, variables}
use Rattle.formal_sums.specs.FormalSums.{Each}
use Rattle.term_lists.proofs.Gathers.{Each_permutation}
use Rattle.term_lists.specs.Vectors.{HasPositions, sums_of}
use Rattle.schreyer_resolution.specs.Progress.{IsTopMap}
use Rattle.std.proofs.lemmas.Fn.{always_returns_same}
use Rattle.std.specs.List.Sorted.{IsPermutation}
use Rattle.std.specs.Ordering.{is_lt}
use Rattle.schreyer_resolution.specs.Sorting.{by_place}
use Rattle.schreyer_resolution.proofs.Places.{by_place_weak, sorted_canonical, sorted_top}
use Rattle.schreyer_resolution.proofs.sorting.sorted_columns.Goals as goal

pub returns-clause-top : goal.returns-clause-top
returns-clause-top c =
    let moved = subst (λ z. IsPermutation z c.sort_unstable_by.new.self.items) c.into_vec-columns.ensures c.sort_unstable_by.ensures.permutation in
    let moved' = subst (λ z. IsPermutation z c.sort_unstable_by.new.self.items) c.in_ok-copy_of.ensures moved in
    subst (IsTopMap c.args.ring.now []) (sym c.from_vec.ensures) (sorted_top c.args.ring.now c.args.rank (c.lawful_setting.ensures c.args.rank) c.args.reduced.now c.sort_unstable_by.new.self.items c.requires.vectors c.requires.positions c.requires.basis c.requires.some moved'
    (c.sort_unstable_by.ensures.sorted (λ v w. is_lt (by_place v w)) by_place_weak (always_returns_same _ _ _ (λ a r f k. search rules))))

pub returns-clause-canonical : goal.returns-clause-canonical
returns-clause-canonical c =
    let moved = subst (λ z. IsPermutation z c.sort_unstable_by.new.self.items) c.into_vec-columns.ensures c.sort_unstable_by.ensures.permutation in
    let moved' = subst (λ z. IsPermutation z c.sort_unstable_by.new.self.items) c.in_ok-copy_of.ensures moved in
    subst (λ z. IsCanonicalMap (setting c.args.ring.now (variables c.args.ring.now) (ring_comparison c.args.ring.now (variables c.args.ring.now)) c.args.rank) (sums_of (variables c.args.ring.now) c.args.reduced.now) (sums_of (variables c.args.ring.now) z)) (sym c.from_vec.ensures) (sorted_canonical c.args.ring.now c.args.rank (c.lawful_setting.ensures c.args.rank) c.args.reduced.now c.sort_unstable_by.new.self.items c.requires.vectors c.requires.positions c.requires.basis c.requires.some moved'
    (c.sort_unstable_by.ensures.sorted (λ v w. is_lt (by_place v w)) by_place_weak (always_returns_same _ _ _ (λ a r f k. search rules))))

pub returns-clause-positions : goal.returns-clause-positions
returns-clause-positions c =
    let moved = subst (λ z. IsPermutation z c.sort_unstable_by.new.self.items) c.into_vec-columns.ensures c.sort_unstable_by.ensures.permutation in
    let moved' = subst (λ z. IsPermutation z c.sort_unstable_by.new.self.items) c.in_ok-copy_of.ensures moved in
    subst (Each (HasPositions c.args.rank)) (sym c.from_vec.ensures) (Each_permutation (HasPositions c.args.rank) c.args.reduced.now c.sort_unstable_by.new.self.items moved' c.requires.positions)
