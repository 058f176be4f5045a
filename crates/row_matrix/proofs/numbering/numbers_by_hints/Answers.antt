use Rattle.std.proofs.Common.{[], ap, arith, get_or, length, map, subst₂, sym, take, ℕ, ◌+◌, ◌++◌, ◌<◌, ◌∙◌, ◌∷◌, ◌≡◌, ◌≤◌}
use Rattle.std.proofs.lemmas.List.{get_or_default, map-append, take_all}
use Rattle.std.proofs.lemmas.List.Sorted.{IsPermutation-map}
use Rattle.std.specs.List.Sorted.{IsPermutation}
use Rattle.term_lists.proofs.Scaling.{take_item}
use Rattle.row_matrix.proofs.numbering.numbers_by_hints.Goals as goal

pub loop-one-preserved : goal.loop-one-preserved
loop-one-preserved g c =
    let v = c.loop-one.invariant in
    let i = c.loop-one.one-index in
    let xs = c.deref-one-items.result.now in
    let lt : i < length xs = omega arith in
    let x : ℕ × ℕ = get_or xs i (0, 0) in
    let more : take (i + 1) xs ≡ take i xs ++ x ∷ [] = take_item xs i x lt (get_or_default xs i (0, 0) x lt) in
    record {
      numbers = c.push_reserved.ensures.items ∙ ap (λ ys. ys ++ x.1 ∷ []) v.numbers
          ∙ sym (map-append (λ (h : ℕ × ℕ). h.1) (take i xs) (x ∷ [])) ∙ ap (map (λ (h : ℕ × ℕ). h.1)) (sym more);
      count = omega arith;
      room = omega arith;
    }

pub returns : goal.returns
returns g c =
    let f = λ (h : ℕ × ℕ). h.1 in
    let xs = c.deref-one-items.result.now in
    let le : length xs ≤ c.loop-one.one-index = c.loop-one-test.false in
    let moved = IsPermutation-map f c.in_ok-hinted.hinted.items c.sort_unstable_by.new.self.items c.sort_unstable_by.ensures.permutation in
    let numbers : c.loop-one.numbers.items ≡ map f c.sort_unstable_by.new.self.items =
    c.loop-one.invariant.numbers ∙ ap (map f) (take_all c.loop-one.one-index xs le ∙ c.deref-one-items.ensures.value) in
    subst₂ IsPermutation c.in_ok-hinted.ensures (sym numbers) moved
