-- How often a call asked the engine
use Rattle.std.proofs.Common.{List, Some, [], ap, arith, get_or, length, refl, slice_set, subst, ℕ, ◌<◌, ◌+◌, ◌∙◌, ◌≡◌}
use Rattle.std.specs.Prelude.{IsSome}
use Rattle.risen_counts.proofs.Counting.{at_most_both}
use Rattle.risen_counts.specs.Counts.{RoseAtMost, count_after}
use Rattle.session_reports.proofs.KeptValues.{at_place}
use Rattle.session_reports.specs.Parts.{Keeps}
use Rattle.session_values.specs.Held.{StoredShown}
use Rattle.session_values.specs.Runs.{fresh_runs}

-- what did not happen is within any bound
pub none_ran : (most count : ℕ) → RoseAtMost most count count
none_ran most count = record { times = 0; within = omega arith; counted = refl }

-- what happened so often is within this bound, and within it and more
pub ran_so_often : (times old new : ℕ) → new ≡ count_after times old → RoseAtMost times old new
ran_so_often times old new e = record { times = times; within = omega arith; counted = e }

pub ran_at_first : (times more old new : ℕ) → new ≡ count_after times old → RoseAtMost (times + more) old new
ran_at_first times more old new e = record { times = times; within = omega arith; counted = e }

pub ran_twice :
    (first second old between new : ℕ) → between ≡ count_after first old → RoseAtMost second between new → RoseAtMost (first + second) old new
ran_twice first second old between new e r = at_most_both first second old between new (ran_so_often first old between e) r

-- what a comparison ran for the values at two places: the first alone, with no basis found, or the second as well
module _ (stored : List StoredShown) (i j : ℕ) (x e : StoredShown) (old between : ℕ) (below : i < length stored) (at_x : x ≡ get_or stored i x)
    (ran : between ≡ count_after (fresh_runs x) old) where
  first_there : between ≡ count_after (fresh_runs (get_or stored i e)) old
  first_there = subst (λ s. between ≡ count_after (fresh_runs s) old) (at_place stored i x e below at_x) ran

  keeps_there : (item : StoredShown) → item.list ≡ x.list → IsSome item.basis → Keeps stored i (slice_set stored i item)
  keeps_there item list some = record {
    item = item;
    written = refl;
    some = some;
    list = λ d. list ∙ ap (λ s. s.list) (at_place stored i x d below at_x);
  }

  pub first_ran : (middle : List StoredShown) × Keeps stored i middle × RoseAtMost (fresh_runs (get_or stored i e) + fresh_runs (get_or middle j e)) old between
  first_ran =
      let item : StoredShown = record { list = x.list; basis = Some [] } in
      let middle = slice_set stored i item in
      (middle, keeps_there item refl refl, ran_at_first (fresh_runs (get_or stored i e)) (fresh_runs (get_or middle j e)) old between first_there)

  pub both_there :
      (item : StoredShown) (new : ℕ) → item.list ≡ x.list → IsSome item.basis → new ≡ count_after (fresh_runs (get_or (slice_set stored i item) j e)) between
      → (middle : List StoredShown) × Keeps stored i middle × RoseAtMost (fresh_runs (get_or stored i e) + fresh_runs (get_or middle j e)) old new
  both_there item new list some later =
      let middle = slice_set stored i item in
      let second = fresh_runs (get_or middle j e) in
      (middle, keeps_there item list some, ran_twice (fresh_runs (get_or stored i e)) second old between new first_there (ran_so_often second between new later))
