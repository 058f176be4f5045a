-- The rows that a table of numbers tells to leave are those of the pivots, by degree and in the order of the columns
use Rattle.std.specs.Prelude.{None, Option, Some}
use Rattle.std.proofs.Common.{List, [], ap, arith, get_or, length, map, refl, subst, sym, true≢false, ℕ, ◌∙◌, ◌≡◌, ◌≤◌}
use Rattle.formal_sums.specs.FormalSums.{Each, FormalSum}
use Rattle.column_passes.specs.Passing.{AreNumbered, HaveNoOthers, LeaveNumbered, Pivot}
use Rattle.column_passes.specs.Placing.{ArePlacesAfter, place_after}
use Rattle.column_passes.specs.Sorting.{numbers_from}
use Rattle.column_passes.specs.declared.placing.Leaving.{Leaving}
use Rattle.column_passes.proofs.ByDegree.{by_degree, each_by}
use Rattle.column_passes.proofs.Lists.{all_map, each_mapped, each_unmapped}
use Rattle.column_passes.proofs.Numbering.{numbered_off}
use Rattle.column_passes.proofs.Reordering.{AreOff, IsOff, each_unby, off_choices, off_pivots, pivots_after}
use Rattle.column_passes.proofs.Turning.{AreTurned, free_place, is_there, same_places, turned_none}

-- rows of the pivots by degree
module _ {n : ℕ} (p : ℕ) (column : ℕ → FormalSum n) (choice : ℕ → Option (ℕ × ℕ)) (degrees : List ℕ) (count : ℕ) (rows : List ℕ)
    (rows_are : rows ≡ map (λ (s : Pivot n). s.row) (pivots_after p column choice [] (by_degree degrees (numbers_from 0 count)))) where
  -- the pivots by degree, and in the order of the columns
  abbrev D : List (Pivot n)
  D = pivots_after p column choice [] (by_degree degrees (numbers_from 0 count))

  abbrev C : List (Pivot n)
  C = pivots_after p column choice [] (numbers_from 0 count)

  off_rows : (q : ℕ) → Each (λ r. r ≡ q → ⊥) rows → AreOff q C
  off_rows q off =
      let pivots : AreOff q D = each_unmapped (λ r. r ≡ q → ⊥) (λ (s : Pivot n). s.row) D (subst (Each (λ r. r ≡ q → ⊥)) rows_are off) in
      off_pivots p column choice q [] (numbers_from 0 count) tt
      (each_unby (λ c. IsOff q (choice c)) degrees (numbers_from 0 count)
      (off_choices p column choice q [] (by_degree degrees (numbers_from 0 count)) pivots).1)

  off_pivots_all : (q : ℕ) → AreOff q C → Each (λ r. r ≡ q → ⊥) rows
  off_pivots_all q off =
      let pivots : AreOff q D =
      off_pivots p column choice q [] (by_degree degrees (numbers_from 0 count)) tt
      (each_by (λ c. IsOff q (choice c)) degrees (numbers_from 0 count) (off_choices p column choice q [] (numbers_from 0 count) off).1)
      in
      subst (Each (λ r. r ≡ q → ⊥)) (sym rows_are) (each_mapped (λ r. r ≡ q → ⊥) (λ (s : Pivot n). s.row) D pivots)

  -- so those rows leave that have a number
  module _ (numbers : List ℕ) (numbered : AreNumbered numbers 0 rows) (others : HaveNoOthers numbers rows) (few : length rows ≤ 18446744073709551615)
      (out : List ℕ) (turned : AreTurned [] C out) where
    out_stays : (q : ℕ) → get_or numbers q 18446744073709551615 ≡ 18446744073709551615 → place_after out q ≡ None → ⊥
    out_stays q none gone =
        let place = free_place C out q turned (off_rows q (numbered_off numbers 0 rows q numbered (omega (arith, few)) none)) in
        true≢false (ap is_there (sym place.1 ∙ gone))

    out_leaves : (q : ℕ) → (get_or numbers q 18446744073709551615 ≡ 18446744073709551615 → ⊥) → place_after out q ≡ None
    out_leaves q some = go (place_after out q) refl
      where
        go : (place : Option ℕ) → place_after out q ≡ place → place ≡ None
        go None e = refl
        go (Some r) e =
            let off : AreOff q C =
            all_map _ _ C (λ (s : Pivot n) none row. true≢false (ap is_there (sym e ∙ sym (ap (place_after out) row) ∙ none)))
            (turned_none [] C out turned)
            in
            absurd (some (others q (off_pivots_all q off)))

    pub rows_told : (leaving : Leaving) → LeaveNumbered numbers leaving → ArePlacesAfter out leaving
    rows_told leaving l q =
        l.turn q
        ∙ same_places l.rows out (λ i z. out_leaves i (λ none. l.stay i none (l.turn i ∙ z)))
        (λ i z. sym (l.turn i) ∙ l.leave i (λ none. out_stays i none z)) q
