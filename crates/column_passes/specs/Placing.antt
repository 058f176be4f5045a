-- Places of rows when others leave in turn
use Rattle.std.specs.Prelude.{Bool, List, None, Option, Some, [], cond, get_or, length, map, nat_eq, nat_lt, ℕ, ◌++◌, ◌+◌, ◌-◌, ◌∷◌, ◌≡◌}
use Rattle.formal_sums.specs.FormalSums.{FormalSum}
use Rattle.minimal_laws.specs.Cancellation.{remove_at, without_row}
use Rattle.term_lists.specs.Rings.{ring_comparison, variables}
use Rattle.term_lists.specs.Vectors.{AreVectorsOver, sums_of}
use Rattle.term_lists.specs.declared.key.Key.{Key as CodeKey}
use Rattle.term_lists.specs.declared.ring.Ring.{Ring}
use Rattle.column_passes.specs.declared.placing.Leaving.{Leaving}

-- what is left to row q when these leave in turn, or none where it is one of them
abbrev pub place_after : List ℕ → ℕ → Option ℕ
place_after [] q = Some q
place_after (r ∷ rows) q = cond (nat_eq q r) None (place_after rows (cond (nat_lt q r) q (q - 1)))

-- the place that is told for q: behind the table each number moves up by as many as leave
abbrev pub place_told : Leaving → ℕ → Option ℕ
place_told leaving q =
    cond (nat_lt q (length leaving.places.items)) (get_or leaving.places.items q None) (Some (q - leaving.count))

-- the places that are told are those that are left when these leave in turn
abbrev pub ArePlacesAfter : List ℕ → Leaving → Type 0
ArePlacesAfter rows leaving = (q : ℕ) → place_told leaving q ≡ place_after rows q

-- the next number was put behind the table: it leaves, or it has its place
abbrev pub IsPlacePut : Bool → Leaving → Leaving → Type 0
IsPlacePut leaves old new =
    let number = length old.places.items in
    (new.places.items ≡ old.places.items ++ cond leaves None (Some (number - old.count)) ∷ [])
    × (new.count ≡ cond leaves (old.count + 1) old.count)

-- the item before the others, where it has a place, or they alone
abbrev pub keep_at : {X : Type 0} → Option ℕ → X → List X → List X
keep_at None x xs = xs
keep_at (Some q) x xs = x ∷ xs

-- the term at this place before the others, or they alone
abbrev pub put_at : Option ℕ → CodeKey × ℕ → List (CodeKey × ℕ) → List (CodeKey × ℕ)
put_at None t v = v
put_at (Some q) t v = (record { position = q; monomial = t.0.monomial }, t.1) ∷ v

-- the terms that are left, at their places
abbrev pub placed : List ℕ → List (CodeKey × ℕ) → List (CodeKey × ℕ)
placed rows [] = []
placed rows (t ∷ v) = put_at (place_after rows t.0.position) t (placed rows v)

-- items of a list leave in turn
abbrev pub all_removed : {X : Type 0} → List ℕ → List X → List X
all_removed [] xs = xs
all_removed (i ∷ places) xs = all_removed places (remove_at i xs)

-- rows leave in turn
abbrev pub without_all : {n : ℕ} → List ℕ → FormalSum n → FormalSum n
without_all [] v = v
without_all (r ∷ rows) v = without_all rows (without_row r v)

-- the columns without the rows in turn
pub record AreWithout (ring : Ring) (rows : List ℕ) (old new : List (List (CodeKey × ℕ))) : Type 0 where
  pub same : sums_of (variables ring) new ≡ map (λ v. without_all rows v) (sums_of (variables ring) old)
  pub vectors : AreVectorsOver ring (ring_comparison ring) new
