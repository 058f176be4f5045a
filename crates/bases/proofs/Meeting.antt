-- Products that are met in turn, by their numbers, and behind others
use Rattle.std.proofs.Common.{List, [], ap, append-nil, append_assoc, arith, get_or, inl, inr, length, length-append, refl, subst, subst₂, suc, sym, zero, ℕ, ◌++◌, ◌+◌, ◌<◌, ◌∙◌, ◌∷◌, ◌≡◌, ◌⊎◌}
use Rattle.std.proofs.lemmas.List.{get_or_append_left}
use Rattle.std.proofs.lemmas.List.Elements.{Contains-append_left, Contains-append_right}
use Rattle.std.specs.Prelude.{Contains}
use Rattle.bases.specs.Meeting.{AreMetInTurn, IsMetBy}

-- an item of the list, by its number and any other default
item_again : {X : Type 0} (xs : List X) (j : ℕ) (d e : X) → j < length xs → get_or xs j d ≡ get_or xs j e
item_again [] j d e lt = absurd (omega arith)
item_again (x ∷ xs) zero d e lt = refl
item_again (x ∷ xs) (suc j) d e lt = item_again xs j d e (omega arith)

module _ {K X : Type 0} (first : K → Type 0) (occurs : K → X → Type 0) (lead : X → K) where
  -- the product with number i: its lead is one of a first product, or a monomial of one of the products before it
  abbrev MetAt : X → List X → List X → ℕ → Type 0
  MetAt d earlier xs i =
      first (lead (get_or xs i d))
      ⊎ ((j : ℕ) × (j < length earlier + i) × occurs (lead (get_or xs i d)) (get_or (earlier ++ xs) j d))

  pub met_at : (d : X) (earlier xs : List X) → AreMetInTurn first occurs lead earlier xs → (i : ℕ) → i < length xs → MetAt d earlier xs i
  met_at d earlier [] h i lt = absurd (omega arith)
  met_at d earlier (x ∷ xs) h zero lt = go h.0
    where
      go : IsMetBy first occurs earlier (lead x) → MetAt d earlier (x ∷ xs) zero
      go (inl a) = inl a
      go (inr (y, (j, l, e), o)) = inr (
        j,
        omega arith,
        subst (occurs (lead x)) (sym (get_or_append_left earlier (x ∷ xs) d j l ∙ item_again earlier j d y l ∙ e)) o,
      )
  met_at d earlier (x ∷ xs) h (suc i) lt = go (met_at d (earlier ++ x ∷ []) xs h.1 i (omega arith))
    where
      go : MetAt d (earlier ++ x ∷ []) xs i → MetAt d earlier (x ∷ xs) (suc i)
      go (inl a) = inl a
      go (inr (j, l, o)) = inr (
        j,
        omega (arith, length-append earlier (x ∷ [])),
        subst (λ ys. occurs (lead (get_or xs i d)) (get_or ys j d)) (append_assoc earlier (x ∷ []) xs) o,
      )

  pub met_from : (d : X) (earlier xs : List X) → ((i : ℕ) → i < length xs → MetAt d earlier xs i) → AreMetInTurn first occurs lead earlier xs
  met_from d earlier [] h = tt
  met_from d earlier (x ∷ xs) h = (here (h 0 (omega arith)), met_from d (earlier ++ x ∷ []) xs (λ i lt. later i (h (suc i) (omega arith))))
    where
      here : MetAt d earlier (x ∷ xs) 0 → IsMetBy first occurs earlier (lead x)
      here (inl a) = inl a
      here (inr (j, l, o)) =
          let low : j < length earlier = omega arith in
          inr (
            get_or earlier j d,
            (j, low, item_again earlier j (get_or earlier j d) d low),
            subst (occurs (lead x)) (get_or_append_left earlier (x ∷ xs) d j low) o,
          )

      later : (i : ℕ) → MetAt d earlier (x ∷ xs) (suc i) → MetAt d (earlier ++ x ∷ []) xs i
      later i (inl a) = inl a
      later i (inr (j, l, o)) = inr (
        j,
        omega (arith, length-append earlier (x ∷ [])),
        subst (λ ys. occurs (lead (get_or xs i d)) (get_or ys j d)) (sym (append_assoc earlier (x ∷ []) xs)) o,
      )

  -- ---- with no product before them
  pub turn_at :
      (d : X) (xs : List X) → AreMetInTurn first occurs lead [] xs → (i : ℕ) → i < length xs
      → first (lead (get_or xs i d)) ⊎ ((j : ℕ) × (j < i) × occurs (lead (get_or xs i d)) (get_or xs j d))
  turn_at d xs h i lt = go (met_at d [] xs h i lt)
    where
      go : MetAt d [] xs i → first (lead (get_or xs i d)) ⊎ ((j : ℕ) × (j < i) × occurs (lead (get_or xs i d)) (get_or xs j d))
      go (inl a) = inl a
      go (inr (j, l, o)) = inr (j, omega arith, o)

  pub turn_from :
      (d : X) (xs : List X)
      → ((i : ℕ) → i < length xs → first (lead (get_or xs i d)) ⊎ ((j : ℕ) × (j < i) × occurs (lead (get_or xs i d)) (get_or xs j d)))
      → AreMetInTurn first occurs lead [] xs
  turn_from d xs h = met_from d [] xs (λ i lt. go i (h i lt))
    where
      go : (i : ℕ) → first (lead (get_or xs i d)) ⊎ ((j : ℕ) × (j < i) × occurs (lead (get_or xs i d)) (get_or xs j d)) → MetAt d [] xs i
      go i (inl a) = inl a
      go i (inr (j, l, o)) = inr (j, omega arith, o)

  -- ---- with more products before them
  pub met_behind : (more earlier xs : List X) → AreMetInTurn first occurs lead earlier xs → AreMetInTurn first occurs lead (more ++ earlier) xs
  met_behind more earlier [] h = tt
  met_behind more earlier (x ∷ xs) h = (
    by h.0,
    subst (λ ys. AreMetInTurn first occurs lead ys xs) (sym (append_assoc more earlier (x ∷ []))) (met_behind more (earlier ++ x ∷ []) xs h.1),
  )
    where
      by : IsMetBy first occurs earlier (lead x) → IsMetBy first occurs (more ++ earlier) (lead x)
      by (inl a) = inl a
      by (inr (y, c, o)) = inr (y, Contains-append_right more earlier y c, o)
