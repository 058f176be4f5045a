-- The divisors that a division tries
use Rattle.std.proofs.Common.{Contains, List, [], ap, arith, cond, false, get_or, inl, inr, length, refl, subst, subst₂, sym, true, ℕ, Bool, ◌+◌, ◌++◌, ◌-◌, ◌<◌, ◌∙◌, ◌∷◌, ◌≡◌, ◌≤◌, ◌⊎◌}
use Rattle.std.proofs.lemmas.Bool.{cases_lt}
use Rattle.std.proofs.lemmas.List.{get_or_append_left, get_or_default}
use Rattle.std.proofs.Math.Seq.{get_or-append_seam}
use Rattle.formal_sums.specs.FormalSums.{Key}
use Rattle.orders.specs.KeyOrders.{KeyDivides}
use Rattle.orders.proofs.KeyOrdering.{KeyDivides_trans}
use Rattle.monomials.specs.Exponents.{unit}
use Rattle.formal_sums.proofs.Sameness.{shift-unit}
use Rattle.bases.specs.Leads.{head_key}
use Rattle.term_lists.specs.Vectors.{sum_of, sums_of}
use Rattle.term_lists.specs.declared.key.Key.{Key as CodeKey}
use Rattle.module_vectors.specs.Trails.{lead_at}
use Rattle.vector_division.specs.Divisions.{IsUncovered}
use Rattle.vector_division.specs.Divisors.{AreBy, AreDivisors, AreEnough, AreLeast, AreTriedTo, IsDividedAt, IsOf}
use Rattle.vector_division.specs.Marks.{IsMarkOf}
use Rattle.vector_division.specs.Progress.{AreTried}
use Rattle.vector_division.specs.declared.divisors.Divisor.{Divisor}
use Rattle.vector_division.proofs.LeastDegrees.{at_place}
use Rattle.vector_division.proofs.Members.{uncovered}

-- the default of a read
abbrev pub no_divisor : Divisor
no_divisor = record { index = 0; mark = record { position = 0; variables = 0 }; least = 0 }

-- where none of them divides the key, no lead of the list does
pub none_divides :
    (n : ℕ) (list : List (List (CodeKey × ℕ))) (k : Key n) (divisors : List Divisor) (i : ℕ) → AreDivisors n list divisors
    → length divisors ≡ i → AreTriedTo n list k divisors i → IsUncovered (sums_of n list) k
none_divides n list k divisors i h len tried = uncovered n list k (length list) refl all
  where
    all : AreTried n list k (length list)
    all j lt some divides = go (h.enough j lt some)
      where
        go : (d : Divisor) × Contains divisors d × IsDividedAt n list j d.index → ⊥
        go (d, (m, within, e), at) = tried m d (omega arith) (sym e) at.some (KeyDivides_trans (lead_at n list d.index) (lead_at n list j) k at.divides divides)

-- one divisor more does not divide the key
pub tried_more :
    (n : ℕ) (list : List (List (CodeKey × ℕ))) (k : Key n) (divisors : List Divisor) (i : ℕ) (next : Divisor)
    → AreTriedTo n list k divisors i → i < length divisors → next ≡ get_or divisors i next
    → (0 < length (get_or list next.index []) → KeyDivides (head_key (sum_of n (get_or list next.index []))) k → ⊥)
    → AreTriedTo n list k divisors (i + 1)
tried_more n list k divisors i next tried lt e fails m d below at = go (cases_lt m i)
  where
    go : (m < i) ⊎ (i ≤ m) → 0 < length (get_or list d.index []) → KeyDivides (head_key (sum_of n (get_or list d.index []))) k → ⊥
    go (inl l) = tried m d l at
    go (inr le) =
        let same : m ≡ i = omega arith in
        let here : d ≡ get_or divisors i d = subst (λ z. d ≡ get_or divisors z d) same at in
        let one : d ≡ next = here ∙ get_or_default divisors i d next lt ∙ sym e in
        subst (λ z. 0 < length (get_or list z.index []) → KeyDivides (head_key (sum_of n (get_or list z.index []))) k → ⊥) (sym one) fails

module _ (f : ℕ → ℕ) (total : ℕ) (list : List (List (CodeKey × ℕ))) (divisors : List Divisor) (by : AreBy f total list divisors)
    (within : (m : ℕ) → m < total → f m < length list) (least : AreLeast list divisors) where
  each_of : (k : ℕ) (d : Divisor) → k < length divisors → d ≡ get_or divisors k d → IsOf list d
  each_of k d lt e =
      let l : k < total = subst (λ c. k < c) by.count lt in
      let h = by.each k d l e in
      record {
        within = subst (λ i. i < length list) (sym h.0) (within k l);
        mark = subst (λ i. IsMarkOf (get_or list i []) d.mark) (sym h.0) h.1;
      }

  -- of the vector at one of the places that they are made of one is a divisor
  pub stands :
      (n j m : ℕ) → m < total → IsDividedAt n list j (f m) → (d : Divisor) × Contains divisors d × IsDividedAt n list j d.index
  stands n j m lt at =
      let l : m < length divisors = subst (λ c. m < c) (sym by.count) lt in
      go l (at_place divisors m l)
    where
      go :
          m < length divisors → (x : Divisor) × (x ≡ get_or divisors m x)
          → (d : Divisor) × Contains divisors d × IsDividedAt n list j d.index
      go l (d, e) = (d, (m, l, sym e), subst (IsDividedAt n list j) (sym (by.each m d lt e).0) at)

  pub are_divisors :
      (n : ℕ)
      → ((j : ℕ) → j < length list → 0 < length (get_or list j []) → (m : ℕ) × (m < total) × IsDividedAt n list j (f m))
      → AreDivisors n list divisors
  are_divisors n enough = record {
    each = each_of;
    least = least;
    enough = λ j lt some. go j (enough j lt some);
  }
    where
      go :
          (j : ℕ) → (m : ℕ) × (m < total) × IsDividedAt n list j (f m)
          → (d : Divisor) × Contains divisors d × IsDividedAt n list j d.index
      go j (m, lt, at) = stands n j m lt at

-- a lead divides itself
pub divides_itself : (n : ℕ) (list : List (List (CodeKey × ℕ))) (j : ℕ) → 0 < length (get_or list j []) → IsDividedAt n list j j
divides_itself n list j some = record { some = some; divides = (unit n, shift-unit (lead_at n list j)) }

abbrev pub turned : Bool → ℕ → ℕ → ℕ
turned from_last count k = cond from_last (count - 1 - k) k

-- all vectors, from either end
pub all_are_divisors :
    (list : List (List (CodeKey × ℕ))) (divisors : List Divisor) (from_last : Bool) (n : ℕ)
    → AreBy (turned from_last (length list)) (length list) list divisors → AreLeast list divisors → AreDivisors n list divisors
all_are_divisors list divisors from_last n by least =
    are_divisors (turned from_last (length list)) (length list) list divisors by (inside from_last) least n (enough from_last)
  where
    inside : (b : Bool) (m : ℕ) → m < length list → turned b (length list) m < length list
    inside true m lt = omega arith
    inside false m lt = lt

    enough :
        (b : Bool) (j : ℕ) → j < length list → 0 < length (get_or list j [])
        → (m : ℕ) × (m < length list) × IsDividedAt n list j (turned b (length list) m)
    enough true j lt some =
        let e : j ≡ length list - 1 - (length list - 1 - j) = omega arith in
        (length list - 1 - j, omega arith, subst (IsDividedAt n list j) e (divides_itself n list j some))
    enough false j lt some = (j, lt, divides_itself n list j some)

-- those with indices that are enough
pub enough_are_divisors :
    (list : List (List (CodeKey × ℕ))) (divisors : List Divisor) (indices : List ℕ) (n : ℕ)
    → AreBy (λ m. get_or indices m 0) (length indices) list divisors → ((m : ℕ) → m < length indices → get_or indices m 0 < length list)
    → AreLeast list divisors → AreEnough n list indices → AreDivisors n list divisors
enough_are_divisors list divisors indices n by inside least enough =
    are_divisors (λ m. get_or indices m 0) (length indices) list divisors by inside least n (λ j lt some. go j (enough j lt some))
  where
    go :
        (j : ℕ) → (i : ℕ) × Contains indices i × IsDividedAt n list j i
        → (m : ℕ) × (m < length indices) × IsDividedAt n list j (get_or indices m 0)
    go j (i, (m, lt, e), at) = (m, lt, subst (IsDividedAt n list j) (sym (get_or_default indices m 0 i lt ∙ e)) at)

-- what holds of each item so far, by its place, and of the next one
pub items_more :
    {X : Type 0} (P : ℕ → X → Type 0) (xs : List X) (y : X) (i : ℕ) → length xs ≡ i
    → ((j : ℕ) (x : X) → j < i → x ≡ get_or xs j x → P j x) → P i y
    → (j : ℕ) (x : X) → j < i + 1 → x ≡ get_or (xs ++ y ∷ []) j x → P j x
items_more {X} P xs y i count h last j x lt is = go (cases_lt j i)
  where
    go : (j < i) ⊎ (i ≤ j) → P j x
    go (inl l) = h j x l (is ∙ get_or_append_left xs (y ∷ []) x j (omega (arith, l, count)))
    go (inr g) =
        let at : j ≡ length xs = omega (arith, lt, g, count) in
        let same : y ≡ x = sym (is ∙ ap (λ z. get_or (xs ++ y ∷ []) z x) at ∙ get_or-append_seam xs y [] x) in
        subst₂ P (sym (at ∙ count)) same last
