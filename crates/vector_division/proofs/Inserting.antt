-- A divisor more, for a vector that is appended to the list
use Rattle.std.proofs.Common.{Contains, List, [], ap, arith, get_or, inl, inr, length, map, refl, subst, subst₂, suc, sym, take, zero, ℕ, ◌+◌, ◌-◌, ◌<◌, ◌∙◌, ◌∷◌, ◌≡◌, ◌≤◌, ◌⊎◌}
use Rattle.std.specs.List.{insert}
use Rattle.std.proofs.lemmas.Bool.{cases_lt}
use Rattle.std.proofs.lemmas.List.{get_or-take, get_or_default, length-take-le}
use Rattle.std.proofs.lemmas.List.Edits.{get_or-insert_above, length-insert}
use Rattle.std.proofs.lemmas.List.Sorted.{Contains-permutation, IsPermutation-insert}
use Rattle.formal_sums.specs.FormalSums.{Each}
use Rattle.orders.specs.KeyOrders.{KeyDivides}
use Rattle.bases.specs.Leads.{head_key}
use Rattle.term_lists.proofs.Gathers.{Each_permutation}
use Rattle.term_lists.proofs.Parts.{Each_member}
use Rattle.term_lists.specs.Vectors.{sum_of}
use Rattle.vector_division.specs.Divisors.{AreDivisors, AreLeast, AreLeastFrom, IsDividedAt, IsNoHigher, IsOf, indexed}
use Rattle.vector_division.specs.Marks.{IsMarkOf}
use Rattle.vector_division.specs.declared.divisors.Divisor.{Divisor}
use Rattle.vector_division.proofs.LeastDegrees.{at_place, each_of_all, indexed_at, indexed_length, least_at}
use Rattle.vector_division.proofs.Subtracting.{Terms}
use Rattle.vector_division.proofs.Trying.{divides_itself}

module _ (list : List Terms) (some_list : 0 < length list) (old : List Divisor) (place : ℕ) (within : place ≤ length old)
    (h : (n : ℕ) → AreDivisors n (take (length list - 1) list) old) (d : Divisor) (index : d.index ≡ length list - 1)
    (mark : IsMarkOf (get_or list (length list - 1) []) d.mark) where
  abbrev last : ℕ
  last = length list - 1

  abbrev before : List Terms
  before = take last list

  abbrev more : List Divisor
  more = insert old place d

  same_vector : (i : ℕ) → i < last → get_or before i [] ≡ get_or list i []
  same_vector i lt = get_or-take last list i [] lt

  length_before : length before ≡ last
  length_before = length-take-le last list (omega arith)

  index_before : (k : ℕ) (e : Divisor) → k < length old → e ≡ get_or old k e → e.index < last
  index_before k e lt at = subst (λ z. e.index < z) length_before ((h 0).each k e lt at).within

  of_old : (k : ℕ) (e : Divisor) → k < length old → e ≡ get_or old k e → IsOf list e
  of_old k e lt at =
      let l = index_before k e lt at in
      record {
        within = omega (arith, l);
        mark = subst (λ v. IsMarkOf v e.mark) (same_vector e.index l) ((h 0).each k e lt at).mark;
      }

  of_more : Each (IsOf list) more
  of_more =
      Each_permutation (IsOf list) (d ∷ old) more (IsPermutation-insert old place d) (
        record { within = omega (arith, index, some_list); mark = subst (λ i. IsMarkOf (get_or list i []) d.mark) (sym index) mark },
        each_of_all (IsOf list) old of_old,
      )

  within_each : (xs : List Divisor) → Each (IsOf list) xs → Each (λ e. e.index < length list) xs
  within_each [] e = tt
  within_each (x ∷ xs) e = (e.0.within, within_each xs e.1)

  pub more_within : Each (λ e. e.index < length list) more
  more_within = within_each more of_more

  pub more_behind : AreLeastFrom list more (place + 1)
  more_behind i e ge lt at j x le below is = go i j ge lt at le below is
    where
      longer : length more ≡ length old + 1
      longer = length-insert old place d within

      shifted : (k : ℕ) (y : Divisor) → place ≤ k → y ≡ get_or more (suc k) y → y ≡ get_or old k y
      shifted k y ge e =
          let s : suc k ≡ k + 1 = omega arith in
          e ∙ ap (λ z. get_or more z y) s ∙ get_or-insert_above old place d y k ge within

      go :
          (i j : ℕ) → place + 1 ≤ i → i < length more → e ≡ get_or more i e → i ≤ j → j < length more → x ≡ get_or more j x
          → IsNoHigher e.least (get_or list x.index [])
      go zero j ge lt at le below is = absurd (omega arith)
      go (suc i) zero ge lt at le below is = absurd (omega arith)
      go (suc i) (suc j) ge lt at le below is =
          let there = shifted j x (omega arith) is in
          let inside : j < length old = omega (arith, longer, below) in
          subst (IsNoHigher e.least) (same_vector x.index (index_before j x inside there))
          (least_at before old i e (h 0).least (shifted i e (omega arith) at) j x (omega arith) inside there)

  -- the same with the least degrees set
  module _ (new : List Divisor) (kept : map indexed new ≡ map indexed more) (least : AreLeast list new) where
    in_more : (k : ℕ) → k < length new → k < length more
    in_more k lt = subst (λ z. k < z) (indexed_length more new kept) lt

    of_new : (k : ℕ) (e : Divisor) → k < length new → e ≡ get_or new k e → IsOf list e
    of_new k e lt at =
        let l = in_more k lt in
        let x = get_or more k e in
        let same : indexed e ≡ indexed x = indexed_at more new k e kept l at in
        let o : IsOf list x = Each_member (IsOf list) more k e of_more l in
        record {
          within = subst (λ i. i < length list) (sym (ap (λ z. z.0) same)) o.within;
          mark = subst₂ (λ i m. IsMarkOf (get_or list i []) m) (sym (ap (λ z. z.0) same)) (sym (ap (λ z. z.1) same)) o.mark;
        }

    -- a divisor stands there with its index
    in_new : (n j : ℕ) (x : Divisor) → Contains more x → IsDividedAt n list j x.index → (y : Divisor) × Contains new y × IsDividedAt n list j y.index
    in_new n j x (k, lt, e) at = go (at_place new k l)
      where
        l : k < length new
        l = subst (λ z. k < z) (sym (indexed_length more new kept)) lt

        go : (y : Divisor) × (y ≡ get_or new k y) → (y : Divisor) × Contains new y × IsDividedAt n list j y.index
        go (y, is) =
            let same : indexed y ≡ indexed x = indexed_at more new k y kept lt is ∙ ap indexed (get_or_default more k y x lt ∙ e) in
            (y, (k, l, sym is), subst (IsDividedAt n list j) (sym (ap (λ z. z.0) same)) at)

    in_old : (x : Divisor) → Contains old x → Contains more x
    in_old x (k, lt, e) = Contains-permutation (d ∷ old) more x (IsPermutation-insert old place d) (suc k, omega arith, e)

    divided_before : (n j : ℕ) (x : Divisor) → j < last → Contains old x → IsDividedAt n before j x.index → IsDividedAt n list j x.index
    divided_before n j x lt (k, inside, e) at =
        let l = index_before k x inside (sym e) in
        record {
          some = subst (λ v. 0 < length v) (same_vector x.index l) at.some;
          divides = subst₂ (λ a b. KeyDivides (head_key (sum_of n a)) (head_key (sum_of n b))) (same_vector x.index l) (same_vector j lt) at.divides;
        }

    enough : (n j : ℕ) → j < length list → 0 < length (get_or list j []) → (x : Divisor) × Contains new x × IsDividedAt n list j x.index
    enough n j lt some = go (cases_lt j last)
      where
        from_old : j < last → (x : Divisor) × Contains old x × IsDividedAt n before j x.index → (y : Divisor) × Contains new y × IsDividedAt n list j y.index
        from_old l (x, there, at) = in_new n j x (in_old x there) (divided_before n j x l there at)

        go : (j < last) ⊎ (last ≤ j) → (x : Divisor) × Contains new x × IsDividedAt n list j x.index
        go (inl l) =
            from_old l ((h n).enough j (subst (λ z. j < z) (sym length_before) l) (subst (λ v. 0 < length v) (sym (same_vector j l)) some))
        go (inr ge) =
            let e : j ≡ d.index = omega (arith, index, ge, lt) in
            in_new n j d (Contains-permutation (d ∷ old) more d (IsPermutation-insert old place d) (0, omega arith, refl))
            (subst (IsDividedAt n list j) e (divides_itself n list j some))

    pub more_divisors : (n : ℕ) → AreDivisors n list new
    more_divisors n = record {
      each = of_new;
      least = least;
      enough = enough n;
    }

    pub more_count : length new ≡ length old + 1
    more_count = indexed_length more new kept ∙ length-insert old place d within
