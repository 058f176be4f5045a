-- The least degrees that divisors keep: a key of a lower degree is divided by no lead from there on
use Rattle.std.proofs.Common.{List, [], ap, arith, get_or, inl, inr, length, map, set, subst, sym, zero, suc, refl, ℕ, ◌+◌, ◌<◌, ◌∙◌, ◌∷◌, ◌≡◌, ◌≤◌, ◌⊎◌}
use Rattle.std.proofs.lemmas.Bool.{cases_lt}
use Rattle.std.proofs.lemmas.List.{get_or-map, get_or-set_other, get_or-set_same, get_or_default, length-map, length-set}
use Rattle.formal_sums.specs.FormalSums.{Each}
use Rattle.monomials.proofs.Weighing.{weighted_degree-times}
use Rattle.monomials.specs.Exponents.{exponents_of}
use Rattle.monomials.specs.Weights.{weighted_degree}
use Rattle.orders.specs.KeyOrders.{KeyDivides}
use Rattle.bases.specs.Leads.{head_key}
use Rattle.monomial_orders.specs.Kept.{IsWeighed}
use Rattle.term_lists.proofs.Scaling.{Each_at}
use Rattle.term_lists.proofs.Parts.{Each_member}
use Rattle.term_lists.specs.Vectors.{key_of, sum_of}
use Rattle.term_lists.specs.declared.key.Key.{Key as CodeKey}
use Rattle.vector_division.specs.Divisors.{AreBy, AreDivisors, AreLeast, AreLeastFrom, AreTriedTo, IsLeastFrom, IsNoHigher, indexed}
use Rattle.vector_division.specs.Marks.{IsMarkOf}
use Rattle.vector_division.specs.Progress.{AreWeighed}
use Rattle.vector_division.specs.declared.divisors.Divisor.{Divisor}

-- some element stands at each place
pub at_place : {X : Type 0} (xs : List X) (m : ℕ) → m < length xs → (x : X) × (x ≡ get_or xs m x)
at_place [] m lt = absurd (omega arith)
at_place (x ∷ xs) zero lt = (x, refl)
at_place (x ∷ xs) (suc m) lt = at_place xs m (omega arith)

-- ---- the degrees by places
pub each_of_all :
    (P : Divisor → Type 0) (divisors : List Divisor)
    → ((j : ℕ) (d : Divisor) → j < length divisors → d ≡ get_or divisors j d → P d) → Each P divisors
each_of_all P [] h = tt
each_of_all P (d ∷ divisors) h = (
  h 0 d (omega arith) refl,
  each_of_all P divisors (λ j e lt at. h (suc j) e (omega arith) at),
)

pub are_least : (list : List (List (CodeKey × ℕ))) (divisors : List Divisor) → AreLeastFrom list divisors 0 → AreLeast list divisors
are_least list [] h = tt
are_least list (d ∷ divisors) h = (
  each_of_all (λ e. IsNoHigher d.least (get_or list e.index [])) (d ∷ divisors)
      (λ j e lt at. h 0 d (omega arith) (omega arith) refl j e (omega arith) lt at),
  are_least list divisors
      (λ i e ge lt at j x le m is. h (suc i) e (omega arith) (omega arith) at (suc j) x (omega arith) (omega arith) is),
)

pub least_at :
    (list : List (List (CodeKey × ℕ))) (divisors : List Divisor) (i : ℕ) (d : Divisor)
    → AreLeast list divisors → d ≡ get_or divisors i d → IsLeastFrom list divisors i d.least
least_at list [] i d h at j e le lt is = absurd (omega arith)
least_at list (x ∷ divisors) zero d h at j e le lt is =
    subst (λ z. IsNoHigher z.least (get_or list e.index [])) (sym at)
    (Each_at (λ e. IsNoHigher x.least (get_or list e.index [])) (x ∷ divisors) j e h.0 lt is)
least_at list (x ∷ divisors) (suc i) d h at zero e le lt is = absurd (omega arith)
least_at list (x ∷ divisors) (suc i) d h at (suc j) e le lt is = least_at list divisors i d h.1 at j e (omega arith) (omega arith) is

-- ---- setting the degrees
pub no_higher_less : (a b : ℕ) (v : List (CodeKey × ℕ)) → a ≤ b → IsNoHigher b v → IsNoHigher a v
no_higher_less a b [] le h = tt
no_higher_less a b (t ∷ v) le h = omega arith

-- of divisors whose indices and marks were kept
pub indexed_length : (old new : List Divisor) → map indexed new ≡ map indexed old → length new ≡ length old
indexed_length old new e = sym (length-map new indexed) ∙ ap length e ∙ length-map old indexed

pub indexed_at :
    (old new : List Divisor) (m : ℕ) (d : Divisor)
    → map indexed new ≡ map indexed old → m < length old → d ≡ get_or new m d → indexed d ≡ indexed (get_or old m d)
indexed_at old new m d e lt at =
    let l : m < length new = subst (λ c. m < c) (sym (indexed_length old new e)) lt in
    ap indexed at ∙ sym (get_or-map indexed new m d (indexed d) l) ∙ ap (λ xs. get_or xs m (indexed d)) e
    ∙ get_or-map indexed old m d (indexed d) lt

pub index_within :
    (count : ℕ) (old new : List Divisor) (i : ℕ) (d : Divisor)
    → map indexed new ≡ map indexed old → Each (λ d. d.index < count) old → i < length new → (get_or new i d).index < count
index_within count old new i d e h lt =
    let l : i < length old = subst (λ c. i < c) (indexed_length old new e) lt in
    let x = get_or new i d in
    let same : indexed x ≡ indexed (get_or old i x) = indexed_at old new i x e l (get_or_default new i d x lt) in
    subst (λ j. j < count) (sym (ap (λ z. z.0) same)) (Each_member (λ d. d.index < count) old i x h l)

pub by_kept :
    (f : ℕ → ℕ) (total : ℕ) (list : List (List (CodeKey × ℕ))) (old new : List Divisor)
    → map indexed new ≡ map indexed old → AreBy f total list old → AreBy f total list new
by_kept f total list old new e by = record {
  count = indexed_length old new e ∙ by.count;
  each = go;
}
  where
    go : (m : ℕ) (d : Divisor) → m < total → d ≡ get_or new m d → (d.index ≡ f m) × IsMarkOf (get_or list (f m) []) d.mark
    go m d lt at =
        let l : m < length old = subst (λ c. m < c) (sym by.count) lt in
        let x = get_or old m d in
        let same : indexed d ≡ indexed x = indexed_at old new m d e l at in
        let h = by.each m x lt (get_or_default old m d x l) in
        (ap (λ z. z.0) same ∙ h.0, subst (IsMarkOf (get_or list (f m) [])) (sym (ap (λ z. z.1) same)) h.1)

-- the divisor before those that keep such degrees gets its own
module _ (list : List (List (CodeKey × ℕ))) (divisors : List Divisor) (i : ℕ) (y : Divisor) (within : i < length divisors) where
  later : (j : ℕ) (d : Divisor) → i < j → d ≡ get_or (set divisors i y) j d → d ≡ get_or divisors j d
  later j d lt at = at ∙ get_or-set_other divisors i j y d (λ e. (let q : j ≡ i = e in omega arith))

  here : (j : ℕ) (d : Divisor) → j ≡ i → d ≡ get_or (set divisors i y) j d → d ≡ y
  here j d e at = at ∙ ap (λ z. get_or (set divisors i y) z d) e ∙ get_or-set_same divisors i y d within

  inside : (j : ℕ) → j < length (set divisors i y) → j < length divisors
  inside j lt = subst (λ c. j < c) (length-set divisors i y) lt

  pub least_there :
      (least : ℕ) → IsLeastFrom list divisors (i + 1) least → y.least ≤ least → IsNoHigher y.least (get_or list y.index [])
      → IsLeastFrom list (set divisors i y) i y.least
  least_there least h le own j d ge lt at = go (cases_lt i j)
    where
      go : (i < j) ⊎ (j ≤ i) → IsNoHigher y.least (get_or list d.index [])
      go (inl l) = no_higher_less y.least least (get_or list d.index []) le (h j d (omega arith) (inside j lt) (later j d l at))
      go (inr l) =
          let same : d ≡ y = here j d (omega arith) at in
          subst (λ z. IsNoHigher y.least (get_or list z.index [])) (sym same) own

  more :
      (a : ℕ) (d : Divisor) → AreLeastFrom list divisors (i + 1) → IsLeastFrom list (set divisors i y) i y.least → i ≤ a
      → a < length (set divisors i y) → d ≡ get_or (set divisors i y) a d → IsLeastFrom list (set divisors i y) a d.least
  more a d h first ge lt at = go (cases_lt i a)
    where
      go : (i < a) ⊎ (a ≤ i) → IsLeastFrom list (set divisors i y) a d.least
      go (inl l) = λ j e le m is.
          h a d (omega arith) (inside a lt) (later a d l at) j e le (inside j m) (later j e (omega arith) is)
      go (inr l) =
          let same : d ≡ y = here a d (omega arith) at in
          λ j e le m is. subst (λ z. IsNoHigher z.least (get_or list e.index [])) (sym same) (first j e (omega arith) m is)

  pub least_more :
      AreLeastFrom list divisors (i + 1) → IsLeastFrom list (set divisors i y) i y.least → AreLeastFrom list (set divisors i y) i
  least_more h first a d ge lt at = more a d h first ge lt at

-- ---- a key of a lower degree
-- the degree of a multiple is no lower
not_divided :
    (n : ℕ) (ws : List ℕ) (v : List (CodeKey × ℕ)) (key : CodeKey) (least : ℕ)
    → Each (λ t. IsWeighed n ws t.0.monomial) v → IsWeighed n ws key.monomial → IsNoHigher least v → key.monomial.degree < least
    → 0 < length v → KeyDivides (head_key (sum_of n v)) (key_of n key) → ⊥
not_divided n ws [] key least hv hk h lt some d = absurd (omega arith)
not_divided n ws (t ∷ v) key least hv hk h lt some d =
    let lead = exponents_of n t.0.monomial.exponents in
    let by = d.0 in
    let e : key.monomial.degree ≡ weighted_degree ws by + t.0.monomial.degree =
    hk.degree ∙ ap (λ z. weighted_degree ws z.1) (sym d.1) ∙ weighted_degree-times ws by lead
    ∙ ap (λ z. weighted_degree ws by + z) (sym hv.0.degree) in
    omega arith

-- the terms of a divisor's vector have the ring's weights
pub weighed_there :
    (n : ℕ) (ws : List ℕ) (list : List (List (CodeKey × ℕ))) (divisors : List Divisor) (i : ℕ) (d : Divisor)
    → AreDivisors n list divisors → AreWeighed n ws list → i < length divisors → d ≡ get_or divisors i d
    → Each (λ t. IsWeighed n ws t.0.monomial) (get_or list d.index [])
weighed_there n ws list divisors i d h weighed lt at =
    Each_member (λ v. Each (λ t. IsWeighed n ws t.0.monomial) v) list d.index [] weighed (h.each i d lt at).within

-- a key whose degree is below the least one is divided by none of the divisors from there on
pub none_from :
    (n : ℕ) (ws : List ℕ) (list : List (List (CodeKey × ℕ))) (key : CodeKey) (divisors : List Divisor) (i : ℕ) (next : Divisor)
    → AreDivisors n list divisors → AreWeighed n ws list → IsWeighed n ws key.monomial → AreTriedTo n list (key_of n key) divisors i
    → next ≡ get_or divisors i next → i < length divisors → key.monomial.degree < next.least
    → AreTriedTo n list (key_of n key) divisors (length divisors)
none_from n ws list key divisors i next h weighed hk tried is lt below m d inside at = go (cases_lt m i)
  where
    go : (m < i) ⊎ (i ≤ m) → 0 < length (get_or list d.index []) → KeyDivides (head_key (sum_of n (get_or list d.index []))) (key_of n key) → ⊥
    go (inl l) = tried m d l at
    go (inr le) =
        let v = weighed_there n ws list divisors m d h weighed inside at in
        not_divided n ws (get_or list d.index []) key next.least v hk (least_at list divisors i next h.least is m d le inside at) below
