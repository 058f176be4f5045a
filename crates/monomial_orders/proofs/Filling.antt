-- Behind the last variable the places are 0: so what holds place by place holds of the exponents
use Rattle.std.proofs.Common.{List, [], ap, ap₂, arith, get_or, inl, inr, length, max, min, refl, subst, subst₂, suc, sym, take, zero, ℕ, ◌-◌, ◌<◌, ◌∙◌, ◌∷◌, ◌≡◌, ◌≤◌, ◌⊎◌}
use Rattle.std.proofs.lemmas.Bool.{cases_eq, cases_lt}
use Rattle.std.proofs.lemmas.List.{get_or-take, get_or_past, length-take, length-take-le}
use Rattle.monomials.specs.Exponents.{cons, exponents_of, unit}
use Rattle.monomial_orders.specs.Differences.{EndsDifferences}
use Rattle.monomial_orders.specs.Kept.{Monomial}
use Rattle.monomial_orders.specs.Monomials.{IsMonomial, IsPlaceByPlace, variable}
use Rattle.monomial_orders.specs.Storage.{IsFilled, IsKept, IsStored, degree_kept, monomial_of, places_of, stored_variables}
use Rattle.monomial_orders.specs.declared.storage.Stored.{Stored}

-- n variables have n exponents
count : (n d : ℕ) (s : Stored) → IsKept n d s → length (take n (places_of s)) ≡ n
count n d s h = length-take-le n (places_of s) (omega (arith, h.filled.long))

-- a monomial that is shown of what is stored is stored so
pub stored_as :
    (s : Stored) (m : Monomial) → monomial_of (stored_variables s) (degree_kept s) s ≡ m → IsKept (stored_variables s) (degree_kept s) s
    → IsStored m s
stored_as s m e h =
    let n = stored_variables s in
    let c = count n (degree_kept s) s h in
    let base : IsStored (monomial_of n (degree_kept s) s) s = record {
      kept = subst (λ k. IsKept k (degree_kept s) s) (sym c) h;
      front = ap (λ k. take k (places_of s)) (sym c);
      degree = refl;
    } in
    subst (λ (m : Monomial). IsStored m s) e base

-- what is kept of n variables is kept of those that are stored
pub kept_at : (n d : ℕ) (s : Stored) → stored_variables s ≡ n → IsKept n d s → IsKept (stored_variables s) d s
kept_at n d s counted h = subst (λ k. IsKept k d s) (sym counted) h

-- the same places again, of the same degree
pub kept_again :
    (m : Monomial) (s t : Stored) → IsStored m s → places_of t ≡ places_of s → stored_variables t ≡ length m.exponents → degree_kept t ≡ degree_kept s
    → IsKept (stored_variables t) (degree_kept t) t
kept_again m s t h e counted d =
    kept_at (length m.exponents) (degree_kept t) t counted
    (subst (λ d. IsKept (length m.exponents) d t) (sym (d ∙ h.degree))
    (record {
      filled = record {
        variables = counted;
        long = ap length e ∙ h.kept.filled.long;
        rest = λ k le. ap (λ xs. get_or xs k 0) e ∙ h.kept.filled.rest k le;
      };
      bounded = λ k. subst (λ xs. get_or xs k 0 < 65536) (sym e) (h.kept.bounded k);
      held = λ k. subst (λ xs. get_or xs k 0 ≤ m.degree) (sym e) (h.kept.held k);
      narrow = h.kept.narrow;
    }))

pub shown_again :
    (m : Monomial) (s t : Stored) → IsStored m s → places_of t ≡ places_of s → stored_variables t ≡ length m.exponents → degree_kept t ≡ degree_kept s
    → monomial_of (stored_variables t) (degree_kept t) t ≡ m
shown_again m s t h e counted d =
    let make : List ℕ → ℕ → Monomial = λ x d. record { exponents = x; degree = d } in
    ap₂ make (ap₂ take counted e ∙ sym h.front) (d ∙ h.degree)

-- an exponent is the place
pub shown_place : (m : Monomial) (s : Stored) (k : ℕ) → IsStored m s → k < length m.exponents → get_or m.exponents k 0 ≡ get_or (places_of s) k 0
shown_place m s k h lt = ap (λ xs. get_or xs k 0) h.front ∙ get_or-take (length m.exponents) (places_of s) k 0 lt

-- and no greater, past the last one too
pub shown_most : (m : Monomial) (s : Stored) (k : ℕ) → IsStored m s → get_or m.exponents k 0 ≤ get_or (places_of s) k 0
shown_most m s k h = go (cases_lt k (length m.exponents))
  where
    go : (k < length m.exponents) ⊎ (length m.exponents ≤ k) → get_or m.exponents k 0 ≤ get_or (places_of s) k 0
    go (inl lt) = omega (arith, shown_place m s k h lt)
    go (inr le) = omega (arith, get_or_past m.exponents k 0 le)

-- equally many variables
pub filled_at : (a b : Monomial) (t : Stored) → length a.exponents ≡ length b.exponents → IsStored b t → IsFilled (length a.exponents) t
filled_at a b t e h = subst (λ k. IsFilled k t) (sym e) h.kept.filled

-- where f gives 0 of two zeros, what it gives is filled
pub filled_by :
    (f : ℕ → ℕ → ℕ) (n : ℕ) (s t u : Stored) → f 0 0 ≡ 0 → IsFilled n s → IsFilled n t
    → IsPlaceByPlace f (places_of s) (places_of t) (places_of u) → stored_variables u ≡ n → IsFilled n u
filled_by f n s t u z hs ht p counted = record {
  variables = counted;
  long = p.variables ∙ hs.long;
  rest = λ k le. go k le (cases_lt k (length (places_of s)));
}
  where
    go : (k : ℕ) → n ≤ k → (k < length (places_of s)) ⊎ (length (places_of s) ≤ k) → get_or (places_of u) k 0 ≡ 0
    go k le (inl lt) = p.places k lt ∙ ap₂ f (hs.rest k le) (ht.rest k le) ∙ z
    go k le (inr past) = get_or_past (places_of u) k 0 (omega (arith, p.variables, past))

fronts :
    (f : ℕ → ℕ → ℕ) (n : ℕ) (xs ys zs : List ℕ) → n ≤ length xs → IsPlaceByPlace f xs ys zs
    → IsPlaceByPlace f (take n xs) (take n ys) (take n zs)
fronts f n xs ys zs le p =
    let lx : length (take n xs) ≡ n = length-take-le n xs le in
    let lz : length (take n zs) ≡ n = length-take-le n zs (omega (arith, p.variables, le)) in
    record {
      variables = lz ∙ sym lx;
      places = λ k lt.
          let inside : k < n = omega (arith, lx, lt) in
          get_or-take n zs k 0 inside ∙ p.places k (omega (arith, inside, le))
          ∙ ap₂ f (sym (get_or-take n xs k 0 inside)) (sym (get_or-take n ys k 0 inside));
    }

-- what holds place by place holds of the exponents
pub places_shown :
    (f : ℕ → ℕ → ℕ) (a b : Monomial) (s t u : Stored) → length a.exponents ≡ length b.exponents → IsStored a s → IsStored b t
    → IsPlaceByPlace f (places_of s) (places_of t) (places_of u)
    → IsPlaceByPlace f a.exponents b.exponents (take (length a.exponents) (places_of u))
places_shown f a b s t u e ha hb p =
    let n = length a.exponents in
    let h = fronts f n (places_of s) (places_of t) (places_of u) (omega (arith, ha.kept.filled.long)) p in
    subst₂ (λ xs ys. IsPlaceByPlace f xs ys (take n (places_of u))) (sym ha.front) (sym (hb.front ∙ ap (λ k. take k (places_of t)) (sym e))) h

-- what is kept of the answer
pub kept_by :
    (f : ℕ → ℕ → ℕ) (a b : Monomial) (s t u : Stored) (d : ℕ) → f 0 0 ≡ 0 → length a.exponents ≡ length b.exponents
    → IsStored a s → IsStored b t → IsPlaceByPlace f (places_of s) (places_of t) (places_of u)
    → stored_variables u ≡ length a.exponents → ((k : ℕ) → get_or (places_of u) k 0 < 65536)
    → ((k : ℕ) → get_or (places_of u) k 0 ≤ d) → d < 4294967296 → IsKept (length a.exponents) d u
kept_by f a b s t u d z e ha hb p counted bounded held narrow = record {
  filled = filled_by f (length a.exponents) s t u z ha.kept.filled (filled_at a b t e hb) p counted;
  bounded = bounded;
  held = held;
  narrow = narrow;
}

-- divisibility, of places and of exponents
pub divides_shown :
    (a b : Monomial) (s t : Stored) → length a.exponents ≡ length b.exponents → IsStored a s → IsStored b t
    → ((k : ℕ) → k < length (places_of s) → get_or (places_of s) k 0 ≤ get_or (places_of t) k 0) → (k : ℕ)
    → k < length a.exponents → get_or a.exponents k 0 ≤ get_or b.exponents k 0
divides_shown a b s t e ha hb h k lt =
    let inside : k < length (places_of s) = omega (arith, ha.kept.filled.long, lt) in
    omega (arith, h k inside, shown_place a s k ha lt, shown_place b t k hb (omega (arith, e, lt)))

pub divides_stored :
    (a b : Monomial) (s t : Stored) → length a.exponents ≡ length b.exponents → IsStored a s → IsStored b t
    → ((k : ℕ) → k < length a.exponents → get_or a.exponents k 0 ≤ get_or b.exponents k 0) → (k : ℕ)
    → get_or (places_of s) k 0 ≤ get_or (places_of t) k 0
divides_stored a b s t e ha hb h k = go (cases_lt k (length a.exponents))
  where
    go : (k < length a.exponents) ⊎ (length a.exponents ≤ k) → get_or (places_of s) k 0 ≤ get_or (places_of t) k 0
    go (inl lt) = omega (arith, h k lt, shown_place a s k ha lt, shown_place b t k hb (omega (arith, e, lt)))
    go (inr le) = omega (arith, ha.kept.filled.rest k le)

-- no variable in both, of places and of exponents
pub apart_shown :
    (a b : Monomial) (s t : Stored) → length a.exponents ≡ length b.exponents → IsStored a s → IsStored b t
    → ((k : ℕ) → k < length (places_of s) → min (get_or (places_of s) k 0) (get_or (places_of t) k 0) ≡ 0) → (k : ℕ)
    → k < length a.exponents → min (get_or a.exponents k 0) (get_or b.exponents k 0) ≡ 0
apart_shown a b s t e ha hb h k lt =
    let inside : k < length (places_of s) = omega (arith, ha.kept.filled.long, lt) in
    ap₂ min (shown_place a s k ha lt) (shown_place b t k hb (omega (arith, e, lt))) ∙ h k inside

pub apart_stored :
    (a b : Monomial) (s t : Stored) → length a.exponents ≡ length b.exponents → IsStored a s → IsStored b t
    → ((k : ℕ) → k < length a.exponents → min (get_or a.exponents k 0) (get_or b.exponents k 0) ≡ 0) → (k : ℕ)
    → min (get_or (places_of s) k 0) (get_or (places_of t) k 0) ≡ 0
apart_stored a b s t e ha hb h k = go (cases_lt k (length a.exponents))
  where
    go : (k < length a.exponents) ⊎ (length a.exponents ≤ k) → min (get_or (places_of s) k 0) (get_or (places_of t) k 0) ≡ 0
    go (inl lt) = ap₂ min (sym (shown_place a s k ha lt)) (sym (shown_place b t k hb (omega (arith, e, lt)))) ∙ h k lt
    go (inr le) = omega (arith, ha.kept.filled.rest k le)

-- lists of one length that agree at each place
same_list : (xs ys : List ℕ) → length xs ≡ length ys → ((k : ℕ) → get_or xs k 0 ≡ get_or ys k 0) → xs ≡ ys
same_list [] [] e h = refl
same_list [] (y ∷ ys) e h = absurd (omega arith)
same_list (x ∷ xs) [] e h = absurd (omega arith)
same_list (x ∷ xs) (y ∷ ys) e h = ap₂ ◌∷◌ (h 0) (same_list xs ys (omega arith) (λ k. h (suc k)))

-- the same exponents have the same places
pub same_places :
    (a b : Monomial) (s t : Stored) → IsStored a s → IsStored b t → a ≡ b → places_of s ≡ places_of t
same_places a b s t ha hb e =
    let l : length a.exponents ≡ length b.exponents = ap (λ (m : Monomial). length m.exponents) e in
    same_list (places_of s) (places_of t) (omega (arith, ha.kept.filled.long, hb.kept.filled.long, l)) (λ k. at k l (cases_lt k (length a.exponents)))
  where
    at : (k : ℕ) → length a.exponents ≡ length b.exponents → (k < length a.exponents) ⊎ (length a.exponents ≤ k)
        → get_or (places_of s) k 0 ≡ get_or (places_of t) k 0
    at k l (inl lt) =
        sym (shown_place a s k ha lt) ∙ ap (λ (m : Monomial). get_or m.exponents k 0) e ∙ shown_place b t k hb (omega (arith, l, lt))
    at k l (inr le) = ha.kept.filled.rest k le ∙ sym (hb.kept.filled.rest k (omega (arith, l, le)))

-- and the other way round
pub same_monomial :
    (a b : Monomial) (s t : Stored) → IsStored a s → IsStored b t → a.degree ≡ b.degree → length a.exponents ≡ length b.exponents
    → places_of s ≡ places_of t → a ≡ b
same_monomial a b s t ha hb d l e = same a b (ha.front ∙ ap₂ take l e ∙ sym hb.front) d
  where
    same : (a b : Monomial) → a.exponents ≡ b.exponents → a.degree ≡ b.degree → a ≡ b
    same a b x d = let f : List ℕ → ℕ → Monomial = λ x d. record { exponents = x; degree = d } in ap₂ f x d

-- what bounds the exponents bounds the places
pub front_held :
    (n : ℕ) (s : Stored) (d : ℕ) → IsFilled n s → ((k : ℕ) → get_or (take n (places_of s)) k 0 ≤ d) → (k : ℕ)
    → get_or (places_of s) k 0 ≤ d
front_held n s d f h k = go (cases_lt k n)
  where
    go : (k < n) ⊎ (n ≤ k) → get_or (places_of s) k 0 ≤ d
    go (inl lt) = omega (arith, h k, get_or-take n (places_of s) k 0 lt)
    go (inr le) = omega (arith, f.rest k le)

-- places that hold a list and then zeros
pub same_front :
    (xs ps : List ℕ) → length ps ≡ max 16 (length xs) → ((k : ℕ) → get_or ps k 0 ≡ get_or xs k 0) → take (length xs) ps ≡ xs
same_front xs ps long h =
    same_list (take (length xs) ps) xs (length-take-le (length xs) ps (omega arith)) (λ k. go k (cases_lt k (length xs)))
  where
    go : (k : ℕ) → (k < length xs) ⊎ (length xs ≤ k) → get_or (take (length xs) ps) k 0 ≡ get_or xs k 0
    go k (inl lt) = get_or-take (length xs) ps k 0 lt ∙ h k
    go k (inr le) =
        let l = length-take (length xs) ps in
        get_or_past (take (length xs) ps) k 0 (omega arith) ∙ sym (get_or_past xs k 0 le)

pub kept_of :
    (d : ℕ) (s : Stored) (xs : List ℕ) → stored_variables s ≡ length xs → length (places_of s) ≡ max 16 (length xs) → d < 4294967296
    → ((k : ℕ) → get_or (places_of s) k 0 ≡ get_or xs k 0) → ((k : ℕ) → get_or (places_of s) k 0 < 65536)
    → ((k : ℕ) → get_or xs k 0 ≤ d) → IsKept (length xs) d s
kept_of d s xs counted long small same bounded held = record {
  filled = record { variables = counted; long = long; rest = λ k le. same k ∙ get_or_past xs k 0 le };
  bounded = bounded;
  held = λ k. omega (arith, held k, same k);
  narrow = small;
}

-- the monomial 1
pub kept_at_zero :
    (n : ℕ) (s : Stored) → stored_variables s ≡ n → length (places_of s) ≡ max 16 n
    → ((k : ℕ) → get_or (places_of s) k 0 ≡ 0) → IsKept n 0 s
kept_at_zero n s counted long h = record {
  filled = record { variables = counted; long = long; rest = λ k le. h k };
  bounded = λ k. omega (arith, h k);
  held = λ k. omega (arith, h k);
  narrow = omega arith;
}

unit_of : (n : ℕ) (xs : List ℕ) → n ≤ length xs → ((k : ℕ) → get_or xs k 0 ≡ 0) → exponents_of n (take n xs) ≡ unit n
unit_of zero xs le h = refl
unit_of (suc n) [] le h = absurd (omega arith)
unit_of (suc n) (x ∷ xs) le h = ap₂ cons (h 0) (unit_of n xs (omega arith) (λ k. h (suc k)))

pub zeros_shown :
    (n : ℕ) (s : Stored) → length (places_of s) ≡ max 16 n → ((k : ℕ) → get_or (places_of s) k 0 ≡ 0)
    → IsMonomial n (unit n) (take n (places_of s))
zeros_shown n s long h = record {
  variables = length-take-le n (places_of s) (omega arith);
  exponents = unit_of n (places_of s) (omega arith) h;
}

-- a variable
pub kept_of_one :
    (n i d : ℕ) (s : Stored) → stored_variables s ≡ n → length (places_of s) ≡ max 16 n → d < 4294967296 → i < n → 0 < d
    → get_or (places_of s) i 0 ≡ 1 → ((k : ℕ) → (k ≡ i → ⊥) → get_or (places_of s) k 0 ≡ 0) → IsKept n d s
kept_of_one n i d s counted long small lt pos one others = record {
  filled = record { variables = counted; long = long; rest = λ k le. others k (λ e. absurd (omega (arith, le, lt, e))) };
  bounded = λ k. omega (arith, most k);
  held = λ k. omega (arith, most k, pos);
  narrow = small;
}
  where
    most : (k : ℕ) → get_or (places_of s) k 0 ≤ 1
    most k = go (cases_eq k i)
      where
        go : (k ≡ i) ⊎ (k ≡ i → ⊥) → get_or (places_of s) k 0 ≤ 1
        go (inl e) = omega (arith, ap (λ j. get_or (places_of s) j 0) e, one)
        go (inr ne) = omega (arith, others k ne)

variable_of :
    (n i : ℕ) (xs : List ℕ) → n ≤ length xs → i < n → get_or xs i 0 ≡ 1 → ((k : ℕ) → (k ≡ i → ⊥) → get_or xs k 0 ≡ 0)
    → exponents_of n (take n xs) ≡ variable n i
variable_of zero i xs le lt one others = absurd (omega arith)
variable_of (suc n) i [] le lt one others = absurd (omega arith)
variable_of (suc n) zero (x ∷ xs) le lt one others =
    ap₂ cons one (unit_of n xs (omega arith) (λ k. others (suc k) (λ e. absurd (omega (arith, e)))))
variable_of (suc n) (suc i) (x ∷ xs) le lt one others =
    ap₂ cons (others 0 (λ e. absurd (omega (arith, e))))
    (variable_of n i xs (omega arith) (omega arith) one (λ k ne. others (suc k) (λ e. ne (omega arith))))

pub one_shown :
    (n i : ℕ) (s : Stored) → i < n → length (places_of s) ≡ max 16 n → get_or (places_of s) i 0 ≡ 1
    → ((k : ℕ) → (k ≡ i → ⊥) → get_or (places_of s) k 0 ≡ 0) → IsMonomial n (variable n i) (take n (places_of s))
one_shown n i s lt long one others = record {
  variables = length-take-le n (places_of s) (omega arith);
  exponents = variable_of n i (places_of s) (omega arith) lt one others;
}

-- the places of the first variables differ where the exponents do
pub differing_shown :
    (a b : Monomial) (s t : Stored) (m n : ℕ) → length a.exponents ≡ length b.exponents → m ≤ length a.exponents
    → IsStored a s → IsStored b t → EndsDifferences m (places_of s) (places_of t) n → EndsDifferences m a.exponents b.exponents n
differing_shown a b s t m n e le h g d = record {
  inside = d.inside;
  same = λ k i lt. shown_place a s k h (omega arith) ∙ d.same k i lt ∙ sym (shown_place b t k g (omega arith));
  differ = λ pos q.
      d.differ pos
      (sym (shown_place a s (n - 1) h (omega (arith, d.inside))) ∙ q ∙ shown_place b t (n - 1) g (omega (arith, d.inside)));
}
