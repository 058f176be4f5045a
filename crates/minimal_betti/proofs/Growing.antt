-- Counts, and tables that grow
use Rattle.std.specs.Prelude.{Contains, nat_eq}
use Rattle.std.proofs.Common.{Bool, List, [], ap, arith, cond, eq-eqb, eqb-true, false, get_or, inl, inr, length, map, refl, subst, subst₂, suc, sym}
use Rattle.std.proofs.Common.{take, true, zero, ℕ, ◌++◌, ◌+◌, ◌<◌, ◌∙◌, ◌∷◌, ◌≡◌, ◌≤◌, ◌⊎◌}
use Rattle.std.proofs.lemmas.Bool.{cases_lt}
use Rattle.std.proofs.lemmas.List.{take_more}
use Rattle.formal_sums.specs.FormalSums.{Each}
use Rattle.betti_laws.specs.Tables.{occurrences}
use Rattle.column_passes.proofs.Lists.{all_append, all_map, contains_end, contains_left}
use Rattle.minimal_betti.specs.Growing.{IsDone, IsLeastDegree, IsOutsideDegrees, IsTableTo}
use Rattle.minimal_betti.specs.Tables.{Ascends, ComesBefore, IsBettiTable, entry_at}
use Rattle.minimal_betti.specs.declared.tables.BettiEntry.{BettiEntry}

-- ---- counts
abbrev pub unit_if : ℕ → ℕ → ℕ
unit_if d x = cond (nat_eq d x) 1 0

occurrences-append : (d : ℕ) (xs ys : List ℕ) → occurrences d (xs ++ ys) ≡ occurrences d xs + occurrences d ys
occurrences-append d [] ys = omega arith
occurrences-append d (x ∷ xs) ys = let e = occurrences-append d xs ys in omega (arith, e)

pub occurrences-more :
    (d : ℕ) (xs : List ℕ) (i x : ℕ) → i < length xs → x ≡ get_or xs i x
    → occurrences d (take (i + 1) xs) ≡ occurrences d (take i xs) + unit_if d x
occurrences-more d xs i x lt e =
    let t = ap (occurrences d) (take_more xs i x lt) ∙ occurrences-append d (take i xs) (get_or xs i x ∷ []) in
    let z : unit_if d (get_or xs i x) ≡ unit_if d x = ap (unit_if d) (sym e) in
    omega (arith, t, z)

one_at_most : (b : Bool) → cond {A = ℕ} b 1 0 ≤ 1
one_at_most true = omega arith
one_at_most false = omega arith

pub occurrences-length : (d : ℕ) (xs : List ℕ) → occurrences d xs ≤ length xs
occurrences-length d [] = omega arith
occurrences-length d (x ∷ xs) = let e = occurrences-length d xs in let o = one_at_most (nat_eq d x) in omega (arith, e, o)

pub occurrences-take : (d : ℕ) (xs : List ℕ) (k : ℕ) → occurrences d (take k xs) ≤ k
occurrences-take d xs zero = omega arith
occurrences-take d [] (suc k) = omega arith
occurrences-take d (x ∷ xs) (suc k) = let e = occurrences-take d xs k in let o = one_at_most (nat_eq d x) in omega (arith, e, o)

occurrences-outside : (d : ℕ) (P : ℕ → Type 0) (xs : List ℕ) → Each P xs → (P d → ⊥) → occurrences d xs ≡ 0
occurrences-outside d P [] h never = refl
occurrences-outside d P (x ∷ xs) h never = let e = occurrences-outside d P xs h.1 never in let z = go (nat_eq d x) refl in omega (arith, e, z)
  where
    go : (b : Bool) → nat_eq d x ≡ b → unit_if d x ≡ 0
    go true q = absurd (never (subst P (sym (eqb-true d x q)) h.0))
    go false q = ap (λ (c : Bool). cond {A = ℕ} c 1 0) q

-- ---- the least degree
pub all_more : (P : ℕ → Type 0) (xs : List ℕ) (i x : ℕ) → Each P (take i xs) → i < length xs → x ≡ get_or xs i x → P x → Each P (take (i + 1) xs)
all_more P xs i x h lt e q = subst (Each P) (sym (take_more xs i x lt)) (all_append P (take i xs) (get_or xs i x ∷ []) h (subst P e q, tt))

pub least_start : (from : ℕ) → IsLeastDegree from 4294967296 []
least_start from = record { outside = tt; found = inl refl }

same_counts : (x : ℕ) → unit_if x x ≡ 1
same_counts x = ap (λ (c : Bool). cond {A = ℕ} c 1 0) (eq-eqb x x refl)

pub least_more :
    (from least new : ℕ) (xs : List ℕ) (i x : ℕ) → IsLeastDegree from least (take i xs) → i < length xs → x ≡ get_or xs i x → x < 4294967296
    → ((from ≤ x) × (x < least) × (new ≡ x)) ⊎ (((x < from) ⊎ (least ≤ x)) × (new ≡ least))
    → IsLeastDegree from new (take (i + 1) xs)
least_more from least new xs i x h lt e small (inl c) = record {
  outside = all_more (IsOutsideDegrees from new) xs i x (all_map (IsOutsideDegrees from least) (IsOutsideDegrees from new) (take i xs) (λ y o. lower y o) h.outside) lt e
      (inr (omega (arith, eq), small));
  found = inr (
    (let a = c.0 in omega (arith, a, eq)),
    omega (arith, small, eq),
    (let m = occurrences-more new xs i x lt e in let o = ap (λ z. unit_if z x) eq ∙ same_counts x in omega (arith, m, o)),
  );
}
  where
    eq : new ≡ x
    eq = c.2

    lower : (y : ℕ) → IsOutsideDegrees from least y → IsOutsideDegrees from new y
    lower y (inl a) = inl a
    lower y (inr a) = inr ((let p = a.0 in let q = c.1 in let r = c.2 in omega (arith, p, q, r)), a.1)
least_more from least new xs i x h lt e small (inr c) = record {
  outside = all_more (IsOutsideDegrees from new) xs i x (subst (λ z. Each (IsOutsideDegrees from z) (take i xs)) (sym c.1) h.outside) lt e (here c.0);
  found = kept h.found;
}
  where
    here : (x < from) ⊎ (least ≤ x) → IsOutsideDegrees from new x
    here (inl a) = inl a
    here (inr a) = inr ((let q = c.1 in omega (arith, a, q)), small)

    kept : (least ≡ 4294967296) ⊎ ((from ≤ least) × (least < 4294967296) × (0 < occurrences least (take i xs)))
        → (new ≡ 4294967296) ⊎ ((from ≤ new) × (new < 4294967296) × (0 < occurrences new (take (i + 1) xs)))
    kept (inl a) = inl (c.1 ∙ a)
    kept (inr a) = inr (
      subst (λ z. from ≤ z) (sym c.1) a.0,
      subst (λ z. z < 4294967296) (sym c.1) a.1,
      subst (λ z. 0 < occurrences z (take (i + 1) xs))
          (sym c.1) (let m = occurrences-more least xs i x lt e in let q = a.2 in omega (arith, m, q)),
    )

-- ---- tables that grow
pub table_start : (counts : ℕ → ℕ → ℕ) → IsTableTo counts [] 0 0
table_start counts = record { ascends = tt; before = tt; counted = tt; complete = λ k d done. absurd (none k d done) }
  where
    none : (k d : ℕ) → IsDone 0 0 k d → ⊥
    none k d (inl a) = omega arith
    none k d (inr a) = let q = a.1 in omega (arith, q)

ascends_end : (es : List BettiEntry) (f : BettiEntry) → Ascends es → Each (λ e. ComesBefore e f) es → Ascends (es ++ f ∷ [])
ascends_end [] f a b = (tt, tt)
ascends_end (e ∷ es) f a b = (all_append (ComesBefore e) es (f ∷ []) a.0 (b.0, tt), ascends_end es f a.1 b.1)

before_is : (k d x : ℕ) (e : BettiEntry) (f : BettiEntry) → f.step ≡ k → f.degree ≡ x → d ≤ x → IsDone k d e.step e.degree → ComesBefore e f
before_is k d x e f fs fd le (inl a) = inl (omega (arith, a, fs))
before_is k d x e f fs fd le (inr a) = inr (a.0 ∙ sym fs, (let q = a.1 in omega (arith, q, fd, le)))

module _ (counts : ℕ → ℕ → ℕ) (es : List BettiEntry) (step from : ℕ) (h : IsTableTo counts es step from) where
  pub table_next :
      (least : ℕ) (degrees : List ℕ) → ((d : ℕ) → counts step d ≡ occurrences d degrees) → IsLeastDegree from least degrees → (least ≡ 4294967296 → ⊥)
      → IsTableTo counts (es ++ record { step = step; degree = least; count = occurrences least degrees } ∷ []) step (least + 1)
  table_next least degrees is l some = record {
    ascends = ascends_end es new h.ascends (all_map _ _ es (λ e b. before_is step from least e new refl refl found.0 b) h.before);
    before = all_append _ es (new ∷ []) (all_map _ _ es (λ e b. later e.step e.degree b) h.before) (inr (refl, omega arith), tt);
    counted = all_append _ es (new ∷ []) h.counted ((found.2, sym (is least)), tt);
    complete = λ k d done pos. go k d done pos;
  }
    where
      new : BettiEntry
      new = record { step = step; degree = least; count = occurrences least degrees }

      pick : (least ≡ 4294967296) ⊎ ((from ≤ least) × (least < 4294967296) × (0 < occurrences least degrees))
          → (from ≤ least) × (least < 4294967296) × (0 < occurrences least degrees)
      pick (inl a) = absurd (some a)
      pick (inr a) = a

      found : (from ≤ least) × (least < 4294967296) × (0 < occurrences least degrees)
      found = pick l.found

      later : (k d : ℕ) → IsDone step from k d → IsDone step (least + 1) k d
      later k d (inl a) = inl a
      later k d (inr a) = inr (a.0, (let q = a.1 in let r = found.0 in omega (arith, q, r)))

      here : (d : ℕ) → d < least + 1 → 0 < counts step d → (d < from) ⊎ (from ≤ d) → (d < least) ⊎ (least ≤ d)
          → Contains (es ++ new ∷ []) (entry_at counts step d)
      here d lt pos (inl a) b = contains_left es (new ∷ []) _ (h.complete step d (inr (refl, a)) pos)
      here d lt pos (inr a) (inl b) =
          absurd (let z : counts step d ≡ 0 = is d ∙ occurrences-outside d (IsOutsideDegrees from least) degrees l.outside (λ o. out o) in omega (arith, z, pos))
        where
          out : IsOutsideDegrees from least d → ⊥
          out (inl q) = omega (arith, q, a)
          out (inr q) = let r = q.0 in omega (arith, r, b)
      here d lt pos (inr a) (inr b) = subst (λ z. Contains (es ++ new ∷ []) z) (same d (omega (arith, lt, b))) (contains_end es new)
        where
          same : (x : ℕ) → x ≡ least → new ≡ entry_at counts step x
          same x e = ap (λ z. record { step = step; degree = z; count = occurrences z degrees }) (sym e)
              ∙ ap (λ z. record { step = step; degree = x; count = z }) (sym (is x))

      go : (k d : ℕ) → IsDone step (least + 1) k d → 0 < counts k d → Contains (es ++ new ∷ []) (entry_at counts k d)
      go k d (inl a) pos = contains_left es (new ∷ []) _ (h.complete k d (inl a) pos)
      go k d (inr a) pos = subst (λ z. Contains (es ++ new ∷ []) (entry_at counts z d)) (sym a.0)
          (here d a.1 (subst (λ z. 0 < counts z d) a.0 pos) (cases_lt d from) (cases_lt d least))

  pub table_step : (least : ℕ) (degrees : List ℕ) → ((d : ℕ) → counts step d ≡ occurrences d degrees) → IsLeastDegree from least degrees → least ≡ 4294967296
      → IsTableTo counts es (step + 1) 0
  table_step least degrees is l none = record {
    ascends = h.ascends;
    before = all_map _ _ es (λ e b. inl (less e.step e.degree b)) h.before;
    counted = h.counted;
    complete = λ k d done pos. go k d done pos;
  }
    where
      less : (k d : ℕ) → IsDone step from k d → k < step + 1
      less k d (inl a) = omega (arith, a)
      less k d (inr a) = let q = a.0 in omega (arith, q)

      here : (d : ℕ) → 0 < counts step d → (d < from) ⊎ (from ≤ d) → Contains es (entry_at counts step d)
      here d pos (inl a) = h.complete step d (inr (refl, a)) pos
      here d pos (inr a) =
          absurd (let z : counts step d ≡ 0 = is d ∙ occurrences-outside d (IsOutsideDegrees from least) degrees l.outside (λ o. out o) in omega (arith, z, pos))
        where
          out : IsOutsideDegrees from least d → ⊥
          out (inl q) = omega (arith, q, a)
          out (inr q) = let r = q.0 in let s = q.1 in omega (arith, r, s, none)

      split : (k d : ℕ) → 0 < counts k d → k < step + 1 → (k < step) ⊎ (step ≤ k) → Contains es (entry_at counts k d)
      split k d pos lt (inl a) = h.complete k d (inl a) pos
      split k d pos lt (inr a) = let e : step ≡ k = omega (arith, lt, a) in subst (λ z. Contains es (entry_at counts z d)) e
          (here d (subst (λ z. 0 < counts z d) (sym e) pos) (cases_lt d from))

      go : (k d : ℕ) → IsDone (step + 1) 0 k d → 0 < counts k d → Contains es (entry_at counts k d)
      go k d (inl a) pos = split k d pos a (cases_lt k step)
      go k d (inr a) pos = absurd (let q = a.1 in omega (arith, q))

pub below_none : (from least : ℕ) (degrees : List ℕ) → IsLeastDegree from least degrees → (least ≡ 4294967296 → ⊥) → least + 1 ≤ 4294967296
below_none from least degrees l some = go l.found
  where
    go : (least ≡ 4294967296) ⊎ ((from ≤ least) × (least < 4294967296) × (0 < occurrences least degrees)) → least + 1 ≤ 4294967296
    go (inl a) = absurd (some a)
    go (inr a) = let q = a.1 in omega (arith, q)

-- the entry by what the calls answer
pub new_entry :
    (counts : ℕ → ℕ → ℕ) (es : List BettiEntry) (step from : ℕ) → IsTableTo counts es step from → (least : ℕ) (degrees : List ℕ)
    → ((d : ℕ) → counts step d ≡ occurrences d degrees) → IsLeastDegree from least degrees → (least ≡ 4294967296 → ⊥)
    → (degree count : ℕ) → degree ≡ least → count ≡ occurrences degree degrees
    → IsTableTo counts (es ++ record { step = step; degree = degree; count = count } ∷ []) step (least + 1)
new_entry counts es step from h least degrees is l some degree count e ce =
    subst₂ (λ d k. IsTableTo counts (es ++ record { step = step; degree = d; count = k } ∷ []) step (least + 1)) (sym e)
    (sym (ce ∙ ap (λ z. occurrences z degrees) e)) (table_next counts es step from h least degrees is l some)

pub table_done : (counts : ℕ → ℕ → ℕ) (es : List BettiEntry) (step : ℕ) → IsTableTo counts es step 0 → ((k d : ℕ) → step ≤ k → counts k d ≡ 0) → IsBettiTable counts es
table_done counts es step h none = record { ascends = h.ascends; counted = h.counted; complete = λ k d pos. go k d pos (cases_lt k step) }
  where
    go : (k d : ℕ) → 0 < counts k d → (k < step) ⊎ (step ≤ k) → Contains es (entry_at counts k d)
    go k d pos (inl a) = h.complete k d (inl a) pos
    go k d pos (inr a) = absurd (let z = none k d a in omega (arith, z, pos))

pub get_or-map : {X Y : Type 0} (f : X → Y) (xs : List X) (k : ℕ) (d : X) (d' : Y) → k < length xs → get_or (map f xs) k d' ≡ f (get_or xs k d)
get_or-map f [] k d d' lt = absurd (omega arith)
get_or-map f (x ∷ xs) zero d d' lt = refl
get_or-map f (x ∷ xs) (suc k) d d' lt = get_or-map f xs k d d' (omega arith)
