-- The steps that a vector meets, and the numbers of rows
use Rattle.std.proofs.Common.{List, [], ap, arith, drop, get_or, length, map, refl, subst, suc, sym, zero, ℕ, ◌++◌, ◌+◌, ◌-◌, ◌<◌, ◌∙◌, ◌∷◌, ◌≡◌, ◌≤◌}
use Rattle.std.proofs.lemmas.List.{length-map, map-append}
use Rattle.formal_sums.proofs.Linear.{linear_same}
use Rattle.formal_sums.proofs.Sameness.{IsSame_of, IsSame_trans}
use Rattle.formal_sums.specs.FormalSums.{Each, FormalSum, IsSame}
use Rattle.minimal_laws.proofs.Rows.{linear_cleared}
use Rattle.minimal_laws.specs.Cancellation.{cleared}
use Rattle.term_lists.specs.Rings.{variables}
use Rattle.term_lists.specs.Vectors.{StandsFor, sum_of}
use Rattle.term_lists.specs.declared.key.Key.{Key as CodeKey}
use Rattle.term_lists.specs.declared.ring.Ring.{Ring}
use Rattle.column_passes.specs.Passing.{AreNumbered, HaveNoOthers, cleared_all}
use Rattle.column_passes.specs.declared.steps.Step.{Step}
use Rattle.column_passes.proofs.Clearings.{cleared_other}
use Rattle.column_passes.proofs.Lists.{all_map, drop_item, drop_none, each_left, each_mapped, each_right}

abbrev Terms : Type 0
Terms = List (CodeKey × ℕ)

-- the number of a term's row in the table
abbrev number : List ℕ → CodeKey × ℕ → ℕ
number numbers t = get_or numbers t.0.position 18446744073709551615

-- the rows of the steps
abbrev rows_of : List Step → List ℕ
rows_of steps = map (λ (s : Step). s.row) steps

numbered_drop :
    (numbers : List ℕ) (j i : ℕ) (steps : List Step) → AreNumbered numbers j (rows_of steps) → AreNumbered numbers (j + i) (rows_of (drop i steps))
numbered_drop numbers j zero steps h = let e : j ≡ j + 0 = omega arith in subst (λ z. AreNumbered numbers z (rows_of steps)) e h
numbered_drop numbers j (suc i) [] h = tt
numbered_drop numbers j (suc i) (s ∷ steps) h = let e : (j + 1) + i ≡ j + suc i = omega arith in
    subst (λ z. AreNumbered numbers z (rows_of (drop i steps))) e (numbered_drop numbers (j + 1) i steps h.1)

module _ (ring : Ring) where
  -- the steps before the next one take nothing away
  skipped :
      (numbers : List ℕ) (j k from : ℕ) (steps : List Step) (v : Terms) → AreNumbered numbers j (rows_of steps) → from ≤ j
      → Each (λ t. from ≤ number numbers t → j + k ≤ number numbers t) v
      → cleared_all ring steps (sum_of (variables ring) v) ≡ cleared_all ring (drop k steps) (sum_of (variables ring) v)
  skipped numbers j zero from steps v h le next = refl
  skipped numbers j (suc k) from [] v h le next = refl
  skipped numbers j (suc k) from (s ∷ steps) v h le next =
      let n = variables ring in
      let other : Each (λ t. t.0.position ≡ s.row → ⊥) v =
      all_map _ _ v (λ t f e.
      let a : number numbers t ≡ j = ap (λ z. get_or numbers z 18446744073709551615) e ∙ h.0 in
      let b : j + suc k ≤ number numbers t = f (omega (arith, a, le)) in
      omega (arith, a, b)) next
      in
      let more : Each (λ t. from ≤ number numbers t → (j + 1) + k ≤ number numbers t) v =
      all_map _ _ v (λ t f l. let b : j + suc k ≤ number numbers t = f l in omega (arith, b)) next in
      ap (cleared_all ring steps) (cleared_other n ring.modulus.value s.row s.inverse (sum_of n s.column) v other)
      ∙ skipped numbers (j + 1) k from steps v h.1 (omega (arith, le)) more

  pub cleared_all_same :
      0 < ring.modulus.value → (steps : List Step) (v w : FormalSum (variables ring)) → IsSame ring.modulus.value v w
      → IsSame ring.modulus.value (cleared_all ring steps v) (cleared_all ring steps w)
  cleared_all_same pos [] v w e = e
  cleared_all_same pos (s ∷ steps) v w e =
      cleared_all_same pos steps _ _ (linear_same pos (linear_cleared ring.modulus.value s.row s.inverse (sum_of (variables ring) s.column)) e)

  module _ (numbers : List ℕ) (steps : List Step) (from next : ℕ) (out : Terms) (V : FormalSum (variables ring))
      (numbered : AreNumbered numbers 0 (rows_of steps)) (after : from ≤ next) (least : Each (λ t. from ≤ number numbers t → next ≤ number numbers t) out)
      (h : IsSame ring.modulus.value (cleared_all ring (drop from steps) (sum_of (variables ring) out)) V) where
    pub to_next : IsSame ring.modulus.value (cleared_all ring (drop next steps) (sum_of (variables ring) out)) V
    to_next =
        let k = next - from in
        let e : from + k ≡ next = omega (arith, after) in
        let f : 0 + from ≡ from = omega arith in
        let q = skipped numbers from k from (drop from steps) out
        (subst (λ z. AreNumbered numbers z (rows_of (drop from steps))) f (numbered_drop numbers 0 from steps numbered)) (omega arith)
        (subst (λ z. Each (λ t. from ≤ number numbers t → z ≤ number numbers t) out) (sym e) least)
        in
        IsSame_trans (IsSame_of ring.modulus.value _ _
        (ap (λ z. cleared_all ring (drop z steps) (sum_of (variables ring) out)) (sym e)
        ∙ sym (ap (λ z. cleared_all ring z (sum_of (variables ring) out)) (drop_drop from k steps)) ∙ sym q)) h
      where
        drop_drop : (i k : ℕ) (xs : List Step) → drop k (drop i xs) ≡ drop (i + k) xs
        drop_drop zero k xs = let e : k ≡ 0 + k = omega arith in ap (λ z. drop z xs) e
        drop_drop (suc i) k [] = drop_none [] k (omega arith) ∙ sym (drop_none [] (suc i + k) (omega arith))
        drop_drop (suc i) k (x ∷ xs) = let e : suc i + k ≡ suc (i + k) = omega arith in drop_drop i k xs ∙ ap (λ z. drop z (x ∷ xs)) (sym e)

    -- the next step
    pub next_cleared :
        0 < ring.modulus.value → (s : Step) (u : Terms) → next < length steps → s ≡ get_or steps next s
        → StandsFor ring u (cleared ring.modulus.value s.row s.inverse (sum_of (variables ring) s.column) (sum_of (variables ring) out))
        → IsSame ring.modulus.value (cleared_all ring (drop (next + 1) steps) (sum_of (variables ring) u)) V
    next_cleared pos s u lt is stands =
        IsSame_trans (cleared_all_same pos (drop (next + 1) steps) (sum_of (variables ring) u) _ stands)
        (subst (λ z. IsSame ring.modulus.value (cleared_all ring z (sum_of (variables ring) out)) V) (drop_item steps next s lt is) to_next)

    -- or none
    pub next_none : length steps ≤ next → StandsFor ring out V
    next_none le = subst (λ z. IsSame ring.modulus.value (cleared_all ring z (sum_of (variables ring) out)) V) (drop_none steps next le) to_next

-- ---- one item more, in another row
numbered_end :
    (old new : List ℕ) (i : ℕ) (rows : List ℕ) (row : ℕ) → AreNumbered old i rows → Each (λ r. r ≡ row → ⊥) rows
    → ((q : ℕ) → (q ≡ row → ⊥) → get_or new q 18446744073709551615 ≡ get_or old q 18446744073709551615)
    → get_or new row 18446744073709551615 ≡ i + length rows → AreNumbered new i (rows ++ row ∷ [])
numbered_end old new i [] row h other same here = (here ∙ omega arith, tt)
numbered_end old new i (r ∷ rows) row h other same here = (
  same r other.0 ∙ h.0,
  numbered_end old new (i + 1) rows row h.1 other.1 same (let e : i + length (r ∷ rows) ≡ (i + 1) + length rows = omega arith in here ∙ e),
)

others_end :
    (old new rows : List ℕ) (row : ℕ) → HaveNoOthers old rows
    → ((q : ℕ) → (q ≡ row → ⊥) → get_or new q 18446744073709551615 ≡ get_or old q 18446744073709551615) → HaveNoOthers new (rows ++ row ∷ [])
others_end old new rows row h same q other =
    same q (λ e. (each_right (λ (r : ℕ). r ≡ q → ⊥) rows (row ∷ []) other).0 (sym e)) ∙ h q (each_left (λ (r : ℕ). r ≡ q → ⊥) rows (row ∷ []) other)

rows_more : {X : Type 0} (row : X → ℕ) (before after : List X) (x : X) → after ≡ before ++ x ∷ [] → map row after ≡ map row before ++ row x ∷ []
rows_more row before after x e = ap (map row) e ∙ map-append row before (x ∷ [])

pub numbered_more :
    {X : Type 0} (row : X → ℕ) (old new : List ℕ) (before after : List X) (x : X) → after ≡ before ++ x ∷ []
    → ((q : ℕ) → (q ≡ row x → ⊥) → get_or new q 18446744073709551615 ≡ get_or old q 18446744073709551615)
    → get_or new (row x) 18446744073709551615 ≡ length before → Each (λ y. row y ≡ row x → ⊥) before → AreNumbered old 0 (map row before)
    → AreNumbered new 0 (map row after)
numbered_more row old new before after x e same here other h =
    let count : length before ≡ 0 + length (map row before) = (let many = length-map before row in omega (arith, many)) in
    subst (AreNumbered new 0) (sym (rows_more row before after x e))
    (numbered_end old new 0 (map row before) (row x) h (each_mapped (λ (r : ℕ). r ≡ row x → ⊥) row before other) same (here ∙ count))

pub others_more :
    {X : Type 0} (row : X → ℕ) (old new : List ℕ) (before after : List X) (x : X) → after ≡ before ++ x ∷ []
    → ((q : ℕ) → (q ≡ row x → ⊥) → get_or new q 18446744073709551615 ≡ get_or old q 18446744073709551615)
    → HaveNoOthers old (map row before) → HaveNoOthers new (map row after)
others_more row old new before after x e same h =
    subst (HaveNoOthers new) (sym (rows_more row before after x e)) (others_end old new (map row before) (row x) h same)

-- a row without a number is none of them
pub numbered_off :
    (numbers : List ℕ) (i : ℕ) (rows : List ℕ) (q : ℕ) → AreNumbered numbers i rows → i + length rows ≤ 18446744073709551615
    → get_or numbers q 18446744073709551615 ≡ 18446744073709551615 → Each (λ r. r ≡ q → ⊥) rows
numbered_off numbers i [] q h le none = tt
numbered_off numbers i (r ∷ rows) q h le none = (
  (λ e. let a : get_or numbers r 18446744073709551615 ≡ get_or numbers q 18446744073709551615 = ap (λ z. get_or numbers z 18446744073709551615) e in
      let b = h.0 in omega (arith, a, b, none, le)),
  numbered_off numbers (i + 1) rows q h.1 (omega (arith, le)) none,
)
