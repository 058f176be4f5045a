-- The constants of a column, term by term, at the places of their rows
use Rattle.std.specs.Prelude.{IfSome, None, Option, Some, nat_eq}
use Rattle.std.proofs.Common.{Bool, List, [], ap, ap₂, arith, cond, false, get_or, length, map, refl, subst, suc, sym, take, true, zero, ℕ}
use Rattle.std.proofs.Common.{◌++◌, ◌+◌, ◌<◌, ◌∙◌, ◌∷◌, ◌≡◌, ◌≤◌}
use Rattle.std.proofs.lemmas.List.{map-append}
use Rattle.std.proofs.lemmas.List.Elements.{filter-append}
use Rattle.monomials.proofs.Monomials.{same_exponents-refl, same_exponents-true}
use Rattle.monomials.proofs.Weighing.{weighted_degree-unit, weighted_degree_zero}
use Rattle.monomials.specs.Exponents.{Exponents, exponents_of, same_exponents, unit}
use Rattle.monomials.specs.Weights.{weighted_degree}
use Rattle.formal_sums.specs.FormalSums.{Each, FormalSum}
use Rattle.minimal_laws.proofs.Rows.{close}
use Rattle.minimal_laws.specs.Cancellation.{without_row}
use Rattle.betti_laws.specs.ConstantParts.{constant_part}
use Rattle.term_lists.proofs.Scaling.{take_item}
use Rattle.term_lists.specs.Rings.{variables}
use Rattle.term_lists.specs.Vectors.{IsMonomialOver, sum_of, sums_of}
use Rattle.term_lists.specs.declared.key.Key.{Key as CodeKey}
use Rattle.term_lists.specs.declared.ring.Ring.{Ring}
use Rattle.constant_rows.specs.Rows.{entry_constants}
use Rattle.column_passes.specs.Placing.{place_after, without_all}
use Rattle.column_passes.proofs.Lists.{all_append, all_map}
use Rattle.constant_passes.specs.Choosing.{columns_without_rows}
use Rattle.constant_passes.specs.Listing.{constants_at, entry_list}

abbrev Terms : Type 0
Terms = List (CodeKey × ℕ)

-- ---- rows leave the parts of a vector
without_row_append : {n : ℕ} (r : ℕ) (v w : FormalSum n) → without_row r (v ++ w) ≡ without_row r v ++ without_row r w
without_row_append r [] w = refl
without_row_append {n} r (t ∷ v) w = go (nat_eq t.0.0 r) (without_row_append r v w)
  where
    go :
        (b : Bool) → without_row r (v ++ w) ≡ without_row r v ++ without_row r w
        → cond b (without_row r (v ++ w)) (((close r t.0.0, t.0.1), t.1) ∷ without_row r (v ++ w))
        ≡ cond b (without_row r v) (((close r t.0.0, t.0.1), t.1) ∷ without_row r v) ++ without_row r w
    go true e = e
    go false e = ap (λ z. ((close r t.0.0, t.0.1), t.1) ∷ z) e

without_all_append : {n : ℕ} (rows : List ℕ) (v w : FormalSum n) → without_all rows (v ++ w) ≡ without_all rows v ++ without_all rows w
without_all_append [] v w = refl
without_all_append (r ∷ rows) v w = ap (without_all rows) (without_row_append r v w) ∙ without_all_append rows (without_row r v) (without_row r w)

without_all_nothing : {n : ℕ} (rows : List ℕ) → without_all {n = n} rows [] ≡ []
without_all_nothing [] = refl
without_all_nothing (r ∷ rows) = without_all_nothing rows

-- ---- one term
abbrev at_place : {n : ℕ} → Option ℕ → Exponents n → ℕ → FormalSum n
at_place None m a = []
at_place (Some q) m a = ((q, m), a) ∷ []

one_placed :
    {n : ℕ} (rows : List ℕ) (q : ℕ) (m : Exponents n) (a : ℕ) → without_all rows (((q, m), a) ∷ []) ≡ at_place (place_after rows q) m a
one_placed [] q m a = refl
one_placed {n} (r ∷ rows) q m a = go (nat_eq q r) (one_placed rows (close r q) m a)
  where
    go :
        (b : Bool) → without_all rows (((close r q, m), a) ∷ []) ≡ at_place (place_after rows (close r q)) m a
        → without_all rows (cond b [] (((close r q, m), a) ∷ [])) ≡ at_place (cond b None (place_after rows (close r q))) m a
    go true e = without_all_nothing rows
    go false e = e

module _ (ring : Ring) (rows : List ℕ) (t : CodeKey × ℕ) (m : IsMonomialOver ring t.0.monomial) where
  abbrev e : Exponents (variables ring)
  e = exponents_of (variables ring) t.0.monomial.exponents

  by_place : constants_at (variables ring) rows (t ∷ []) ≡ constant_part (at_place (place_after rows t.0.position) e t.1)
  by_place = ap constant_part (one_placed rows t.0.position e t.1)

  -- a term that is no constant
  pub constant_not : 0 < t.0.monomial.degree → constants_at (variables ring) rows (t ∷ []) ≡ []
  constant_not lt = by_place ∙ go (place_after rows t.0.position)
    where
      at : (q : ℕ) (b : Bool) → same_exponents (unit (variables ring)) e ≡ b
          → ◌≡◌ {A = FormalSum (variables ring)} (cond b (((q, e), t.1) ∷ []) []) []
      at q true h =
          let u = same_exponents-true (unit (variables ring)) e h in
          let z : weighted_degree ring.weights e ≡ 0 =
          ap (weighted_degree ring.weights) (sym u) ∙ weighted_degree-unit (variables ring) ring.weights in
          let d = m.degree in
          absurd (omega (arith, lt, z, d))
      at q false h = refl

      go : (place : Option ℕ) → constant_part (at_place place e t.1) ≡ []
      go None = refl
      go (Some q) = at q (same_exponents (unit (variables ring)) e) refl

  -- one in a row that leaves
  pub constant_gone : place_after rows t.0.position ≡ None → constants_at (variables ring) rows (t ∷ []) ≡ []
  constant_gone none = by_place ∙ ap (λ z. constant_part (at_place z e t.1)) none

  -- a constant in a row that stays
  pub constant_here :
      (q : ℕ) → t.0.monomial.degree ≡ 0 → place_after rows t.0.position ≡ Some q
      → constants_at (variables ring) rows (t ∷ []) ≡ entry_constants (variables ring) ((q, t.1) ∷ [])
  constant_here q z some =
      let u : e ≡ unit (variables ring) = weighted_degree_zero ring.weights e (sym m.degree ∙ z) in
      by_place ∙ ap (λ z. constant_part (at_place z e t.1)) some
      ∙ ap (λ b. cond b (((q, e), t.1) ∷ []) []) (ap (same_exponents (unit (variables ring))) u ∙ same_exponents-refl (unit (variables ring)))
      ∙ ap (λ (x : Exponents (variables ring)). ((q, x), t.1) ∷ []) u

-- ---- one term more
pub constants_more :
    (n : ℕ) (rows : List ℕ) (v : Terms) (i : ℕ) (t : CodeKey × ℕ) (old new : List (ℕ × ℕ)) (found : Option (ℕ × ℕ)) → i < length v
    → t ≡ get_or v i t → entry_constants n old ≡ constants_at n rows (take i v) → constants_at n rows (t ∷ []) ≡ entry_constants n (entry_list found)
    → new ≡ old ++ entry_list found → entry_constants n new ≡ constants_at n rows (take (i + 1) v)
constants_more n rows v i t old new found lt is h one more =
    ap (entry_constants n) more ∙ map-append _ old (entry_list found) ∙ ap₂ (λ a b. a ++ b) h (sym one)
    ∙ sym (ap (λ z. constants_at n rows z) (take_item v i t lt is)
    ∙ ap (λ z. constant_part (without_all rows z)) (map-append _ (take i v) (t ∷ []))
    ∙ ap constant_part (without_all_append rows (sum_of n (take i v)) (sum_of n (t ∷ [])))
    ∙ filter-append _ (without_all rows (sum_of n (take i v))) (without_all rows (sum_of n (t ∷ []))))

pub constants_start : (n : ℕ) (rows : List ℕ) (new : List (ℕ × ℕ)) → new ≡ [] → entry_constants n new ≡ constants_at n rows []
constants_start n rows new e = ap (entry_constants n) e ∙ sym (ap constant_part (without_all_nothing rows))

pub below_put :
    (old new : List (ℕ × ℕ)) (found : Option (ℕ × ℕ)) (width after : ℕ) → Each (λ e. e.0 < width) old → width ≤ after
    → IfSome found (λ e. e.0 < after) → new ≡ old ++ entry_list found → Each (λ e. e.0 < after) new
below_put old new found width after h le lt more =
    subst (Each (λ e. e.0 < after)) (sym more)
    (all_append _ old (entry_list found) (all_map _ _ old (λ (e : ℕ × ℕ) l. omega (arith, l, le)) h) (go found lt))
  where
    go : (x : Option (ℕ × ℕ)) → IfSome x (λ e. e.0 < after) → Each (λ e. e.0 < after) (entry_list x)
    go None l = tt
    go (Some x) l = (l, tt)

pub reduced_put :
    (p a : ℕ) (old new : List (ℕ × ℕ)) (found : Option (ℕ × ℕ)) → Each (λ e. e.1 < p) old → a < p → IfSome found (λ e. e.1 ≡ a)
    → new ≡ old ++ entry_list found → Each (λ e. e.1 < p) new
reduced_put p a old new found h lt is more = subst (Each (λ e. e.1 < p)) (sym more) (all_append _ old (entry_list found) h (go found is))
  where
    go : (x : Option (ℕ × ℕ)) → IfSome x (λ e. e.1 ≡ a) → Each (λ e. e.1 < p) (entry_list x)
    go None e = tt
    go (Some x) e = (subst (λ z. z < p) (sym e) lt, tt)

-- ---- the columns
pub column_is :
    (n : ℕ) (rows : List ℕ) (columns : List Terms) (i : ℕ)
    → get_or (map constant_part (columns_without_rows rows (sums_of n columns))) i [] ≡ constants_at n rows (get_or columns i [])
column_is n rows [] i = sym (ap constant_part (without_all_nothing rows))
column_is n rows (v ∷ columns) zero = refl
column_is n rows (v ∷ columns) (suc i) = column_is n rows columns i

pub columns_count :
    (n : ℕ) (rows : List ℕ) (columns : List Terms) → length (map constant_part (columns_without_rows rows (sums_of n columns))) ≡ length columns
columns_count n rows [] = refl
columns_count n rows (v ∷ columns) = ap suc (columns_count n rows columns)
