-- Steps whose rows keep their first numbers, as pivots in turn
use Rattle.std.specs.Prelude.{None, Option, Some, nat_eq}
use Rattle.std.proofs.Common.{Bool, List, [], ap, append-nil, arith, cond, eq-eqb, eqb-true, false, inl, inr, refl, subst, suc, sym, true}
use Rattle.std.proofs.Common.{true≢false, zero, ℕ, ◌*◌, ◌++◌, ◌-◌, ◌<◌, ◌∙◌, ◌∷◌, ◌≡◌, ◌≤◌, ◌⊎◌}
use Rattle.std.proofs.lemmas.Bool.{cases_lt, cases_order}
use Rattle.std.proofs.lemmas.Bool.Decides.{nat_tests}
use Rattle.std.proofs.lemmas.List.{append_assoc}
use Rattle.residues.proofs.Congruences.{IsCongruent_of, IsCongruent_trans}
use Rattle.monomials.specs.Exponents.{Exponents, times, unit}
use Rattle.formal_sums.specs.FormalSums.{Each, FormalSum, coefficient, product, scale}
use Rattle.minimal_laws.proofs.Clearing.{coefficient_component, skip_close}
use Rattle.minimal_laws.proofs.Rows.{close, skip}
use Rattle.minimal_laws.specs.Cancellation.{cleared, component, without_row}
use Rattle.minimal_laws.specs.Minimal.{IsConstantAt}
use Rattle.betti_laws.proofs.Constants.{HasNoConstant}
use Rattle.term_lists.specs.Rings.{variables}
use Rattle.term_lists.specs.declared.ring.Ring.{Ring}
use Rattle.column_passes.specs.Passing.{Pivot, applied}
use Rattle.column_passes.specs.Placing.{place_after, without_all}
use Rattle.column_passes.proofs.Applying.{no_constant_without}

-- ---- a row before and after others have left
-- the row that comes to this place
abbrev pub skip_all : List ℕ → ℕ → ℕ
skip_all [] i = i
skip_all (r ∷ rows) i = skip r (skip_all rows i)

abbrev pub is_there : Option ℕ → Bool
is_there None = false
is_there (Some q) = true

-- what is left to a place when these leave in turn
abbrev pub then_after : Option ℕ → List ℕ → Option ℕ
then_after None rows = None
then_after (Some q) rows = place_after rows q

abbrev pub taken_out : Option ℕ → ℕ
taken_out None = 0
taken_out (Some q) = q

pub place_skip : (rows : List ℕ) (q r : ℕ) → place_after rows q ≡ Some r → skip_all rows r ≡ q
place_skip [] q r e = sym (ap taken_out e)
place_skip (c ∷ rows) q r e = go (nat_eq q c) refl e (λ f. place_skip rows (close c q) r f)
  where
    go :
        (b : Bool) → nat_eq q c ≡ b → cond b None (place_after rows (close c q)) ≡ Some r
        → (place_after rows (close c q) ≡ Some r → skip_all rows r ≡ close c q) → skip c (skip_all rows r) ≡ q
    go true h f more = absurd (true≢false (sym (ap is_there f)))
    go false h f more = ap (skip c) (more f) ∙ skip_close c q h

pub skip_all_end : (rows : List ℕ) (c i : ℕ) → skip_all (rows ++ c ∷ []) i ≡ skip_all rows (skip c i)
skip_all_end [] c i = refl
skip_all_end (r ∷ rows) c i = ap (skip r) (skip_all_end rows c i)

skip_less : (c i j : ℕ) → i < j → skip c i < skip c j
skip_less c i j lt = grind (arith, nat_tests)

pub skip_all_less : (rows : List ℕ) (i j : ℕ) → i < j → skip_all rows i < skip_all rows j
skip_all_less [] i j lt = lt
skip_all_less (r ∷ rows) i j lt = skip_less r (skip_all rows i) (skip_all rows j) (skip_all_less rows i j lt)

-- the places are those of the pivots' rows, each after those before and after these rows
abbrev pub AreTurned : {n : ℕ} → List ℕ → List (Pivot n) → List ℕ → Type 0
AreTurned rows [] [] = Unit {0}
AreTurned rows [] (r ∷ places) = ⊥
AreTurned rows (s ∷ pivots) [] = ⊥
AreTurned rows (s ∷ pivots) (r ∷ places) = (place_after rows s.row ≡ Some r) × AreTurned (rows ++ r ∷ []) pivots places

-- a row of no pivot has a place after them
place_left :
    {n : ℕ} (rows : List ℕ) (pivots : List (Pivot n)) (places : List ℕ) (q : ℕ) → AreTurned rows pivots places
    → Each (λ (s : Pivot n). s.row ≡ skip_all rows q → ⊥) pivots
    → place_after places q ≡ None → ⊥
place_left rows [] [] q h other e = true≢false (ap is_there e)
place_left rows [] (r ∷ places) q h other e = elim h [ ]
place_left rows (s ∷ pivots) [] q h other e = elim h [ ]
place_left {n} rows (s ∷ pivots) (r ∷ places) q h other e = go (nat_eq q r) refl e (λ o f. place_left (rows ++ r ∷ []) pivots places (close r q) h.1 o f)
  where
    go :
        (b : Bool) → nat_eq q r ≡ b → cond b None (place_after places (close r q)) ≡ None
        → (Each (λ (t : Pivot n). t.row ≡ skip_all (rows ++ r ∷ []) (close r q) → ⊥) pivots → place_after places (close r q) ≡ None → ⊥) → ⊥
    go true k f more = other.0 (sym (place_skip rows s.row r h.0) ∙ ap (skip_all rows) (sym (eqb-true q r k)))
    go false k f more = more (renamed pivots other.1) f
      where
        at : skip_all (rows ++ r ∷ []) (close r q) ≡ skip_all rows q
        at = skip_all_end rows r (close r q) ∙ ap (skip_all rows) (skip_close r q k)

        renamed : (ts : List (Pivot n)) → Each (λ (t : Pivot n). t.row ≡ skip_all rows q → ⊥) ts
            → Each (λ (t : Pivot n). t.row ≡ skip_all (rows ++ r ∷ []) (close r q) → ⊥) ts
        renamed [] o = tt
        renamed (t ∷ ts) o = ((λ z. o.0 (z ∙ at)), renamed ts o.1)

pub free_place :
    {n : ℕ} (pivots : List (Pivot n)) (places : List ℕ) (q : ℕ) → AreTurned [] pivots places → Each (λ (s : Pivot n). s.row ≡ q → ⊥) pivots
    → (r : ℕ) × (place_after places q ≡ Some r)
free_place pivots places q h other = go (place_after places q) refl
  where
    go : (place : Option ℕ) → place_after places q ≡ place → (r : ℕ) × (place_after places q ≡ Some r)
    go None e = absurd (place_left [] pivots places q h other e)
    go (Some r) e = (r, e)

pub turned_end :
    {n : ℕ} (rows : List ℕ) (pivots : List (Pivot n)) (places : List ℕ) (s : Pivot n) (r : ℕ) → AreTurned rows pivots places
    → place_after (rows ++ places) s.row ≡ Some r
    → AreTurned rows (pivots ++ s ∷ []) (places ++ r ∷ [])
turned_end rows [] [] s r h e = (ap (λ z. place_after z s.row) (sym (append-nil rows)) ∙ e, tt)
turned_end rows [] (q ∷ places) s r h e = elim h [ ]
turned_end rows (t ∷ pivots) [] s r h e = elim h [ ]
turned_end rows (t ∷ pivots) (q ∷ places) s r h e = (
  h.0,
  turned_end (rows ++ q ∷ []) pivots places s r h.1 (ap (λ z. place_after z s.row) (append_assoc rows (q ∷ []) places) ∙ e),
)

-- a row of a pivot has none
pub place_append : (rows more : List ℕ) (q : ℕ) → place_after (rows ++ more) q ≡ then_after (place_after rows q) more
place_append [] more q = refl
place_append (c ∷ rows) more q = go (nat_eq q c) (place_append rows more (close c q))
  where
    go :
        (b : Bool) → place_after (rows ++ more) (close c q) ≡ then_after (place_after rows (close c q)) more
        → cond b None (place_after (rows ++ more) (close c q)) ≡ then_after (cond b None (place_after rows (close c q))) more
    go true e = refl
    go false e = e

pub turned_none :
    {n : ℕ} (rows : List ℕ) (pivots : List (Pivot n)) (places : List ℕ) → AreTurned rows pivots places
    → Each (λ (s : Pivot n). place_after (rows ++ places) s.row ≡ None) pivots
turned_none rows [] [] h = tt
turned_none rows [] (r ∷ places) h = elim h [ ]
turned_none rows (s ∷ pivots) [] h = elim h [ ]
turned_none {n} rows (s ∷ pivots) (r ∷ places) h = (
  place_append rows (r ∷ places) s.row ∙ ap (λ z. then_after z (r ∷ places)) h.0
      ∙ ap (λ b. cond b None (place_after places (close r r))) (eq-eqb r r refl),
  subst (λ z. Each (λ (t : Pivot n). place_after z t.row ≡ None) pivots) (append_assoc rows (r ∷ []) places)
      (turned_none (rows ++ r ∷ []) pivots places h.1),
)

-- ---- lists by which the same rows leave
skip_place : (rows : List ℕ) (r : ℕ) → place_after rows (skip_all rows r) ≡ Some r
skip_place [] r = refl
skip_place (c ∷ rows) r =
    ap (λ b. cond b None (place_after rows (close c (skip c (skip_all rows r))))) (skip_other c (skip_all rows r))
    ∙ ap (place_after rows) (close_skip c (skip_all rows r)) ∙ skip_place rows r
  where
    skip_other : (c i : ℕ) → nat_eq (skip c i) c ≡ false
    skip_other c i = grind (arith, nat_tests)

    close_skip : (c i : ℕ) → close c (skip c i) ≡ i
    close_skip c i = grind (arith, nat_tests)

pub skip_all_below : (rows : List ℕ) (i j : ℕ) → skip_all rows i < skip_all rows j → i < j
skip_all_below rows i j lt = go (cases_order i j)
  where
    go : (i ≡ j) ⊎ ((i < j) ⊎ (j < i)) → i < j
    go (inl e) = let q = ap (skip_all rows) e in absurd (omega (arith, q, lt))
    go (inr (inl less)) = less
    go (inr (inr more)) = let q = skip_all_less rows j i more in absurd (omega (arith, q, lt))

-- all rows that leave by A leave by B
abbrev LeaveAlso : List ℕ → List ℕ → Type 0
LeaveAlso A B = (q : ℕ) → place_after A q ≡ None → place_after B q ≡ None

-- so the row that comes to place r after B comes to one that is not less after A
later : (A B : List ℕ) → LeaveAlso A B → (r : ℕ) → (s : ℕ) × (skip_all A s ≡ skip_all B r)
later A B h r = go (place_after A (skip_all B r)) refl
  where
    go : (place : Option ℕ) → place_after A (skip_all B r) ≡ place → (s : ℕ) × (skip_all A s ≡ skip_all B r)
    go None e = absurd (true≢false (ap is_there (sym (skip_place B r) ∙ h (skip_all B r) e)))
    go (Some s) e = (s, place_skip A (skip_all B r) s e)

not_earlier : (A B : List ℕ) → LeaveAlso A B → (r : ℕ) → (s : ℕ) × ((skip_all A s ≡ skip_all B r) × (r ≤ s))
not_earlier A B h zero = let a = later A B h 0 in (a.0, (a.1, omega arith))
not_earlier A B h (suc r) =
    let a = not_earlier A B h r in
    let b = later A B h (suc r) in
    let lt = skip_all_less B r (suc r) (omega arith) in
    let up = skip_all_below A a.0 b.0 (omega (arith, a.1.0, b.1, lt)) in
    (b.0, (b.1, omega (arith, a.1.1, up)))

skips_least : (A B : List ℕ) → LeaveAlso A B → (r : ℕ) → skip_all A r ≤ skip_all B r
skips_least A B h r = let a = not_earlier A B h r in go a.0 a.1.0 a.1.1 (cases_lt r a.0)
  where
    go : (s : ℕ) → skip_all A s ≡ skip_all B r → r ≤ s → (r < s) ⊎ (s ≤ r) → skip_all A r ≤ skip_all B r
    go s e le (inl lt) = let up = skip_all_less A r s lt in omega (arith, e, up)
    go s e le (inr ge) = let k : r ≡ s = omega (arith, le, ge) in let q = ap (skip_all A) k in omega (arith, e, q)

pub same_places :
    (A B : List ℕ) → ((q : ℕ) → place_after A q ≡ None → place_after B q ≡ None)
    → ((q : ℕ) → place_after B q ≡ None → place_after A q ≡ None) → (q : ℕ) → place_after A q ≡ place_after B q
same_places A B h g q = go (place_after A q) refl
  where
    go : (place : Option ℕ) → place_after A q ≡ place → place ≡ place_after B q
    go None e = sym (h q e)
    go (Some r) e =
        let a = skips_least A B h r in
        let b = skips_least B A g r in
        let k : skip_all B r ≡ skip_all A r = omega (arith, a, b) in
        sym (ap (place_after B) (sym (k ∙ place_skip A q r e)) ∙ skip_place B r)

-- ---- clearing and rows that leave
at_left : (q r i : ℕ) → nat_eq i q ≡ false → nat_eq (close q i) r ≡ nat_eq i (skip q r)
at_left q r i h = grind (arith, nat_tests)

at_gone : (q r i : ℕ) → nat_eq i q ≡ true → nat_eq i (skip q r) ≡ false
at_gone q r i h = grind (arith, nat_tests)

module _ {n : ℕ} where
  without_append : (q : ℕ) (v w : FormalSum n) → without_row q (v ++ w) ≡ without_row q v ++ without_row q w
  without_append q [] w = refl
  without_append q (t ∷ v) w = go (nat_eq t.0.0 q) (without_append q v w)
    where
      go :
          (b : Bool) → without_row q (v ++ w) ≡ without_row q v ++ without_row q w
          → cond b (without_row q (v ++ w)) (((close q t.0.0, t.0.1), t.1) ∷ without_row q (v ++ w))
          ≡ cond b (without_row q v) (((close q t.0.0, t.0.1), t.1) ∷ without_row q v) ++ without_row q w
      go true e = e
      go false e = ap (λ z. ((close q t.0.0, t.0.1), t.1) ∷ z) e

  without_scale : (q c : ℕ) (m : Exponents n) (w : FormalSum n) → without_row q (scale c m w) ≡ scale c m (without_row q w)
  without_scale q c m [] = refl
  without_scale q c m (t ∷ w) = go (nat_eq t.0.0 q) (without_scale q c m w)
    where
      go :
          (b : Bool) → without_row q (scale c m w) ≡ scale c m (without_row q w)
          → cond b (without_row q (scale c m w)) (((close q t.0.0, times m t.0.1), c * t.1) ∷ without_row q (scale c m w))
          ≡ scale c m (cond b (without_row q w) (((close q t.0.0, t.0.1), t.1) ∷ without_row q w))
      go true e = e
      go false e = ap (λ z. scale c m (((close q t.0.0, t.0.1), t.1) ∷ []) ++ z) e

  without_product : (q : ℕ) (u w : FormalSum n) → without_row q (product u w) ≡ product u (without_row q w)
  without_product q [] w = refl
  without_product q (t ∷ u) w =
      without_append q (scale t.1 t.0.1 w) (product u w)
      ∙ ap (λ z. z ++ without_row q (product u w)) (without_scale q t.1 t.0.1 w) ∙ ap (λ z. scale t.1 t.0.1 (without_row q w) ++ z) (without_product q u w)

  component_without : (q r : ℕ) (v : FormalSum n) → component r (without_row q v) ≡ component (skip q r) v
  component_without q r [] = refl
  component_without q r (t ∷ v) = go (nat_eq t.0.0 q) refl (component_without q r v)
    where
      go :
          (b : Bool) → nat_eq t.0.0 q ≡ b → component r (without_row q v) ≡ component (skip q r) v
          → component r (cond b (without_row q v) (((close q t.0.0, t.0.1), t.1) ∷ without_row q v))
          ≡ cond (nat_eq t.0.0 (skip q r)) (((0, t.0.1), t.1) ∷ component (skip q r) v) (component (skip q r) v)
      go true h e = e ∙ sym (ap (λ b. cond b (((0, t.0.1), t.1) ∷ component (skip q r) v) (component (skip q r) v)) (at_gone q r t.0.0 h))
      go false h e =
          ap (λ z. cond (nat_eq (close q t.0.0) r) (((0, t.0.1), t.1) ∷ z) z) e
          ∙ ap (λ b. cond b (((0, t.0.1), t.1) ∷ component (skip q r) v) (component (skip q r) v)) (at_left q r t.0.0 h)

  without_cleared :
      (p q r s : ℕ) (w v : FormalSum n) → without_row q (cleared p (skip q r) s w v) ≡ cleared p r s (without_row q w) (without_row q v)
  without_cleared p q r s w v =
      without_append q v (product (scale ((p - 1) * s) (unit n) (component (skip q r) v)) w)
      ∙ ap (λ z. without_row q v ++ z) (without_product q (scale ((p - 1) * s) (unit n) (component (skip q r) v)) w)
      ∙ ap (λ z. without_row q v ++ product (scale ((p - 1) * s) (unit n) z) (without_row q w)) (sym (component_without q r v))

  pub without_all_cleared :
      (p : ℕ) (rows : List ℕ) (r s : ℕ) (w v : FormalSum n)
      → without_all rows (cleared p (skip_all rows r) s w v) ≡ cleared p r s (without_all rows w) (without_all rows v)
  without_all_cleared p [] r s w v = refl
  without_all_cleared p (q ∷ rows) r s w v =
      ap (without_all rows) (without_cleared p q (skip_all rows r) s w v) ∙ without_all_cleared p rows r s (without_row q w) (without_row q v)

  without_all_end : (rows : List ℕ) (r : ℕ) (v : FormalSum n) → without_all (rows ++ r ∷ []) v ≡ without_row r (without_all rows v)
  without_all_end [] r v = refl
  without_all_end (q ∷ rows) r v = without_all_end rows r (without_row q v)

  -- coefficients
  coefficient_without : (q r : ℕ) (v : FormalSum n) (m : Exponents n) → coefficient (without_row q v) (r, m) ≡ coefficient v (skip q r, m)
  coefficient_without q r v m =
      let one : 0 < 1 = omega arith in
      sym (coefficient_component one r (without_row q v) m) ∙ ap (λ z. coefficient z (0, m)) (component_without q r v)
      ∙ coefficient_component one (skip q r) v m

  pub coefficient_left : (rows : List ℕ) (r : ℕ) (v : FormalSum n) (m : Exponents n)
      → coefficient (without_all rows v) (r, m) ≡ coefficient v (skip_all rows r, m)
  coefficient_left [] r v m = refl
  coefficient_left (q ∷ rows) r v m = coefficient_left rows r (without_row q v) m ∙ coefficient_without q (skip_all rows r) v m

  pub constant_before : (p : ℕ) (rows : List ℕ) (r : ℕ) (v : FormalSum n) → IsConstantAt p (without_all rows v) r → IsConstantAt p v (skip_all rows r)
  constant_before p rows r v h = record {
    nonzero = λ z. h.nonzero (IsCongruent_trans (IsCongruent_of p _ _ (coefficient_left rows r v (unit n))) z);
    alone = λ m ne. IsCongruent_trans (IsCongruent_of p _ _ (sym (coefficient_left rows r v m))) (h.alone m ne);
  }

  pub constant_after : (p : ℕ) (rows : List ℕ) (r : ℕ) (v : FormalSum n) → IsConstantAt p v (skip_all rows r) → IsConstantAt p (without_all rows v) r
  constant_after p rows r v h = record {
    nonzero = λ z. h.nonzero (IsCongruent_trans (IsCongruent_of p _ _ (sym (coefficient_left rows r v (unit n)))) z);
    alone = λ m ne. IsCongruent_trans (IsCongruent_of p _ _ (coefficient_left rows r v m)) (h.alone m ne);
  }

  pub no_constant_left : (p : ℕ) (rows : List ℕ) (v : FormalSum n) → HasNoConstant p v → HasNoConstant p (without_all rows v)
  no_constant_left p [] v h = h
  no_constant_left p (r ∷ rows) v h = no_constant_left p rows (without_row r v) (no_constant_without p r v h)

-- ---- pivots in turn
module _ (ring : Ring) where
  -- the pivot after these rows have left, at this place and with this number
  abbrev pub turned_pivot : List ℕ → ℕ → ℕ → Pivot (variables ring) → Pivot (variables ring)
  turned_pivot rows r i s = record { row = r; index = i; inverse = s.inverse; column = without_all rows s.column }

  pub applied_turned :
      (rows : List ℕ) (r i : ℕ) (s : Pivot (variables ring)) (v : FormalSum (variables ring)) → place_after rows s.row ≡ Some r
      → applied ring (turned_pivot rows r i s) (without_all rows v) ≡ without_all (rows ++ r ∷ []) (cleared ring.modulus.value s.row s.inverse s.column v)
  applied_turned rows r i s v e =
      let p = ring.modulus.value in
      ap (without_row r) (sym (without_all_cleared p rows r s.inverse s.column v)
      ∙ ap (λ q. without_all rows (cleared p q s.inverse s.column v)) (place_skip rows s.row r e))
      ∙ sym (without_all_end rows r (cleared p s.row s.inverse s.column v))
