-- Sums by row, cleared by the steps' columns
use Rattle.std.proofs.Common.{List, [], ap, append-nil, arith, cond, drop, eq-eqb, get_or, inl, inr, length, map, refl, subst, suc, sym, zero, ℕ}
use Rattle.std.proofs.Common.{◌%◌, ◌*◌, ◌+◌, ◌++◌, ◌-◌, ◌<◌, ◌∙◌, ◌∷◌, ◌≡◌, ◌≤◌, ◌⊎◌}
use Rattle.residues.proofs.Congruences.{IsCongruent_mod, IsCongruent_multiply, IsCongruent_of, IsCongruent_refl, IsCongruent_trans}
use Rattle.residues.specs.Residues.{IsCongruent}
use Rattle.monomials.proofs.Monomials.{times-unit}
use Rattle.monomials.specs.Exponents.{times, unit}
use Rattle.formal_sums.proofs.Combining.{scale-one}
use Rattle.formal_sums.proofs.Sameness.{IsSame_append, IsSame_of, IsSame_refl, IsSame_sym, IsSame_trans}
use Rattle.formal_sums.specs.FormalSums.{Each, FormalSum, IsSame, product, scale}
use Rattle.minimal_laws.specs.Cancellation.{cleared, component}
use Rattle.module_vectors.proofs.SumsOfProducts.{added_zero}
use Rattle.term_lists.specs.Rings.{variables}
use Rattle.term_lists.specs.declared.ring.Ring.{Ring}
use Rattle.constant_rows.proofs.Reading.{zeros_same}
use Rattle.constant_rows.specs.Rows.{AddsConstants, AreZeros, entry_constants, row_constants}
use Rattle.column_passes.specs.Passing.{AreNumbered}
use Rattle.column_passes.proofs.Clearings.{minus_product, nat_eq-other, scale_congruent}
use Rattle.column_passes.proofs.Lists.{drop_item, drop_none}
use Rattle.constant_passes.specs.Steps.{cleared_by_constants}
use Rattle.constant_passes.specs.declared.clearing.Step.{Step}
use Rattle.constant_passes.proofs.Numbering.{cleared_by_constants_same, skipped}

-- ---- the entry of sums in a row
component_before : {n : ℕ} (r i : ℕ) (sums : List ℕ) → r < i → component r (row_constants n i sums) ≡ []
component_before r i [] lt = refl
component_before {n} r i (a ∷ sums) lt =
    let rest = component r (row_constants n (i + 1) sums) in
    ap (λ b. cond b (((0, unit n), a) ∷ rest) rest) (nat_eq-other i r (λ e. omega (arith, e, lt))) ∙ component_before r (i + 1) sums (omega arith)

-- the one constant a, or none where a is 0
abbrev IsEntry : {n : ℕ} → ℕ → FormalSum n → Type 0
IsEntry {n} a u = (u ≡ ((0, unit n), a) ∷ []) ⊎ ((u ≡ []) × (a ≡ 0))

component_at : {n : ℕ} (i c : ℕ) (sums : List ℕ) → IsEntry (get_or sums c 0) (component (i + c) (row_constants n i sums))
component_at i c [] = inr (refl, refl)
component_at {n} i zero (a ∷ sums) =
    let rest = component (i + 0) (row_constants n (i + 1) sums) in
    inl (ap (λ b. cond b (((0, unit n), a) ∷ rest) rest) (eq-eqb i (i + 0) (omega arith))
    ∙ ap (λ z. ((0, unit n), a) ∷ z) (component_before (i + 0) (i + 1) sums (omega arith)))
component_at {n} i (suc c) (a ∷ sums) = subst (IsEntry (get_or sums c 0)) (sym behind) (component_at (i + 1) c sums)
  where
    behind : component (i + suc c) (row_constants n i (a ∷ sums)) ≡ component ((i + 1) + c) (row_constants n (i + 1) sums)
    behind =
        let e : i + suc c ≡ (i + 1) + c = omega arith in
        let rest = component (i + suc c) (row_constants n (i + 1) sums) in
        ap (λ b. cond b (((0, unit n), a) ∷ rest) rest) (nat_eq-other i (i + suc c) (λ q. omega (arith, q)))
        ∙ ap (λ z. component z (row_constants n (i + 1) sums)) e

module _ {n : ℕ} (p r s : ℕ) (W : FormalSum n) (sums : List ℕ) where
  -- sums cleared in a row
  cleared_rows : IsSame p (cleared p r s W (row_constants n 0 sums)) (row_constants n 0 sums ++ scale ((p - 1) * s * get_or sums r 0) (unit n) W)
  cleared_rows = go (component_at 0 r sums)
    where
      same_row : 0 + r ≡ r
      same_row = omega arith

      by_entry : (u : FormalSum n) → component (0 + r) (row_constants n 0 sums) ≡ u
          → cleared p r s W (row_constants n 0 sums) ≡ row_constants n 0 sums ++ product (scale ((p - 1) * s) (unit n) u) W
      by_entry u e =
          ap (λ x. row_constants n 0 sums ++ product (scale ((p - 1) * s) (unit n) x) W)
          (ap (λ z. component z (row_constants n 0 sums)) (sym same_row) ∙ e)

      go :
          IsEntry (get_or sums r 0) (component (0 + r) (row_constants n 0 sums))
          → IsSame p (cleared p r s W (row_constants n 0 sums)) (row_constants n 0 sums ++ scale ((p - 1) * s * get_or sums r 0) (unit n) W)
      go (inl e) =
          IsSame_of p _ _ (by_entry _ e ∙ ap (λ x. row_constants n 0 sums ++ x)
          (append-nil (scale ((p - 1) * s * get_or sums r 0) (times (unit n) (unit n)) W)
          ∙ ap (λ x. scale ((p - 1) * s * get_or sums r 0) x W) (times-unit (unit n))))
      go (inr h) =
          let none : 0 ≡ (p - 1) * s * get_or sums r 0 = sym (ap (λ x. (p - 1) * s * x) h.1 ∙ omega arith) in
          IsSame_trans (IsSame_of p _ _ (by_entry _ h.0 ∙ append-nil (row_constants n 0 sums)))
          (subst (λ x. IsSame p (row_constants n 0 sums) (row_constants n 0 sums ++ scale x (unit n) W)) none
          (added_zero p (unit n) (row_constants n 0 sums) W))

  by_factor :
      (f : ℕ) (new : FormalSum n) → IsCongruent p f ((p - 1) * s * get_or sums r 0) → IsSame p new (row_constants n 0 sums ++ scale f (unit n) W)
      → IsSame p new (cleared p r s W (row_constants n 0 sums))
  by_factor f new e h =
      IsSame_trans h (IsSame_trans
      (IsSame_append (IsSame_refl p (row_constants n 0 sums)) (scale_congruent f ((p - 1) * s * get_or sums r 0) (unit n) W e))
      (IsSame_sym cleared_rows))

  -- nothing stands in the row
  pub row_clear : get_or sums r 0 % p ≡ 0 → IsSame p (row_constants n 0 sums) (cleared p r s W (row_constants n 0 sums))
  row_clear z =
      let a = get_or sums r 0 in
      let none : IsCongruent p 0 a = IsCongruent_trans (IsCongruent_of p 0 (a % p) (sym z)) (IsCongruent_mod p a) in
      by_factor 0 (row_constants n 0 sums)
      (IsCongruent_trans (IsCongruent_of p 0 ((p - 1) * s * 0) (omega arith)) (IsCongruent_multiply (IsCongruent_refl p ((p - 1) * s)) none))
      (added_zero p (unit n) (row_constants n 0 sums) W)

  -- the multiple of the column is taken away
  pub row_cleared :
      (residue f : ℕ) (new : FormalSum n) → 0 < p → residue ≡ get_or sums r 0 % p → f ≡ (p - (s * residue) % p) % p
      → IsSame p new (row_constants n 0 sums ++ scale f (unit n) W) → IsSame p new (cleared p r s W (row_constants n 0 sums))
  row_cleared residue f new pos is e h =
      let a = get_or sums r 0 in
      by_factor f new
      (IsCongruent_trans (minus_product p s residue f pos e)
      (IsCongruent_multiply (IsCongruent_refl p ((p - 1) * s)) (IsCongruent_trans (IsCongruent_of p residue (a % p) is) (IsCongruent_mod p a)))) h

-- ---- the loop over the steps
module _ (ring : Ring) (steps : List Step) (pos : 0 < ring.modulus.value) where
  -- the constants are all the sums
  pub rows_start :
      (numbers : List ℕ) (first : ℕ) (old sums : List ℕ) (entries : List (ℕ × ℕ))
      → AreNumbered numbers 0 (map (λ (s : Step). s.row) steps)
      → Each (λ e. first ≤ get_or numbers e.0 18446744073709551615) entries → AreZeros old → AddsConstants ring.modulus.value 1 entries old sums
      → IsSame ring.modulus.value (cleared_by_constants ring (drop first steps) (row_constants (variables ring) 0 sums))
      (cleared_by_constants ring steps (entry_constants (variables ring) entries))
  rows_start numbers first old sums entries numbered least zeros h =
      let n = variables ring in
      let p = ring.modulus.value in
      let f : first ≡ 0 + first = omega arith in
      IsSame_trans
      (cleared_by_constants_same ring pos (drop first steps) _ _
      (IsSame_trans (h n)
      (IsSame_trans (IsSame_append (zeros_same p 0 old zeros) (IsSame_refl p (scale 1 (unit n) (entry_constants n entries))))
      (IsSame_of p _ _ (scale-one (entry_constants n entries))))))
      (IsSame_of p _ _ (sym (skipped ring numbers 0 first steps entries numbered
      (subst (λ z. Each (λ e. z ≤ get_or numbers e.0 18446744073709551615) entries) f least))))

  module _ (V : FormalSum (variables ring)) where
    pub rows_step :
        (k : ℕ) (s : Step) (old new : FormalSum (variables ring)) → k < length steps → s ≡ get_or steps k s
        → IsSame ring.modulus.value new (cleared ring.modulus.value s.row s.inverse (entry_constants (variables ring) s.column.entries.items) old)
        → IsSame ring.modulus.value (cleared_by_constants ring (drop k steps) old) V
        → IsSame ring.modulus.value (cleared_by_constants ring (drop (k + 1) steps) new) V
    rows_step k s old new lt is stands h =
        IsSame_trans (cleared_by_constants_same ring pos (drop (k + 1) steps) new _ stands)
        (subst (λ z. IsSame ring.modulus.value (cleared_by_constants ring z old) V) (drop_item steps k s lt is) h)

    pub rows_end :
        (k : ℕ) (old : FormalSum (variables ring)) → length steps ≤ k
        → IsSame ring.modulus.value (cleared_by_constants ring (drop k steps) old) V → IsSame ring.modulus.value old V
    rows_end k old le h = subst (λ z. IsSame ring.modulus.value (cleared_by_constants ring z old) V) (drop_none steps k le) h
