-- The steps that a column meets, by the numbers of their rows
use Rattle.std.proofs.Common.{List, [], ap, append-nil, arith, cond, drop, get_or, map, refl, suc, zero, ℕ}
use Rattle.std.proofs.Common.{◌*◌, ◌++◌, ◌+◌, ◌-◌, ◌<◌, ◌∙◌, ◌∷◌, ◌≡◌, ◌≤◌}
use Rattle.monomials.specs.Exponents.{unit}
use Rattle.formal_sums.proofs.Linear.{linear_same}
use Rattle.formal_sums.specs.FormalSums.{Each, FormalSum, IsSame, product, scale}
use Rattle.minimal_laws.proofs.Rows.{linear_cleared}
use Rattle.minimal_laws.specs.Cancellation.{cleared, component}
use Rattle.term_lists.specs.Rings.{variables}
use Rattle.term_lists.specs.declared.ring.Ring.{Ring}
use Rattle.constant_rows.specs.Rows.{entry_constants}
use Rattle.column_passes.specs.Passing.{AreNumbered}
use Rattle.column_passes.proofs.Clearings.{nat_eq-other}
use Rattle.column_passes.proofs.Lists.{all_map}
use Rattle.constant_passes.specs.Steps.{cleared_by_constants}
use Rattle.constant_passes.specs.declared.clearing.Step.{Step}

-- ---- the steps before the first one that has its row in the column take nothing away
component_other : (n r : ℕ) (entries : List (ℕ × ℕ)) → Each (λ e. e.0 ≡ r → ⊥) entries → component r (entry_constants n entries) ≡ []
component_other n r [] h = refl
component_other n r (e ∷ entries) h =
    let rest = component r (entry_constants n entries) in
    ap (λ b. cond b (((0, unit n), e.1) ∷ rest) rest) (nat_eq-other e.0 r h.0) ∙ component_other n r entries h.1

cleared_other :
    (n p r s : ℕ) (w : FormalSum n) (entries : List (ℕ × ℕ)) → Each (λ e. e.0 ≡ r → ⊥) entries
    → cleared p r s w (entry_constants n entries) ≡ entry_constants n entries
cleared_other n p r s w entries h =
    ap (λ u. entry_constants n entries ++ product (scale ((p - 1) * s) (unit n) u) w) (component_other n r entries h)
    ∙ append-nil (entry_constants n entries)

module _ (ring : Ring) where
  pub skipped :
      (numbers : List ℕ) (j k : ℕ) (steps : List Step) (entries : List (ℕ × ℕ)) → AreNumbered numbers j (map (λ (s : Step). s.row) steps)
      → Each (λ e. j + k ≤ get_or numbers e.0 18446744073709551615) entries
      → cleared_by_constants ring steps (entry_constants (variables ring) entries)
      ≡ cleared_by_constants ring (drop k steps) (entry_constants (variables ring) entries)
  skipped numbers j zero steps entries h le = refl
  skipped numbers j (suc k) [] entries h le = refl
  skipped numbers j (suc k) (s ∷ steps) entries h le =
      let n = variables ring in
      let other : Each (λ e. e.0 ≡ s.row → ⊥) entries =
      all_map _ _ entries (λ (e : ℕ × ℕ) l q.
      let a : get_or numbers e.0 18446744073709551615 ≡ get_or numbers s.row 18446744073709551615 =
      ap (λ z. get_or numbers z 18446744073709551615) q in
      let b = h.0 in
      omega (arith, l, a, b)) le
      in
      ap (cleared_by_constants ring steps) (cleared_other n ring.modulus.value s.row s.inverse (entry_constants n s.column.entries.items) entries other)
      ∙ skipped numbers (j + 1) k steps entries h.1 (all_map _ _ entries (λ (e : ℕ × ℕ) l. omega (arith, l)) le)

  pub cleared_by_constants_same :
      0 < ring.modulus.value → (steps : List Step) (v w : FormalSum (variables ring)) → IsSame ring.modulus.value v w
      → IsSame ring.modulus.value (cleared_by_constants ring steps v) (cleared_by_constants ring steps w)
  cleared_by_constants_same pos [] v w e = e
  cleared_by_constants_same pos (s ∷ steps) v w e =
      cleared_by_constants_same pos steps _ _
      (linear_same pos (linear_cleared ring.modulus.value s.row s.inverse (entry_constants (variables ring) s.column.entries.items)) e)
