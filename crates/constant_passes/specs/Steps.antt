-- Steps by constants alone
use Rattle.std.specs.Prelude.{List, [], ◌<◌, ◌∷◌, ◌≡◌}
use Rattle.monomials.specs.Exponents.{unit}
use Rattle.formal_sums.specs.FormalSums.{Each, FormalSum, coefficient}
use Rattle.minimal_laws.specs.Cancellation.{cleared}
use Rattle.term_lists.specs.Rings.{variables}
use Rattle.term_lists.specs.declared.ring.Ring.{Ring}
use Rattle.constant_rows.specs.Rows.{entry_constants}
use Rattle.constant_rows.specs.declared.constants.Constants.{Constants}
use Rattle.constant_passes.specs.declared.clearing.Step.{Step}

-- v cleared by the steps' columns in turn
abbrev pub cleared_by_constants : (ring : Ring) → List Step → FormalSum (variables ring) → FormalSum (variables ring)
cleared_by_constants ring [] v = v
cleared_by_constants ring (s ∷ steps) v =
    cleared_by_constants ring steps (cleared ring.modulus.value s.row s.inverse (entry_constants (variables ring) s.column.entries.items) v)

-- a step of residues in rows below their width
pub record IsConstantStep (ring : Ring) (s : Step) : Type 0 where
  pub below : Each (λ e. e.0 < s.column.width) s.column.entries.items
  pub reduced : Each (λ e. e.1 < ring.modulus.value) s.column.entries.items
  pub inverse : s.inverse < ring.modulus.value

-- constants in rows below their width, no row twice and no residue 0
pub record AreLeftOver (ring : Ring) (c : Constants) : Type 0 where
  pub below : Each (λ e. e.0 < c.width) c.entries.items
  pub reduced : Each (λ e. (0 < e.1) × (e.1 < ring.modulus.value)) c.entries.items
  pub coefficients :
      let n = variables ring in
      Each (λ e. coefficient (entry_constants n c.entries.items) (e.0, unit n) ≡ e.1) c.entries.items
