-- Rows that steps clear
use Rattle.std.proofs.Common.{List, [], arith, get_or, refl, subst, sym, ℕ, ◌*◌, ◌-◌, ◌<◌, ◌∷◌, ◌≡◌}
use Rattle.residues.proofs.Congruences.{IsCongruent_of, IsCongruent_trans}
use Rattle.residues.specs.Residues.{IsCongruent}
use Rattle.monomials.proofs.Weighing.{weighted_degree-unit}
use Rattle.monomials.specs.Exponents.{Exponents, unit}
use Rattle.formal_sums.proofs.Linear.{IsLinear, linear_append, linear_scale}
use Rattle.formal_sums.proofs.OfRank.{IsOfRank_same}
use Rattle.formal_sums.proofs.Sameness.{IsSame_append, IsSame_of, IsSame_sym, IsSame_trans}
use Rattle.formal_sums.specs.FormalSums.{Each, FormalSum, IsSame, coefficient, product, scale}
use Rattle.minimal_laws.proofs.Clearing.{coefficient_component}
use Rattle.minimal_laws.proofs.Rows.{linear_component}
use Rattle.minimal_laws.specs.Cancellation.{cleared, component}
use Rattle.minimal_laws.specs.Gradings.{IsHomogeneous}
use Rattle.minimal_laws.specs.Minimal.{IsConstantAt}
use Rattle.column_passes.proofs.Applying.{product_by}

-- ---- vectors without an entry in a row
module _ {n : ℕ} (p : ℕ) where
  abbrev pub IsZeroAt : ℕ → FormalSum n → Type 0
  IsZeroAt r v = IsSame p (component r v) []

  pub product_nothing : (u : FormalSum n) → product {n = n} u [] ≡ []
  product_nothing [] = refl
  product_nothing (t ∷ u) = product_nothing u

  pub linear_of_product : {T : FormalSum n → FormalSum n} → IsLinear T → T [] ≡ [] → (u w : FormalSum n) → IsSame p (T (product u w)) (product u (T w))
  linear_of_product l z [] w = IsSame_of p _ _ z
  linear_of_product l z (t ∷ u) w =
      IsSame_trans (linear_append l (scale t.1 t.0.1 w) (product u w)) (IsSame_append (linear_scale l t.1 t.0.1 w) (linear_of_product l z u w))

  pub zero_cleared : 0 < p → (q r s : ℕ) (w v : FormalSum n) → IsZeroAt q w → IsZeroAt q v → IsZeroAt q (cleared p r s w v)
  zero_cleared pos q r s w v hw hv =
      let a = scale ((p - 1) * s) (unit n) (component r v) in
      IsSame_trans (linear_append (linear_component q) v (product a w))
      (IsSame_append hv (IsSame_trans (linear_of_product (linear_component q) refl a w)
      (IsSame_trans (product_by p pos a (component q w) [] hw) (IsSame_of p _ _ (product_nothing a)))))

  pub zero_coefficient : 0 < p → (r : ℕ) (v : FormalSum n) (m : Exponents n) → IsZeroAt r v → IsCongruent p (coefficient v (r, m)) 0
  zero_coefficient pos r v m z = IsCongruent_trans (IsCongruent_of p _ _ (sym (coefficient_component pos r v m))) (z.by_key (0, m))

pub each_both : {X : Type 0} (P Q R : X → Type 0) (xs : List X) → ((x : X) → P x → Q x → R x) → Each P xs → Each Q xs → Each R xs
each_both P Q R [] f h g = tt
each_both P Q R (x ∷ xs) f h g = (f x h.0 g.0, each_both P Q R xs f h.1 g.1)

-- ---- degrees
pub homogeneous_there :
    {n p : ℕ} {ws : List ℕ} (rows : List ℕ) (d : ℕ) (v w : FormalSum n) → IsSame p v w → IsHomogeneous ws p rows d v → IsHomogeneous ws p rows d w
homogeneous_there rows d v w e h = record {
  rank = IsOfRank_same e h.rank;
  degrees = λ k nz. h.degrees k (λ z. nz (IsCongruent_trans ((IsSame_sym e).by_key k) z));
}

-- a constant's row has the degree of the column
pub row_degree :
    {n p : ℕ} {ws : List ℕ} (rows : List ℕ) (d r : ℕ) (v : FormalSum n) → IsHomogeneous ws p rows d v → IsConstantAt p v r
    → IsHomogeneous ws p rows (get_or rows r 0) v
row_degree {n} {p} {ws} rows d r v h k =
    let e = h.degrees (r, unit n) k.nonzero in
    let u = weighted_degree-unit n ws in
    let q : d ≡ get_or rows r 0 = omega (arith, e, u) in
    subst (λ z. IsHomogeneous ws p rows z v) q h
