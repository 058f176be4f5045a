-- The degrees of what steps are worth
use Rattle.std.proofs.Common.{◌≡◌, ℕ, suc, zero, ◌*◌, ◌+◌, ◌-◌, ◌++◌, ◌≤◌, ◌∷◌, [], Bool, List, None, Option, Some, ap, arith, false, max, nat_le, refl, subst, true}
use Rattle.std.proofs.lemmas.List.{append-nil}
use Rattle.std.proofs.lemmas.Option.{none-some, same_Some}
use Rattle.std.specs.Option.{option_map}
use Rattle.std.specs.Prelude.{if◌then◌else◌}
use Rattle.residues.proofs.Congruences.{IsCongruent_add, IsCongruent_of, IsCongruent_trans}
use Rattle.monomials.proofs.Weighing.{weighted_degree-unit}
use Rattle.monomials.specs.Exponents.{unit}
use Rattle.monomials.specs.Weights.{weighted_degree}
use Rattle.formal_sums.proofs.WeightedSums.{coefficient-append, indicator_other}
use Rattle.formal_sums.specs.FormalSums.{FormalSum, indicator, product, scale}
use Rattle.monomial_orders.specs.Monomials.{variable}
use Rattle.poly_grammar.specs.Algebras.{push, worth_step}
use Rattle.poly_grammar.specs.Degrees.{bounded}
use Rattle.poly_grammar.specs.Numerals.{numeral_value, text_of}
use Rattle.poly_grammar.specs.declared.step.PolyStep.{PolyStep}
use Rattle.poly_grammar.specs.declared.step.PolyStep.TheVariants.{Add, Multiply, Name, Negate, Number, Power, Subtract}
use Rattle.term_lists.specs.Rings.{variables}
use Rattle.term_lists.specs.declared.ring.Ring.{Ring}
use Rattle.sparse_poly.proofs.Bounding.{HasDegreeWithin_constant, HasDegreeWithin_power, HasDegreeWithin_product}
use Rattle.sparse_poly.specs.Degrees.{HasDegreeWithin}
use Rattle.sparse_poly.specs.Powers.{constant, polynomial_power}
use Rattle.poly_value.specs.Parts.{HaveDegreesWithin}
use Rattle.poly_value.specs.Values.{line_degrees, name_weight, place_of, polynomials_of, variable_sum, weight_at}

append_within : {n p d e : ℕ} {ws : List ℕ} (v w : FormalSum n) → HasDegreeWithin ws p d v → HasDegreeWithin ws p e w → HasDegreeWithin ws p (max d e) (v ++ w)
append_within {n} {p} {d} {e} {ws} v w h g = record {
  above = λ k lt.
      let both = IsCongruent_add (h.above k (omega arith)) (g.above k (omega arith)) in
      let z : 0 + 0 ≡ 0 = omega arith in
      IsCongruent_trans (IsCongruent_of p _ _ (coefficient-append v w k)) (IsCongruent_trans both (IsCongruent_of p _ _ z));
}

scale_within : {n p d : ℕ} {ws : List ℕ} (c : ℕ) (v : FormalSum n) → HasDegreeWithin ws p d v → HasDegreeWithin ws p d (scale c (unit n) v)
scale_within {n} {p} {d} {ws} c v h =
    let z : 0 + d ≡ d = omega arith in
    subst (λ e. HasDegreeWithin ws p e (scale c (unit n) v)) z
    (subst (HasDegreeWithin ws p (0 + d)) (append-nil (scale c (unit n) v)) (HasDegreeWithin_product (constant n c) v (HasDegreeWithin_constant n ws p c) h))

degree-variable : (ws : List ℕ) (n i : ℕ) → weighted_degree ws (variable n i) ≤ weight_at ws (Some i)
degree-variable ws zero i = omega arith
degree-variable [] (suc n) zero = let z = weighted_degree-unit n [] in omega arith
degree-variable (w ∷ ws) (suc n) zero = let z = weighted_degree-unit n ws in omega arith
degree-variable [] (suc n) (suc i) = let z = degree-variable [] n i in omega arith
degree-variable (w ∷ ws) (suc n) (suc i) = let z = degree-variable ws n i in omega arith

variable_within : (n : ℕ) (ws : List ℕ) (p i : ℕ) → HasDegreeWithin ws p (weight_at ws (Some i)) (variable_sum n i)
variable_within n ws p i = record {
  above = λ k lt.
      let z : indicator k (0, variable n i) ≡ 0 = indicator_other k (0, variable n i) (λ q. (let d : weighted_degree ws k.1 ≡ weighted_degree ws (variable n i) = ap (λ l. weighted_degree ws l.1) q in let le = degree-variable ws n i in omega arith)) in
      IsCongruent_of p _ 0 (rw z (omega arith));
}

-- a bound that is allowed is one of at most 1,000
pub allowed : (n : ℕ) (ds lower : List ℕ) → push ds (bounded n) ≡ Some lower → (n ≤ 1000) × (n ∷ ds ≡ lower)
allowed n ds lower e = go (nat_le n 1000) refl e
  where
    go : (b : Bool) → nat_le n 1000 ≡ b → push ds (if b then Some n else None) ≡ Some lower → (n ≤ 1000) × (n ∷ ds ≡ lower)
    go true q f = (search (arith, q), same_Some (n ∷ ds) lower f)
    go false q f = absurd (none-some lower f)

module _ (ring : Ring) (line : List ℕ) where
  moved :
      (vs left : List (FormalSum (variables ring))) (ds lower : List ℕ) → Some vs ≡ Some left → ds ≡ lower → HaveDegreesWithin ring.weights ring.modulus.value vs ds
      → HaveDegreesWithin ring.weights ring.modulus.value left lower
  moved vs left ds lower e f h = subst (HaveDegreesWithin ring.weights ring.modulus.value left) f (subst (λ x. HaveDegreesWithin ring.weights ring.modulus.value x ds) (same_Some vs left e) h)

  named :
      (o : Option ℕ) (vs left : List (FormalSum (variables ring))) (ds lower : List ℕ) → push vs (option_map (variable_sum (variables ring)) o) ≡ Some left
      → weight_at ring.weights o ∷ ds ≡ lower → HaveDegreesWithin ring.weights ring.modulus.value vs ds → HaveDegreesWithin ring.weights ring.modulus.value left lower
  named None vs left ds lower e f h = absurd (none-some left e)
  named (Some i) vs left ds lower e f h = moved (variable_sum (variables ring) i ∷ vs) left (weight_at ring.weights (Some i) ∷ ds) lower e f (variable_within (variables ring) ring.weights ring.modulus.value i, h)

  -- a step keeps the bounds
  pub within_step :
      (step : PolyStep) (vs left : List (FormalSum (variables ring))) (ds lower : List ℕ) → worth_step (polynomials_of ring line) step vs ≡ Some left
      → worth_step (line_degrees ring line) step ds ≡ Some lower → HaveDegreesWithin ring.weights ring.modulus.value vs ds
      → HaveDegreesWithin ring.weights ring.modulus.value left lower
  within_step (Number t) vs left ds lower e f h =
      moved (constant (variables ring) (numeral_value line t) ∷ vs) left (0 ∷ ds) lower e (same_Some (0 ∷ ds) lower f) (HasDegreeWithin_constant (variables ring) ring.weights ring.modulus.value (numeral_value line t), h)
  within_step (Name t) vs left ds lower e f h = named (place_of ring.vars (text_of line t)) vs left ds lower e (allowed (name_weight ring (text_of line t)) ds lower f).1 h
  within_step (Power t) [] left ds lower e f h = absurd (none-some left e)
  within_step (Power t) (v ∷ vs) left [] lower e f h = absurd h
  within_step (Power t) (v ∷ vs) left (d ∷ ds) lower e f h =
      let k : ℕ = numeral_value line t in
      let q : k * d ≡ d * k = omega arith in
      moved (polynomial_power v k ∷ vs) left ((d * k) ∷ ds) lower e (allowed (d * k) ds lower f).1
      (subst (λ x. HasDegreeWithin ring.weights ring.modulus.value x (polynomial_power v k)) q (HasDegreeWithin_power v k h.0), h.1)
  within_step Multiply [] left ds lower e f h = absurd (none-some left e)
  within_step Multiply (b ∷ []) left ds lower e f h = absurd (none-some left e)
  within_step Multiply (b ∷ a ∷ vs) left [] lower e f h = absurd h
  within_step Multiply (b ∷ a ∷ vs) left (d ∷ []) lower e f h = absurd h.1
  within_step Multiply (b ∷ a ∷ vs) left (d ∷ c ∷ ds) lower e f h =
      moved (product a b ∷ vs) left ((c + d) ∷ ds) lower e (allowed (c + d) ds lower f).1 (HasDegreeWithin_product a b h.1.0 h.0, h.1.1)
  within_step Add [] left ds lower e f h = absurd (none-some left e)
  within_step Add (b ∷ []) left ds lower e f h = absurd (none-some left e)
  within_step Add (b ∷ a ∷ vs) left [] lower e f h = absurd h
  within_step Add (b ∷ a ∷ vs) left (d ∷ []) lower e f h = absurd h.1
  within_step Add (b ∷ a ∷ vs) left (d ∷ c ∷ ds) lower e f h =
      moved ((a ++ b) ∷ vs) left (max c d ∷ ds) lower e (same_Some (max c d ∷ ds) lower f) (append_within a b h.1.0 h.0, h.1.1)
  within_step Subtract [] left ds lower e f h = absurd (none-some left e)
  within_step Subtract (b ∷ []) left ds lower e f h = absurd (none-some left e)
  within_step Subtract (b ∷ a ∷ vs) left [] lower e f h = absurd h
  within_step Subtract (b ∷ a ∷ vs) left (d ∷ []) lower e f h = absurd h.1
  within_step Subtract (b ∷ a ∷ vs) left (d ∷ c ∷ ds) lower e f h =
      let opposite = scale_within (ring.modulus.value - 1) b h.0 in
      moved ((a ++ scale (ring.modulus.value - 1) (unit (variables ring)) b) ∷ vs) left (max c d ∷ ds) lower e (same_Some (max c d ∷ ds) lower f)
      (append_within a (scale (ring.modulus.value - 1) (unit (variables ring)) b) h.1.0 opposite, h.1.1)
  within_step Negate [] left ds lower e f h = absurd (none-some left e)
  within_step Negate (v ∷ vs) left [] lower e f h = absurd h
  within_step Negate (v ∷ vs) left (d ∷ ds) lower e f h =
      moved (scale (ring.modulus.value - 1) (unit (variables ring)) v ∷ vs) left (d ∷ ds) lower e (same_Some (d ∷ ds) lower f)
      (scale_within (ring.modulus.value - 1) v h.0, h.1)
