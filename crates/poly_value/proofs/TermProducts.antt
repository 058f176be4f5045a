-- Products of two terms
use Rattle.std.proofs.Common.{[], ap, ap₂, arith, ℕ, ◌%◌, ◌*◌, ◌<◌, ◌∷◌, ◌≡◌}
use Rattle.residues.proofs.Congruences.{IsCongruent_add, IsCongruent_mod, IsCongruent_multiply, IsCongruent_of, IsCongruent_refl, IsCongruent_trans}
use Rattle.residues.specs.Residues.{IsCongruent}
use Rattle.monomials.specs.Exponents.{exponents_of, times}
use Rattle.formal_sums.specs.FormalSums.{indicator, product, shift}
use Rattle.term_lists.specs.Rings.{variables}
use Rattle.term_lists.specs.Vectors.{StandsFor, key_of, sum_of}
use Rattle.term_lists.specs.declared.key.Key.{Key}
use Rattle.term_lists.specs.declared.ring.Ring.{Ring}

-- the term with the monomials' product and the residues' stands for the product
pub term_stands :
    (ring : Ring) (left right t : Key × ℕ)
    → right.0.position < 1 → t.0.position ≡ 0
    → exponents_of (variables ring) t.0.monomial.exponents
    ≡ times (exponents_of (variables ring) left.0.monomial.exponents) (exponents_of (variables ring) right.0.monomial.exponents)
    → t.1 ≡ (left.1 * right.1) % ring.modulus.value
    → StandsFor ring (t ∷ []) (product (sum_of (variables ring) (left ∷ [])) (sum_of (variables ring) (right ∷ [])))
term_stands ring left right t first z m e =
    let n = variables ring in
    let p = ring.modulus.value in
    let place : t.0.position ≡ right.0.position = omega arith in
    let key : key_of n t.0 ≡ shift (exponents_of n left.0.monomial.exponents) (key_of n right.0) =
    ap₂ (λ j x. (j, x)) place m in
    let residue : IsCongruent p t.1 (left.1 * right.1) = IsCongruent_trans (IsCongruent_of p _ _ e) (IsCongruent_mod p (left.1 * right.1)) in
    record {
      by_key = λ l.
          IsCongruent_add
          (IsCongruent_trans
          (IsCongruent_multiply residue (IsCongruent_refl p (indicator l (key_of n t.0))))
          (IsCongruent_of p _ _ (ap (λ k. left.1 * right.1 * indicator l k) key)))
          (IsCongruent_refl p 0);
    }
