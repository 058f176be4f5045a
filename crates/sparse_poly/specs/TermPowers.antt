-- Powers of monomials and of terms (IVA chapter 1, section 1)
use Rattle.std.specs.Prelude.{List, map, ℕ, ◌%◌, ◌*◌, ◌<◌, ◌^◌, ◌≡◌, ◌≤◌}
use Rattle.monomials.specs.Exponents.{Exponents, cons, exponents_of, nil, times}
use Rattle.formal_sums.specs.FormalSums.{Each, FormalSum}
use Rattle.term_lists.specs.Rings.{variables}
use Rattle.term_lists.specs.Vectors.{AreTermsOver, IsMonomialOver, IsTerm, StandsFor, key_of, sum_of}
use Rattle.term_lists.specs.declared.key.Key.{Key as CodeKey}
use Rattle.term_lists.specs.declared.ring.Ring.{Ring}
use Rattle.sparse_poly.specs.Powers.{polynomial_power}

-- the monomial to the power k
abbrev pub monomial_power : {n : ℕ} → ℕ → Exponents n → Exponents n
monomial_power k nil = nil
monomial_power k (cons a v) = cons (k * a) (monomial_power k v)

-- each monomial to the power k, with its coefficient
abbrev pub raised_monomials : {n : ℕ} → ℕ → FormalSum n → FormalSum n
raised_monomials k v = map (λ t. ((t.0.0, monomial_power k t.0.1), t.1)) v

-- the term u is t with its monomial to the power p
pub record IsRaisedTerm (ring : Ring) (t u : CodeKey × ℕ) : Type 0 where
  pub weighed : IsMonomialOver ring u.0.monomial
  pub reduced : u.1 < ring.modulus.value
  pub key : let n = variables ring in key_of n u.0 ≡ (t.0.position, monomial_power ring.modulus.value (exponents_of n t.0.monomial.exponents))
  pub residue : u.1 ≡ t.1

-- the term t is c a^i b^j, at position 0, with a reduced residue
pub record IsMixedTerm (ring : Ring) (c i j : ℕ) (a b t : CodeKey × ℕ) : Type 0 where
  pub weighed : IsMonomialOver ring t.0.monomial
  pub reduced : t.1 < ring.modulus.value
  pub position : t.0.position ≡ 0
  pub exponents : let n = variables ring in
      exponents_of n t.0.monomial.exponents
      ≡ times (monomial_power i (exponents_of n a.0.monomial.exponents)) (monomial_power j (exponents_of n b.0.monomial.exponents))
  pub residue : t.1 ≡ (c * (a.1 ^ i * b.1 ^ j)) % ring.modulus.value

-- a term of the ring, at position 0, of a degree of at most d
pub record IsTermWithin (ring : Ring) (d : ℕ) (t : CodeKey × ℕ) : Type 0 where
  pub term : IsTerm (variables ring) ring.weights ring.modulus.value t
  pub position : t.0.position ≡ 0
  pub within : t.0.monomial.degree ≤ d

-- terms of the ring, at position 0, of a degree of at most d
abbrev pub AreTermsWithin : Ring → ℕ → List (CodeKey × ℕ) → Type 0
AreTermsWithin ring d terms = Each (IsTermWithin ring d) terms

-- the terms v, in any order, stand for the power k of the sum of the terms of base
pub record StandForPower (ring : Ring) (base : List (CodeKey × ℕ)) (k : ℕ) (v : List (CodeKey × ℕ)) : Type 0 where
  pub terms : AreTermsOver ring v
  pub same : StandsFor ring v (polynomial_power (sum_of (variables ring) base) k)
