-- Vectors that differ by a member of a module
use Rattle.std.proofs.Common.{List, ap, ap₂, arith, sym, ℕ, ◌*◌, ◌++◌, ◌+◌, ◌-◌, ◌<◌, ◌∙◌, ◌≡◌, []}
use Rattle.residues.proofs.Congruences.{IsCongruent_add, IsCongruent_cancel, IsCongruent_minus, IsCongruent_minus_of, IsCongruent_of, IsCongruent_refl, IsCongruent_sym, IsCongruent_trans}
use Rattle.residues.specs.Residues.{IsCongruent}
use Rattle.monomials.specs.Exponents.{Exponents, unit}
use Rattle.formal_sums.proofs.Combining.{IsMember_append, IsMember_same, IsMember_scale, IsMember_zero}
use Rattle.formal_sums.proofs.Sameness.{IsSame_append, IsSame_of, IsSame_scale, IsSame_sym, coefficient-scale_unit, scale-append, weighted_sum-minus}
use Rattle.formal_sums.proofs.WeightedSums.{coefficient-append}
use Rattle.formal_sums.specs.Combinations.{IsMember}
use Rattle.formal_sums.specs.FormalSums.{FormalSum, IsSame, Key, coefficient, indicator, scale}
use Rattle.operation_laws.proofs.Intersect.{scale_comm}

-- v less w
abbrev pub less : {n : ℕ} → ℕ → FormalSum n → FormalSum n → FormalSum n
less {n} p v w = v ++ scale (p - 1) (unit n) w

pub coefficient-less : {n : ℕ} (p : ℕ) (v w : FormalSum n) (k : Key n) → coefficient (less p v w) k ≡ coefficient v k + (p - 1) * coefficient w k
coefficient-less p v w k = weighted_sum-minus p (indicator k) v w

-- p - 1 times p - 1 times y is y
twice : (p y : ℕ) → 0 < p → IsCongruent p ((p - 1) * ((p - 1) * y)) y
twice p y pos =
    let x = (p - 1) * y in
    IsCongruent_cancel pos x (IsCongruent_trans (IsCongruent_minus p x pos) (IsCongruent_sym (IsCongruent_trans (IsCongruent_of p (x + y) (y + x) (omega arith)) (IsCongruent_minus p y pos))))

chain : (p x y z : ℕ) → 0 < p → IsCongruent p ((x + (p - 1) * y) + (y + (p - 1) * z)) (x + (p - 1) * z)
chain p x y z pos =
    IsCongruent_trans (IsCongruent_of p _ ((x + (p - 1) * z) + (y + (p - 1) * y)) (omega arith))
    (IsCongruent_trans (IsCongruent_add (IsCongruent_refl p (x + (p - 1) * z)) (IsCongruent_minus p y pos)) (IsCongruent_of p _ _ (omega arith)))

turn : (p x y : ℕ) → 0 < p → IsCongruent p ((p - 1) * (x + (p - 1) * y)) (y + (p - 1) * x)
turn p x y pos =
    IsCongruent_trans (IsCongruent_of p _ ((p - 1) * ((p - 1) * y) + (p - 1) * x) (omega arith))
    (IsCongruent_add (twice p y pos) (IsCongruent_refl p ((p - 1) * x)))

back : (p x y : ℕ) → 0 < p → IsCongruent p ((x + (p - 1) * y) + y) x
back p x y pos =
    IsCongruent_trans (IsCongruent_of p _ (x + (y + (p - 1) * y)) (omega arith))
    (IsCongruent_trans (IsCongruent_add (IsCongruent_refl p x) (IsCongruent_minus p y pos)) (IsCongruent_of p _ _ (omega arith)))

module _ {n p : ℕ} (pos : 0 < p) where
  pub less_zero : (v w : FormalSum n) → IsSame p v w → IsSame p (less p v w) []
  less_zero v w e = record { by_key = λ k. IsCongruent_trans (IsCongruent_of p _ _ (coefficient-less p v w k)) (IsCongruent_minus_of pos (e.by_key k)) }

  pub less_same : (v w x y : FormalSum n) → IsSame p v w → IsSame p x y → IsSame p (less p v x) (less p w y)
  less_same v w x y e d = IsSame_append e (IsSame_scale pos (p - 1) (unit n) d)

  less_chain : (u v w : FormalSum n) → IsSame p (less p u v ++ less p v w) (less p u w)
  less_chain u v w = record {
    by_key = λ k.
        IsCongruent_trans (IsCongruent_of p _ _ (coefficient-append (less p u v) (less p v w) k ∙ ap₂ ◌+◌ (coefficient-less p u v k) (coefficient-less p v w k)))
        (IsCongruent_trans (chain p (coefficient u k) (coefficient v k) (coefficient w k) pos) (IsCongruent_of p _ _ (sym (coefficient-less p u w k))));
  }

  less_turn : (u v : FormalSum n) → IsSame p (scale (p - 1) (unit n) (less p u v)) (less p v u)
  less_turn u v = record {
    by_key = λ k.
        IsCongruent_trans (IsCongruent_of p _ _ (coefficient-scale_unit (p - 1) (less p u v) k ∙ ap (λ x. (p - 1) * x) (coefficient-less p u v k)))
        (IsCongruent_trans (turn p (coefficient u k) (coefficient v k) pos) (IsCongruent_of p _ _ (sym (coefficient-less p v u k))));
  }

  less_back : (u v : FormalSum n) → IsSame p (less p u v ++ v) u
  less_back u v = record {
    by_key = λ k.
        IsCongruent_trans (IsCongruent_of p _ _ (coefficient-append (less p u v) v k ∙ ap (λ x. x + coefficient v k) (coefficient-less p u v k)))
        (back p (coefficient u k) (coefficient v k) pos);
  }

  -- the sum of differences is the difference of sums
  less_append : (u v x y : FormalSum n) → IsSame p (less p u x ++ less p v y) (less p (u ++ v) (x ++ y))
  less_append u v x y = record {
    by_key = λ k.
        IsCongruent_of p _ _
        (coefficient-append (less p u x) (less p v y) k ∙ ap₂ ◌+◌ (coefficient-less p u x k) (coefficient-less p v y k)
        ∙ sum (coefficient u k) (coefficient v k) (coefficient x k) (coefficient y k) (p - 1)
        ∙ sym (coefficient-less p (u ++ v) (x ++ y) k ∙ ap₂ (λ a b. a + (p - 1) * b) (coefficient-append u v k) (coefficient-append x y k)));
  }
    where
      sum : (a b c d q : ℕ) → (a + q * c) + (b + q * d) ≡ (a + b) + q * (c + d)
      sum a b c d q = omega arith

  -- ---- modulo the module of I
  module _ (I : List (FormalSum n)) where
    pub modulo_same : (u v : FormalSum n) → IsSame p u v → IsMember p I (less p u v)
    modulo_same u v e = IsMember_same I [] _ (IsSame_sym (less_zero u v e)) (IsMember_zero p I)

    pub modulo_trans : (u v w : FormalSum n) → IsMember p I (less p u v) → IsMember p I (less p v w) → IsMember p I (less p u w)
    modulo_trans u v w a b = IsMember_same I _ _ (less_chain u v w) (IsMember_append I (less p u v) (less p v w) a b)

    pub modulo_sym : (u v : FormalSum n) → IsMember p I (less p u v) → IsMember p I (less p v u)
    modulo_sym u v a = IsMember_same I _ _ (less_turn u v) (IsMember_scale pos I (p - 1) (unit n) (less p u v) a)

    pub modulo_scale : (c : ℕ) (e : Exponents n) (u v : FormalSum n) → IsMember p I (less p u v) → IsMember p I (less p (scale c e u) (scale c e v))
    modulo_scale c e u v a =
        IsMember_same I (scale c e (less p u v)) _
        (IsSame_of p _ _ (scale-append c e u (scale (p - 1) (unit n) v) ∙ ap (λ x. scale c e u ++ x) (scale_comm c (p - 1) e (unit n) v)))
        (IsMember_scale pos I c e (less p u v) a)

    pub modulo_append :
        (u v x y : FormalSum n)
        → IsMember p I (less p u x) → IsMember p I (less p v y) → IsMember p I (less p (u ++ v) (x ++ y))
    modulo_append u v x y a b = IsMember_same I _ _ (less_append u v x y) (IsMember_append I (less p u x) (less p v y) a b)

    pub modulo_member : (u v : FormalSum n) → IsMember p I (less p u v) → IsMember p I v → IsMember p I u
    modulo_member u v a b = IsMember_same I _ _ (less_back u v) (IsMember_append I (less p u v) v a b)
