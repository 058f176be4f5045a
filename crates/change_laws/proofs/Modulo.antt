-- Vectors modulo a module
use Rattle.std.proofs.Common.{List, [], append-nil, ap, arith, sym, ℕ, ◌*◌, ◌++◌, ◌+◌, ◌-◌, ◌<◌, ◌∙◌, ◌≡◌}
use Rattle.residues.proofs.Congruences.{IsCongruent_add, IsCongruent_minus, IsCongruent_of, IsCongruent_refl, IsCongruent_sym, IsCongruent_trans}
use Rattle.residues.specs.Residues.{IsCongruent}
use Rattle.monomials.specs.Exponents.{Exponents, unit}
use Rattle.formal_sums.proofs.Combining.{IsMember_append, IsMember_same, IsMember_scale, IsMember_zero}
use Rattle.formal_sums.proofs.Sameness.{IsSame_append, IsSame_of, IsSame_refl, IsSame_scale, IsSame_sym, IsSame_trans, coefficient-scale_unit, scale-append}
use Rattle.formal_sums.proofs.WeightedSums.{coefficient-append}
use Rattle.formal_sums.specs.Combinations.{IsMember}
use Rattle.formal_sums.specs.FormalSums.{FormalSum, IsSame, Key, coefficient, scale}
use Rattle.change_laws.specs.Combinations.{IsSameModulo}

module _ {n p : ℕ} (F : List (FormalSum n)) where
  pub modulo_same : (v w : FormalSum n) → IsSame p v w → IsSameModulo p F v w
  modulo_same v w e = record {
    left = [];
    right = [];
    left_member = IsMember_zero p F;
    right_member = IsMember_zero p F;
    sums = IsSame_append e (IsSame_refl p []);
  }

  pub modulo_refl : (v : FormalSum n) → IsSameModulo p F v v
  modulo_refl v = modulo_same v v (IsSame_refl p v)

  pub modulo_sym : {v w : FormalSum n} → IsSameModulo p F v w → IsSameModulo p F w v
  modulo_sym h = record { left = h.right; right = h.left; left_member = h.right_member; right_member = h.left_member; sums = IsSame_sym h.sums }

  pub modulo_trans : {u v w : FormalSum n} → IsSameModulo p F u v → IsSameModulo p F v w → IsSameModulo p F u w
  modulo_trans {u} {v} {w} h g = record {
    left = h.left ++ g.left;
    right = g.right ++ h.right;
    left_member = IsMember_append F h.left g.left h.left_member g.left_member;
    right_member = IsMember_append F g.right h.right g.right_member h.right_member;
    sums = record {
      by_key = λ k.
          let a = coefficient h.left k in
          let b = coefficient h.right k in
          let c = coefficient g.left k in
          let d = coefficient g.right k in
          let x = coefficient u k in
          let y = coefficient v k in
          let z = coefficient w k in
          let first : IsCongruent p (x + a) (y + b) = IsCongruent_trans (IsCongruent_of p _ _ (sym (coefficient-append u h.left k))) (IsCongruent_trans (h.sums.by_key k) (IsCongruent_of p _ _ (coefficient-append v h.right k))) in
          let second : IsCongruent p (y + c) (z + d) = IsCongruent_trans (IsCongruent_of p _ _ (sym (coefficient-append v g.left k))) (IsCongruent_trans (g.sums.by_key k) (IsCongruent_of p _ _ (coefficient-append w g.right k))) in
          IsCongruent_trans (IsCongruent_of p _ (x + (a + c)) (coefficient-append u (h.left ++ g.left) k ∙ ap (λ q. x + q) (coefficient-append h.left g.left k)))
          (IsCongruent_trans (IsCongruent_of p (x + (a + c)) (x + a + c) (omega arith))
          (IsCongruent_trans (IsCongruent_add first (IsCongruent_refl p c))
          (IsCongruent_trans (IsCongruent_of p (y + b + c) (y + c + b) (omega arith))
          (IsCongruent_trans (IsCongruent_add second (IsCongruent_refl p b))
          (IsCongruent_of p (z + d + b) _ (omega arith ∙ sym (coefficient-append w (g.right ++ h.right) k ∙ ap (λ q. z + q) (coefficient-append g.right h.right k))))))));
    };
  }

  pub modulo_append :
      {u v w x : FormalSum n} → IsSameModulo p F u v → IsSameModulo p F w x → IsSameModulo p F (u ++ w) (v ++ x)
  modulo_append {u} {v} {w} {x} h g = record {
    left = h.left ++ g.left;
    right = h.right ++ g.right;
    left_member = IsMember_append F h.left g.left h.left_member g.left_member;
    right_member = IsMember_append F h.right g.right h.right_member g.right_member;
    sums = IsSame_trans (swapped u w h.left g.left) (IsSame_trans (IsSame_append h.sums g.sums) (IsSame_sym (swapped v x h.right g.right)));
  }
    where
      swapped : (a b c d : FormalSum n) → IsSame p ((a ++ b) ++ (c ++ d)) ((a ++ c) ++ (b ++ d))
      swapped a b c d = record {
        by_key = λ k. IsCongruent_of p _ _
            (coefficient-append (a ++ b) (c ++ d) k
            ∙ (let e1 = coefficient-append a b k in let e2 = coefficient-append c d k in let e3 = coefficient-append a c k in let e4 = coefficient-append b d k in omega (arith, e1, e2, e3, e4))
            ∙ sym (coefficient-append (a ++ c) (b ++ d) k));
      }

  pub modulo_scale :
      0 < p → (c : ℕ) (m : Exponents n) {v w : FormalSum n} → IsSameModulo p F v w → IsSameModulo p F (scale c m v) (scale c m w)
  modulo_scale pos c m {v} {w} h = record {
    left = scale c m h.left;
    right = scale c m h.right;
    left_member = IsMember_scale pos F c m h.left h.left_member;
    right_member = IsMember_scale pos F c m h.right h.right_member;
    sums = IsSame_trans (IsSame_of p _ _ (sym (scale-append c m v h.left))) (IsSame_trans (IsSame_scale pos c m h.sums) (IsSame_of p _ _ (scale-append c m w h.right)));
  }

  -- what is the same as a member is one
  pub modulo_member : 0 < p → {v w : FormalSum n} → IsSameModulo p F v w → IsMember p F v → IsMember p F w
  modulo_member pos {v} {w} h a =
      IsMember_same F ((v ++ h.left) ++ scale (p - 1) (unit n) h.right) w same
      (IsMember_append F (v ++ h.left) _ (IsMember_append F v h.left a h.left_member) (IsMember_scale pos F (p - 1) (unit n) h.right h.right_member))
    where
      same : IsSame p ((v ++ h.left) ++ scale (p - 1) (unit n) h.right) w
      same = record {
        by_key = λ k.
            let b = coefficient h.right k in
            let z = coefficient w k in
            IsCongruent_trans (IsCongruent_of p _ (coefficient (v ++ h.left) k + (p - 1) * b) (coefficient-append (v ++ h.left) _ k ∙ ap (λ q. coefficient (v ++ h.left) k + q) (coefficient-scale_unit (p - 1) h.right k)))
            (IsCongruent_trans (IsCongruent_add (IsCongruent_trans (h.sums.by_key k) (IsCongruent_of p _ _ (coefficient-append w h.right k))) (IsCongruent_refl p ((p - 1) * b)))
            (IsCongruent_trans (IsCongruent_of p (z + b + (p - 1) * b) (z + (b + (p - 1) * b)) (omega arith))
            (IsCongruent_trans (IsCongruent_add (IsCongruent_refl p z) (IsCongruent_minus p b pos)) (IsCongruent_of p (z + 0) z (omega arith)))));
      }

  -- members are zero
  pub modulo_zero : {v : FormalSum n} → IsMember p F v → IsSameModulo p F v []
  modulo_zero {v} a = record {
    left = [];
    right = v;
    left_member = IsMember_zero p F;
    right_member = a;
    sums = IsSame_of p _ _ (append-nil v);
  }
