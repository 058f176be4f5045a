-- Monomial orders: what is below, and what is not
use Rattle.std.proofs.Common.{Equal, Greater, Less, Ordering, ap, arith, refl, subst, suc, sym, zero, ℕ, ◌<◌, ◌∙◌, ◌≡◌}
use Rattle.std.specs.Ordering.{ordering_reverse}
use Rattle.std.proofs.lemmas.Cmp.{tied_itself}
use Rattle.monomials.proofs.Monomials.{times-unit, times_comm}
use Rattle.monomials.specs.Exponents.{Divides, Exponents, head, tail, times, unit}
use Rattle.orders.specs.MonomialOrders.{IsMonomialOrder}
use Rattle.change_laws.specs.Standard.{power}

reversed : (a b : Ordering) → a ≡ ordering_reverse b → b ≡ Less → a ≡ Greater
reversed a b e d = e ∙ ap ordering_reverse d

pub power_not_unit : (n i : ℕ) → i < n → power n i 1 ≡ unit n → ⊥
power_not_unit zero i lt e = omega (arith, lt)
power_not_unit (suc n) zero lt e = let h : 1 ≡ 0 = ap head e in omega (arith, h)
power_not_unit (suc n) (suc i) lt e = power_not_unit n i (omega (arith, lt)) (ap tail e)

module _ {n : ℕ} (compare : Exponents n → Exponents n → Ordering) (o : IsMonomialOrder compare) where
  pub less_trans : (a b c : Exponents n) → compare a b ≡ Less → compare b c ≡ Less → compare a c ≡ Less
  less_trans = o.total.trans

  pub less_not_itself : (a : Exponents n) → compare a a ≡ Less → ⊥
  less_not_itself a e = let d : Equal ≡ Less = sym (tied_itself o.total a) ∙ e in cc

  -- what is not below and is another is above
  pub less_of_not : (a b : Exponents n) → (compare b a ≡ Less → ⊥) → (a ≡ b → ⊥) → compare a b ≡ Less
  less_of_not a b nb ne = go (compare a b) refl
    where
      go : (x : Ordering) → compare a b ≡ x → compare a b ≡ Less
      go Less e = e
      go Equal e = absurd (ne (o.exact a b e))
      go Greater e = absurd (nb (o.total.antisymm b a ∙ ap ordering_reverse e))

  pub less_not_back : (a b : Exponents n) → compare a b ≡ Less → compare b a ≡ Less → ⊥
  less_not_back a b e d = less_not_itself a (less_trans a b a e d)

  -- a < b and not c < b
  pub less_up : (a b c : Exponents n) → compare a b ≡ Less → (compare c b ≡ Less → ⊥) → compare a c ≡ Less
  less_up a b c e nb = go (compare b c) refl
    where
      go : (x : Ordering) → compare b c ≡ x → compare a c ≡ Less
      go Less d = less_trans a b c e d
      go Equal d = subst (λ z. compare a z ≡ Less) (o.exact b c d) e
      go Greater d = absurd (nb (o.total.antisymm c b ∙ ap ordering_reverse d))

  -- not b < a, and b < c
  pub less_down : (a b c : Exponents n) → (compare b a ≡ Less → ⊥) → compare b c ≡ Less → compare a c ≡ Less
  less_down a b c nb e = go (compare a b) refl
    where
      go : (x : Ordering) → compare a b ≡ x → compare a c ≡ Less
      go Less d = less_trans a b c d e
      go Equal d = subst (λ z. compare z c ≡ Less) (sym (o.exact a b d)) e
      go Greater d = absurd (nb (o.total.antisymm b a ∙ ap ordering_reverse d))

  -- not b < a, and not c < b
  pub not_less_trans : (a b c : Exponents n) → (compare b a ≡ Less → ⊥) → (compare c b ≡ Less → ⊥) → compare c a ≡ Less → ⊥
  not_less_trans a b c ab bc e = bc (less_up c a b e ab)

  -- products by one monomial
  pub less_times : (m a b : Exponents n) → compare a b ≡ Less → compare (times m a) (times m b) ≡ Less
  less_times m a b e = o.kept m a b ∙ e

  pub less_of_times : (m a b : Exponents n) → compare (times m a) (times m b) ≡ Less → compare a b ≡ Less
  less_of_times m a b e = sym (o.kept m a b) ∙ e

  -- a multiple is not below
  pub multiple_not_below : (m a : Exponents n) → compare (times m a) a ≡ Less → ⊥
  multiple_not_below m a e = o.unit_least m (sym (o.kept a m (unit n)) ∙ ap (λ z. compare z (times a (unit n))) (times_comm a m) ∙ ap (compare (times m a)) (times_comm a (unit n) ∙ times-unit a) ∙ e)

  pub divisor_not_above : (a b : Exponents n) → Divides a b → compare b a ≡ Less → ⊥
  divisor_not_above a b d e = multiple_not_below d.0 a (subst (λ z. compare z a ≡ Less) (sym d.1) e)

  -- the multiple by a variable is above
  pub variable_above : (i : ℕ) (a : Exponents n) → i < n → compare a (times (power n i 1) a) ≡ Less
  variable_above i a lt = less_of_not a (times (power n i 1) a) (multiple_not_below (power n i 1) a) (λ e. power_not_unit n i lt (cancelled e))
    where
      cancelled : a ≡ times (power n i 1) a → power n i 1 ≡ unit n
      cancelled e = o.exact (power n i 1) (unit n)
          (sym (o.kept a (power n i 1) (unit n)) ∙ ap (λ z. compare z (times a (unit n))) (times_comm a (power n i 1) ∙ sym e)
          ∙ ap (compare a) (times_comm a (unit n) ∙ times-unit a) ∙ tied_itself o.total a)
