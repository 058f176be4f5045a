-- That vectors are of a ring and a rank has at most one proof
use Rattle.std.specs.Prelude.{List, [], length, ℕ, ◌∷◌, ◌≡◌}
use Rattle.std.specs.Coded.{Coded-set, Unit-prop, coded_ℕ, le_prop, ×_prop}
use Rattle.std.specs.Ordering.{Ordering-set}
use Rattle.std.specs.declared.cmp.Ordering.{Ordering}
use Rattle.std.specs.declared.cmp.Ordering.TheVariants.{Greater}
use Rattle.formal_sums.specs.FormalSums.{Each, FormalSum, Key}
use Rattle.orders.specs.KeyOrders.{Descends}
use Rattle.monomial_orders.specs.Kept.{IsWeighed, Monomial}
use Rattle.term_lists.specs.Vectors.{IsTerm, IsVector}
use Rattle.term_lists.specs.declared.key.Key.{Key as CodeKey}
use Rattle.term_lists.specs.declared.ring.Ring.{Ring}
use Rattle.member_products.specs.Generators.{AreGenerators, IsRanked}

Each-prop : {X : Type 0} (P : X → Type 0) → ((x : X) → IsProp (P x)) → (xs : List X) → IsProp (Each P xs)
Each-prop P each [] = Unit-prop
Each-prop P each (x ∷ xs) = ×_prop (each x) (Each-prop P each xs)

Descends-prop : {n : ℕ} (compare : Key n → Key n → Ordering) (v : FormalSum n) → IsProp (Descends compare v)
Descends-prop compare [] = Unit-prop
Descends-prop compare (t ∷ v) =
    ×_prop (Each-prop (λ u. compare t.0 u.0 ≡ Greater) (λ u. Ordering-set (compare t.0 u.0) Greater) v) (Descends-prop compare v)

IsWeighed-prop : (n : ℕ) (ws : List ℕ) (m : Monomial) → IsProp (IsWeighed n ws m)
IsWeighed-prop n ws m = λ h g i. record {
  variables = Coded-set coded_ℕ (length m.exponents) n h.variables g.variables i;
  degree = Coded-set coded_ℕ _ _ h.degree g.degree i;
}

IsTerm-prop : (n : ℕ) (ws : List ℕ) (p : ℕ) (t : CodeKey × ℕ) → IsProp (IsTerm n ws p t)
IsTerm-prop n ws p t = λ h g i. record {
  weighed = IsWeighed-prop n ws t.0.monomial h.weighed g.weighed i;
  nonzero = le_prop h.nonzero g.nonzero i;
  reduced = le_prop h.reduced g.reduced i;
}

IsVector-prop :
    (n : ℕ) (ws : List ℕ) (p : ℕ) (compare : Key n → Key n → Ordering) (v : List (CodeKey × ℕ)) → IsProp (IsVector n ws p compare v)
IsVector-prop n ws p compare v = λ h g i. record {
  each = Each-prop (IsTerm n ws p) (IsTerm-prop n ws p) v h.each g.each i;
  descends = Descends-prop compare _ h.descends g.descends i;
}

pub IsRanked-prop : (ring : Ring) (rank : ℕ) (v : List (CodeKey × ℕ)) → IsProp (IsRanked ring rank v)
IsRanked-prop ring rank v = λ h g i. record {
  vector = IsVector-prop _ _ _ _ v h.vector g.vector i;
  positions = Each-prop _ (λ t. le_prop) v h.positions g.positions i;
}

pub AreGenerators-prop :
    (ring : Ring) (rank : ℕ) (generators : List (List (CodeKey × ℕ))) → IsProp (AreGenerators ring rank generators)
AreGenerators-prop ring rank generators = Each-prop (λ v. IsRanked ring rank v) (IsRanked-prop ring rank) generators
