-- Why a change of order has no answer
use Rattle.std.specs.Prelude.{List, ⊤, ℕ}
use Rattle.monomials.specs.Exponents.{Exponents}
use Rattle.change_laws.specs.Standard.{HasMany, IsInfinite}
use Rattle.order_change.specs.declared.stop.ChangeStop.{ChangeStop}
use Rattle.order_change.specs.declared.stop.ChangeStop.TheVariants.{Memory, Infinite, Many}

-- want of memory, or what the leads L say of the standard monomials
abbrev pub OrderChangeStops : {n : ℕ} → List (Exponents n) → ChangeStop → Type 0
OrderChangeStops L Memory = ⊤
OrderChangeStops L Infinite = IsInfinite L
OrderChangeStops L Many = (IsInfinite L → ⊥) × HasMany L

-- each variable has a power among the leads, and there are at most 256 standard monomials
pub record AreFew {n : ℕ} (L : List (Exponents n)) : Type 0 where
  pub finite : IsInfinite L → ⊥
  pub few : HasMany L → ⊥
