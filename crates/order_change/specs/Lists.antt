-- Lists of monomials, as the code has them
use Rattle.std.specs.Prelude.{List, get_or, length, ⊤, ℕ, ◌*◌, ◌<◌, ◌≡◌, ◌≤◌}
use Rattle.monomials.specs.Exponents.{Exponents, times, unit}
use Rattle.monomial_orders.specs.Kept.{IsWeighed, Monomial, monomials}
use Rattle.change_laws.specs.Standard.{AreDistinct, Has, HasMany, IsStandard, power}
use Rattle.order_change.specs.declared.stop.ChangeStop.{ChangeStop}
use Rattle.order_change.specs.declared.stop.ChangeStop.TheVariants.{Memory, Infinite, Many}

-- each is a monomial in n variables of these weights
abbrev pub AreMonomials : ℕ → List ℕ → List Monomial → Type 0
AreMonomials n ws ms = (k : ℕ) (m : Monomial) → k < length ms → get_or ms k m ≡ m → IsWeighed n ws m

-- the degrees grow by 255 at most from one to the next
abbrev pub HaveDegrees : List Monomial → Type 0
HaveDegrees ms = (k : ℕ) (m : Monomial) → k < length ms → get_or ms k m ≡ m → m.degree ≤ 255 * k

-- monomials of these weights, standard by the leads L, at most 256
pub record AreListed (n : ℕ) (ws : List ℕ) (L : List (Exponents n)) (found : List Monomial) : Type 0 where
  pub monomials_of : AreMonomials n ws found
  pub degrees : HaveDegrees found
  pub few : length found ≤ 256
  pub distinct : AreDistinct (monomials n found)
  pub standard : (m : Exponents n) → Has (monomials n found) m → IsStandard L m
  pub first : IsStandard L (unit n) → Has (monomials n found) (unit n)

-- where it is standard, the multiple of the item k by the variable v is listed
abbrev pub IsMultiplied : (n : ℕ) → List (Exponents n) → List Monomial → (k v : ℕ) → Type 0
IsMultiplied n L found k v =
    IsStandard L (times (power n v 1) (get_or (monomials n found) k (unit n)))
    → Has (monomials n found) (times (power n v 1) (get_or (monomials n found) k (unit n)))

-- the multiples of the items before `next` are listed
abbrev pub AreMultiplied : (n : ℕ) → List (Exponents n) → List Monomial → (next : ℕ) → Type 0
AreMultiplied n L found next = (k v : ℕ) → k < next → k < length found → v < n → IsMultiplied n L found k v

-- so are those of the item `at` by the first i variables
pub record IsMultiplying (n : ℕ) (ws : List ℕ) (L : List (Exponents n)) (found : List Monomial) (at i : ℕ) : Type 0 where
  pub listed : AreListed n ws L found
  pub multiplied : AreMultiplied n L found at
  pub here : (v : ℕ) → v < i → IsMultiplied n L found at v
  pub index : at < length found

-- what is listed, with the multiples of the items before `next`
pub record IsListing (n : ℕ) (ws : List ℕ) (L : List (Exponents n)) (found : List Monomial) (next : ℕ) : Type 0 where
  pub listed : AreListed n ws L found
  pub multiplied : AreMultiplied n L found next

-- want of memory, or one standard monomial too many
abbrev pub StopsWhileListing : {n : ℕ} → List (Exponents n) → ChangeStop → Type 0
StopsWhileListing L Memory = ⊤
StopsWhileListing L Infinite = ⊥
StopsWhileListing L Many = HasMany L

-- m is standard and not listed
abbrev pub IsNew : {n : ℕ} → (L ms : List (Exponents n)) → Exponents n → Type 0
IsNew L ms m = IsStandard L m × (Has ms m → ⊥)
