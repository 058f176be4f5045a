-- Kernels read off a basis of a marked module (UAG chapter 5, section 3)
use Rattle.std.specs.List.{filter}
use Rattle.std.specs.Prelude.{Bool, List, [], map, true, ℕ, ◌&&◌, ◌-◌, ◌∷◌}
use Rattle.std.specs.declared.cmp.Ordering.{Ordering}
use Rattle.monomials.specs.Exponents.{Exponents}
use Rattle.formal_sums.specs.FormalSums.{FormalSum, Key}
use Rattle.orders.specs.KeyOrders.{pot}
use Rattle.bases.specs.Settings.{Setting}
use Rattle.division_laws.specs.Elimination.{is_from_position}

-- the setting of rank r modulo p with the weights ws, by position first (UAG chapter 5, section 2)
abbrev pub pot_setting : {n : ℕ} → List ℕ → ℕ → ℕ → (Exponents n → Exponents n → Ordering) → Setting n
pot_setting ws p r monomials = record { modulus = p; weights = ws; rank = r; compare = pot monomials }

-- each key of v is kept
abbrev pub all_kept : {n : ℕ} → (Key n → Bool) → FormalSum n → Bool
all_kept keep [] = true
all_kept keep (t ∷ v) = keep t.0 && all_kept keep v

-- the members of which each key is kept
abbrev pub kept_list : {n : ℕ} → (Key n → Bool) → List (FormalSum n) → List (FormalSum n)
kept_list keep G = filter (all_kept keep) G

-- v, with its positions lowered by m
abbrev pub lowered : {n : ℕ} → ℕ → FormalSum n → FormalSum n
lowered m v = map (λ t. ((t.0.0 - m, t.0.1), t.1)) v

-- the members of G that vanish at the first m positions, lowered by m (UAG chapter 5, section 3)
abbrev pub kernel_of : {n : ℕ} → ℕ → List (FormalSum n) → List (FormalSum n)
kernel_of m G = map (lowered m) (kept_list (is_from_position m) G)
