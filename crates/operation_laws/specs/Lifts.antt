-- Lifts, and the two parts of a basis of a marked list (UAG chapter 5, section 3)
use Rattle.std.specs.List.{filter}
use Rattle.std.specs.Prelude.{List, length, map, nat_lt, ℕ, ◌++◌, ◌-◌}
use Rattle.monomials.specs.Exponents.{unit}
use Rattle.formal_sums.specs.Combinations.{IsMember, combination}
use Rattle.formal_sums.specs.FormalSums.{FormalSum, IsOfRank, IsSame, scale}
use Rattle.bases.specs.Bases.{HasFreeTerms}
use Rattle.bases.specs.Leads.{head_key}
use Rattle.bases.specs.Settings.{Setting}
use Rattle.operation_laws.specs.Operations.{first_components}

-- the members of G whose lead stands before position q
abbrev pub led_before : {n : ℕ} → ℕ → List (FormalSum n) → List (FormalSum n)
led_before q G = filter (λ g. nat_lt (head_key g).0 q) G

-- their components before position q
abbrev pub first_parts_of : {n : ℕ} → ℕ → List (FormalSum n) → List (FormalSum n)
first_parts_of q G = map (first_components q) (led_before q G)

-- a is the lift of v to F, for a basis K of the syzygies of F in the setting S: v is the combination of F by a, and no lead of K divides a term of a
pub record IsLift {n : ℕ} (S : Setting n) (F K : List (FormalSum n)) (v a : FormalSum n) : Type 0 where
  pub rank : IsOfRank S.modulus (length F) a
  pub sums : IsSame S.modulus (combination F a) v
  pub free : HasFreeTerms S K a

-- w is a remainder of v by G: they differ by a member of the module of G, and no lead of G divides a term of w (IVA chapter 2, section 3)
pub record IsRemainder {n : ℕ} (S : Setting n) (G : List (FormalSum n)) (v w : FormalSum n) : Type 0 where
  pub member : IsMember S.modulus G (v ++ scale (S.modulus - 1) (unit n) w)
  pub free : HasFreeTerms S G w
