-- Standard representations (IVA chapter 2, section 9)
use Rattle.std.specs.Prelude.{List, [], get_or, length, ℕ, ◌<◌, ◌≡◌, ◌⊎◌}
use Rattle.std.specs.declared.cmp.Ordering.TheVariants.{Less}
use Rattle.formal_sums.specs.Combinations.{combination}
use Rattle.formal_sums.specs.FormalSums.{Each, FormalSum, IsSame, Key}
use Rattle.bases.specs.Leads.{leads}
use Rattle.bases.specs.Representations.{place}
use Rattle.bases.specs.Settings.{Setting}

-- v is a sum of products c m g of members, none with its place above k
pub record HasStandardRepresentation {n : ℕ} (S : Setting n) (G : List (FormalSum n)) (k : Key n) (v : FormalSum n) : Type 0 where
  pub cofactors : FormalSum n
  pub at_most :
      Each (λ t. (t.0.0 < length G) × ((S.compare (place G t) k ≡ Less) ⊎ (place G t ≡ k))) cofactors
  pub sums : IsSame S.modulus (combination G cofactors) v

-- each member of G has a standard representation by H, none of its products above the member's lead
abbrev pub IsReplacedBy : {n : ℕ} → Setting n → List (FormalSum n) → List (FormalSum n) → Type 0
IsReplacedBy S G H = (i : ℕ) → i < length G → HasStandardRepresentation S H (leads G i) (get_or G i [])
