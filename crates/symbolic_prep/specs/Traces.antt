-- Where the products of a job come from, and the one that is too great
use Rattle.std.specs.Prelude.{List, [], length, ⊤, ℕ, ◌++◌, ◌-◌, ◌<◌, ◌∷◌, ◌≡◌}
use Rattle.formal_sums.specs.FormalSums.{Each}
use Rattle.monomial_orders.specs.Kept.{IsWeighed, Monomial}
use Rattle.term_lists.specs.Stops.{HasMonomial, IsTooGreat}
use Rattle.term_lists.specs.declared.key.Key.{Key as CodeKey}
use Rattle.module_vectors.specs.Trails.{IsInProduct, IsOfProduct, IsKeptProduct, KeptProduct, kept_product_lead, kept_at}
use Rattle.pair_criteria.specs.Pairs.{IsLcmOf}
use Rattle.pair_criteria.specs.Traces.{AreTraced}
use Rattle.pair_criteria.specs.declared.pair.Pair.{Pair as CodePair}
use Rattle.symbolic_prep.specs.declared.stop.PlanStop.{PlanStop}
use Rattle.symbolic_prep.specs.declared.stop.PlanStop.TheVariants.{Memory, Degree}
use Rattle.symbolic_prep.specs.declared.stop.PrepareStop.{PrepareStop}
use Rattle.symbolic_prep.specs.declared.stop.PrepareStop.TheVariants.{Memory as NoRoom, Degree as TooGreat}

-- the lead of the product is the least common multiple of one of the pairs
abbrev pub IsOfPair : (n : ℕ) → List (List (CodeKey × ℕ)) → List CodePair → KeptProduct → Type 0
IsOfPair n list pairs s = (x : CodePair) × IsLcmOf n pairs (kept_product_lead n list s) x

-- the lead of the product is a key of one of the first products, so many
abbrev pub IsOfEarlier : (n : ℕ) → List (List (CodeKey × ℕ)) → List KeptProduct → ℕ → KeptProduct → Type 0
IsOfEarlier n list products count s = (j : ℕ) × (j < count) × IsInProduct n list (kept_product_lead n list s) (kept_at products j)

-- such products, the last of which is too great for this monomial of its vector
pub record IsGreatEnd (n : ℕ) (ws : List ℕ) (list : List (List (CodeKey × ℕ))) (pairs : List CodePair) (products : List KeptProduct) (last : Monomial) : Type 0 where
  pub some : 0 < length products
  pub known : Each (IsKeptProduct n ws list) products
  pub traced : AreTraced n list pairs products
  pub monomial : IsOfProduct list (kept_at products (length products - 1)) last
  pub weighed : IsWeighed n ws last
  pub too_great : IsTooGreat (kept_at products (length products - 1)).1 last

-- Degree comes with such products alone
abbrev pub PrepareStops : (n : ℕ) → List ℕ → List (List (CodeKey × ℕ)) → List CodePair → PrepareStop → Type 0
PrepareStops n ws list pairs NoRoom = ⊤
PrepareStops n ws list pairs (TooGreat g) = IsGreatEnd n ws list pairs g.products.items g.last

-- the same of the products of a plan
abbrev pub PlanStops : (n : ℕ) → List ℕ → List (List (CodeKey × ℕ)) → List CodePair → List KeptProduct → PlanStop → Type 0
PlanStops n ws list pairs products Memory = ⊤
PlanStops n ws list pairs products (Degree last) = IsGreatEnd n ws list pairs products last

-- Degree comes where the product is now the last one, and too great for this monomial of its vector
abbrev pub ProductEnds : List (CodeKey × ℕ) → List KeptProduct → List KeptProduct → KeptProduct → PlanStop → Type 0
ProductEnds terms old new s Memory = ⊤
ProductEnds terms old new s (Degree last) = (new ≡ old ++ s ∷ []) × HasMonomial terms last × IsTooGreat s.1 last
