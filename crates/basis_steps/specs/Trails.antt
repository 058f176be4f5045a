-- How a job came to a product above the degree limit
use Rattle.std.specs.Prelude.{Contains, List, [], get_or, length, take, ℕ, ◌++◌, ◌+◌, ◌<◌, ◌∷◌, ◌≡◌, ◌≤◌, ◌⊎◌}
use Rattle.monomials.specs.Weights.{weighted_degree}
use Rattle.formal_sums.specs.FormalSums.{FormalSum}
use Rattle.basis_steps.specs.Criteria.{IsPair}
use Rattle.basis_steps.specs.Divisions.{AreReached, MakesMembers, Occurs}
use Rattle.basis_steps.specs.Outcomes.{AreJobProducts, IsOutcome}
use Rattle.basis_steps.specs.Pairs.{Pair, count}
use Rattle.basis_steps.specs.States.{Event, Member, Product, Run, Take, Trail, vectors}

-- one of these Takes gave out the job
pub record HasGiven {n : ℕ} (history : List (Event n)) (job : List Pair) : Type 0 where
  pub worker : ℕ
  pub skipped : List Pair
  pub there : Contains history (Take worker skipped job)

-- in a job: its members were the first ones of G
pub record IsInJob {n : ℕ} (G : List (FormalSum n)) (t : Trail n) : Type 0 where
  pub base : ℕ
  pub had : base ≤ length G
  pub members : t.members ≡ take base G

-- the row with this number; a row that is 0 past the end
abbrev pub row_at : {n : ℕ} → List (Member n) → ℕ → Member n
row_at rows i = get_or rows i (record { vector = []; multiple = []; products = [] })

-- in the Put of the job's outcome, where row `failed` came to the product: its members were the first ones of G, and behind them those that the rows before this one made
pub record IsInPut {n : ℕ} (r : Run n) (G : List (FormalSum n)) (job : List Pair) (t : Trail n) : Type 0 where
  pub base : ℕ
  pub rows : List (Member n)
  pub products : List (Product n)
  pub outcome : IsOutcome r.setting (take base G) job rows products
  pub first : ℕ
  pub after : base ≤ first
  pub had : first ≤ length G
  pub failed : ℕ
  pub within : failed < length rows
  pub made : List (Member n)
  pub makes : MakesMembers r.setting (take first G) (take failed rows) made
  pub members : t.members ≡ take first G ++ vectors made
  -- the products of the row's division so far, the last of the trail behind them
  pub division : FormalSum n
  pub reached : AreReached r.setting.modulus t.members (row_at rows failed).vector [] (division ++ ((t.last, 1) ∷ []))

-- the trail is one of this job, whose members are vectors of G: it starts with a pair of the job, each product's lead is that pair's lcm or a monomial of an earlier product, and the last product of two monomials is above the limit
pub record IsJobTrail {n : ℕ} (r : Run n) (G : List (FormalSum n)) (job : List Pair) (t : Trail n) : Type 0 where
  pub start : 0 < count t.start job
  pub place : IsInJob G t ⊎ IsInPut r G job t
  pub pair : IsPair t.members t.start
  pub products : AreJobProducts r.setting.modulus t.members (t.start ∷ []) (t.earlier ++ (t.last ∷ []))
  pub monomial : (i : ℕ) × Occurs r.setting.modulus (get_or t.members t.last.0 []) (i, t.monomial)
  pub above : r.degree_limit < weighted_degree r.setting.weights t.last.1 + weighted_degree r.setting.weights t.monomial

-- the trail is one of a job of the history
pub record IsHistoryTrail {n : ℕ} (r : Run n) (G : List (FormalSum n)) (history : List (Event n)) (t : Trail n) : Type 0 where
  pub job : List Pair
  pub given : HasGiven history job
  pub way : IsJobTrail r G job t
