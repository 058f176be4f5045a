-- When a run of a line, or a division or product in it, stops a script, and the line that tells it.
use Rattle.std.specs.Prelude.{◌≡◌, ℕ, ◌+◌, ◌⊎◌, List, [], ◌∷◌, ◌++◌, Option, None, Some, length, codes}
use Rattle.std.specs.Fmt.{decimal}
use Rattle.monomials.specs.Exponents.{exponents_of}
use Rattle.monomials.specs.Weights.{weighted_degree}
use Rattle.monomial_orders.specs.Kept.{Monomial}
use Rattle.term_lists.specs.Rings.{variables}
use Rattle.module_vectors.specs.Trails.{KeptProduct, last_product}
use Rattle.module_vectors.specs.declared.trail.KeptTrail.{KeptTrail}
use Rattle.basis_steps.specs.Steps.{Replays}
use Rattle.budget_stops.specs.Moments.{KeepsBudgetStop}
use Rattle.basis_core.specs.Answers.{IsBeginningTrail}
use Rattle.basis_core.specs.Shown.{Shown}
use Rattle.basis_core.specs.Views.{run_of, state_of, variables_of}
use Rattle.run_endings.specs.Endings.{IsDegreeStop, IsInterreductionStop}
use Rattle.run_endings.specs.Stops.{shared_of_trail}
use Rattle.session_lang.specs.Lines.{RunOf}
use Rattle.session_values.specs.Names.{ScriptState}
use Rattle.session_lang.specs.Stops.{TrailOf}
use Rattle.session_top.specs.Limits.{Limits}

-- the degree of a monomial by these weights
abbrev pub degree_by : List ℕ → Monomial → ℕ
degree_by ws m = weighted_degree ws (exponents_of (length m.exponents) m.exponents)

-- the degree of the product that these products lead to, by this last monomial
abbrev pub product_degree : (weights : List ℕ) → List KeptProduct → (last : Monomial) → ℕ
product_degree ws [] last = 0
product_degree ws (first ∷ later) last = degree_by ws (last_product first later).1 + degree_by ws last

-- the degree of the product that a trail leads to, by the weights of its ring
abbrev pub trail_degree : KeptTrail → ℕ
trail_degree t = product_degree t.ring.weights t.products.items t.last

-- the line that tells a stop by the budget: how many pairs were taken, and how many are queued
abbrev pub pairs_line : Shown → List ℕ
pairs_line s = codes "stop pairs " ++ decimal s.taken ++ (codes " queued " ++ decimal (length s.queue) ++ codes "\n")

-- the line that tells a stop by the degree
abbrev pub degree_stop_line : KeptTrail → List ℕ
degree_stop_line t = codes "stop degree " ++ decimal (trail_degree t) ++ codes "\n"

-- the line that tells a stop of which this state and this trail are kept
abbrev pub stop_line : Option Shown → Option KeptTrail → List ℕ
stop_line None None = []
stop_line (Some s) None = pairs_line s
stop_line s (Some t) = degree_stop_line t

-- the state is of a run that this line needs, by so many workers with this budget of pairs, where this is queued as members come
pub record IsRunState (limits : Limits) (before : ScriptState) (line : List ℕ) (s : Shown) : Type 0 where
  pub run : RunOf before line s.shared.ring s.shared.rank s.shared.generators
  pub replays : let n = variables_of s in Replays (run_of n s) (state_of n s)
  pub budget : s.budget ≡ limits.pairs
  pub workers : s.workers ≡ limits.workers
  pub update : s.update ≡ limits.update

-- a run of the line met its budget: so many pairs are taken, and a Take found one more, to which no criterion applies where new members drop none
pub record StopsByPairs (limits : Limits) (before : ScriptState) (line : List ℕ) (s : Shown) : Type 0 where
  pub run : IsRunState limits before line s
  pub taken : s.taken ≡ s.budget
  pub moment : let n = variables_of s in KeepsBudgetStop (run_of n s) (state_of n s)

-- The line needed a product of too great a degree: outside a run, in its division by a reduced basis or in a product of a list
-- that it makes; in a run before there was a state, where a generator is divided; and in a run later, in the work on a pair or
-- where a member's tail is divided.
abbrev pub StopsByDegree : Limits → ScriptState → List ℕ → Option Shown → KeptTrail → Type 0
StopsByDegree limits before line None t =
    TrailOf before line t
    ⊎ (RunOf before line t.ring t.rank t.generators × IsBeginningTrail (variables t.ring) (shared_of_trail t) t)
StopsByDegree limits before line (Some s) t = IsRunState limits before line s × (IsDegreeStop s t ⊎ IsInterreductionStop s t)

-- the line stops the script, and this state and this trail are kept: a state alone at a stop by the budget, a trail at one by the degree
abbrev pub StopsScript : Limits → ScriptState → List ℕ → Option Shown → Option KeptTrail → Type 0
StopsScript limits before line None None = ⊥
StopsScript limits before line (Some s) None = StopsByPairs limits before line s
StopsScript limits before line s (Some t) = StopsByDegree limits before line s t

-- the status of a stop of which this trail is kept
abbrev pub stop_status : Option KeptTrail → ℕ
stop_status None = 6
stop_status (Some t) = 7
