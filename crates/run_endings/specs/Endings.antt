-- How a run ends: closed, stopped by its budget or by a degree, or stopped by its interreduction
use Rattle.std.specs.Prelude.{None, Some, [], get_or, length, ⊤, ℕ, ◌<◌, ◌≡◌}
use Rattle.module_vectors.specs.Trails.{IsTrail}
use Rattle.module_vectors.specs.declared.trail.KeptTrail.{KeptTrail}
use Rattle.module_vectors.specs.declared.trail.TrailStart.TheVariants as starts
use Rattle.module_vectors.specs.declared.trail.WorkStop.{WorkStop}
use Rattle.module_vectors.specs.declared.trail.WorkStop.TheVariants as works
use Rattle.basis_steps.specs.Invariant.{HaveAllEnded}
use Rattle.basis_core.specs.declared.stop.StopReason.TheVariants as reasons
use Rattle.basis_core.specs.Answers.{IsRunTrail}
use Rattle.basis_core.specs.Rows.{vectors_in}
use Rattle.basis_core.specs.Shown.{Shown}
use Rattle.basis_core.specs.Views.{run_of, state_of, variables_of}
use Rattle.run_endings.specs.Copies.{IsSameTrail}

-- all workers have ended, and no stop is kept
pub record IsClosed (s : Shown) : Type 0 where
  pub stop : s.stop ≡ None
  pub ended : HaveAllEnded (run_of (variables_of s) s) (state_of (variables_of s) s)

-- a stop by the budget: as many pairs are taken as it has
pub record IsBudgetStop (s : Shown) : Type 0 where
  pub stop : s.stop ≡ Some reasons.Pairs
  pub taken : s.taken ≡ s.budget

-- a stop by the degree of a pair's work: of the state's members and of a pair that was taken; the state keeps the same trail
pub record IsDegreeStop (s : Shown) (t : KeptTrail) : Type 0 where
  pub stop : (kept : KeptTrail) × (s.stop ≡ Some (reasons.Degree kept)) × IsSameTrail kept t
  pub trail : IsRunTrail (variables_of s) s t

-- a stop by the degree of the interreduction: the run was closed, and a member is divided by the members
pub record IsInterreductionStop (s : Shown) (t : KeptTrail) : Type 0 where
  pub closed : IsClosed s
  pub trail : IsTrail t
  pub ring : t.ring ≡ s.shared.ring
  pub rank : t.rank ≡ s.shared.rank
  pub generators : t.generators ≡ s.shared.generators
  pub below : t.below.items ≡ []
  pub start : t.start ≡ starts.Term
  pub number : ℕ
  pub known : number < length s.members
  pub vector : t.vector ≡ get_or (vectors_in s.members) number []
  pub members : t.members ≡ vectors_in s.members

-- Degree comes with such a trail alone
abbrev pub ClosingStops : Shown → WorkStop → Type 0
ClosingStops s works.Memory = ⊤
ClosingStops s (works.Degree t) = IsInterreductionStop s t
