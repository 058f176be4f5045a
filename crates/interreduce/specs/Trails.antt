-- Why an interreduction stops
use Rattle.std.specs.Prelude.{List, [], get_or, length, ⊤, ℕ, ◌<◌}
use Rattle.term_lists.specs.declared.key.Key.{Key as CodeKey}
use Rattle.term_lists.specs.declared.ring.Ring.{Ring}
use Rattle.module_vectors.specs.declared.trail.KeptTrail.{KeptTrail}
use Rattle.module_vectors.specs.declared.trail.WorkStop.{WorkStop}
use Rattle.module_vectors.specs.declared.trail.WorkStop.TheVariants.{Memory, Degree}
use Rattle.vector_division.specs.Divisions.{IsDivisionTrail}

-- the trail is one of the division of a member by the list, over this ring and of no run
pub record IsInterreductionTrail (ring : Ring) (list : List (List (CodeKey × ℕ))) (t : KeptTrail) : Type 0 where
  pub index : ℕ
  pub within : index < length list
  pub division : IsDivisionTrail ring (get_or list index []) list t

-- Degree comes with such a trail alone
abbrev pub InterreductionStops : Ring → List (List (CodeKey × ℕ)) → WorkStop → Type 0
InterreductionStops ring list Memory = ⊤
InterreductionStops ring list (Degree t) = IsInterreductionTrail ring list t

-- of member i: Degree comes with a trail of its own division
abbrev pub MemberStops : Ring → List (List (CodeKey × ℕ)) → ℕ → WorkStop → Type 0
MemberStops ring list i Memory = ⊤
MemberStops ring list i (Degree t) = IsDivisionTrail ring (get_or list i []) list t
