-- The members that the first generators make, and the multiples of these
use Rattle.std.specs.Prelude.{List, [], take, ℕ, ◌∷◌}
use Rattle.monomials.specs.Exponents.{unit}
use Rattle.term_lists.specs.Rings.{variables}
use Rattle.term_lists.specs.Vectors.{StandsFor, sums_of}
use Rattle.term_lists.specs.declared.key.Key.{Key as CodeKey}
use Rattle.term_lists.specs.declared.ring.Ring.{Ring}
use Rattle.basis_steps.specs.Divisions.{MakesMembers}
use Rattle.basis_steps.specs.Steps.{generator_rows}
use Rattle.basis_core.specs.Members.{Shared, MemberShown, members_of, setting_of}

-- these are the members that the first k generators make
abbrev pub HaveMade : Shared → ℕ → List MemberShown → Type 0
HaveMade shared k ms =
    MakesMembers (setting_of (variables shared.ring) shared) [] (generator_rows 0 (take k (sums_of (variables shared.ring) shared.generators)))
    (members_of (variables shared.ring) ms)

-- a stands for 1 times generator i: the monomial 1 at position i
abbrev pub IsUnitMultiple : Ring → ℕ → List (CodeKey × ℕ) → Type 0
IsUnitMultiple ring i a = StandsFor ring a (((i, unit (variables ring)), 1) ∷ [])
