-- What the members of a run stand for
use Rattle.std.specs.Prelude.{List, length, ℕ}
use Rattle.formal_sums.specs.FormalSums.{Each}
use Rattle.bases.specs.Settings.{Setting}
use Rattle.term_lists.specs.Rings.{ring_comparison, setting, variables}
use Rattle.term_lists.specs.declared.key.Key.{Key as CodeKey}
use Rattle.term_lists.specs.declared.ring.Ring.{Ring}
use Rattle.basis_steps.specs.Divisions.{IsMonicMember}
use Rattle.basis_steps.specs.States.{vectors}
use Rattle.member_products.specs.Generators.{IsRanked}
use Rattle.member_products.specs.Members.{AreMembersOver, IsMemberOver, IsRowOver}
use Rattle.member_products.specs.declared.member.RunMember.{RunMember as CodeMember}
use Rattle.member_products.specs.declared.member.Reduct.{Reduct as CodeReduct}
use Rattle.member_products.specs.declared.shared.Shared.{Shared as CodeShared}
pub use Rattle.member_products.specs.Members.{member_of, members_of, reduct_row_of, reduct_rows_of}

-- ring, rank and generators of a run
pub record Shared : Type 0 where
  pub ring : Ring
  pub rank : ℕ
  pub generators : List (List (CodeKey × ℕ))

-- the terms of a member's vector, of its multiple of a generator and of its products
abbrev pub MemberShown : Type 0
MemberShown = CodeMember

-- what the members of a run share
abbrev pub shared_of : CodeShared → Shared
shared_of s = record { ring = s.ring; rank = s.rank; generators = s.generators }

-- what contracts see of a list of members
pub record MembersShown : Type 0 where
  pub shared : Shared
  pub list : List MemberShown

-- the row is of vectors of the run, its products of the first k members
abbrev pub IsRunRow : Shared → ℕ → CodeReduct → Type 0
IsRunRow shared k row = IsRowOver shared.ring shared.rank k row

-- the member is of vectors of the run, with k members before it
abbrev pub IsRunMember : Shared → ℕ → MemberShown → Type 0
IsRunMember shared k m = IsMemberOver shared.ring shared.rank (length shared.generators) k m

-- each member in turn
abbrev pub AreRunMembers : Shared → List MemberShown → Type 0
AreRunMembers shared ms = AreMembersOver shared.ring shared.rank (length shared.generators) 0 ms

-- the member's vector is one of the run's ring and rank
pub record IsMemberShown (shared : Shared) (m : MemberShown) : Type 0 where
  pub vector : IsRanked shared.ring shared.rank m.vector

-- the ring's modulus and its own order, and the rank
abbrev pub setting_of : (n : ℕ) → Shared → Setting n
setting_of n shared = setting shared.ring n (ring_comparison shared.ring n) shared.rank

-- the members' vectors are monic, of the run's ring and rank
abbrev pub AreMonic : Shared → List MemberShown → Type 0
AreMonic shared ms = Each (IsMonicMember (setting_of (variables shared.ring) shared)) (vectors (members_of (variables shared.ring) ms))
