use Rattle.std.proofs.Common.{List, subst, subst₂, sym, ◌≡◌}
use Rattle.std.specs.Arc.{arc_value}
use Rattle.formal_sums.specs.FormalSums.{Each}
use Rattle.term_lists.specs.Rings.{variables}
use Rattle.term_lists.specs.Vectors.{sums_of}
use Rattle.basis_steps.specs.Cofactors.{AreCombined}
use Rattle.member_products.specs.Members.{members_of}
use Rattle.basis_core.specs.Members.{Shared, MemberShown, shared_of}
use Rattle.cofactor_track.specs.declared.member.Member.{Member}
use Rattle.cofactor_track.proofs.runs.run_members.Goals as goal

pub with_cofactors-requires-clause-combined : goal.with_cofactors-requires-clause-combined
with_cofactors-requires-clause-combined c =
    subst₂ (λ (s : Shared) (l : List MemberShown). AreCombined s.ring.modulus.value (sums_of (variables s.ring) s.generators) (members_of (variables s.ring) l))
    (sym c.members-members.ensures.shared) (sym c.members-members.ensures.list) c.kept.ensures.holds.combined

pub returns-in_ok-with_cofactors-in-Ok-clause-shared : goal.returns-in_ok-with_cofactors-in-Ok-clause-shared
returns-in_ok-with_cofactors-in-Ok-clause-shared c =
    subst (λ (s : Shared). Each (λ (m : Member). shared_of (arc_value m.shared) ≡ s) c.in_ok-with_cofactors-in-Ok.field-0.items)
    c.members-members.ensures.shared c.in_ok-with_cofactors-in-Ok.ensures.shared
