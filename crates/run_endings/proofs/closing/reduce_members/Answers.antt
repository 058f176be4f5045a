use Rattle.std.proofs.Common.{ap, subst, sym, ◌∙◌, ◌≡◌}
use Rattle.term_lists.specs.Rings.{ring_comparison}
use Rattle.term_lists.specs.Vectors.{AreVectorsOver, HasPositions}
use Rattle.term_lists.specs.declared.ring.Ring.{Ring}
use Rattle.formal_sums.specs.FormalSums.{Each}
use Rattle.member_products.specs.declared.shared.Shared.{Shared as CodeShared}
use Rattle.basis_core.specs.Members.{Shared}
use Rattle.basis_core.specs.Rows.{vectors_in}
use Rattle.basis_core.proofs.Tracking.{vectors_over}
use Rattle.run_endings.proofs.Closings.{members_positions, members_reduced}
use Rattle.run_endings.proofs.closing.reduce_members.Goals as goal

pub reduced_list-requires : goal.reduced_list-requires
reduced_list-requires g c =
    let m = c.members-members.result.now in
    let over : c.deref.result.now.ring ≡ m.shared.ring = ap (λ (x : CodeShared). x.ring) c.deref.ensures ∙ ap (λ (x : Shared). x.ring) (c.shared.ensures ∙ sym c.members-members.ensures.shared) in
    (c.type_bounds.sync-R, subst (λ (r : Ring). AreVectorsOver r (ring_comparison r) (vectors_in m.list)) (sym over) (vectors_over m.shared m.list c.kept-2.ensures))

pub returns-in-Ok-clause-basis : goal.returns-in-Ok-clause-basis
returns-in-Ok-clause-basis g c =
    let s = c.args.state.now in
    let m = c.members-members.result.now in
    members_reduced s c.deref.result.now.ring (vectors_in m.list) c.in-Ok.basis c.kept.ensures.lawful c.kept.ensures.holds c.requires
    (ap (λ (x : CodeShared). x.ring) c.deref.ensures ∙ ap (λ (x : Shared). x.ring) c.shared.ensures)
    (ap vectors_in c.members-members.ensures.list)
    (subst (λ (x : Shared). Each (HasPositions x.rank) (vectors_in m.list)) c.members-members.ensures.shared (members_positions m.shared m.list c.kept-2.ensures))
    c.in-Ok.ensures.vectors c.in-Ok.ensures.reduced c.in-Ok.ensures.positions

pub trail_of_run-requires-clause-closed : goal.trail_of_run-requires-clause-closed
trail_of_run-requires-clause-closed g c = c.requires
