use Rattle.std.proofs.Common.{List, subst, subst₂, sym}
use Rattle.formal_sums.specs.FormalSums.{Each}
use Rattle.term_lists.specs.Rings.{ring_comparison, variables}
use Rattle.term_lists.specs.Vectors.{AreVectorsOver}
use Rattle.term_lists.specs.declared.ring.Ring.{Ring}
use Rattle.basis_core.proofs.Tracking.{vectors_over}
use Rattle.basis_core.specs.Members.{IsMemberShown, Shared, MemberShown}
use Rattle.basis_core.specs.Rows.{vectors_in}
use Rattle.symbolic_prep.specs.Plans.{IsMemberPair}
use Rattle.symbolic_prep.specs.Prepared.{IsMonicVector}
use Rattle.f4_job.proofs.JobParts.{job_monic, job_pairs}
use Rattle.core_histories.proofs.sizes.add_job.Goals as goal

pub prepare-requires-clause-members : goal.prepare-requires-clause-members
prepare-requires-clause-members c =
    let j = c.args.job.now in
    let tracked : Each (IsMemberShown j.shared) j.members =
    subst₂ (λ (s : Shared) (l : List MemberShown). Each (IsMemberShown s) l) c.members-members.ensures.shared c.members-members.ensures.list c.kept-2.ensures in
    subst₂ (λ (r : Ring) (l : List MemberShown). AreVectorsOver r (ring_comparison r) (vectors_in l)) (sym c.requires.over)
    (sym c.members-members.ensures.list) (vectors_over j.shared j.members tracked)

pub prepare-requires-clause-monic : goal.prepare-requires-clause-monic
prepare-requires-clause-monic c =
    let j = c.args.job.now in
    let tracked : Each (IsMemberShown j.shared) j.members =
    subst₂ (λ (s : Shared) (l : List MemberShown). Each (IsMemberShown s) l) c.members-members.ensures.shared c.members-members.ensures.list c.kept-2.ensures in
    subst₂ (λ (r : Ring) (l : List MemberShown). Each (IsMonicVector (variables r)) (vectors_in l)) (sym c.requires.over) (sym c.members-members.ensures.list)
    (job_monic j.shared j.members tracked c.kept.ensures.monic)

pub prepare-requires-clause-pairs : goal.prepare-requires-clause-pairs
prepare-requires-clause-pairs c =
    let j = c.args.job.now in
    let tracked : Each (IsMemberShown j.shared) j.members =
    subst₂ (λ (s : Shared) (l : List MemberShown). Each (IsMemberShown s) l) c.members-members.ensures.shared c.members-members.ensures.list c.kept-2.ensures in
    subst (Each (IsMemberPair (variables c.args.ring.now) c.args.ring.now.weights (vectors_in c.members-members.result.now.list))) (sym c.pairs.ensures)
    (subst₂ (λ (r : Ring) (l : List MemberShown). Each (IsMemberPair (variables r) r.weights (vectors_in l)) j.pairs) (sym c.requires.over)
    (sym c.members-members.ensures.list)
    (job_pairs j c.kept.ensures (job_monic j.shared j.members tracked c.kept.ensures.monic)))
