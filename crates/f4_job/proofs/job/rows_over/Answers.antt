use Rattle.std.proofs.Common.{List, subst, subst₂, sym}
use Rattle.formal_sums.specs.FormalSums.{Each}
use Rattle.term_lists.specs.Rings.{ring_comparison, setting, variables}
use Rattle.term_lists.specs.Vectors.{AreVectorsOver}
use Rattle.term_lists.specs.declared.ring.Ring.{Ring}
use Rattle.pair_criteria.specs.declared.pair.Pair.{Pair as CodePair}
use Rattle.basis_core.proofs.Tracking.{vectors_over}
use Rattle.basis_core.specs.Members.{IsMemberShown, Shared, MemberShown}
use Rattle.basis_core.specs.Rows.{vectors_in}
use Rattle.symbolic_prep.specs.Plans.{IsMemberPair}
use Rattle.symbolic_prep.specs.Prepared.{IsMonicVector}
use Rattle.f4_job.specs.Solved.{AreNewRows}
use Rattle.f4_job.proofs.JobParts.{job_monic, job_pairs}
use Rattle.f4_job.proofs.job.rows_over.Goals as goal

pub new_rows-requires-clause-members : goal.new_rows-requires-clause-members
new_rows-requires-clause-members g c κs within =
    let j = c.args.job.now in
    let tracked : Each (IsMemberShown j.shared) j.members =
    subst₂ (λ (s : Shared) (l : List MemberShown). Each (IsMemberShown s) l) c.members-members.ensures.shared c.members-members.ensures.list c.kept-2.ensures in
    subst₂ (λ (r : Ring) (l : List MemberShown). AreVectorsOver r (ring_comparison r) (vectors_in l)) (sym c.requires.over)
    (sym c.members-members.ensures.list) (vectors_over j.shared j.members tracked)

pub new_rows-requires-clause-monic : goal.new_rows-requires-clause-monic
new_rows-requires-clause-monic g c κs within =
    let j = c.args.job.now in
    let tracked : Each (IsMemberShown j.shared) j.members =
    subst₂ (λ (s : Shared) (l : List MemberShown). Each (IsMemberShown s) l) c.members-members.ensures.shared c.members-members.ensures.list c.kept-2.ensures in
    subst₂ (λ (r : Ring) (l : List MemberShown). Each (IsMonicVector (variables r)) (vectors_in l)) (sym c.requires.over) (sym c.members-members.ensures.list)
    (job_monic j.shared j.members tracked c.kept.ensures.monic)

pub new_rows-requires-clause-pairs : goal.new_rows-requires-clause-pairs
new_rows-requires-clause-pairs g c κs within =
    let j = c.args.job.now in
    let tracked : Each (IsMemberShown j.shared) j.members =
    subst₂ (λ (s : Shared) (l : List MemberShown). Each (IsMemberShown s) l) c.members-members.ensures.shared c.members-members.ensures.list c.kept-2.ensures in
    subst (Each (IsMemberPair (variables c.args.ring.now) c.args.ring.now.weights (vectors_in c.members-members.result.now.list))) (sym c.pairs.ensures)
    (subst₂ (λ (r : Ring) (l : List MemberShown). Each (IsMemberPair (variables r) r.weights (vectors_in l)) j.pairs) (sym c.requires.over)
    (sym c.members-members.ensures.list)
    (job_pairs j c.kept.ensures (job_monic j.shared j.members tracked c.kept.ensures.monic)))

pub returns : goal.returns
returns g c =
    let j = c.args.job.now in
    let r = c.in_ok-found.found in
    let h = c.in_ok-found.ensures j.shared.rank in
    subst₂ (λ (ring : Ring) (ps : List CodePair). AreNewRows (variables ring)
    (setting ring (variables ring) (ring_comparison ring (variables ring)) j.shared.rank)
    (vectors_in j.members) ps r.products.items r.columns.items r.rows.items)
    c.requires.over c.pairs.ensures
    (subst (λ (l : List MemberShown). AreNewRows (variables c.args.ring.now)
    (setting c.args.ring.now (variables c.args.ring.now) (ring_comparison c.args.ring.now (variables c.args.ring.now)) j.shared.rank)
    (vectors_in l) c.pairs.result.now r.products.items r.columns.items r.rows.items)
    c.members-members.ensures.list h)
