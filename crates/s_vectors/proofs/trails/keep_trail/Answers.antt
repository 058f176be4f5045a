use Rattle.std.proofs.Common.{List, ap, get_or, refl, subst₂, ◌∙◌, ◌≡◌}
use Rattle.formal_sums.specs.FormalSums.{Each}
use Rattle.basis_core.specs.Members.{IsMemberShown, Shared, MemberShown}
use Rattle.basis_core.specs.Rows.{vectors_in}
use Rattle.member_products.specs.declared.shared.Shared.{Shared as CodeShared}
use Rattle.s_vectors.proofs.JobTrails.{job_trail}
use Rattle.s_vectors.proofs.trails.keep_trail.Goals as goal

pub returns : goal.returns
returns c =
    let j = c.args.job.now in
    let x = c.index-pairs-number.result in
    let is : x ≡ get_or j.pairs c.args.number x = c.index-pairs-number.is ∙ ap (λ xs. get_or xs c.args.number x) c.pairs.ensures in
    job_trail j c.args.number x _ c.kept.ensures
    (subst₂ (λ (s : Shared) (l : List MemberShown). Each (IsMemberShown s) l) c.members-members.ensures.shared c.members-members.ensures.list c.kept-2.ensures)
    c.requires.known is (c.requires.chain x is)
    (c.in_ok-ring.ensures ∙ ap (λ (s : CodeShared). s.ring) c.deref.ensures ∙ ap (λ (s : Shared). s.ring) c.shared-shared.ensures)
    (ap (λ (s : CodeShared). s.rank) c.deref-3.ensures ∙ ap (λ (s : Shared). s.rank) c.shared-shared.ensures)
    (c.in_ok-generators.ensures ∙ ap (λ (s : CodeShared). s.generators) c.deref-2.ensures ∙ ap (λ (s : Shared). s.generators) c.shared-shared.ensures)
    c.new.ensures.items refl c.zero.ensures
    (c.in_ok-vectors.ensures ∙ ap vectors_in c.members-members.ensures.list)
