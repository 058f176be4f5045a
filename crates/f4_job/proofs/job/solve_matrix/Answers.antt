use Rattle.std.proofs.Common.{List, subst₂, sym}
use Rattle.formal_sums.specs.FormalSums.{Each}
use Rattle.basis_core.specs.Members.{IsMemberShown, Shared, MemberShown}
use Rattle.f4_job.proofs.Outcomes.{outcome, weighed_steps}
use Rattle.f4_job.proofs.job.solve_matrix.Goals as goal

pub make_rows-requires : goal.make_rows-requires
make_rows-requires g c =
    let j = c.args.job.now in
    let new = c.in_ok-found.ensures in
    let tracked : Each (IsMemberShown j.shared) j.members =
    subst₂ (λ (s : Shared) (l : List MemberShown). Each (IsMemberShown s) l) c.members-members.ensures.shared c.members-members.ensures.list c.kept-2.ensures in
    rw (c.requires.over, c.deref.ensures.value, c.deref-2.ensures.value, c.deref-3.ensures.value) (record {
      columns = new.monomials;
      descend = new.descend;
      products = weighed_steps j c.kept.ensures tracked c.in_ok-found.found.columns.items c.in_ok-found.found.products.items c.in_ok-found.found.rows.items new;
      rows = new.rows_good;
    })

pub returns : goal.returns
returns g c =
    let j = c.args.job.now in
    let tracked : Each (IsMemberShown j.shared) j.members =
    subst₂ (λ (s : Shared) (l : List MemberShown). Each (IsMemberShown s) l) c.members-members.ensures.shared c.members-members.ensures.list c.kept-2.ensures in
    outcome j c.kept.ensures tracked c.in_ok-found.found.columns.items c.in_ok-found.found.products.items c.in_ok-found.found.rows.items c.in_ok-found.ensures c.in_ok-rows.rows.items
    (rw (sym c.requires.over, sym c.deref.ensures.value, sym c.deref-2.ensures.value, sym c.deref-3.ensures.value) c.in_ok-rows.ensures)
