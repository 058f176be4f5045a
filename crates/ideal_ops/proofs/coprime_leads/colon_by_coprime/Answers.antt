use Rattle.std.proofs.Common.{arith, refl, subst, ◌≡◌}
use Rattle.formal_sums.specs.FormalSums.{Each}
use Rattle.term_lists.specs.Vectors.{HasPositions}
use Rattle.ideal_ops.proofs.ColonItself.{colon_itself}
use Rattle.ideal_ops.proofs.coprime_leads.colon_by_coprime.Goals as goal

pub returns : goal.returns
returns g c =
    let ring = c.args.ring.now in
    let list = c.args.list.now in
    let by = c.args.by.now in
    let one : c.args.rank ≡ 1 = omega (arith, c.if-rank-ne1.false) in
    colon_itself ring list by c.in-Some.basis (c.lawful_setting.ensures 1)
    (subst (λ r. Each (HasPositions r) list) one c.requires.positions) c.requires.by (subst (λ r. Each (HasPositions r) by) one c.requires.by_positions)
    (rw c.in-Some.is at c.in_ok-basis.ensures) (c.if-not-coprime_one-2.ensures refl)
