use Rattle.std.proofs.Common.{get_or, length, subst, ◌<◌, ◌≡◌, ◌≤◌}
use Rattle.std.proofs.lemmas.List.{take_all}
use Rattle.formal_sums.specs.FormalSums.{Each}
use Rattle.session_reports.proofs.MinimalMaps.{each_more, none_found}
use Rattle.session_reports.specs.Minimising.{HasTwoDegrees}
use Rattle.session_reports.proofs.minimising.is_inhomogeneous.Goals as goal

pub loop-v-preserved : goal.loop-v-preserved
loop-v-preserved c =
    let i = c.loop-v.v-index in
    let v = c.v-item.result in
    each_more (λ v. HasTwoDegrees v → ⊥) c.args.list.now i v c.loop-v.invariant
    (subst (λ l. i < length l) c.as_slice-v-items.ensures c.loop-v-test.true) (subst (λ l. v ≡ get_or l i v) c.as_slice-v-items.ensures c.v-item.is)
    (c.has_two_degrees.ensures.one c.if-has_two_degrees.false)

pub returns-clause-none : goal.returns-clause-none
returns-clause-none c = λ e.
    let i = c.loop-v.v-index in
    none_found c.args.list.now
    (subst (λ l. Each (λ v. HasTwoDegrees v → ⊥) l)
    (take_all i c.args.list.now (subst (λ l. length l ≤ i) c.as_slice-v-items.ensures c.loop-v-test.false)) c.loop-v.invariant)
