use Rattle.std.proofs.Common.{[], arith, length, subst, subst₂, sym, ◌+◌, ◌≡◌}
use Rattle.formal_sums.proofs.Combining.{Each_map}
use Rattle.term_lists.specs.Rings.{setting, variables}
use Rattle.vector_division.proofs.Looping.{are_weighed}
use Rattle.vector_division.specs.Progress.{AreWeighed}
use Rattle.induced_leads.specs.Pairs.{AreLeastSoFar, ArePairLeadsTo, ArePairMonomials, AreNonzero}
use Rattle.induced_leads.proofs.LeastLeads.{pairs_all, pairs_next}
use Rattle.induced_leads.proofs.PairSteps.{base_leads, monomials_weighed}
use Rattle.induced_leads.proofs.pair_syzygies.pair_leads.Goals as goal

pub pair_monomials-requires-clause-leads : goal.pair_monomials-requires-clause-leads
pair_monomials-requires-clause-leads g c =
    let ring = g.F.Frame.over c.args.frame.now in
    let n = variables ring in
    let base = c.requires.base in
    subst AreNonzero (sym c.as_slice-in-loop-i.ensures) (base_leads n (setting ring n (g.F.Frame.compare c.args.frame.now n) base.rank) (c.lawful_setting.ensures base.rank) c.args.columns.now base.monic)

pub pair_monomials-requires-clause-weighed : goal.pair_monomials-requires-clause-weighed
pair_monomials-requires-clause-weighed g c =
    let ring = g.F.Frame.over c.args.frame.now in
    let n = variables ring in
    subst₂ (λ r z. AreWeighed (variables r) r.weights z) (sym c.ring-ring.ensures) (sym c.as_slice-in-loop-i.ensures) (are_weighed n ring.weights ring.modulus.value (g.F.Frame.compare c.args.frame.now n) c.args.columns.now c.requires.vectors)

pub least-requires : goal.least-requires
least-requires g c =
    let ring = c.ring-ring.result.now in
    monomials_weighed (variables ring) ring.weights c.as_slice-in-loop-i.result.now c.loop-i.i (length c.as_slice-in-loop-i.result.now) c.in_ok-candidates.candidates.items c.in_ok-candidates.ensures

pub loop-i-preserved : goal.loop-i-preserved
loop-i-preserved g c =
    let ring = g.F.Frame.over c.args.frame.now in
    let n = variables ring in
    let cols = c.args.columns.now in
    let there = subst₂ (λ r z. ArePairMonomials (variables r) r.weights z c.loop-i.i (length z) c.in_ok-candidates.candidates.items) c.ring-ring.ensures c.as_slice-in-loop-i.ensures c.in_ok-candidates.ensures in
    let least = subst (λ r. AreLeastSoFar (variables r) c.in_ok-candidates.candidates.items [] c.in_ok-monomials.monomials.items) c.ring-ring.ensures c.in_ok-monomials.ensures in
    subst (ArePairLeadsTo n ring.weights cols (c.loop-i.i + 1)) (sym c.in_ok-push_keys.ensures)
    (pairs_next n ring.weights cols c.loop-i.i c.loop-i.keys.items c.in_ok-candidates.candidates.items c.in_ok-monomials.monomials.items c.loop-i.invariant there least)

pub returns-clause-monomials : goal.returns-clause-monomials
returns-clause-monomials g c = Each_map _ _ c.loop-i.keys.items (λ k x. x.2) c.loop-i.invariant.each

pub returns-clause-pairs : goal.returns-clause-pairs
returns-clause-pairs g c =
    let ring = g.F.Frame.over c.args.frame.now in
    let n = variables ring in
    let e : c.loop-i.i ≡ length c.args.columns.now = omega arith in
    pairs_all n ring.weights c.args.columns.now c.loop-i.keys.items (subst (λ z. ArePairLeadsTo n ring.weights c.args.columns.now z c.loop-i.keys.items) e c.loop-i.invariant)
