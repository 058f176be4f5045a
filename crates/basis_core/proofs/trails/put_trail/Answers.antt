use Rattle.std.proofs.Common.{List, ap, subst, sym, ℕ, ◌++◌, ◌∙◌, ◌≡◌}
use Rattle.formal_sums.specs.FormalSums.{Each}
use Rattle.term_lists.specs.Rings.{variables}
use Rattle.term_lists.specs.Vectors.{IsMonomialOver}
use Rattle.term_lists.specs.declared.key.Key.{Key as CodeKey}
use Rattle.term_lists.specs.declared.ring.Ring.{Ring}
use Rattle.module_vectors.specs.Trails.{IsKeptProduct, KeptProduct}
use Rattle.module_vectors.specs.declared.trail.KeptTrail.{KeptTrail}
use Rattle.pair_criteria.specs.declared.pair.Pair.{Pair as CodePair}
use Rattle.pair_criteria.specs.Traces.{AreTraced}
use Rattle.basis_core.specs.Chains.{IsTracedTo}
use Rattle.basis_core.specs.Jobs.{IsJobOver, JobShown}
use Rattle.basis_core.specs.Members.{Shared, MemberShown}
use Rattle.basis_core.specs.Outcomes.{OutcomeShown}
use Rattle.basis_core.specs.Rows.{vectors_in}
use Rattle.basis_core.proofs.Tracing.{HasStoppedRow, all_known, all_traced}
use Rattle.basis_core.proofs.Trailing.{ends_as, has_stopped_row, lcm_weighed, members_nonzero, trail_at}
use Rattle.basis_core.proofs.trails.put_trail.Goals as goal

-- the row that stops, at the call that traces back
stopped : (c : goal.After-deref-2) → HasStoppedRow c.args.members.now.shared c.args.members.now.list c.args.outcome.now.job.members
    c.args.outcome.now.rows c.args.outcome.now.job.pairs c.args.outcome.now.products (c.requires.row).0 c.args.trail.products.items c.args.trail.last
stopped c =
    has_stopped_row c.args.members.now.shared c.args.members.now.list c.args.outcome.now c.args.trail.products.items c.args.trail.last
    c.kept.ensures c.requires.shared c.kept-2.ensures (subst IsJobOver c.job-job.ensures c.kept-3.ensures) c.requires.base c.requires.row

pub trace_back-requires-clause-nonzero : goal.trace_back-requires-clause-nonzero
trace_back-requires-clause-nonzero c = members_nonzero c.args.members.now.shared c.args.members.now.list c.requires.monic

pub trace_back-requires-clause-pairs : goal.trace_back-requires-clause-pairs
trace_back-requires-clause-pairs c =
    let o : OutcomeShown = c.args.outcome.now in
    let ring : Ring = c.args.members.now.shared.ring in
    let pairs : c.pairs.result.now ≡ o.job.pairs = c.pairs.ensures ∙ ap (λ (j : JobShown). j.pairs) c.job-job.ensures in
    subst (Each (λ (x : CodePair). IsMonomialOver ring x.lcm.monomial)) (sym pairs)
    (lcm_weighed (variables ring) ring.weights o.job.members o.job.pairs (stopped c).lcms)

pub trace_back-requires-clause-all : goal.trace_back-requires-clause-all
trace_back-requires-clause-all c =
    let o : OutcomeShown = c.args.outcome.now in
    let n : ℕ = variables c.args.members.now.shared.ring in
    let vs : List (List (CodeKey × ℕ)) = vectors_in c.args.members.now.list in
    let all : c.deref-2.result.now ≡ o.products ++ c.args.trail.products.items = c.deref-2.ensures.value ∙ c.in_ok-all.ensures ∙ (λ i. c.products.ensures i ++ c.deref.ensures.value i) in
    subst (Each (IsKeptProduct n c.args.members.now.shared.ring.weights vs)) (sym all)
    (all_known c.args.members.now.shared c.args.members.now.list o.job.members o.rows o.job.pairs o.products (c.requires.row).0 c.args.trail.products.items c.args.trail.last (stopped c))

pub trace_back-requires-clause-traced : goal.trace_back-requires-clause-traced
trace_back-requires-clause-traced c =
    let o : OutcomeShown = c.args.outcome.now in
    let n : ℕ = variables c.args.members.now.shared.ring in
    let vs : List (List (CodeKey × ℕ)) = vectors_in c.args.members.now.list in
    let pairs : c.pairs.result.now ≡ o.job.pairs = c.pairs.ensures ∙ ap (λ (j : JobShown). j.pairs) c.job-job.ensures in
    let all : c.deref-2.result.now ≡ o.products ++ c.args.trail.products.items = c.deref-2.ensures.value ∙ c.in_ok-all.ensures
    ∙ (λ i. c.products.ensures i ++ c.deref.ensures.value i) in
    subst (λ (z : List CodePair × List KeptProduct). AreTraced n vs z.0 z.1) (λ i. (sym pairs i, sym all i))
    (all_traced c.args.members.now.shared c.args.members.now.list o.job.members o.rows o.job.pairs o.products
    (c.requires.row).0 c.args.trail.products.items c.args.trail.last (stopped c))

pub returns-clause-trail : goal.returns-clause-trail
returns-clause-trail c =
    let ms : List MemberShown = c.args.members.now.list in
    let shared : Shared = c.args.members.now.shared in
    let o : OutcomeShown = c.args.outcome.now in
    let n : ℕ = variables shared.ring in
    let ws : List ℕ = shared.ring.weights in
    let vs : List (List (CodeKey × ℕ)) = vectors_in ms in
    let pairs : c.pairs.result.now ≡ o.job.pairs = c.pairs.ensures ∙ ap (λ (j : JobShown). j.pairs) c.job-job.ensures in
    let all : c.deref-2.result.now ≡ o.products ++ c.args.trail.products.items = c.deref-2.ensures.value ∙ c.in_ok-all.ensures ∙ (λ i. c.products.ensures i ++ c.deref.ensures.value i) in
    let traced : IsTracedTo n ws vs o.job.pairs (o.products ++ c.args.trail.products.items) c.in_ok-products.products.items c.in_ok-products.i c.in_ok-products.j =
    subst (λ (z : List CodePair × List KeptProduct). IsTracedTo n ws vs z.0 z.1 c.in_ok-products.products.items c.in_ok-products.i c.in_ok-products.j)
    (λ i. (pairs i, all i)) c.in_ok-products.ensures in
    let row = has_stopped_row shared ms o c.args.trail.products.items c.args.trail.last c.kept.ensures c.requires.shared c.kept-2.ensures (subst IsJobOver c.job-job.ensures c.kept-3.ensures) c.requires.base c.requires.row in
    let t : KeptTrail = c.in_ok-kept.kept in
    let over = c.in_ok-kept.ensures in
    trail_at shared ms o (c.requires.row).0 c.args.trail.products.items c.args.trail.last row c.in_ok-products.products.items c.in_ok-products.i c.in_ok-products.j
    traced (members_nonzero shared ms c.requires.monic) t over.products_are over.below
    (λ i. record t {
      ring = over.ring i;
      rank = over.rank i;
      generators = over.generators i;
      start = over.start_is i;
      vector = (over.vector_is ∙ c.zero.ensures) i;
      members = over.members i;
      last = over.last_is i;
    })

pub returns-clause-ends : goal.returns-clause-ends
returns-clause-ends c =
    let ms : List MemberShown = c.args.members.now.list in
    let shared : Shared = c.args.members.now.shared in
    let o : OutcomeShown = c.args.outcome.now in
    let n : ℕ = variables shared.ring in
    let ws : List ℕ = shared.ring.weights in
    let vs : List (List (CodeKey × ℕ)) = vectors_in ms in
    let pairs : c.pairs.result.now ≡ o.job.pairs = c.pairs.ensures ∙ ap (λ (j : JobShown). j.pairs) c.job-job.ensures in
    let all : c.deref-2.result.now ≡ o.products ++ c.args.trail.products.items = c.deref-2.ensures.value ∙ c.in_ok-all.ensures ∙ (λ i. c.products.ensures i ++ c.deref.ensures.value i) in
    let traced : IsTracedTo n ws vs o.job.pairs (o.products ++ c.args.trail.products.items) c.in_ok-products.products.items c.in_ok-products.i c.in_ok-products.j =
    subst (λ (z : List CodePair × List KeptProduct). IsTracedTo n ws vs z.0 z.1 c.in_ok-products.products.items c.in_ok-products.i c.in_ok-products.j)
    (λ i. (pairs i, all i)) c.in_ok-products.ensures in
    let row = has_stopped_row shared ms o c.args.trail.products.items c.args.trail.last c.kept.ensures c.requires.shared c.kept-2.ensures (subst IsJobOver c.job-job.ensures c.kept-3.ensures) c.requires.base c.requires.row in
    let t : KeptTrail = c.in_ok-kept.kept in
    let over = c.in_ok-kept.ensures in
    ends_as shared ms o (c.requires.row).0 c.args.trail.products.items c.args.trail.last row c.in_ok-products.products.items c.in_ok-products.i c.in_ok-products.j
    traced t over.products_are
    (λ i. record t {
      ring = over.ring i;
      rank = over.rank i;
      generators = over.generators i;
      start = over.start_is i;
      vector = (over.vector_is ∙ c.zero.ensures) i;
      members = over.members i;
      last = over.last_is i;
    })
