use Rattle.std.proofs.Common.{IfOk, List, arith, filter, length, subst, sym, ◌<◌, ◌∙◌, ◌≡◌}
use Rattle.std.proofs.lemmas.Result.{IfOk-weaker}
use Rattle.formal_sums.specs.FormalSums.{Each}
use Rattle.member_products.proofs.Ranks.{ring_lawful}
use Rattle.term_lists.specs.Rings.{ring_comparison, setting, variables}
use Rattle.pair_criteria.specs.declared.pair.Pair.{Pair as CodePair}
use Rattle.symbolic_prep.specs.Plans.{IsMemberPair}
use Rattle.f4_job.specs.Solved.{AreNewRows}
use Rattle.f4_job.specs.Tails.{needs_rows}
use Rattle.f4_job.specs.declared.solving.NewRows.{NewRows}
use Rattle.f4_job.proofs.NeededPairs.{filtered_each, no_rows, pairs_within, rows_of_all}
use Rattle.f4_job.proofs.solving.new_rows.Goals as goal

pub returns-then-count-eq0 : goal.returns-then-count-eq0
returns-then-count-eq0 g c = λ rank.
    let ring = c.args.ring.now in
    let n = variables ring in
    let list = g.L.Vectors.listed c.args.members.now in
    let S = setting ring n (ring_comparison ring n) rank in
    let none : length (filter (needs_rows list) c.args.pairs.now) ≡ 0 = sym c.count_needing-count.ensures ∙ c.if-count-eq0.true in
    rw (c.new-then-count-eq0-2.ensures.items, c.new.ensures.items, c.new-then-count-eq0.ensures.items)
    (no_rows n S (ring_lawful ring rank) list c.requires.monic c.args.pairs.now c.requires.pairs none)

pub pairs_needing-requires : goal.pairs_needing-requires
pairs_needing-requires g c =
    let ring = c.args.ring.now in
    pairs_within (variables ring) ring.weights (g.L.Vectors.listed c.args.members.now) c.args.pairs.now c.requires.pairs

pub rows_of-requires-2-clause-pairs : goal.rows_of-requires-2-clause-pairs
rows_of-requires-2-clause-pairs g c κs within =
    let ring = c.args.ring.now in
    let list = g.L.Vectors.listed c.args.members.now in
    let P = IsMemberPair (variables ring) ring.weights list in
    subst (Each P) (sym (c.deref.ensures.value ∙ c.in_ok-needing.ensures)) (filtered_each P (needs_rows list) c.args.pairs.now c.requires.pairs)

pub returns : goal.returns
returns g c = λ rank.
    let ring = c.args.ring.now in
    let n = variables ring in
    let list = g.L.Vectors.listed c.args.members.now in
    let pairs = c.args.pairs.now in
    let S = setting ring n (ring_comparison ring n) rank in
    let needing = filter (needs_rows list) pairs in
    let some : 0 < length (filter (needs_rows list) pairs) = omega (arith, c.count_needing-count.ensures, c.if-count-eq0.false) in
    IfOk-weaker c.rows_of-2.result
    (λ (r : NewRows). AreNewRows n S list needing r.products.items r.columns.items r.rows.items)
    (λ (r : NewRows). AreNewRows n S list pairs r.products.items r.columns.items r.rows.items)
    (λ (r : NewRows) h. rows_of_all n S (ring_lawful ring rank) list c.requires.monic pairs c.requires.pairs
    r.products.items r.columns.items r.rows.items some h)
    (subst (λ (ps : List CodePair). IfOk c.rows_of-2.result (λ (r : NewRows). AreNewRows n S list ps r.products.items r.columns.items r.rows.items))
    (c.deref.ensures.value ∙ c.in_ok-needing.ensures) (c.rows_of-2.ensures rank))
