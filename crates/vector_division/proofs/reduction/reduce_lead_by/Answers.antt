use Rattle.std.proofs.Common.{subst, sym}
use Rattle.formal_sums.specs.FormalSums.{Each}
use Rattle.term_lists.specs.Rings.{variables}
use Rattle.term_lists.specs.Vectors.{IsTerm}
use Rattle.vector_division.specs.Divisors.{AreFreeKeys}
use Rattle.vector_division.proofs.Ending.{ended_lead}
use Rattle.vector_division.proofs.Keeping.{kept_lead}
use Rattle.vector_division.proofs.reduction.reduce_lead_by.Goals as goal

pub take_products-requires-clause-vector : goal.take_products-requires-clause-vector
take_products-requires-clause-vector g c = c.requires.vector

pub take_products-requires-clause-list : goal.take_products-requires-clause-list
take_products-requires-clause-list g c = c.requires.list

pub take_products-requires-clause-divisors : goal.take_products-requires-clause-divisors
take_products-requires-clause-divisors g c = c.requires.divisors

pub take_products-requires-clause-free : goal.take_products-requires-clause-free
take_products-requires-clause-free g c =
    subst (AreFreeKeys (variables (g.F.Frame.over c.args.frame.now)) (g.L.Vectors.listed c.args.list.now)) (sym c.new.ensures) tt

pub behind-requires-clause-runs : goal.behind-requires-clause-runs
behind-requires-clause-runs g c = c.in_ok-quotients.ensures.kept.lists

pub behind-requires-clause-term : goal.behind-requires-clause-term
behind-requires-clause-term g c =
    let ring = g.F.Frame.over c.args.frame.now in
    let n = variables ring in
    let t = c.in_ok-quotients.field-0 in
    let h = c.in_ok-quotients.ensures in
    let one = ended_lead n (g.F.Frame.compare c.args.frame.now n) t.left t.rest.items c.pop.new.self.items c.in-Some.lead c.in-Some.ensures.items h.ended in
    (subst (Each (IsTerm n ring.weights ring.modulus.value)) one.0 h.kept.stay).0

pub behind-requires-clause-below : goal.behind-requires-clause-below
behind-requires-clause-below g c =
    let n = variables (g.F.Frame.over c.args.frame.now) in
    let t = c.in_ok-quotients.field-0 in
    let h = c.in_ok-quotients.ensures in
    (ended_lead n (g.F.Frame.compare c.args.frame.now n) t.left t.rest.items c.pop.new.self.items c.in-Some.lead c.in-Some.ensures.items h.ended).1

pub returns-clause-sum : goal.returns-clause-sum
returns-clause-sum g c =
    let ring = g.F.Frame.over c.args.frame.now in
    let n = variables ring in
    let compare = g.F.Frame.compare c.args.frame.now n in
    let t = c.in_ok-quotients.field-0 in
    let h = c.in_ok-quotients.ensures in
    kept_lead n ring.weights ring.modulus.value compare (g.met.F.Frame.laws c.args.frame.now n 0)
    c.args.v.now (g.L.Vectors.listed c.args.list.now) t.quotients.items t.rest.items c.in_ok-behind-in-Some.field-0 t.left c.in-Some.lead
    h.kept (ended_lead n compare t.left t.rest.items c.pop.new.self.items c.in-Some.lead c.in-Some.ensures.items h.ended).0
    c.in_ok-behind-in-Some.ensures.sum
