use Rattle.std.proofs.Common.{Contains, ap, arith, length, subst, sym, ◌+◌, ◌<◌, ◌∙◌, ◌≡◌}
use Rattle.std.proofs.lemmas.List.{length_push}
use Rattle.monomials.specs.Exponents.{Divides, exponents_of}
use Rattle.formal_sums.specs.FormalSums.{Each}
use Rattle.bases.specs.Leads.{head_key}
use Rattle.term_lists.specs.Rings.{variables}
use Rattle.term_lists.specs.Vectors.{IsMonomialOver, sum_of}
use Rattle.symbolic_prep.proofs.Closing.{later_itself, later_of_more, top_found, top_step}
use Rattle.symbolic_prep.proofs.Planning.{terms_weighed}
use Rattle.symbolic_prep.proofs.Tracing.{top_stop, top_traced}
use Rattle.symbolic_prep.proofs.pairs.add_top.Goals as goal

pub factor_of-requires-clause-vector : goal.factor_of-requires-clause-vector
factor_of-requires-clause-vector g c =
    let ring = c.args.ring.now in
    subst (Each (λ t. IsMonomialOver ring t.0.monomial)) (sym c.at.ensures)
    (terms_weighed (variables ring) ring.weights (g.L.Vectors.listed c.args.members.now) c.args.member c.requires.weighed c.requires.member)

pub factor_of-requires-clause-divides : goal.factor_of-requires-clause-divides
factor_of-requires-clause-divides g c =
    let n = variables c.args.ring.now in
    subst (λ v. Divides (head_key (sum_of n v)).1 (exponents_of n c.args.pair.now.lcm.monomial.exponents)) (sym c.at.ensures) c.requires.divides

pub factor_of-requires-clause-some : goal.factor_of-requires-clause-some
factor_of-requires-clause-some g c = subst (λ v. 0 < length v) (sym c.at.ensures) c.requires.some

pub add_product-requires-clause-product : goal.add_product-requires-clause-product
add_product-requires-clause-product g c = record { member = c.requires.member; some = c.requires.some; weighed = c.in_ok-t.ensures.weighed }

pub returns-in-Ok-clause-later : goal.returns-in-Ok-clause-later
returns-in-Ok-clause-later g c =
    let ring = c.args.ring.now in
    let p = c.args.plan.now in
    let q = c.add_product.new.plan in
    later_of_more (variables ring) ring.weights (g.L.Vectors.listed c.args.members.now) p.keys q.keys p.rows.items q.rows.items p.products.items q.products.items p.led.items q.led.items
    (c.args.member, c.in_ok-t.t) c.in-Ok.ensures.planned

pub returns-in-Ok-clause-top : goal.returns-in-Ok-clause-top
returns-in-Ok-clause-top g c =
    let ring = c.args.ring.now in (
      length c.args.plan.now.products.items,
      top_step (variables ring) ring.weights (g.L.Vectors.listed c.args.members.now) c.args.plan.now.products.items c.add_product.new.plan.products.items c.args.pair.now.lcm c.args.member c.in_ok-t.t c.at.result.now
          c.at.ensures c.in_ok-t.ensures c.in-Ok.ensures.planned.products_more,
    )

pub returns-in-Ok-clause-traced : goal.returns-in-Ok-clause-traced
returns-in-Ok-clause-traced g c =
    let ring = c.args.ring.now in
    top_traced (variables ring) ring.weights (g.L.Vectors.listed c.args.members.now) c.args._pairs.now c.args.plan.now.products.items c.add_product.new.plan.products.items c.args.pair.now c.args.member c.in_ok-t.t c.at.result.now
    c.requires.traced c.in-Ok.ensures.planned.products_more c.at.ensures c.requires.position c.in_ok-t.ensures c.requires.pair

pub returns-in-Err-clause-stop : goal.returns-in-Err-clause-stop
returns-in-Err-clause-stop g c =
    let ring = c.args.ring.now in
    let p = c.args.plan.now in
    top_stop (variables ring) ring.weights (g.L.Vectors.listed c.args.members.now) c.args._pairs.now p.keys p.rows.items p.products.items c.add_product.new.plan.products.items p.led.items
    c.args.pair.now c.args.member c.in_ok-t.t c.at.result.now c.in-Err.stop
    c.requires.plan c.requires.traced c.requires.weighed (record { member = c.requires.member; some = c.requires.some; weighed = c.in_ok-t.ensures.weighed })
    c.at.ensures c.requires.position c.in_ok-t.ensures c.requires.pair c.in-Err.ensures.stop

pub returns-in-Ok-clause-one : goal.returns-in-Ok-clause-one
returns-in-Ok-clause-one g c =
    let more = c.in-Ok.ensures.planned.rows_more in
    let e : length c.add_product.new.plan.rows.items ≡ length c.args.plan.now.rows.items + 1 = ap length more.1 ∙ length_push c.args.plan.now.rows.items more.0 in
    omega arith

pub returns-then-has_product-clause-later : goal.returns-then-has_product-clause-later
returns-then-has_product-clause-later g c =
    let ring = c.args.ring.now in
    let p = c.args.plan.now in
    later_itself (variables ring) ring.weights (g.L.Vectors.listed c.args.members.now) p.keys p.rows.items p.products.items p.led.items c.requires.plan

pub returns-then-has_product-clause-top : goal.returns-then-has_product-clause-top
returns-then-has_product-clause-top g c =
    let ring = c.args.ring.now in
    let p = c.args.plan.now in
    top_found (variables ring) ring.weights (g.L.Vectors.listed c.args.members.now) p.products.items c.args.pair.now.lcm c.args.member c.in_ok-t.t c.at.result.now
    c.at.ensures c.in_ok-t.ensures (subst (λ xs. Contains xs (c.args.member, c.in_ok-t.t)) c.deref.ensures.value (c.has_product.ensures c.if-has_product.true))

pub add_product-requires-clause-weighed : goal.add_product-requires-clause-weighed
add_product-requires-clause-weighed g c = c.requires.weighed
