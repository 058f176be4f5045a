use Rattle.std.proofs.Common.{[], arith, false, get_or, inl, length, subst, true, ◌++◌, ◌∙◌, ◌∷◌, ◌≡◌, ◌≤◌}
use Rattle.std.proofs.lemmas.List.{get_or_past}
use Rattle.term_lists.specs.Rings.{variables}
use Rattle.row_matrix.specs.Hashes.{AreDistinctKeys}
use Rattle.row_matrix.specs.Rows.{first_column}
use Rattle.symbolic_prep.proofs.Closing.{key_read, later_itself, lead_is, now_marked}
use Rattle.symbolic_prep.proofs.Counting.{not_a_lead, sparse_push}
use Rattle.symbolic_prep.proofs.Tracing.{reducer_stop, reducer_traced}
use Rattle.symbolic_prep.proofs.reducers.add_reducer.Goals as goal
use Rattle.symbolic_prep.proofs.reducers.add_reducer.Goals.{then-cursor-len+else-index, else-cursor-len}

pub returns-then-index-clause-later : goal.returns-then-index-clause-later
returns-then-index-clause-later g c =
    let p = c.args.plan.now in
    later_itself (variables c.args.ring.now) c.args.ring.now.weights (g.L.Vectors.listed c.args.members.now) p.keys p.rows.items p.products.items p.led.items c.requires.plan

pub returns-in-None-clause-later : goal.returns-in-None-clause-later
returns-in-None-clause-later g c =
    let p = c.args.plan.now in
    later_itself (variables c.args.ring.now) c.args.ring.now.weights (g.L.Vectors.listed c.args.members.now) p.keys p.rows.items p.products.items p.led.items c.requires.plan

pub returns-in-Ok-clause-closed : goal.returns-in-Ok-clause-closed
returns-in-Ok-clause-closed g c =
    let ring = c.args.ring.now in
    let n = variables ring in
    let list = g.L.Vectors.listed c.args.members.now in
    let p = c.args.plan.now in
    let q = c.add_product.new.plan in
    let key = c.index-keys-cursor.result in
    let r = key_read n ring.weights p.keys c.keys-keys.result.now c.args.cursor key c.requires.plan.monomials c.requires.within c.keys-keys.ensures.keys c.index-keys-cursor.is in
    inl (now_marked n ring.weights list p.keys q.keys c.keys-keys-in-Ok.result.now p.rows.items q.rows.items p.products.items q.products.items p.led.items q.led.items
    (c.in-Some.member, c.in-Some.t) c.args.cursor key r.1 (rw c.in-Some.is at c.in_ok-found.ensures) c.in-Ok.ensures.planned c.keys-keys-in-Ok.ensures.keys c.keys-keys-in-Ok.ensures.apart c.requires.within)

pub returns-in-Ok-clause-traced : goal.returns-in-Ok-clause-traced
returns-in-Ok-clause-traced g c =
    let ring = c.args.ring.now in
    let n = variables ring in
    let list = g.L.Vectors.listed c.args.members.now in
    let p = c.args.plan.now in
    let q = c.add_product.new.plan in
    let key = c.index-keys-cursor.result in
    let r = key_read n ring.weights p.keys c.keys-keys.result.now c.args.cursor key c.requires.plan.monomials c.requires.within c.keys-keys.ensures.keys c.index-keys-cursor.is in
    reducer_traced n ring.weights list c.args._pairs.now p.keys p.rows.items p.products.items q.products.items p.led.items
    (c.in-Some.member, c.in-Some.t) c.args.cursor key c.requires.plan c.requires.traced c.requires.within r.1 (rw c.in-Some.is at c.in_ok-found.ensures) c.in-Ok.ensures.planned.products_more

pub returns-in-Err-clause-stop : goal.returns-in-Err-clause-stop
returns-in-Err-clause-stop g c =
    let ring = c.args.ring.now in
    let n = variables ring in
    let list = g.L.Vectors.listed c.args.members.now in
    let p = c.args.plan.now in
    let key = c.index-keys-cursor.result in
    let r = key_read n ring.weights p.keys c.keys-keys.result.now c.args.cursor key c.requires.plan.monomials c.requires.within c.keys-keys.ensures.keys c.index-keys-cursor.is in
    reducer_stop n ring.weights list c.args._pairs.now p.keys p.rows.items p.products.items c.add_product.new.plan.products.items p.led.items
    (c.in-Some.member, c.in-Some.t) c.args.cursor key c.in-Err.stop c.requires.plan c.requires.traced c.requires.weighed c.requires.within r.1 (rw c.in-Some.is at c.in_ok-found.ensures) c.in-Err.ensures.stop

pub returns-then-index-clause-sparse : goal.returns-then-index-clause-sparse
returns-then-index-clause-sparse g c = λ chosen others h. (chosen, h)

pub returns-in-None-clause-sparse : goal.returns-in-None-clause-sparse
returns-in-None-clause-sparse g c = λ chosen others h. (chosen, h)

pub returns-in-Ok-clause-sparse : goal.returns-in-Ok-clause-sparse
returns-in-Ok-clause-sparse g c = λ chosen others h.
    let ring = c.args.ring.now in
    let n = variables ring in
    let list = g.L.Vectors.listed c.args.members.now in
    let p = c.args.plan.now in
    let q = c.add_product.new.plan in
    let key = c.index-keys-cursor.result in
    let r = key_read n ring.weights p.keys c.keys-keys.result.now c.args.cursor key c.requires.plan.monomials c.requires.within c.keys-keys.ensures.keys c.index-keys-cursor.is in
    let d = rw c.in-Some.is at c.in_ok-found.ensures in
    let planned = c.in-Ok.ensures.planned in
    let free : get_or p.led.items c.args.cursor false ≡ true → ⊥ = λ marked. elim c.if-cursor-len.branch [
      | then-cursor-len+else-index w ↦ grind (arith, marked, w.if-index.false, w.index.ensures)
      | else-cursor-len w ↦
          let le : length p.led.items ≤ c.args.cursor = omega (arith, w.if-cursor-len.false, c.len.ensures) in
          let none : get_or p.led.items c.args.cursor false ≡ false = get_or_past p.led.items c.args.cursor false le in
          cc
    ] in
    let apart = subst AreDistinctKeys c.keys-keys-in-Ok.ensures.keys c.keys-keys-in-Ok.ensures.apart in
    let lead = lead_is n ring.weights list p.keys q.keys p.rows.items q.rows.items p.products.items q.products.items p.led.items q.led.items
    (c.in-Some.member, c.in-Some.t) c.args.cursor planned apart c.requires.within (d.lead ∙ r.1) in (
      chosen ++ length p.rows.items ∷ [],
      sparse_push p.rows.items q.rows.items chosen others planned.rows_more.0 planned.rows_more.1 h
          (not_a_lead n ring.weights list p.keys p.rows.items p.products.items p.led.items (first_column planned.rows_more.0.entries) c.args.cursor c.requires.plan free lead),
    )

pub find_divisor-requires-clause-list : goal.find_divisor-requires-clause-list
find_divisor-requires-clause-list g c = c.requires.weighed

pub find_divisor-requires-clause-divisors : goal.find_divisor-requires-clause-divisors
find_divisor-requires-clause-divisors g c = c.requires.divisors

pub add_product-requires-clause-weighed : goal.add_product-requires-clause-weighed
add_product-requires-clause-weighed g c = c.requires.weighed
