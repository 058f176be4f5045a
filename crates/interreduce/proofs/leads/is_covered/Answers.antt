use Rattle.std.proofs.Common.{IsTrue, [], false, get_or, length, refl, sym, true, ◌<◌, ◌↔◌, ◌∙◌, ◌≡◌, ◌≤◌}
use Rattle.std.proofs.lemmas.List.{get_or_default}
use Rattle.orders.specs.KeyOrders.{KeyDivides}
use Rattle.term_lists.proofs.Scaling.{Each_more}
use Rattle.term_lists.proofs.Parts.{Each_member}
use Rattle.module_vectors.specs.Trails.{lead_at}
use Rattle.interreduce.proofs.Choosing.{found, none_found}
use Rattle.interreduce.proofs.Leading.{divides_at}
use Rattle.interreduce.proofs.leads.is_covered.Goals as goal

pub lead_key-multiple-requires-clause-index : goal.lead_key-multiple-requires-clause-index
lead_key-multiple-requires-clause-index g c = c.requires.multiple

pub lead_key-multiple-requires-clause-some : goal.lead_key-multiple-requires-clause-some
lead_key-multiple-requires-clause-some g c = c.requires.some

pub loop-i-init : goal.loop-i-init
loop-i-init g c = λ n vars. tt

pub lead_key-divisor-requires-clause-index : goal.lead_key-divisor-requires-clause-index
lead_key-divisor-requires-clause-index g c =
    Each_member (λ i. i < length (g.L.Vectors.listed c.args.list.now)) c.args.kept.now c.loop-i.i-index 0 c.requires.divisors c.loop-i-test.true

pub lead_key-divisor-requires-clause-some : goal.lead_key-divisor-requires-clause-some
lead_key-divisor-requires-clause-some g c =
    Each_member (λ i. 0 < length (get_or (g.L.Vectors.listed c.args.list.now) i [])) c.args.kept.now c.loop-i.i-index 0 c.requires.leads c.loop-i-test.true

pub key_divides-requires : goal.key_divides-requires
key_divides-requires g c =
    let v = c.requires.variables in
    (c.lead_key-divisor.ensures v.0 v.1).1 ∙ sym (c.lead_key-multiple.ensures v.0 v.1).1

pub returns-then-key_divides : goal.returns-then-key_divides
returns-then-key_divides g c = λ n vars.
    let list = g.L.Vectors.listed c.args.list.now in
    let kept = c.args.kept.now in
    let i = c.loop-i.i-index in
    let lt : i < length kept = c.loop-i-test.true in
    let a = c.lead_key-divisor.ensures n vars in
    let b = c.lead_key-multiple.ensures n vars in
    found n list kept c.args.j i lt ((divides_at n (lead_at n list (get_or kept i 0)) (lead_at n list c.args.j) c.lead_key-divisor.result.now c.lead_key-multiple.result.now true a.0 a.1 b.0 c.if-key_divides.ensures).0 refl)

pub loop-i-preserved : goal.loop-i-preserved
loop-i-preserved g c = λ n vars.
    let list = g.L.Vectors.listed c.args.list.now in
    let kept = c.args.kept.now in
    let i = c.loop-i.i-index in
    let lt : i < length kept = c.loop-i-test.true in
    let a = c.lead_key-divisor.ensures n vars in
    let b = c.lead_key-multiple.ensures n vars in
    let told : IsTrue false ↔ KeyDivides (lead_at n list (get_or kept i 0)) (lead_at n list c.args.j) = divides_at n (lead_at n list (get_or kept i 0)) (lead_at n list c.args.j) c.lead_key-divisor.result.now c.lead_key-multiple.result.now false a.0 a.1 b.0 c.if-key_divides.ensures in
    Each_more (λ k. KeyDivides (lead_at n list k) (lead_at n list c.args.j) → ⊥) kept i (get_or kept i 0) (c.loop-i.invariant n vars) lt (get_or_default kept i 0 (get_or kept i 0) lt)
    (λ d. let t : false ≡ true = told.1 d in cc)

pub returns : goal.returns
returns g c = λ n vars.
    let le : length c.args.kept.now ≤ c.loop-i.i-index = c.loop-i-test.false in
    none_found n (g.L.Vectors.listed c.args.list.now) c.args.kept.now c.args.j c.loop-i.i-index le (c.loop-i.invariant n vars)
