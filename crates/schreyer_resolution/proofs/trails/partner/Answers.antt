use Rattle.std.proofs.Common.{arith, false, sym, true, ◌∙◌, ◌≡◌}
use Rattle.term_lists.specs.Rings.{variables}
use Rattle.schreyer_resolution.proofs.Trailing.{key_inside, none_more, partner_no, partner_of_pair, partner_yes}
use Rattle.schreyer_resolution.proofs.trails.partner.Goals as goal

pub lead_key-left-requires-clause-index : goal.lead_key-left-requires-clause-index
lead_key-left-requires-clause-index c = key_inside (variables c.args.ring.now) c.args.columns.now c.args.key.now c.requires.pair

pub loop-j-init : goal.loop-j-init
loop-j-init c = λ i lt p. let l = p.later in omega (arith, lt, l)

pub returns-then-branch : goal.returns-then-branch
returns-then-branch c =
    let n = variables c.args.ring.now in
    partner_yes n c.args.columns.now c.args.key.now c.loop-j.j c.lead_key-left.result.now c.lead_key-right.result.now _ (c.lead_key-left.ensures.lead n) (c.lead_key-right.ensures.lead n) c.in_ok-is_pair.ensures c.if-branch.true (omega arith) (omega arith)

pub loop-j-preserved : goal.loop-j-preserved
loop-j-preserved c =
    let n = variables c.args.ring.now in
    none_more n c.args.columns.now c.args.key.now c.loop-j.j c.loop-j.invariant
    (partner_no n c.args.columns.now c.args.key.now c.loop-j.j c.lead_key-left.result.now c.lead_key-right.result.now _ (c.lead_key-left.ensures.lead n) (c.lead_key-right.ensures.lead n) c.in_ok-is_pair.ensures (λ t. let e : false ≡ true = sym c.if-branch.false ∙ t in cc))

pub unreachable-requires : goal.unreachable-requires
unreachable-requires c =
    let n = variables c.args.ring.now in
    let p = partner_of_pair n c.args.columns.now c.args.key.now c.requires.pair in
    c.loop-j.invariant p.0 (let l = p.1.inside in omega (arith, l)) p.1
