use Rattle.std.proofs.Common.{[], subst, sym}
use Rattle.std.proofs.lemmas.List.{take_all}
use Rattle.script_parse.specs.Tests.{AreListedWeights}
use Rattle.script_parse.proofs.RingNumbers.{outside_weight, weighed_go}
use Rattle.script_parse.proofs.ring_line.weights_listed.Goals as goal

pub loop-token-preserved : goal.loop-token-preserved
loop-token-preserved c =
    weighed_go c.args.line.now c.args.tokens.now c.loop-token.token-index _ c.loop-token.weights.items c.push.new.self.items c.in-Some.weight
    c.loop-token-test.true c.in_ok-push.ensures.items c.loop-token.invariant c.in-Some.ensures.0 c.in-Some.ensures.1

pub loop-token-init : goal.loop-token-init
loop-token-init c = subst (AreListedWeights c.args.line.now []) (sym c.in_ok-weights.ensures.items) tt

pub returns-in_default : goal.returns-in_default
returns-in_default c = outside_weight c.args.line.now c.args.tokens.now c.loop-token.token-index _ c.loop-token-test.true c.in_default.ensures

pub returns : goal.returns
returns c =
    subst (λ ts. AreListedWeights c.args.line.now ts c.loop-token.weights.items)
    (take_all c.loop-token.token-index c.args.tokens.now c.loop-token-test.false) c.loop-token.invariant
