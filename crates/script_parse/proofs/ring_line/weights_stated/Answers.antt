use Rattle.std.proofs.Common.{subst}
use Rattle.std.specs.Option.{option_map}
use Rattle.script_parse.specs.Tests.{AreWeighedAll}
use Rattle.script_parse.proofs.RingNumbers.{good_weights, some_tokens, weighed_positive}
use Rattle.script_parse.proofs.ring_line.weights_stated.Goals as goal

pub from_vec-requires : goal.from_vec-requires
from_vec-requires c =
    let weighed = subst (λ o. AreWeighedAll c.args.line.now c.args.tokens.now (option_map (λ v. v.items) o)) c.in-Some.is c.in_ok-weights.ensures in
    weighed_positive c.args.line.now c.args.tokens.now c.in-Some.weights.items weighed

pub returns-in-Some : goal.returns-in-Some
returns-in-Some c =
    let weighed = subst (λ o. AreWeighedAll c.args.line.now c.args.tokens.now (option_map (λ v. v.items) o)) c.in-Some.is c.in_ok-weights.ensures in
    good_weights c.args.line.now c.args.n c.args.tokens.now c.in-Some.weights.items c.from_vec.result
    (some_tokens c.args.tokens.now c.is_empty.result c.is_empty.ensures c.if-is_empty.false) c.if-tokens-n.false weighed c.from_vec.ensures
