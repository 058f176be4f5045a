use Rattle.script_forms.proofs.Pieces.{cut_here, reading_ends, reading_ends_not, reading_fails, reading_goes}
use Rattle.script_forms.proofs.polynomials.polynomials.Goals as goal

pub returns-in-Err : goal.returns-in-Err
returns-in-Err c =
    let rest = c.loop-at.rest.now in
    let piece = c.split_at.result.0.now in
    let after = c.in-Some-split_first.after.now in
    let k = cut_here rest piece c.split_at.result.1.now after c.in-Some-split_first.field-0-0.now c.in-Some.at c.in-Some.ensures.found.1 c.split_at.ensures.front c.split_at.ensures.back c.split_at.ensures.by_index.0 c.in-Some-split_first.ensures.cases.0 in
    reading_fails c.args.tokens.now rest piece after c.loop-at.found.items c.push_polynomial.new.found.items c.in-Err.stop k.0 k.1 c.loop-at.invariant c.in-Err.ensures

pub loop-at-preserved : goal.loop-at-preserved
loop-at-preserved c =
    let rest = c.loop-at.rest.now in
    let piece = c.split_at.result.0.now in
    let after = c.in-Some-split_first.after.now in
    let k = cut_here rest piece c.split_at.result.1.now after c.in-Some-split_first.field-0-0.now c.in-Some.at c.in-Some.ensures.found.1 c.split_at.ensures.front c.split_at.ensures.back c.split_at.ensures.by_index.0 c.in-Some-split_first.ensures.cases.0 in
    reading_goes c.args.tokens.now rest piece after c.loop-at.found.items c.push_polynomial.new.found.items k.0 k.1 c.loop-at.invariant c.in-Ok.ensures

pub returns-in-Ok-push_polynomial : goal.returns-in-Ok-push_polynomial
returns-in-Ok-push_polynomial c = reading_ends c.args.tokens.now c.loop-at.rest.now c.loop-at.found.items c.push_polynomial-2.new.found c.in_default.ensures.none c.loop-at.invariant c.in-Ok-push_polynomial.ensures

pub returns-in-Err-push_polynomial : goal.returns-in-Err-push_polynomial
returns-in-Err-push_polynomial c = reading_ends_not c.args.tokens.now c.loop-at.rest.now c.loop-at.found.items c.push_polynomial-2.new.found.items c.in-Err-push_polynomial.stop c.in_default.ensures.none c.loop-at.invariant c.in-Err-push_polynomial.ensures
