use Rattle.std.proofs.Common.{refl}
use Rattle.script_forms.proofs.VectorLists.{outer_cut_here, reading_begins, vectors_end, vectors_end_not, vectors_fail, vectors_go}
use Rattle.script_forms.proofs.vectors.vectors.Goals as goal

pub loop-at-init : goal.loop-at-init
loop-at-init c = reading_begins c.args.tokens.now _ _ _ refl c.new-found.ensures.items refl

pub returns-in-Err : goal.returns-in-Err
returns-in-Err c =
    let rest = c.loop-at.rest.now in
    let piece = c.split_at.result.0.now in
    let after = c.in-Some-split_first.after.now in
    let k = outer_cut_here rest piece c.split_at.result.1.now after c.in-Some-split_first.field-0-0.now c.in-Some.at c.in-Some.ensures.found.1 c.split_at.ensures.front c.split_at.ensures.back c.split_at.ensures.by_index.0 c.in-Some-split_first.ensures.cases.0 in
    vectors_fail c.args.tokens.now rest piece after c.loop-at.found.items c.push_vector.new.found.items c.loop-at.shape c.in-Err.stop k.0 k.1 c.loop-at.invariant c.in-Err.ensures

pub loop-at-preserved : goal.loop-at-preserved
loop-at-preserved c =
    let rest = c.loop-at.rest.now in
    let piece = c.split_at.result.0.now in
    let after = c.in-Some-split_first.after.now in
    let k = outer_cut_here rest piece c.split_at.result.1.now after c.in-Some-split_first.field-0-0.now c.in-Some.at c.in-Some.ensures.found.1 c.split_at.ensures.front c.split_at.ensures.back c.split_at.ensures.by_index.0 c.in-Some-split_first.ensures.cases.0 in
    vectors_go c.args.tokens.now rest piece after c.loop-at.found.items c.push_vector.new.found.items c.loop-at.shape c.further-shape.result c.in-Ok.count k.0 k.1 c.loop-at.invariant c.in-Ok.ensures c.further-shape.ensures

pub returns-in-Ok-push_vector : goal.returns-in-Ok-push_vector
returns-in-Ok-push_vector c = vectors_end c.args.tokens.now c.loop-at.rest.now c.loop-at.found.items c.push_vector-2.new.found c.loop-at.shape c.further.result c.in-Ok-push_vector.count c.loop-at.invariant c.in-Ok-push_vector.ensures c.further.ensures

pub returns-in-Err-push_vector : goal.returns-in-Err-push_vector
returns-in-Err-push_vector c = vectors_end_not c.args.tokens.now c.loop-at.rest.now c.loop-at.found.items c.push_vector-2.new.found.items c.loop-at.shape c.in-Err-push_vector.stop c.in_default.ensures.none c.loop-at.invariant c.in-Err-push_vector.ensures
