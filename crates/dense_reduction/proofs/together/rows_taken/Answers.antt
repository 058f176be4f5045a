use Rattle.std.proofs.Common.{List, [], ap, get_or, sym, take, ℕ, ◌++◌, ◌∙◌, ◌∷◌}
use Rattle.std.proofs.lemmas.List.{take_more}
use Rattle.dense_reduction.proofs.Lanes.{lane_taken_push}
use Rattle.dense_reduction.specs.Together.{lane_taken}
use Rattle.dense_reduction.proofs.together.rows_taken.Goals as goal

pub loop-one-preserved : goal.loop-one-preserved
loop-one-preserved c =
    let taken = c.args.taken.now in
    let i = c.loop-one.one-index in
    let d : ℕ × List ℕ = (0, []) in
    let e : ℕ × List ℕ = get_or taken i d in
    let more = ap (lane_taken c.args.j) (take_more taken i d c.loop-one-test.true) ∙ lane_taken_push c.args.j (take i taken) e in
    c.in_ok-push-2.ensures.items ∙ ap (λ es. es ++ (e.0, get_or e.1 c.args.j 0) ∷ []) c.loop-one.invariant ∙ ap (λ es. c.args.first ∷ es) (sym more)
