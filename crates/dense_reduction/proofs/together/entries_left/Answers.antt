use Rattle.std.proofs.Common.{List, [], ap, append-nil, get_or, refl, sym, take, ℕ, ◌+◌, ◌++◌, ◌∙◌, ◌∷◌, ◌≡◌}
use Rattle.dense_reduction.proofs.Lanes.{lane_left_more, put_none, put_some}
use Rattle.dense_reduction.specs.Together.{lane_left, put_residue}
use Rattle.dense_reduction.proofs.together.entries_left.Goals as goal
use Rattle.dense_reduction.proofs.together.entries_left.Goals.{then-one-j-ne0+in_ok-push, else-one-j-ne0}

pub loop-one-preserved : goal.loop-one-preserved
loop-one-preserved c =
    let left = c.args.left.now in
    let i = c.loop-one.one-index in
    let d : ℕ × List ℕ = (0, []) in
    let e : ℕ × List ℕ = get_or left i d in
    let r = get_or e.1 c.args.j 0 in
    let front = lane_left c.args.j (take i left) in
    let more : lane_left c.args.j (take (i + 1) left) ≡ front ++ put_residue e.0 r [] =
    lane_left_more c.args.j i e.0 r left d c.loop-one-test.true refl refl in
    elim c.if-one-j-ne0.branch [
      | then-one-j-ne0+in_ok-push w ↦
          rw w.entries-is
          (w.in_ok-push.ensures.items ∙ ap (λ es. es ++ (e.0, r) ∷ []) c.loop-one.invariant
          ∙ sym (more ∙ ap (λ es. front ++ es) (put_some e.0 r [] w.if-one-j-ne0.true)))
      | else-one-j-ne0 w ↦
          rw w.entries-is
          (c.loop-one.invariant ∙ sym (more ∙ ap (λ es. front ++ es) (put_none e.0 r [] w.if-one-j-ne0.false) ∙ append-nil front))
    ]
