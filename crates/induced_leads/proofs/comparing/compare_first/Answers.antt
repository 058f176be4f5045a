use Rattle.std.proofs.Common.{ap₂, arith, length, sym, ◌∙◌}
use Rattle.std.specs.Ordering.{nat_cmp}
use Rattle.induced_leads.specs.Heads.{summed}
use Rattle.induced_leads.proofs.Summing.{length-summed, lex_at, lex_same}
use Rattle.induced_leads.proofs.comparing.compare_first.Goals as goal

pub returns-then-left-right : goal.returns-then-left-right
returns-then-left-right c =
    let xs = summed c.args.a.now c.args.e.now in
    let ys = summed c.args.b.now c.args.f.now in
    c.cmp.ensures ∙ ap₂ nat_cmp c.place-left.ensures.sum c.place-right.ensures.sum
    ∙ sym (lex_at (length c.args.a.now) xs ys c.loop-k.k (length-summed c.args.a.now c.args.e.now) (length-summed c.args.b.now c.args.f.now ∙ c.requires.right.count) (omega arith) c.loop-k.invariant
    (λ q. c.if-left-right.true (c.place-left.ensures.sum ∙ q ∙ sym c.place-right.ensures.sum)))

pub returns : goal.returns
returns c =
    let xs = summed c.args.a.now c.args.e.now in
    let ys = summed c.args.b.now c.args.f.now in
    sym (lex_same (length c.args.a.now) xs ys (length-summed c.args.a.now c.args.e.now) (length-summed c.args.b.now c.args.f.now ∙ c.requires.right.count) (λ x lt. c.loop-k.invariant x (omega arith)))
