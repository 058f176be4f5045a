use Rattle.std.proofs.Common.{arith, subst, ◌≡◌, ◌≢◌}
use Rattle.poly_text.proofs.Entries.{run_stops, run_more, run_ends}
use Rattle.poly_text.proofs.vector.run_length.Goals as goal

pub returns-then-from-position : goal.returns-then-from-position
returns-then-from-position c =
    let other = subst (λ p. p ≢ c.args.position) c.from.ensures c.if-from-position.true in
    run_stops _ _ _ c.index-terms-i.result c.loop-i-test.true c.index-terms-i.is other c.loop-i.invariant

pub loop-i-preserved : goal.loop-i-preserved
loop-i-preserved c =
    let same = subst (λ p. p ≡ c.args.position) c.from.ensures c.if-from-position.false in
    run_more _ _ _ c.index-terms-i.result c.loop-i-test.true c.index-terms-i.is same c.loop-i.invariant

pub returns : goal.returns
returns c = run_ends _ _ c.loop-i.i (omega arith) (omega arith) c.loop-i.invariant
