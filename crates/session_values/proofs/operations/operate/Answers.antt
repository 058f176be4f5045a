use Rattle.std.proofs.Common.{IfOk, arith, refl, subst, sym}
use Rattle.std.proofs.lemmas.Result.{IfErr-weaker}
use Rattle.session_values.specs.Operations.{AreRunsOf, AreTrailsOf, IsResult, colon, eliminate, intersect, multiply, quotient, saturate, sum, syzygies}
use Rattle.session_values.specs.Runs.{most_runs}
use Rattle.session_values.specs.Tasks.{work_of}
use Rattle.risen_counts.specs.Counts.{RoseAtMost}
use Rattle.groebner_iface.proofs.CallingRuns.{more_stops}
use Rattle.session_values.proofs.operations.operate.Goals as goal

pub returns-in-Sum-clause-stop : goal.returns-in-Sum-clause-stop
returns-in-Sum-clause-stop g c =
    let rank = c.from.ensures in
    IfErr-weaker c.sum.result _ _
    (more_stops _ _ _ _ _ _ _ _
    (λ r m l h.
    subst (λ x. AreRunsOf c.args.ring.now (work_of x) r m l) (sym c.in-Sum.is)
    (subst (λ k. AreRunsOf c.args.ring.now (sum k c.in-Sum.left.now c.in-Sum.right.now) r m l) rank h))
    (λ t h. absurd h))
    c.sum.ensures.stop

pub returns-in-Product-clause-stop : goal.returns-in-Product-clause-stop
returns-in-Product-clause-stop g c =
    let rank = c.from-in-Product.ensures in
    IfErr-weaker c.product.result _ _
    (more_stops _ _ _ _ _ _ _ _
    (λ r m l h.
    subst (λ x. AreRunsOf c.args.ring.now (work_of x) r m l) (sym c.in-Product.is)
    (subst (λ k. AreRunsOf c.args.ring.now (multiply k c.in-Product.left.now c.in-Product.right.now) r m l) rank h))
    (λ t h. subst (λ x. AreTrailsOf c.args.ring.now (work_of x) t) (sym c.in-Product.is) h))
    c.product.ensures.stop

pub returns-in-Quotient-clause-stop : goal.returns-in-Quotient-clause-stop
returns-in-Quotient-clause-stop g c =
    let rank = c.from-in-Quotient.ensures in
    IfErr-weaker c.quotient.result _ _
    (more_stops _ _ _ _ _ _ _ _
    (λ r m l h.
    subst (λ x. AreRunsOf c.args.ring.now (work_of x) r m l) (sym c.in-Quotient.is)
    (subst (λ k. AreRunsOf c.args.ring.now (quotient k c.in-Quotient.list.now c.in-Quotient.f.now) r m l) rank h))
    (λ t h. absurd h))
    c.quotient.ensures.stop

pub returns-in-Eliminate-clause-stop : goal.returns-in-Eliminate-clause-stop
returns-in-Eliminate-clause-stop g c =
    let rank = c.from-in-Eliminate.ensures in
    IfErr-weaker c.eliminate.result _ _
    (more_stops _ _ _ _ _ _ _ _
    (λ r m l h.
    subst (λ x. AreRunsOf c.args.ring.now (work_of x) r m l) (sym c.in-Eliminate.is)
    (subst (λ k. AreRunsOf c.args.ring.now (eliminate k c.in-Eliminate.list.now c.in-Eliminate.k) r m l) rank h))
    (λ t h. absurd h))
    c.eliminate.ensures.stop

pub returns-in-Syzygies-clause-stop : goal.returns-in-Syzygies-clause-stop
returns-in-Syzygies-clause-stop g c =
    let rank = c.from-in-Syzygies.ensures in
    IfErr-weaker c.syzygies.result _ _
    (more_stops _ _ _ _ _ _ _ _
    (λ r m l h.
    subst (λ x. AreRunsOf c.args.ring.now (work_of x) r m l) (sym c.in-Syzygies.is)
    (subst (λ k. AreRunsOf c.args.ring.now (syzygies k c.in-Syzygies.list.now) r m l) rank h))
    (λ t h. absurd h))
    c.syzygies.ensures.stop

pub returns-in-Intersect-clause-stop : goal.returns-in-Intersect-clause-stop
returns-in-Intersect-clause-stop g c =
    let rank = c.from-in-Intersect.ensures in
    IfErr-weaker c.intersect.result _ _
    (more_stops _ _ _ _ _ _ _ _
    (λ r m l h.
    subst (λ x. AreRunsOf c.args.ring.now (work_of x) r m l) (sym c.in-Intersect.is)
    (subst (λ k. AreRunsOf c.args.ring.now (intersect k c.in-Intersect.left.now c.in-Intersect.right.now) r m l) rank h))
    (λ t h. subst (λ x. AreTrailsOf c.args.ring.now (work_of x) t) (sym c.in-Intersect.is) h))
    c.intersect.ensures.stop

pub returns-in-Saturate-clause-stop : goal.returns-in-Saturate-clause-stop
returns-in-Saturate-clause-stop g c =
    let rank = c.from-in-Saturate.ensures in
    IfErr-weaker c.saturate.result _ _
    (more_stops _ _ _ _ _ _ _ _
    (λ r m l h.
    subst (λ x. AreRunsOf c.args.ring.now (work_of x) r m l) (sym c.in-Saturate.is)
    (subst (λ k. AreRunsOf c.args.ring.now (saturate k c.in-Saturate.list.now c.in-Saturate.f.now) r m l) rank h))
    (λ t h. subst (λ x. AreTrailsOf c.args.ring.now (work_of x) t) (sym c.in-Saturate.is) h))
    c.saturate.ensures.stop

pub returns-else-len-gt-MOST_BLOCKS-clause-stop : goal.returns-else-len-gt-MOST_BLOCKS-clause-stop
returns-else-len-gt-MOST_BLOCKS-clause-stop g c =
    let rank = c.from-in-Colon.ensures in
    IfErr-weaker c.colon.result _ _
    (more_stops _ _ _ _ _ _ _ _
    (λ r m l h.
    subst (λ x. AreRunsOf c.args.ring.now (work_of x) r m l) (sym c.in-Colon.is)
    (subst (λ k. AreRunsOf c.args.ring.now (colon k c.in-Colon.list.now c.in-Colon.by.now) r m l) rank h))
    (λ t h. absurd h))
    c.colon.ensures.stop

pub returns-else-len-gt-MOST_BLOCKS-clause-result : goal.returns-else-len-gt-MOST_BLOCKS-clause-result
returns-else-len-gt-MOST_BLOCKS-clause-result g c =
    subst (λ x. IfOk c.colon.result (IsResult c.args.ring.now (work_of x))) (sym c.in-Colon.is) c.colon.ensures.basis

pub returns-in-Sum-clause-result : goal.returns-in-Sum-clause-result
returns-in-Sum-clause-result g c =
    subst (λ x. IfOk c.sum.result (IsResult c.args.ring.now (work_of x))) (sym c.in-Sum.is)
    (subst (λ k. IfOk c.sum.result (IsResult c.args.ring.now (sum k c.in-Sum.left.now c.in-Sum.right.now))) c.from.ensures c.sum.ensures.basis)

pub returns-in-Product-clause-result : goal.returns-in-Product-clause-result
returns-in-Product-clause-result g c =
    subst (λ x. IfOk c.product.result (IsResult c.args.ring.now (work_of x))) (sym c.in-Product.is)
    (subst (λ k. IfOk c.product.result (IsResult c.args.ring.now (multiply k c.in-Product.left.now c.in-Product.right.now))) c.from-in-Product.ensures
    c.product.ensures.basis)

pub returns-in-Intersect-clause-result : goal.returns-in-Intersect-clause-result
returns-in-Intersect-clause-result g c =
    subst (λ x. IfOk c.intersect.result (IsResult c.args.ring.now (work_of x))) (sym c.in-Intersect.is)
    (subst (λ k. IfOk c.intersect.result (IsResult c.args.ring.now (intersect k c.in-Intersect.left.now c.in-Intersect.right.now)))
    c.from-in-Intersect.ensures c.intersect.ensures.basis)

pub returns-in-Quotient-clause-result : goal.returns-in-Quotient-clause-result
returns-in-Quotient-clause-result g c =
    subst (λ x. IfOk c.quotient.result (IsResult c.args.ring.now (work_of x))) (sym c.in-Quotient.is)
    (subst (λ k. IfOk c.quotient.result (IsResult c.args.ring.now (quotient k c.in-Quotient.list.now c.in-Quotient.f.now))) c.from-in-Quotient.ensures
    c.quotient.ensures.basis)

pub returns-in-Saturate-clause-result : goal.returns-in-Saturate-clause-result
returns-in-Saturate-clause-result g c =
    subst (λ x. IfOk c.saturate.result (IsResult c.args.ring.now (work_of x))) (sym c.in-Saturate.is)
    (subst (λ k. IfOk c.saturate.result (IsResult c.args.ring.now (saturate k c.in-Saturate.list.now c.in-Saturate.f.now))) c.from-in-Saturate.ensures
    c.saturate.ensures.basis)

pub returns-in-Eliminate-clause-result : goal.returns-in-Eliminate-clause-result
returns-in-Eliminate-clause-result g c =
    subst (λ x. IfOk c.eliminate.result (IsResult c.args.ring.now (work_of x))) (sym c.in-Eliminate.is)
    (subst (λ k. IfOk c.eliminate.result (IsResult c.args.ring.now (eliminate k c.in-Eliminate.list.now c.in-Eliminate.k))) c.from-in-Eliminate.ensures
    c.eliminate.ensures.basis)

pub returns-in-Preimage-clause-stop : goal.returns-in-Preimage-clause-stop
returns-in-Preimage-clause-stop g c =
    IfErr-weaker c.preimage.result _ _
    (more_stops _ _ _ _ _ _ _ _
    (λ r m l h. subst (λ x. AreRunsOf c.args.ring.now (work_of x) r m l) (sym c.in-Preimage.is) h)
    (λ t h. absurd h))
    c.preimage.ensures.stop

pub returns-in-Preimage-clause-result : goal.returns-in-Preimage-clause-result
returns-in-Preimage-clause-result g c =
    subst (λ x. IfOk c.preimage.result (IsResult c.args.ring.now (work_of x))) (sym c.in-Preimage.is) c.preimage.ensures.basis

pub returns-in-Sum-clause-runs : goal.returns-in-Sum-clause-runs
returns-in-Sum-clause-runs g c =
    subst (λ x. RoseAtMost (most_runs c.args.ring.now (work_of x)) (g.B.Groebner.runs c.args.engine.now) (g.B.Groebner.runs c.sum.new.engine)) (sym c.in-Sum.is)
    c.sum.ensures.runs

pub returns-in-Product-clause-runs : goal.returns-in-Product-clause-runs
returns-in-Product-clause-runs g c =
    subst (λ x. RoseAtMost (most_runs c.args.ring.now (work_of x)) (g.B.Groebner.runs c.args.engine.now) (g.B.Groebner.runs c.product.new.engine)) (sym c.in-Product.is)
    c.product.ensures.runs

pub returns-in-Intersect-clause-runs : goal.returns-in-Intersect-clause-runs
returns-in-Intersect-clause-runs g c =
    subst (λ x. RoseAtMost (most_runs c.args.ring.now (work_of x)) (g.B.Groebner.runs c.args.engine.now) (g.B.Groebner.runs c.intersect.new.engine)) (sym c.in-Intersect.is)
    c.intersect.ensures.runs

pub returns-in-Quotient-clause-runs : goal.returns-in-Quotient-clause-runs
returns-in-Quotient-clause-runs g c =
    subst (λ x. RoseAtMost (most_runs c.args.ring.now (work_of x)) (g.B.Groebner.runs c.args.engine.now) (g.B.Groebner.runs c.quotient.new.engine)) (sym c.in-Quotient.is)
    c.quotient.ensures.runs

pub returns-in-Saturate-clause-runs : goal.returns-in-Saturate-clause-runs
returns-in-Saturate-clause-runs g c =
    subst (λ x. RoseAtMost (most_runs c.args.ring.now (work_of x)) (g.B.Groebner.runs c.args.engine.now) (g.B.Groebner.runs c.saturate.new.engine)) (sym c.in-Saturate.is)
    c.saturate.ensures.runs

pub returns-in-Eliminate-clause-runs : goal.returns-in-Eliminate-clause-runs
returns-in-Eliminate-clause-runs g c =
    subst (λ x. RoseAtMost (most_runs c.args.ring.now (work_of x)) (g.B.Groebner.runs c.args.engine.now) (g.B.Groebner.runs c.eliminate.new.engine)) (sym c.in-Eliminate.is)
    c.eliminate.ensures.runs

pub returns-in-Syzygies-clause-runs : goal.returns-in-Syzygies-clause-runs
returns-in-Syzygies-clause-runs g c =
    subst (λ x. RoseAtMost (most_runs c.args.ring.now (work_of x)) (g.B.Groebner.runs c.args.engine.now) (g.B.Groebner.runs c.syzygies.new.engine)) (sym c.in-Syzygies.is)
    c.syzygies.ensures.runs

pub returns-in-Preimage-clause-runs : goal.returns-in-Preimage-clause-runs
returns-in-Preimage-clause-runs g c =
    subst (λ x. RoseAtMost (most_runs c.args.ring.now (work_of x)) (g.B.Groebner.runs c.args.engine.now) (g.B.Groebner.runs c.preimage.new.engine)) (sym c.in-Preimage.is)
    c.preimage.ensures.runs

pub returns-else-len-gt-MOST_BLOCKS-clause-runs : goal.returns-else-len-gt-MOST_BLOCKS-clause-runs
returns-else-len-gt-MOST_BLOCKS-clause-runs g c =
    subst (λ x. RoseAtMost (most_runs c.args.ring.now (work_of x)) (g.B.Groebner.runs c.args.engine.now) (g.B.Groebner.runs c.colon.new.engine)) (sym c.in-Colon.is)
    c.colon.ensures.runs

pub returns-then-len-gt-MOST_BLOCKS-clause-runs : goal.returns-then-len-gt-MOST_BLOCKS-clause-runs
returns-then-len-gt-MOST_BLOCKS-clause-runs g c = record { times = 0; within = omega arith; counted = refl }
