use Rattle.std.proofs.Common.{List, ap, arith, not, rules, subst, sym, ◌<◌, ◌==◌, ◌∙◌, ◌≡◌}
use Rattle.std.proofs.lemmas.Fn.{filter_same}
use Rattle.std.specs.List.{filter}
use Rattle.basis_steps.proofs.Counting.{count_workers}
use Rattle.basis_steps.specs.Pairs.{Pair, count}
use Rattle.basis_steps.specs.States.{job_of}
use Rattle.pair_queue.specs.declared.out.Out.{Out}
use Rattle.pair_queue.specs.Giving.{HasCleared}
use Rattle.pair_queue.specs.Outs.{outs_of}
use Rattle.pair_updates.specs.Leads.{LeadsShown}
use Rattle.pair_queue.specs.Skipping.{IsKnown}
use Rattle.pair_queue.specs.Tables.{IsFlagTable, flag}
use Rattle.pair_queue.proofs.Clearing.{kept_out, table_closed}
use Rattle.pair_queue.proofs.Knowing.{known_apart}
use Rattle.pair_queue.proofs.Tabling.{one_at_most}
use Rattle.pair_queue.proofs.giving.close_job.Goals as goal

pub returns-clause-out : goal.returns-clause-out
returns-clause-out c =
    let w = c.args.worker in
    let kept : c.retain.new.self.items ≡ filter (λ (o : Out). not (o.worker == w)) c.args.out.now.items =
    filter_same _ _ _ (λ x b f' k. search rules) _ _ c.retain.ensures.filtered in
    ap outs_of kept ∙ kept_out w c.args.out.now.items

pub returns-clause-table : goal.returns-clause-table
returns-clause-table c = λ queue t.
    let w = c.args.worker in
    let old = flag c.args.waits.now in
    let new = flag c.pass_all.new.waits in
    let cleared : HasCleared (job_of w (outs_of c.args.out.now.items)) old new =
    subst (λ (l : List Out). HasCleared (job_of w (outs_of l)) old new) c.deref.ensures.value c.pass_all.ensures.flags in
    subst (IsFlagTable new queue) (sym (returns-clause-out c)) (table_closed w queue (outs_of c.args.out.now.items) old new cleared t)

pub returns-clause-known : goal.returns-clause-known
returns-clause-known c = λ queue within t known.
    let w = c.args.worker in
    let m : LeadsShown = c.args.leads.now in
    let out = outs_of c.args.out.now.items in
    let f = flag c.args.waits.now in
    known_apart m f (flag c.args.due.now) (flag c.pass_all.new.waits) (flag c.pass_all.new.due) queue (job_of w out)
    (λ x. omega (arith, one_at_most (f x), t.flags x, count_workers x w out))
    (subst (λ (l : List Out). (x : Pair) → x.0 < x.1 → count x (job_of w (outs_of l)) ≡ 0 → IsKnown m f (flag c.args.due.now) x
    → IsKnown m (flag c.pass_all.new.waits) (flag c.pass_all.new.due) x) c.deref.ensures.value c.pass_all.ensures.known)
    within known
