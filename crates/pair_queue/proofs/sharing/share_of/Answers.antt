use Rattle.std.proofs.Common.{ap, arith, min, sym, ◌+◌, ◌-◌, ◌/◌, ◌∙◌, ◌≡◌}
use Rattle.basis_steps.specs.Queues.{number_of_least_degree}
use Rattle.pair_updates.proofs.Degrees.{least_same, rounded_few, rounded_up}
use Rattle.pair_updates.specs.Pairs.{pairs_of}
use Rattle.pair_updates.specs.Leads.{setting_of_leads, sums_shown}
use Rattle.pair_queue.proofs.sharing.share_of.Goals as goal

pub returns-clause-share : goal.returns-clause-share
returns-clause-share c = λ m r budget workers weights h sorted.
    let least = number_of_least_degree r.setting (sums_shown m) (pairs_of c.args.queue.now) in
    let counted : c.count_least_degree-least.result ≡ least = c.count_least_degree-least.ensures.count m h sorted
    ∙ sym (least_same r.setting (setting_of_leads m.variables m) weights (sums_shown m) (pairs_of c.args.queue.now)) in
    let by : c.from.result ≡ r.workers = c.from.ensures ∙ sym workers in
    let up : c.div_ceil.result ≡ (least + r.workers - 1) / r.workers =
    c.div_ceil.ensures ∙ rounded_up c.count_least_degree-least.result c.from.result (omega (arith, c.from.ensures, c.requires.workers))
    ∙ (λ i. (counted i + by i - 1) / by i) in
    let most : c.min.result ≡ min c.args.most (r.budget - c.args.taken) = c.min.ensures ∙ ap (λ b. min c.args.most (b - c.args.taken)) (sym budget) in
    c.min-2.ensures ∙ (λ i. min (most i) (up i))

pub returns-clause-few : goal.returns-clause-few
returns-clause-few c =
    let few = rounded_few c.count_least_degree-least.result c.from.result (omega (arith, c.from.ensures, c.requires.workers)) in
    omega (arith, few, c.min-2.ensures, c.div_ceil.ensures, c.count_least_degree-least.ensures.few)
