use Rattle.std.proofs.Common.{[], get_or, length, ◌<◌}
use Rattle.std.proofs.lemmas.Fn.{always_returns_same}
use Rattle.std.proofs.Common.{rules}
use Rattle.std.proofs.lemmas.List.Sorted.{Contains-permutation}
use Rattle.std.specs.Ordering.{is_lt}
use Rattle.term_lists.proofs.Gathers.{Each_permutation}
use Rattle.term_lists.specs.Rings.{variables}
use Rattle.interreduce.specs.Leads.{by_lead}
use Rattle.interreduce.proofs.Leading.{by_lead_weak, sorted_rises}
use Rattle.interreduce.proofs.leads.by_ascending_lead.Goals as goal

pub returns-clause-within : goal.returns-clause-within
returns-clause-within g c = Each_permutation (λ i. i < length (g.L.Vectors.listed c.args.list.now)) c.in_ok-order.order.items c.sort_unstable_by.new.self.items c.sort_unstable_by.ensures.permutation c.in_ok-order.ensures.within

pub returns-clause-leads : goal.returns-clause-leads
returns-clause-leads g c = Each_permutation (λ i. 0 < length (get_or (g.L.Vectors.listed c.args.list.now) i [])) c.in_ok-order.order.items c.sort_unstable_by.new.self.items c.sort_unstable_by.ensures.permutation c.in_ok-order.ensures.leads

pub returns-clause-all : goal.returns-clause-all
returns-clause-all g c = λ i lt some. Contains-permutation c.in_ok-order.order.items c.sort_unstable_by.new.self.items i c.sort_unstable_by.ensures.permutation (c.in_ok-order.ensures.all i lt some)

pub returns-clause-rises : goal.returns-clause-rises
returns-clause-rises g c =
    let n = variables (g.F.Frame.over c.args.frame.now) in
    let compare = g.F.Frame.compare c.args.frame.now n in
    let laws = g.met.F.Frame.laws c.args.frame.now n 0 in
    let list = g.L.Vectors.listed c.args.list.now in
    sorted_rises n compare laws list c.sort_unstable_by.new.self.items
    (Each_permutation (λ i. 0 < length (get_or list i [])) c.in_ok-order.order.items c.sort_unstable_by.new.self.items c.sort_unstable_by.ensures.permutation c.in_ok-order.ensures.leads)
    (c.sort_unstable_by.ensures.sorted (λ i j. is_lt (by_lead n compare list i j)) (by_lead_weak n compare list laws.total)
    (always_returns_same _ _ _ (λ a r f k. search rules)))
