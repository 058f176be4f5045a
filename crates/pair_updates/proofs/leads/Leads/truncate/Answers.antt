use Rattle.std.proofs.Common.{List, ap, length, subst, sym, take, ◌∙◌}
use Rattle.std.proofs.lemmas.List.{take-map}
use Rattle.formal_sums.specs.FormalSums.{Each}
use Rattle.monomial_orders.specs.Kept.{IsWeighed}
use Rattle.term_lists.proofs.Parts.{Each_take}
use Rattle.term_lists.specs.declared.key.Key.{Key as CodeKey}
use Rattle.pair_updates.specs.Rows.{key_row, key_rows}
use Rattle.pair_updates.proofs.leads.Leads.truncate.Goals as goal

pub invariant_of-self : goal.invariant_of-self
invariant_of-self c =
    let l = c.self.inside in
    let n = c.args.count in
    let P = (λ (k : CodeKey). IsWeighed (length l.weights) l.weights k.monomial) in (
      subst (λ (ks : List CodeKey). Each P ks) (sym c.truncate.ensures.items) (Each_take P n l.keys.items c.self.invariant.0),
      c.truncate-2.ensures.items ∙ ap (take n) c.self.invariant.1 ∙ take-map key_row n l.keys.items ∙ ap key_rows (sym c.truncate.ensures.items),
    )
