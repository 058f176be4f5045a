use Rattle.std.proofs.Common.{List, ap, get_or, length, subst, sym, ℕ, ◌<◌, ◌∙◌, ◌≡◌}
use Rattle.pair_updates.proofs.LeadRows.{row_of_lead}
use Rattle.pair_updates.specs.Leads.{LeadsShown}
use Rattle.pair_updates.specs.Rows.{lead_row}
use Rattle.pair_updates.proofs.leads.Leads.row.Goals as goal

pub returns : goal.returns
returns c =
    let l = c.self.inside in
    subst (λ (m : LeadsShown). c.index.result.now ≡ lead_row m c.args.index) c.self.view_is
    (row_of_lead (length l.weights) l.weights l.keys.items c.args.index c.index.result.now c.self.invariant.0
    (subst (λ (m : LeadsShown). c.args.index < length m.keys) (sym c.self.view_is) c.requires.known)
    (c.index.ensures ∙ ap (λ (rs : List (List ℕ)). get_or rs c.args.index c.index.result.now) c.self.invariant.1))
