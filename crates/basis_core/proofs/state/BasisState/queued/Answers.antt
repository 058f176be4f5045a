use Rattle.std.proofs.Common.{subst}
use Rattle.formal_sums.specs.FormalSums.{Each}
use Rattle.pair_updates.specs.Leads.{LeadsShown}
use Rattle.pair_updates.specs.Pairs.{IsRealPair}
use Rattle.basis_core.specs.Jobs.{HasLcmOfMembers}
use Rattle.basis_core.specs.Shown.{Shown}
use Rattle.basis_core.specs.Views.{variables_of}
use Rattle.basis_core.proofs.KnownByLeads.{lcms_known}
use Rattle.basis_core.proofs.state.BasisState.queued.Goals as goal

pub returns-clause-lcms : goal.returns-clause-lcms
returns-clause-lcms c =
    let m = c.self.inside.members in
    let pairs = c.queued.result.now in
    subst (λ (z : Shown). Each (HasLcmOfMembers (variables_of z) z.shared.ring.weights z.members) pairs) c.self.view_is
    (lcms_known m.shared m.list pairs (subst (λ (l : LeadsShown). Each (IsRealPair l) pairs) c.self.invariant.leads c.queued.ensures.real))
