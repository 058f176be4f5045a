-- What the criteria ask of the leads
use Rattle.std.specs.Prelude.{ℕ}
use Rattle.orders.specs.KeyOrders.{KeyDivides}
use Rattle.bases.specs.Leads.{leads}
use Rattle.basis_steps.specs.Criteria.{ProductApplies, lcm_of}
use Rattle.basis_steps.specs.Pairs.{Pair}
use Rattle.pair_updates.specs.Leads.{LeadsShown, setting_of_leads, sums_shown}

-- the lead of member k divides the pair's lcm
abbrev pub DividesLcm : LeadsShown → Pair → ℕ → Type 0
DividesLcm m x k = KeyDivides (leads (sums_shown m) k) (lcm_of (sums_shown m) x)

-- the product criterion applies to the pair
abbrev pub ProductSpares : LeadsShown → Pair → Type 0
ProductSpares m x = ProductApplies (setting_of_leads m.variables m) (sums_shown m) x
