use Rattle.std.proofs.Common.{rules}
use Rattle.pivot_table.proofs.Keeps.{claims}
use Rattle.pivot_table.proofs.claims.Claims.claim.Goals as goal

pub compare_exchange-found-requires : goal.compare_exchange-found-requires
compare_exchange-found-requires c =
    let inside = c.args.self.now.leads_in c.args.row c.requires.row in
    (search rules, search rules, claims _ _ _ _ _ c.args.row _ (search rules) (search rules) (search rules) (search rules))
