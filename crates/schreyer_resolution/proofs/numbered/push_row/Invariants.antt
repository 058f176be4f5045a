use Rattle.induced_leads.specs.Reaching.{positions_of}
use Rattle.schreyer_resolution.specs.Sharing.{IsRowUnderway}
use Rattle.schreyer_resolution.proofs.numbered.push_row.Given as goal

abbrev pub invariant-loop-k : goal.invariant-loop-k
invariant-loop-k l =
    IsRowUnderway l.ring l.columns l.t l.terms (positions_of l.index) l.of_column.degree l.told l.from l.k l.fn.products l.products
