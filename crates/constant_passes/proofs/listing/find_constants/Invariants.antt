use Rattle.std.proofs.Common.{List, take, ℕ, ◌<◌, ◌≡◌}
use Rattle.formal_sums.specs.FormalSums.{Each}
use Rattle.term_lists.specs.Rings.{variables}
use Rattle.constant_rows.specs.Rows.{entry_constants}
use Rattle.column_passes.specs.Placing.{ArePlacesAfter}
use Rattle.constant_passes.specs.Listing.{constants_at}
use Rattle.constant_passes.proofs.listing.find_constants.Given as goal

abbrev pub invariant-loop-term : goal.invariant-loop-term
invariant-loop-term l = record {
  constants :
      (rows : List ℕ) → ArePlacesAfter rows l.leaving
      → entry_constants (variables l.ring) l.found.entries.items ≡ constants_at (variables l.ring) rows (take l.term-index l.terms);
  below : Each (λ e. e.0 < l.found.width) l.found.entries.items;
  reduced : Each (λ e. e.1 < l.ring.modulus.value) l.found.entries.items;
}
