-- Which keys the leads of a map's columns can divide, by the positions and variables of the leads
use Rattle.std.specs.Int.{bit_at}
use Rattle.std.specs.Prelude.{List, [], length, slice_index, ℕ, ◌<◌, ◌∷◌, ◌≡◌}
use Rattle.formal_sums.specs.FormalSums.{Key}
use Rattle.term_lists.specs.Vectors.{sums_of}
use Rattle.term_lists.specs.declared.key.Key.{Key as CodeKey}
use Rattle.vector_division.specs.Divisions.{IsUncovered}
use Rattle.vector_division.specs.Marks.{HasBits}
use Rattle.induced_leads.specs.declared.divisors.LeadIndex.{LeadIndex}

-- of the first 64 variables none occurs in the monomial but those whose bits are set
abbrev pub OccurAmong : List ℕ → ℕ → Type 0
OccurAmong monomial bits = (i : ℕ) → i < 64 → bit_at bits i ≡ 0 → slice_index monomial i ≡ 0

-- the bits say which variables occur in the lead; nothing is said of zero
abbrev pub OccurInLead : List (CodeKey × ℕ) → ℕ → Type 0
OccurInLead [] bits = Unit {0}
OccurInLead (t ∷ v) bits = HasBits t.0.monomial.exponents bits

-- no lead of the columns stands at this position
abbrev pub HasNoLeads : List (List (CodeKey × ℕ)) → ℕ → Type 0
HasNoLeads columns position = (n : ℕ) (k : Key n) → k.0 ≡ position → IsUncovered (sums_of n columns) k

-- how many positions have spans
abbrev pub positions_of : LeadIndex → ℕ
positions_of index = length index.spans.items
