-- What the calls for the numbers of a value say
use Rattle.std.specs.Prelude.{List, ⊤, ℕ, ℤ}
use Rattle.term_lists.specs.Rings.{variables}
use Rattle.term_lists.specs.declared.key.Key.{Key}
use Rattle.term_lists.specs.declared.ring.Ring.{Ring}
use Rattle.hilbert_series.specs.Large.{IsLarge}
use Rattle.hilbert_series.specs.Leads.{IsFirstOver, keys_of}
use Rattle.hilbert_series.specs.declared.stop.HilbertStop.{HilbertStop}
use Rattle.hilbert_series.specs.declared.stop.HilbertStop.TheVariants as stops
use Rattle.session_values.specs.Numbers.{HasManyLeads, IsNumeratorFor, leads_of}

-- why a reduced basis has no numbers
abbrev pub NumbersStop : Ring → ℕ → List (List (Key × ℕ)) → HilbertStop → Type 0
NumbersStop ring rank basis stops.Memory = ⊤
NumbersStop ring rank basis (stops.Leads k) = HasManyLeads ring rank basis
NumbersStop ring rank basis stops.Large =
    (HasManyLeads ring rank basis → ⊥) × ((K : List ℤ) × IsNumeratorFor ring rank basis K × IsLarge K)

-- the number that a stop at leads carries is that of the first position with more than 120
abbrev pub CountsFirst : Ring → ℕ → List (List (Key × ℕ)) → HilbertStop → Type 0
CountsFirst ring rank basis stops.Memory = ⊤
CountsFirst ring rank basis (stops.Leads k) = IsFirstOver 120 rank (keys_of (variables ring) (leads_of basis)) k
CountsFirst ring rank basis stops.Large = ⊤
