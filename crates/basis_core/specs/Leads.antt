-- The leads of the members, by which the pairs know them
use Rattle.std.specs.Prelude.{List, [], map, ℕ, ◌∷◌}
use Rattle.term_lists.specs.Rings.{variables}
use Rattle.term_lists.specs.declared.key.Key.{Key as CodeKey}
use Rattle.pair_updates.specs.Leads.{LeadsShown}
use Rattle.basis_core.specs.Members.{Shared, MemberShown}

-- the first key of a list of terms; that of the monomial 1 at the first position where there is none
abbrev pub first_key : List (CodeKey × ℕ) → CodeKey
first_key [] = record { position = 0; monomial = record { exponents = []; degree = 0 } }
first_key (t ∷ v) = t.0

-- orders, weights, rank, and the leads of the members
abbrev pub leads_shown_of : Shared → List MemberShown → LeadsShown
leads_shown_of shared ms = record {
  order = shared.ring.order;
  module_order = shared.ring.module_order;
  weights = shared.ring.weights;
  variables = variables shared.ring;
  rank = shared.rank;
  keys = map (λ m. first_key m.vector) ms;
}
