-- The leads that pairs are made of
use Rattle.std.specs.Prelude.{List, [], map, ℕ, ◌∷◌}
use Rattle.formal_sums.specs.FormalSums.{FormalSum}
use Rattle.bases.specs.Settings.{Setting}
use Rattle.term_lists.specs.Vectors.{key_of}
use Rattle.term_lists.specs.declared.key.Key.{Key as CodeKey}
use Rattle.monomial_orders.specs.Comparisons.{key_comparison}
use Rattle.monomial_orders.specs.declared.order.ModOrder.{ModOrder}
use Rattle.monomial_orders.specs.declared.order.Order.{Order}

-- what contracts see of a list of leads: the orders, the number of variables and their weights, the rank of the free module, and the keys
pub record LeadsShown : Type 0 where
  pub order : Order
  pub module_order : ModOrder
  pub variables : ℕ
  pub weights : List ℕ
  pub rank : ℕ
  pub keys : List CodeKey

-- each key as a vector of one term
abbrev pub lead_sums : (n : ℕ) → List CodeKey → List (FormalSum n)
lead_sums n ks = map (λ k. (key_of n k, 1) ∷ []) ks

-- rank, weights and order as the definitions on pairs take them, which read no coefficient
abbrev pub setting_of_leads : (n : ℕ) → LeadsShown → Setting n
setting_of_leads n l = record {
  modulus = 0;
  rank = l.rank;
  weights = l.weights;
  compare = key_comparison l.module_order l.order l.weights n;
}

-- the leads as vectors
abbrev pub sums_shown : (l : LeadsShown) → List (FormalSum l.variables)
sums_shown l = lead_sums l.variables l.keys
