-- Where an order that eliminates compares the vectors without its variables as the ring does (IVA chapter 3, section 1)
use Rattle.std.specs.Prelude.{ℕ, ◌≡◌, ◌⊎◌}
use Rattle.monomial_orders.specs.declared.order.Order.TheVariants.{Grevlex}
use Rattle.monomial_orders.specs.declared.order.ModOrder.TheVariants.{Top}
use Rattle.term_lists.specs.declared.ring.Ring.{Ring}

-- the ring compares vectors of this rank in graded reverse lexicographic order, term over position; at one position the two orders
-- of modules are one
abbrev pub IsGrevlex : Ring → ℕ → Type 0
IsGrevlex ring rank = (ring.order ≡ Grevlex) × ((ring.module_order ≡ Top) ⊎ (rank ≡ 1))
