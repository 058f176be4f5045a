-- The orders that columns induce are orders
use Rattle.std.proofs.Common.{List, Ordering, [], ℕ, ◌∷◌}
use Rattle.formal_sums.specs.FormalSums.{FormalSum, Key}
use Rattle.orders.proofs.InducedOrder.{induced_any}
use Rattle.orders.specs.KeyOrders.{IsKeyOrder, induced}
use Rattle.bases.specs.Leads.{leads}
use Rattle.monomial_orders.specs.Laws.{key_comparison_order}
use Rattle.resolution_maps.specs.Inducing.{Tower, induced_through, maps_of, tower_comparison}

-- above an order of keys each map's leads induce one
pub through_order :
    {n : ℕ} (maps : List (List (FormalSum n))) (compare : Key n → Key n → Ordering) → ((r : ℕ) → IsKeyOrder r compare) → (r : ℕ)
    → IsKeyOrder r (induced_through compare maps)
through_order [] compare o r = o r
through_order (F ∷ maps) compare o r = through_order maps (induced compare (leads F)) (λ s. induced_any s compare o (leads F)) r

pub tower_order : (t : Tower) (n r : ℕ) → IsKeyOrder r (tower_comparison t n)
tower_order t n r = through_order (maps_of n t.maps) _ (λ s. key_comparison_order t.ring.module_order t.ring.order t.ring.weights n s) r
