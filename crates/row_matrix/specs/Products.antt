-- Products that are too great
use Rattle.std.specs.Prelude.{List, get_or, length, ⊤, ℕ, ◌<◌}
use Rattle.monomial_orders.specs.Kept.{Monomial}
use Rattle.term_lists.specs.Stops.{IsTooGreat}
use Rattle.term_lists.specs.declared.key.Key.{Key}
use Rattle.row_matrix.specs.Hashes.{no_key}
use Rattle.row_matrix.specs.declared.products.ProductStop.{ProductStop}
use Rattle.row_matrix.specs.declared.products.ProductStop.TheVariants.{Memory, Degree}

-- Degree comes with the index of a term whose monomial is too great for t
abbrev pub ProductStops : Monomial → List (Key × ℕ) → ProductStop → Type 0
ProductStops t v Memory = ⊤
ProductStops t v (Degree i) = (i < length v) × IsTooGreat t (get_or v i (no_key, 0)).0.monomial
