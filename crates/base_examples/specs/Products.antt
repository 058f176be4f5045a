-- x^2 z, y^2 z and xyz over Z/101 in grevlex
use Rattle.std.specs.Prelude.{List, [], ◌∷◌}
use Rattle.formal_sums.specs.FormalSums.{FormalSum}
use Rattle.orders.specs.KeyOrders.{pot}
use Rattle.orders.specs.MonomialOrders.{grevlex}
use Rattle.bases.specs.Settings.{Setting}
use Rattle.base_examples.specs.Examples.{xyz}

-- Z/101 in x, y and z, rank 1, position over term by grevlex
abbrev pub space : Setting 3
space = record { modulus = 101; weights = []; rank = 1; compare = pot grevlex }

-- the three products
abbrev pub products : List (FormalSum 3)
products = (((0, xyz 2 0 1), 1) ∷ []) ∷ ((((0, xyz 0 2 1), 1) ∷ []) ∷ ((((0, xyz 1 1 1), 1) ∷ []) ∷ []))
