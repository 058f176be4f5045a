-- What holds of each item of a list of lists, and of the empty list, holds at each index
use Rattle.std.proofs.Common.{List, [], get_or, suc, zero, ℕ, ◌∷◌}
use Rattle.formal_sums.specs.FormalSums.{Each}

pub item_of : {X : Type 0} (P : List X → Type 0) (list : List (List X)) (i : ℕ) → P [] → Each P list → P (get_or list i [])
item_of P [] i z h = z
item_of P (v ∷ list) zero z h = h.0
item_of P (v ∷ list) (suc i) z h = item_of P list i z h.1
