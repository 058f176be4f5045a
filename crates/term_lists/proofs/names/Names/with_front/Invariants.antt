use Rattle.std.proofs.Common.{map, string_bytes, take, ◌∷◌, ◌≡◌}
use Rattle.term_lists.proofs.names.Names.with_front.Given as goal

abbrev pub invariant-loop-name : goal.invariant-loop-name
invariant-loop-name l = map string_bytes l.names.items ≡ l.first ∷ map string_bytes (take l.name-index l.name-items)
