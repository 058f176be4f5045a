use Rattle.std.proofs.Common.{map, string_bytes, take, ◌++◌, ◌≡◌}
use Rattle.term_lists.specs.Doubling.{second_name}
use Rattle.term_lists.proofs.names.Names.doubled.Given as goal

abbrev pub invariant-loop-name : goal.invariant-loop-name
invariant-loop-name l = map string_bytes l.names.items ≡ map string_bytes (take l.name-index l.name-items)

abbrev pub invariant-loop-name-2 : goal.invariant-loop-name-2
invariant-loop-name-2 l = map string_bytes l.names.items ≡ l.self ++ map second_name (map string_bytes (take l.name-index l.name-items))
