use Rattle.std.proofs.Common.{flat_map, take, ◌++◌, ◌∷◌, ◌≡◌}
use Rattle.std.specs.Fmt.{signed_decimal}
use Rattle.session_values.proofs.numbers.append_each.Given as goal

abbrev pub invariant-loop-k : goal.invariant-loop-k
invariant-loop-k l = l.out ≡ l.initial.out ++ flat_map (λ k. 32 ∷ signed_decimal k) (take l.k-index l.numbers)
