use Rattle.std.proofs.Common.{arith, get_or, subst, sym, ℕ, ◌-◌, ◌<◌}
use Rattle.std.specs.Prelude.{replicate}
use Rattle.std.proofs.lemmas.Simd.{get_or-replicate}
use Rattle.part_checks.proofs.lanes.three_times.Goals as goal

below_all : (limit n x : ℕ) → x < limit → (i : ℕ) → i < n → get_or (replicate n x) i 0 < limit
below_all limit n x below i lt = subst (λ y. y < limit) (sym (get_or-replicate n i x 0 lt)) below

pub add_below-requires-clause-row : goal.add_below-requires-clause-row
add_below-requires-clause-row c = below_all c.args.p.now.value 33 (c.value-c.result - 1) (omega arith)

pub add_below-requires-clause-numbers : goal.add_below-requires-clause-numbers
add_below-requires-clause-numbers c = below_all 1 33 0 (omega arith)

pub add_below-requires-2-clause-row : goal.add_below-requires-2-clause-row
add_below-requires-2-clause-row c = below_all c.args.p.now.value 33 (c.value-c.result - 1) (omega arith)

pub add_below-requires-3-clause-row : goal.add_below-requires-3-clause-row
add_below-requires-3-clause-row c = below_all c.args.p.now.value 33 (c.value-c.result - 1) (omega arith)
