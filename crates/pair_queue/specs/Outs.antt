-- Pairs that are out
use Rattle.std.specs.Prelude.{List, map, ℕ}
use Rattle.basis_steps.specs.Pairs.{Pair}
use Rattle.pair_queue.specs.declared.out.Out.{Out}

-- pairs that are out, each with its worker
abbrev pub outs_of : List Out → List (Pair × ℕ)
outs_of xs = map (λ o. ((o.i, o.j), o.worker)) xs
