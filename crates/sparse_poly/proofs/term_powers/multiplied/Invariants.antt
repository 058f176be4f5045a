use Rattle.std.proofs.Common.{map, take, ◌*◌, ◌≡◌}
use Rattle.sparse_poly.proofs.term_powers.multiplied.Given as goal

abbrev pub invariant-loop-i : goal.invariant-loop-i
invariant-loop-i l = l.raised.items ≡ map (λ e. l.k * e) (take l.i l.m.exponents)
