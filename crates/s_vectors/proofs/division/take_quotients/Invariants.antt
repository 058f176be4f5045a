use Rattle.std.proofs.Common.{map, ◌++◌, ◌<◌, ◌≡◌}
use Rattle.std.specs.VecDeque.{deque_len}
use Rattle.formal_sums.specs.FormalSums.{Each}
use Rattle.s_vectors.specs.Divided.{negated}
use Rattle.s_vectors.proofs.division.take_quotients.Given as goal

abbrev pub invariant-loop-quotient : goal.invariant-loop-quotient
invariant-loop-quotient l =
    record {
      items : l.parts.items ++ map (negated l.modulus.value) l.rest.items ≡ l.fn.parts.items ++ map (negated l.modulus.value) l.fn.quotients.items;
      reduced : Each (λ q. q.residue < l.modulus.value) l.rest.items;
    }

abbrev pub decreases-loop-quotient : goal.decreases-loop-quotient
decreases-loop-quotient l = deque_len l.rest
