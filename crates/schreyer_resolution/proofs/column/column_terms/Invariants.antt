use Rattle.std.proofs.Common.{map, ◌++◌, ◌∷◌, ◌<◌, ◌≡◌}
use Rattle.std.specs.VecDeque.{deque_len}
use Rattle.formal_sums.specs.FormalSums.{Each}
use Rattle.schreyer_resolution.specs.Columns.{negated_term}
use Rattle.schreyer_resolution.proofs.column.column_terms.Given as goal

abbrev pub invariant-loop-quotient : goal.invariant-loop-quotient
invariant-loop-quotient l =
    record {
      items : l.terms.items ++ map (negated_term l.modulus.value) l.rest.items ≡ (l.key, 1) ∷ map (negated_term l.modulus.value) l.fn.quotients.items;
      known : Each (λ q. q.residue < l.modulus.value) l.rest.items;
    }

abbrev pub decreases-loop-quotient : goal.decreases-loop-quotient
decreases-loop-quotient l = deque_len l.rest
