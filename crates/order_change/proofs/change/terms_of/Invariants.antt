use Rattle.std.proofs.Common.{length, take, ◌<◌, ◌≡◌}
use Rattle.std.specs.Prelude.{slice_index}
use Rattle.formal_sums.specs.FormalSums.{Each}
use Rattle.monomial_orders.specs.Kept.{IsWeighed, monomials}
use Rattle.term_lists.specs.Vectors.{sum_of}
use Rattle.change_laws.specs.Combinations.{expansion}
use Rattle.order_change.proofs.change.terms_of.Given as goal

abbrev pub invariant-loop-k : goal.invariant-loop-k
invariant-loop-k l =
    let n = length l.weights in
    record {
      terms : Each (λ t. IsWeighed n l.weights t.0.monomial × (t.1 < l.modulus.value)) l.terms.items;
      sum : sum_of n l.terms.items ≡ expansion (take l.k (monomials n l.list)) (slice_index l.residues);
    }
