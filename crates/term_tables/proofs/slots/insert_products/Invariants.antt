use Rattle.std.proofs.Common.{List, length, ℕ, ◌*◌, ◌++◌, ◌≤◌}
use Rattle.residues.specs.Residues.{IsCongruent}
use Rattle.formal_sums.specs.FormalSums.{IsSame, product}
use Rattle.term_tables.specs.Digits.{EachPair, HaveNoCarry, packed_sum}
use Rattle.term_tables.proofs.slots.insert_products.Given as goal

abbrev pub invariant-loop-s : goal.invariant-loop-s
invariant-loop-s l = record {
  small : EachPair (λ s t. s.1 * t.1 ≤ l.square) l.rest l.b;
  apart : (bs : List (ℕ × ℕ)) → EachPair (λ s t. HaveNoCarry bs s.0 t.0) l.a l.b → EachPair (λ s t. HaveNoCarry bs s.0 t.0) l.rest l.b;
  sum : (n p : ℕ) (bs : List (ℕ × ℕ)) → IsCongruent p l.square 0 → EachPair (λ s t. HaveNoCarry bs s.0 t.0) l.a l.b
      → IsSame p (packed_sum n bs l.slots.items ++ product (packed_sum n bs l.rest) (packed_sum n bs l.b))
      (product (packed_sum n bs l.a) (packed_sum n bs l.b) ++ packed_sum n bs l.initial.slots.items);
}

abbrev pub decreases-loop-s : goal.decreases-loop-s
decreases-loop-s l = length l.rest
