use Rattle.std.proofs.Common.{List, length, ℕ, ◌*◌, ◌++◌, ◌+◌, ◌<◌, ◌≡◌, ◌≤◌}
use Rattle.std.specs.Vec.{vec_len}
use Rattle.residues.specs.Residues.{IsCongruent}
use Rattle.formal_sums.specs.FormalSums.{Each, IsSame, scale}
use Rattle.term_tables.specs.Digits.{HaveNoCarry, monomial_at, packed_sum}
use Rattle.term_tables.specs.Tables.{table_sum}
use Rattle.term_tables.proofs.table.add_multiple.Given as goal

abbrev pub invariant-loop-t : goal.invariant-loop-t
invariant-loop-t l = record {
  len : vec_len l.sums ≡ vec_len l.initial.sums;
  places : Each (λ t. l.key + t.0 < vec_len l.initial.sums) l.rest;
  small : Each (λ t. l.c * t.1 ≤ l.square) l.rest;
  apart : (bs : List (ℕ × ℕ)) → Each (λ t. HaveNoCarry bs l.key t.0) l.terms → Each (λ t. HaveNoCarry bs l.key t.0) l.rest;
  sum : (n p : ℕ) (bs : List (ℕ × ℕ)) → IsCongruent p l.square 0 → Each (λ t. HaveNoCarry bs l.key t.0) l.terms
      → IsSame p (table_sum n bs 0 l.sums.items ++ scale l.c (monomial_at n bs l.key) (packed_sum n bs l.rest))
      (scale l.c (monomial_at n bs l.key) (packed_sum n bs l.terms) ++ table_sum n bs 0 l.initial.sums.items);
}

abbrev pub decreases-loop-t : goal.decreases-loop-t
decreases-loop-t l = length l.rest
