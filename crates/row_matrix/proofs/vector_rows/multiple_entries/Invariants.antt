use Rattle.std.proofs.Common.{List, length, take, ℕ, ◌≡◌, ◌≤◌}
use Rattle.std.specs.Vec.{vec_capacity, vec_len}
use Rattle.formal_sums.specs.FormalSums.{Each}
use Rattle.monomial_orders.specs.Kept.{IsWeighed}
use Rattle.term_lists.specs.Multiples.{rescaled}
use Rattle.term_lists.specs.Vectors.{sum_of}
use Rattle.row_matrix.specs.Naming.{AreNamed, IsGrown}
use Rattle.row_matrix.specs.Rows.{AreKeys}
use Rattle.row_matrix.proofs.vector_rows.multiple_entries.Given as goal

abbrev pub invariant-loop-i : goal.invariant-loop-i
invariant-loop-i l =
    let n = length l.one.exponents in
    record {
      named : AreNamed n l.keys l.entries.items (sum_of n (rescaled l.modulus.value l.c (take l.i l.v)));
      grown : IsGrown l.fn.keys l.keys l.entries.items;
      weighed : (ws : List ℕ) → IsWeighed n ws l.one → Each (λ u. IsWeighed n ws u.0.monomial) l.v → AreKeys n ws l.fn.keys → AreKeys n ws l.keys;
      len : vec_len l.entries ≡ l.i;
      room : length l.v ≤ vec_capacity l.entries;
    }
