use Rattle.std.proofs.Common.{get_or, length, ◌<◌, ◌≡◌, ◌≤◌, ℕ}
use Rattle.row_matrix.specs.Hashes.{IsLink, bucket_at, bucket_of, key_product, no_key}
use Rattle.row_matrix.proofs.key_table.find.Given as goal

abbrev pub decreases-loop-cursor : goal.decreases-loop-cursor
decreases-loop-cursor l = l.cursor

abbrev pub invariant-loop-cursor : goal.invariant-loop-cursor
invariant-loop-cursor l =
    let b = bucket_of (length l.last) l.hash in
    record {
      link : IsLink (length l.last) (length l.keys) l.hashes b l.cursor;
      passed : (j : ℕ) → l.cursor ≤ j → j < length l.keys → bucket_at (length l.last) l.hashes j ≡ b → get_or l.keys j no_key ≡ key_product l.t l.key → ⊥;
    }
