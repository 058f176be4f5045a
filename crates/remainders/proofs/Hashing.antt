-- No hashes yet
use Rattle.std.proofs.Common.{List, [], arith, inl, length, ℕ, ◌≡◌}
use Rattle.formal_sums.specs.FormalSums.{Each}
use Rattle.term_lists.proofs.Scaling.{Each_at}
use Rattle.term_lists.specs.declared.key.Key.{Key as CodeKey}
use Rattle.row_matrix.specs.Told.{HashesShown}
use Rattle.remainders.specs.Hashed.{HaveHashes}

-- no hashes for each vector
pub hashed_none :
    (list : List (List (CodeKey × ℕ))) (hashes : List HashesShown)
    → length hashes ≡ length list → Each (λ (h : HashesShown). h.hashes ≡ []) hashes → HaveHashes list hashes
hashed_none list hashes e h = record {
  count = e;
  each = λ i x lt is. inl (Each_at (λ (x : HashesShown). x.hashes ≡ []) hashes i x h (omega (arith, e, lt)) is);
}
