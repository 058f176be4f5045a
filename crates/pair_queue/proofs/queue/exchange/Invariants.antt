use Rattle.std.proofs.Common.{drop, length, ◌+◌, ◌≡◌}
use Rattle.std.proofs.Math.Seq.{paste}
use Rattle.pair_queue.proofs.queue.exchange.Given as goal

-- the first k are exchanged
abbrev pub invariant-loop-k : goal.invariant-loop-k
invariant-loop-k l = record {
  taken : l.blanks.items ≡ paste l.fn.blanks.items 0 (drop l.first l.fn.pairs.items) l.k;
  many : length l.blanks.items ≡ length l.fn.blanks.items;
  rest : drop (l.first + l.k) l.pairs.items ≡ drop (l.first + l.k) l.fn.pairs.items;
  len : length l.pairs.items ≡ length l.fn.pairs.items;
}
