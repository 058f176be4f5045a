use Rattle.std.proofs.Common.{cond, false, length, ltb, take, true, ◌<◌, ◌≡◌}
use Rattle.basis_steps.specs.Pairs.{Pair, count}
use Rattle.pair_updates.specs.Pairs.{pairs_of}
use Rattle.pair_updates.specs.LeadCriteria.{ProductSpares}
use Rattle.pair_queue.specs.Tables.{flag, member_count}
use Rattle.pair_queue.proofs.flags.flag_pairs.Given as goal

-- the first k are flagged
abbrev pub invariant-loop-k : goal.invariant-loop-k
invariant-loop-k l = record {
  waits_size : member_count l.waits ≡ length l.leads.keys;
  due_size : member_count l.due ≡ length l.leads.keys;
  waits : (x : Pair) → flag l.waits x ≡ cond (ltb 0 (count x (take l.k (pairs_of l.pairs)))) true (flag l.fn.waits x);
  others : (x : Pair) → count x (take l.k (pairs_of l.pairs)) ≡ 0 → flag l.due x ≡ flag l.fn.due x;
  shut : (x : Pair) → 0 < count x (take l.k (pairs_of l.pairs)) → flag l.due x ≡ false → ProductSpares l.leads x;
  free : (x : Pair) → 0 < count x (take l.k (pairs_of l.pairs)) → flag l.due x ≡ true → ProductSpares l.leads x → ⊥;
}
