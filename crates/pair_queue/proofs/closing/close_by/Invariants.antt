use Rattle.std.proofs.Common.{false, length, true, ℕ, ◌*◌, ◌-◌, ◌<◌, ◌≡◌}
use Rattle.basis_steps.specs.Pairs.{Pair, pair_of}
use Rattle.pair_queue.specs.Skipping.{ChainSpares}
use Rattle.pair_queue.specs.Tables.{flag, member_count}
use Rattle.pair_queue.proofs.closing.close_by.Given as goal

-- the pairs of a with the members of the words before this one are closed where the criterion applies
abbrev pub invariant-loop-index : goal.invariant-loop-index
invariant-loop-index l = record {
  sizes : member_count l.due ≡ length l.leads.keys;
  fewer : (x : Pair) → flag l.due x ≡ true → flag l.fn.due x ≡ true;
  closed : (x : Pair) → flag l.due x ≡ false → flag l.fn.due x ≡ true → ChainSpares l.leads (flag l.waits) x l.k;
  free : (d : ℕ) → d < 64 * l.index → flag l.due (pair_of l.a d) ≡ true → ChainSpares l.leads (flag l.waits) (pair_of l.a d) l.k → ⊥;
}

abbrev pub decreases-loop-index : goal.decreases-loop-index
decreases-loop-index l = l.end - l.index
