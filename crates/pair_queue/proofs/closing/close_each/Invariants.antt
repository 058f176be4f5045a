use Rattle.std.proofs.Common.{false, length, true, ℕ, ◌+◌, ◌-◌, ◌<◌, ◌≡◌, ◌≤◌}
use Rattle.std.specs.Int.{bit_at}
use Rattle.basis_steps.specs.Pairs.{Pair, pair_of}
use Rattle.pair_updates.specs.LeadCriteria.{DividesLcm}
use Rattle.pair_queue.specs.Tables.{flag, member_count}
use Rattle.pair_queue.proofs.closing.close_each.Given as goal

-- the bits before `next` are done, and the word has those from there on
abbrev pub invariant-loop-left : goal.invariant-loop-left
invariant-loop-left l = record {
  later : l.first ≤ l.next;
  bits : (r : ℕ) → bit_at l.left r ≡ bit_at l.found (l.next - l.first + r);
  sizes : member_count l.due ≡ length l.leads.keys;
  fewer : (x : Pair) → flag l.due x ≡ true → flag l.fn.due x ≡ true;
  closed : (x : Pair) → flag l.due x ≡ false → flag l.fn.due x ≡ true
      → (r : ℕ) × (r < 64) × (bit_at l.found r ≡ 1) × (x ≡ pair_of l.a (l.first + r)) × DividesLcm l.leads x l.k;
  free : (r : ℕ) → r < l.next - l.first → bit_at l.found r ≡ 1 → flag l.due (pair_of l.a (l.first + r)) ≡ true
      → DividesLcm l.leads (pair_of l.a (l.first + r)) l.k → ⊥;
}

abbrev pub decreases-loop-left : goal.decreases-loop-left
decreases-loop-left l = l.left
