use Rattle.std.proofs.Common.{length, ℕ, ◌<◌, ◌≡◌, ◌≤◌}
use Rattle.pair_queue.specs.Reaches.{BitsStay, bit_of_member, exponent_of_lead}
use Rattle.pair_queue.proofs.reach.mark_members.Given as goal

-- the bits of the members so far are set
abbrev pub invariant-loop-c : goal.invariant-loop-c
invariant-loop-c l = record {
  len : length l.words.items ≡ length l.initial.words.items;
  stay : BitsStay l.initial.words.items l.words.items;
  here : (d v e : ℕ) → l.first ≤ d → d < l.c → v < l.leads.variables → e < 15 → e < exponent_of_lead l.leads d v
      → bit_of_member l.leads.variables l.words.items d v e ≡ 1;
}
