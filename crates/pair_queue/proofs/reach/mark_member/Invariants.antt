use Rattle.std.proofs.Common.{get_or, length, ℕ, ◌<◌, ◌≡◌}
use Rattle.pair_queue.specs.Reaches.{BitsStay, bit_of_member}
use Rattle.pair_queue.proofs.reach.mark_member.Given as goal

-- the bits for the variables so far are set
abbrev pub invariant-loop-v : goal.invariant-loop-v
invariant-loop-v l = record {
  len : length l.words.items ≡ length l.initial.words.items;
  stay : BitsStay l.initial.words.items l.words.items;
  here : (w e : ℕ) → w < l.v → e < 15 → e < get_or l.exponents w 0 → bit_of_member (length l.exponents) l.words.items l.member w e ≡ 1;
}
