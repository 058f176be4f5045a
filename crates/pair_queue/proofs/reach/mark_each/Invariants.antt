use Rattle.std.proofs.Common.{get_or, length, ℕ, ◌+◌, ◌<◌, ◌≡◌}
use Rattle.std.specs.Int.{bit_at}
use Rattle.pair_queue.specs.Reaches.{BitsStay}
use Rattle.pair_queue.proofs.reach.mark_each.Given as goal

abbrev pub invariant-loop-e : goal.invariant-loop-e
invariant-loop-e l = record {
  len : length l.words.items ≡ length l.initial.words.items;
  stay : BitsStay l.initial.words.items l.words.items;
  here : (f : ℕ) → f < l.e → bit_at (get_or l.words.items (l.first + f) 0) l.place ≡ 1;
}
