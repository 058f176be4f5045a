use Rattle.std.proofs.Common.{List, Option, length, ℕ, ◌≡◌, ◌≤◌}
use Rattle.std.specs.Vec.{vec_capacity, vec_len}
use Rattle.pair_updates.specs.FirstYields.{AreActive, AreLowerYields, AreSettled}
use Rattle.pair_updates.specs.Seen.{AreSeen}
use Rattle.pair_updates.proofs.yielding.first_yields.Given as goal

abbrev pub invariant-loop-i : goal.invariant-loop-i
invariant-loop-i l = record {
  lower : AreLowerYields l.leads (length l.news) l.i l.firsts.items l.active.members.items;
  active : AreActive l.leads (length l.news) l.active.members.items l.active.above.items;
  seen : AreSeen l.active.above.items l.seen;
  len : vec_len l.firsts ≡ l.i;
  room : length l.news ≤ vec_capacity l.firsts;
}

abbrev pub invariant-loop-k : goal.invariant-loop-k
invariant-loop-k l = record {
  settled : (lower : List (Option ℕ)) × (AreLowerYields l.leads (length l.news) (length l.news) lower l.active.members.items
      × AreSettled l.leads (length l.news) l.active.members.items l.k l.yields.firsts.items l.yields.left.items);
  active : AreActive l.leads (length l.news) l.active.members.items l.active.above.items;
  seen : AreSeen l.active.above.items l.seen;
  long : length l.yields.firsts.items ≡ length l.news;
}
