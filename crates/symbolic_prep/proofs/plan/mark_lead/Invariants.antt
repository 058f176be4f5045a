use Rattle.std.proofs.Common.{false, get_or, ℕ, ◌≡◌}
use Rattle.std.specs.Vec.{vec_len}
use Rattle.symbolic_prep.proofs.plan.mark_lead.Given as goal

abbrev pub invariant-loop : goal.invariant-loop
invariant-loop l = record {
  same : (c : ℕ) → get_or l.led.items c false ≡ get_or l.fn.led.items c false;
  len : vec_len l.led ≡ l.counter;
}
