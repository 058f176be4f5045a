use Rattle.std.proofs.Common.{length, ◌*◌, ◌≤◌}
use Rattle.std.specs.Prelude.{◌^◌}
use Rattle.hilbert_laws.specs.Numerators.{IsNumerator, module_count, size}
use Rattle.hilbert_series.specs.Leads.{keys_of}
use Rattle.hilbert_series.proofs.leads.module_numerator.Given as goal

abbrev pub invariant-loop-position : goal.invariant-loop-position
invariant-loop-position l = record {
  numerator : IsNumerator l.weights (length l.weights) l.sum.items (module_count l.weights l.position (keys_of (length l.weights) l.leads));
  small : size l.sum.items ≤ l.position * 2 ^ 120;
}
