use Rattle.std.proofs.Common.{[], get_or, length, ℕ, ◌<◌, ◌≡◌, ◌≤◌}
use Rattle.std.specs.Vec.{vec_capacity, vec_len}
use Rattle.vector_division.specs.Marks.{IsMarkOf}
use Rattle.vector_division.specs.declared.divisors.Divisor.{Divisor}
use Rattle.vector_division.proofs.divisors.divisors_at.Given as goal

abbrev pub invariant-loop-k : goal.invariant-loop-k
invariant-loop-k g l =
    record {
      count : vec_len l.divisors ≡ l.k;
      listed : length l.divisors.items ≡ l.k;
      room : length l.indices ≤ vec_capacity l.divisors;
      each : (m : ℕ) (d : Divisor) → m < l.k → d ≡ get_or l.divisors.items m d → (d.index ≡ get_or l.indices m 0) × IsMarkOf (get_or (g.L.Vectors.listed l.list) (get_or l.indices m 0) []) d.mark;
    }
