use Rattle.std.proofs.Common.{[], get_or, length, ℕ, ◌<◌, ◌≡◌, ◌≤◌}
use Rattle.std.specs.Vec.{vec_capacity, vec_len}
use Rattle.vector_division.specs.Marks.{IsMarkOf}
use Rattle.vector_division.specs.declared.divisors.Divisor.{Divisor}
use Rattle.vector_division.proofs.Trying.{turned}
use Rattle.vector_division.proofs.divisors.all_divisors.Given as goal

abbrev pub invariant-loop-k : goal.invariant-loop-k
invariant-loop-k g l =
    let list = g.L.Vectors.listed l.list in
    record {
      count : vec_len l.divisors ≡ l.k;
      listed : length l.divisors.items ≡ l.k;
      room : length list ≤ vec_capacity l.divisors;
      each : (m : ℕ) (d : Divisor) → m < l.k → d ≡ get_or l.divisors.items m d → (d.index ≡ turned l.from_last (length list) m) × IsMarkOf (get_or list (turned l.from_last (length list) m) []) d.mark;
    }
