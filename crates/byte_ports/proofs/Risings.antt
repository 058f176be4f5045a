-- Counts of faults that do not fall, and what an error is.
use Rattle.std.proofs.Common.{ℕ, ◌≤◌, Result, Ok, Err, arith}
use Rattle.byte_ports.specs.Causes.{HasCause}
use Rattle.risen_counts.specs.Counts.{Rose}
use Rattle.byte_ports.proofs.Endings.{on_err}

pub le_self : (n : ℕ) → n ≤ n
le_self n = omega arith

pub le_then : (a b c : ℕ) → a ≤ b → b ≤ c → a ≤ c
le_then a b c first then = omega arith

-- a count that had risen later has risen
pub rose_later : (a b c : ℕ) → a ≤ b → Rose b c → Rose a c
rose_later a b c first then = omega arith

-- an error has its cause
pub caused : {T E : Type 0} (a b : ℕ) (r : Result T E) → a ≤ b → Rose a b → HasCause a b r
caused a b r later rose = record { later = later; failed = on_err r _ rose }

-- and so it has from an earlier count on
pub cause_after : {T E : Type 0} (a b c : ℕ) (r : Result T E) → a ≤ b → HasCause b c r → HasCause a c r
cause_after a b c (Ok x) later cause = record { later = le_then a b c later cause.later; failed = tt }
cause_after a b c (Err e) later cause = record { later = le_then a b c later cause.later; failed = rose_later a b c later cause.failed }
