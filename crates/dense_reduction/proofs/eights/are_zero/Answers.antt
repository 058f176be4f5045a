use Rattle.std.proofs.Common.{arith, get_or, inl, inr, ◌≤◌}
use Rattle.std.proofs.lemmas.Bool.{cases_eq}
use Rattle.std.proofs.lemmas.Nat.{le_or_l, le_or_r}
use Rattle.dense_reduction.proofs.eights.are_zero.Goals as goal

pub loop-j-preserved : goal.loop-j-preserved
loop-j-preserved c = λ k lt.
    let j = c.loop-j.j in
    let all = c.loop-j.joined in
    let x = get_or c.args.numbers.now j 0 in
    elim (cases_eq k j) [
      | inl e ↦ rw e (le_or_r all x)
      | inr ne ↦
          let known : get_or c.args.numbers.now k 0 ≤ all = c.loop-j.invariant k (omega arith) in
          let more = le_or_l all x in
          omega (arith, known, more)
    ]

pub returns : goal.returns
returns c = λ t j lt.
    let le : get_or c.args.numbers.now j 0 ≤ c.loop-j.joined = c.loop-j.invariant j (omega arith) in
    omega (arith, le)
