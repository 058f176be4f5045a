-- What happened so often, and so often again
use Rattle.std.proofs.Common.{arith, zero, suc, ap, ◌∙◌, ℕ, ◌+◌, ◌≡◌}
use Rattle.risen_counts.specs.Counts.{RoseAtMost, count_after, next_count}

pub both_times : (first second count : ℕ) → count_after second (count_after first count) ≡ count_after (first + second) count
both_times first zero count =
    let same : first ≡ first + 0 = omega arith in
    ap (λ n. count_after n count) same
both_times first (suc second) count =
    let same : suc (first + second) ≡ first + suc second = omega arith in
    ap next_count (both_times first second count) ∙ ap (λ n. count_after n count) same

pub at_most_both :
    (first second before between now : ℕ)
    → RoseAtMost first before between → RoseAtMost second between now → RoseAtMost (first + second) before now
at_most_both first second before between now a b = record {
  times = a.times + b.times;
  within = let l = a.within in let r = b.within in omega (arith, l, r);
  counted = b.counted ∙ ap (λ n. count_after b.times n) a.counted ∙ both_times a.times b.times before;
}
