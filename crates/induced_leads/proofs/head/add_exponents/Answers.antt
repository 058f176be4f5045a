use Rattle.std.proofs.Common.{List, [], ap, ap₂, arith, get_or, length, suc, subst, sym, zero, ℕ, ◌++◌, ◌+◌, ◌<◌, ◌∙◌, ◌∷◌, ◌≡◌}
use Rattle.induced_leads.proofs.Pushing.{length-pushed, pushed_each}
use Rattle.induced_leads.proofs.head.add_exponents.Goals as goal

-- all entries are below the bound, and so is one more
low_pushed : (b : ℕ) (xs : List ℕ) (x : ℕ) → 0 < b → ((j : ℕ) → get_or xs j 0 < b) → x < b → (j : ℕ) → get_or (xs ++ x ∷ []) j 0 < b
low_pushed b [] x some h lt zero = lt
low_pushed b [] x some h lt (suc j) = some
low_pushed b (y ∷ xs) x some h lt zero = h 0
low_pushed b (y ∷ xs) x some h lt (suc j) = low_pushed b xs x some (λ i. h (suc i)) lt j

pub loop-k-preserved : goal.loop-k-preserved
loop-k-preserved c =
    let here = c.loop-k.invariant in
    let old = c.loop-k.exponents.items in
    let k = c.loop-k.k in
    let sum = c.small_at.result + c.large_at.result in
    record {
      count = ap length c.in_ok-push.ensures.items ∙ length-pushed old sum ∙ ap (λ z. z + 1) here.count;
      sums = subst (λ (xs : List ℕ). (j : ℕ) → j < k + 1 → get_or xs j 0 ≡ get_or c.args.a.now j 0 + get_or c.args.e.now j 0) (sym c.in_ok-push.ensures.items)
          (pushed_each (λ j x. x ≡ get_or c.args.a.now j 0 + get_or c.args.e.now j 0) old sum k here.count here.sums
          (ap₂ (λ x y. x + y) c.small_at.ensures.is c.large_at.ensures));
      low = subst (λ (xs : List ℕ). (j : ℕ) → get_or xs j 0 < 281474976710656) (sym c.in_ok-push.ensures.items)
          (low_pushed 281474976710656 old sum (omega arith) here.low (omega (arith, c.if-sum-ge-MAX_EXPONENT.false)));
    }
