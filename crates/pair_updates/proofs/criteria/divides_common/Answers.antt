use Rattle.std.proofs.Common.{List, ap, arith, get_or, inl, inr, length, max, refl, ◌+◌, ◌<◌, ◌≡◌, ◌≤◌, ◌⊎◌, ℕ}
use Rattle.std.proofs.lemmas.Bool.{cases_lt, false≢true}
use Rattle.pair_updates.proofs.Dividing.{both_divided, divides_both}
use Rattle.pair_updates.proofs.criteria.divides_common.Goals as goal
use Rattle.pair_updates.proofs.criteria.divides_common.Goals.{else-divisor-v-via-then-divisor-v+else-divisor-v-2, else-divisor-v-via-else-divisor-v}

pub returns-then-divisor-v-2 : goal.returns-then-divisor-v-2
returns-then-divisor-v-2 c =
    let v = c.loop-v.v in
    let dv = ap (λ (l : List ℕ). get_or l v 0) c.exponents-divisor.ensures.value in
    let lv = ap (λ (l : List ℕ). get_or l v 0) c.exponents-left.ensures.value in
    let rv = ap (λ (l : List ℕ). get_or l v 0) c.exponents-right.ensures.value in
    let there : v < length c.args.k.now.exponents = omega (arith, c.loop-v-test.true, ap length c.exponents-divisor.ensures.value) in (
      (λ e. absurd (false≢true e)),
      (λ d.
          let b = both_divided (length c.args.k.now.exponents) c.args.k.now.exponents c.args.a.now.exponents c.args.b.now.exponents
          refl c.requires.first c.requires.second d v there in
          absurd (omega (arith, b, dv, lv, rv, c.if-divisor-v.true, c.if-divisor-v-2.true))),
    )

pub returns : goal.returns
returns c = (
  (λ e. divides_both (length c.args.k.now.exponents) c.args.k.now.exponents c.args.a.now.exponents c.args.b.now.exponents
      refl c.requires.first c.requires.second (λ v l.
      let dv = ap (λ (z : List ℕ). get_or z v 0) c.exponents-divisor.ensures.value in
      let lv = ap (λ (z : List ℕ). get_or z v 0) c.exponents-left.ensures.value in
      let rv = ap (λ (z : List ℕ). get_or z v 0) c.exponents-right.ensures.value in
      let b = c.loop-v.invariant v (omega (arith, l, c.loop-v-test.false, ap length c.exponents-divisor.ensures.value)) in
      omega (arith, b, dv, lv, rv))),
  (λ d. refl),
)

at_most : (d l r : List ℕ) (v k : ℕ) → ((j : ℕ) → j < v → get_or d j 0 ≤ max (get_or l j 0) (get_or r j 0))
    → get_or d v 0 ≤ max (get_or l v 0) (get_or r v 0) → k < v + 1 → get_or d k 0 ≤ max (get_or l k 0) (get_or r k 0)
at_most d l r v k below here lt = go (cases_lt k v)
  where
    go : (k < v) ⊎ (v ≤ k) → get_or d k 0 ≤ max (get_or l k 0) (get_or r k 0)
    go (inl m) = below k m
    go (inr m) =
        let e : k ≡ v = omega (arith, m, lt) in
        omega (arith, here, ap (λ j. get_or d j 0) e, ap (λ j. get_or l j 0) e, ap (λ j. get_or r j 0) e)

pub loop-v-preserved : goal.loop-v-preserved
loop-v-preserved c = λ k lt.
    at_most c.exponents-divisor.result.now c.exponents-left.result.now c.exponents-right.result.now c.loop-v.v k c.loop-v.invariant
    (elim c.else-divisor-v.branch [
      | else-divisor-v-via-then-divisor-v+else-divisor-v-2 w ↦ omega (arith, w.if-divisor-v-2.false)
      | else-divisor-v-via-else-divisor-v w ↦ omega (arith, w.if-divisor-v.false)
    ]) lt
