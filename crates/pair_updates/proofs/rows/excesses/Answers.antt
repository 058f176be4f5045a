use Rattle.std.proofs.Common.{arith, length, min, sym, ℕ, ◌-◌, ◌∙◌, ◌≡◌}
use Rattle.std.proofs.lemmas.Grind.{same_number_lists}
use Rattle.std.proofs.lemmas.Simd.{get_or-zip2, length-zip2}
use Rattle.std.specs.Simd.Lanes.{zip2}
use Rattle.pair_updates.proofs.rows.excesses.Goals as goal

pub returns : goal.returns
returns c =
    let a = c.args.a.now in
    let b = c.args.b.now in
    let told = (λ (x y : ℕ). min (x - y) 4) in
    let long : length (zip2 told a b) ≡ 16 = omega (arith, length-zip2 told a b, c.told-a, c.told-b) in
    same_number_lists c.loop-v.to (zip2 told a b) (omega (arith, c.loop-v.invariant.long, long))
    (λ v lt. c.loop-v.invariant.places v (omega (arith, lt, c.loop-v.invariant.long, c.loop-v-test.false))
    ∙ sym (get_or-zip2 told a b v 0 0 0 (omega (arith, lt, c.loop-v.invariant.long, c.told-a)) (omega (arith, lt, c.loop-v.invariant.long, c.told-b))))
