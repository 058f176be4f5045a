use Rattle.std.proofs.Common.{ap, arith, eqb, not, ◌%◌, ◌^◌, ◌∙◌, w16}
use Rattle.std.proofs.lemmas.Simd.{length-zip2, mask_l-mod, tops_compared}
use Rattle.std.specs.Simd.Lanes.{mask_l}
use Rattle.monomial_orders.proofs.Masks.{differ_bits}
use Rattle.monomial_orders.proofs.sixteen.different.Goals as goal

pub returns : goal.returns
returns c =
    let xs = c.args.a.now in
    let ys = c.args.b.now in
    ap (λ ms. mask_l ms % 2 ^ 64) (tops_compared w16 (λ x y. not (eqb x y)) xs ys)
    ∙ mask_l-mod (differ_bits xs ys) 64 (omega (arith, length-zip2 (λ x y. not (eqb x y)) xs ys, c.told-a, c.told-b))
