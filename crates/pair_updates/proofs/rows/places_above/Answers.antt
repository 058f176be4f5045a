use Rattle.std.proofs.Common.{ap, arith, ltb, ◌%◌, ◌+◌, ◌-◌, ◌^◌, ◌∙◌, w8}
use Rattle.std.proofs.lemmas.Simd.{length-zip2, mask_l-mod, tops_compared}
use Rattle.std.specs.Prelude.{replicate}
use Rattle.std.specs.Simd.Lanes.{mask_l, zip2}
use Rattle.pair_updates.proofs.RowMasks.{raised_flags}
use Rattle.pair_updates.proofs.rows.places_above.Goals as goal

pub returns : goal.returns
returns c =
    let t = c.args.number in
    let es = c.args.bytes in
    let raised = zip2 (λ x y. (x + y) % 2 ^ 8) es (replicate 16 (127 - t)) in
    ap (λ ms. mask_l ms % 2 ^ 64) (tops_compared w8 (λ x y. ltb x y) (replicate 16 127) raised ∙ raised_flags t 16 es c.requires.number c.requires.bytes)
    ∙ mask_l-mod (zip2 (λ u e. ltb u e) (replicate 16 t) es) 64 (omega (arith, length-zip2 (λ u e. ltb u e) (replicate 16 t) es, c.requires.long))
