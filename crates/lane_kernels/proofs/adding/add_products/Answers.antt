use Rattle.std.proofs.Common.{◌+◌, ◌*◌, Fits, w64, subst, sym, ap, ◌∙◌}
use Rattle.std.specs.Prelude.{replicate}
use Rattle.std.specs.Simd.Lanes.{Each2, zip2}
use Rattle.std.proofs.lemmas.List.{map-id}
use Rattle.lane_kernels.proofs.Products.{products_fit, sums_are, sums_fit}
use Rattle.lane_kernels.proofs.adding.add_products.Goals as goal

pub overflow_mul-products : goal.overflow_mul-products
overflow_mul-products c =
    subst (λ xs. Each2 (λ x y. Fits w64 (x * y)) xs (replicate 8 c.args.factor)) (sym (map-id c.args.residues))
    (products_fit c.args.factor 8 c.args.residues c.requires.factor c.requires.residues)

pub overflow_add-result : goal.overflow_add-result
overflow_add-result c =
    subst (λ xs. Each2 (λ a y. Fits w64 (a + y)) c.args.numbers (zip2 (λ x y. x * y) xs (replicate 8 c.args.factor))) (sym (map-id c.args.residues))
    (sums_fit c.args.factor 8 c.args.numbers c.args.residues c.requires.factor c.requires.numbers c.requires.residues)

pub returns : goal.returns
returns c =
    ap (λ xs. zip2 (λ a y. a + y) c.args.numbers (zip2 (λ x y. x * y) xs (replicate 8 c.args.factor))) (map-id c.args.residues)
    ∙ sums_are c.args.factor 8 c.args.numbers c.args.residues c.fits-residues.0
