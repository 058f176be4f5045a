use Rattle.std.proofs.Common.{ap, arith, length, map, refl, sym, ◌<◌, ◌∙◌}
use Rattle.std.proofs.lemmas.List.{get_or-map, length-map}
use Rattle.module_vectors.proofs.SumsOfProducts.{products_step}
use Rattle.vector_division.specs.Reductions.{term_of}
use Rattle.s_vectors.proofs.sums.products_of.Goals as goal

pub loop-part-preserved : goal.loop-part-preserved
loop-part-preserved g c =
    let part = c.part-item.result in
    let i = c.loop-part.part-index in
    let lt : i < length (map term_of c.args.parts.now) = omega (arith, length-map c.args.parts.now term_of) in
    record {
      products = rw c.push_reserved.ensures.items
          (products_step (g.L.Vectors.listed c.args.list.now) (map term_of c.args.parts.now) i c.loop-part.products.items (term_of part) _ lt
          (ap term_of c.part-item.is ∙ sym (get_or-map term_of c.args.parts.now i part (term_of part) (omega arith)))
          c.loop-part.invariant.products
          (record { residue = refl; monomial = refl; vector = c.at-vector.ensures }));
      len = omega arith;
      room = omega arith;
    }
