use Rattle.std.proofs.Common.{IfOk, ap, subst, ◌∙◌}
use Rattle.std.proofs.lemmas.Result.{IfErr-weaker}
use Rattle.formal_sums.specs.FormalSums.{FormalSum, IsSame}
use Rattle.term_lists.specs.Rings.{ring_comparison, variables}
use Rattle.term_lists.specs.Vectors.{IsVectorOver, sum_of}
use Rattle.term_lists.specs.declared.key.Key.{Key as CodeKey}
use Rattle.module_vectors.specs.Products.{AreProducts, sum_of_product_list}
use Rattle.std.proofs.Common.{List, map, sym, ℕ}
use Rattle.vector_division.specs.Reductions.{term_of}
use Rattle.s_vectors.specs.Parts.{GreatStops, PartsStop}
use Rattle.s_vectors.proofs.Parts.{great_stops, parts_combination, parts_factors, parts_vectors}
use Rattle.s_vectors.proofs.sums.sum_of_parts.Goals as goal

pub sum_products-requires-clause-factors : goal.sum_products-requires-clause-factors
sum_products-requires-clause-factors g c =
    parts_factors (g.L.Vectors.listed c.args.list.now) (variables c.args.ring.now) c.args.ring.now.weights c.args.ring.now.modulus.value c.args.parts.now c.in_ok-products.products.items c.deref.result.now
    c.requires.parts c.in_ok-products.ensures c.deref.ensures.value

pub sum_products-requires-clause-vectors : goal.sum_products-requires-clause-vectors
sum_products-requires-clause-vectors g c =
    parts_vectors (g.L.Vectors.listed c.args.list.now) (variables c.args.ring.now) c.args.ring.now.weights c.args.ring.now.modulus.value (IsVectorOver c.args.ring.now (ring_comparison c.args.ring.now)) c.args.parts.now c.in_ok-products.products.items c.deref.result.now
    c.requires.list c.requires.parts c.in_ok-products.ensures c.deref.ensures.value

pub returns-clause-vector : goal.returns-clause-vector
returns-clause-vector g c = c.sum_products.ensures.vector

pub returns-clause-sum : goal.returns-clause-sum
returns-clause-sum g c =
    let ring = c.args.ring.now in
    let n : ℕ = variables ring in
    let list : List (List (CodeKey × ℕ)) = g.L.Vectors.listed c.args.list.now in
    subst (λ (f : FormalSum n). IfOk c.sum_products.result (λ v. IsSame ring.modulus.value (sum_of n v) f))
    (ap (sum_of_product_list n) c.deref.ensures.value
    ∙ parts_combination list n ring.weights ring.modulus.value c.args.parts.now c.in_ok-products.products.items c.requires.parts c.in_ok-products.ensures)
    c.sum_products.ensures.sum

pub returns-clause-stop : goal.returns-clause-stop
returns-clause-stop g c =
    let list : List (List (CodeKey × ℕ)) = g.L.Vectors.listed c.args.list.now in
    IfErr-weaker c.sum_products.result (GreatStops c.deref.result.now) (PartsStop list c.args.parts.now)
    (great_stops list c.args.parts.now c.deref.result.now
    (subst (AreProducts list (map term_of c.args.parts.now)) (sym c.deref.ensures.value) c.in_ok-products.ensures))
    c.sum_products.ensures.stop
