use Rattle.std.proofs.Common.{List, [], length, subst, subst₂, sym, ◌<◌, ◌∷◌}
use Rattle.formal_sums.specs.FormalSums.{Each}
use Rattle.monomial_orders.specs.Kept.{IsWeighed}
use Rattle.term_lists.specs.Rings.{variables}
use Rattle.term_lists.specs.Vectors.{IsMonomialOver, StandsFor}
use Rattle.term_lists.specs.declared.ring.Ring.{Ring}
use Rattle.member_products.specs.Generators.{IsVectorOf}
use Rattle.vector_division.specs.Reductions.{cofactors_of}
use Rattle.vector_division.specs.declared.reduction.ScaledProduct.{ScaledProduct}
use Rattle.basis_steps.specs.States.{vectors}
use Rattle.basis_core.specs.Jobs.{index_pair_of}
use Rattle.basis_core.specs.Members.{members_of, reduct_row_of, setting_of}
use Rattle.basis_core.specs.Outcomes.{indexed_products_of}
use Rattle.s_vectors.proofs.Listed.{divided_ranked, part_terms, row_ranked}
use Rattle.s_vectors.proofs.Solved.{solved_row}
use Rattle.s_vectors.specs.Solutions.{IsSolved}
use Rattle.s_vectors.proofs.division.make_row.Goals as goal

pub quotient_products-requires : goal.quotient_products-requires
quotient_products-requires c =
    let m = c.args.members.now in
    let parts = c.args.parts.items in
    subst (Each (λ q. IsMonomialOver c.args.ring.now q.monomial × (q.residue < c.args.ring.now.modulus.value))) (sym c.deref.ensures.value)
    (subst (λ (r : Ring). Each (λ q. IsMonomialOver r q.monomial × (q.residue < r.modulus.value)) parts) (sym c.requires.over)
    (part_terms (variables m.shared.ring) m.shared.ring.weights m.shared.ring.modulus.value (length m.list) parts c.requires.divided.each))

pub returns : goal.returns
returns c =
    let m = c.args.members.now in
    let x = c.args.pair.now in
    let d = c.requires.divided in
    let n = variables m.shared.ring in
    let parts = c.args.parts.items in
    let products = c.in_ok-products.products in
    let iv = subst (λ (r : Ring). IsVectorOf r products) c.requires.over c.in_ok-products.ensures.vector in
    let same = subst₂ (λ (r : Ring) (ps : List ScaledProduct). StandsFor r products (cofactors_of (variables r) ps)) c.requires.over c.deref.ensures.value c.in_ok-products.ensures.sum in
    record {
      over = (record { vector = divided_ranked m x parts c.args.vector c.kept.ensures d; products = row_ranked m.shared parts products iv same (length m.list) d.each }, tt);
      weighed = subst (Each (λ t. IsWeighed n m.shared.ring.weights t.1)) (sym c.in_ok-without_residues.ensures) d.products.weighed;
      solved =
          subst (λ ts. IsSolved (setting_of n m.shared) (vectors (members_of n m.list)) (index_pair_of x ∷ []) (reduct_row_of n (record { vector = c.args.vector; products = products }) ∷ []) (indexed_products_of n ts)) (sym c.in_ok-without_residues.ensures)
          (solved_row m x c.requires.pair c.kept.ensures parts c.args.vector products d c.requires.some iv same);
    }
