use Rattle.std.proofs.Common.{[], subst, sym, ◌∙◌, ◌∷◌, ◌≡◌}
use Rattle.formal_sums.specs.FormalSums.{Each}
use Rattle.monomial_orders.specs.Kept.{IsWeighed}
use Rattle.term_lists.specs.Rings.{variables}
use Rattle.basis_core.specs.Jobs.{index_pair_of}
use Rattle.basis_steps.specs.States.{vectors}
use Rattle.basis_core.specs.Members.{members_of, setting_of}
use Rattle.basis_core.specs.Outcomes.{indexed_products_of}
use Rattle.s_vectors.proofs.Lists.{empty_list}
use Rattle.s_vectors.proofs.Solved.{solved_zero}
use Rattle.s_vectors.specs.Divided.{IsDivided}
use Rattle.s_vectors.specs.Solutions.{IsSolved}
use Rattle.s_vectors.proofs.division.make_division.Goals as goal

pub returns-then-is_empty : goal.returns-then-is_empty
returns-then-is_empty c =
    let m = c.args.members.now in
    let x = c.args.pair.now in
    let n = variables m.shared.ring in
    let none : c.args.vector ≡ [] = sym c.terms.ensures ∙ empty_list c.terms.result.now (sym c.is_empty.ensures ∙ c.if-is_empty.true) in
    let d : IsDivided m x c.args.parts.items [] = subst (IsDivided m x c.args.parts.items) none c.requires.divided in
    record {
      over = tt;
      weighed = subst (Each (λ t. IsWeighed n m.shared.ring.weights t.1)) (sym c.in_ok-without_residues.ensures) d.products.weighed;
      solved =
          subst (λ ts. IsSolved (setting_of n m.shared) (vectors (members_of n m.list)) (index_pair_of x ∷ []) [] (indexed_products_of n ts))
          (sym c.in_ok-without_residues.ensures)
          (solved_zero m x c.requires.pair c.kept.ensures c.args.parts.items d);
    }

pub make_row-requires-clause-over : goal.make_row-requires-clause-over
make_row-requires-clause-over c = c.requires.over

pub make_row-requires-clause-pair : goal.make_row-requires-clause-pair
make_row-requires-clause-pair c = c.requires.pair

pub make_row-requires-clause-divided : goal.make_row-requires-clause-divided
make_row-requires-clause-divided c = c.requires.divided
