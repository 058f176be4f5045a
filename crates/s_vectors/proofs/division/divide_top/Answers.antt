use Rattle.std.proofs.Common.{[], subst, sym, ◌∙◌, ◌∷◌, ◌≡◌}
use Rattle.formal_sums.specs.FormalSums.{Each}
use Rattle.monomial_orders.specs.Kept.{IsWeighed}
use Rattle.term_lists.specs.Rings.{variables}
use Rattle.basis_steps.specs.States.{vectors}
use Rattle.basis_core.specs.Jobs.{index_pair_of}
use Rattle.basis_core.specs.Members.{members_of, setting_of}
use Rattle.basis_core.specs.Outcomes.{indexed_products_of}
use Rattle.s_vectors.proofs.Leaving.{divided_zero}
use Rattle.s_vectors.proofs.Lists.{empty_list}
use Rattle.s_vectors.proofs.Solved.{solved_zero}
use Rattle.s_vectors.specs.Divided.{IsDivided}
use Rattle.s_vectors.specs.Solutions.{IsSolved}
use Rattle.s_vectors.proofs.division.divide_top.Goals as goal

pub returns-then-is_empty-clause-solved : goal.returns-then-is_empty-clause-solved
returns-then-is_empty-clause-solved c =
    let m = c.args.members.now in
    let x = c.args.pair.now in
    let n = variables m.shared.ring in
    let parts = c.args.parts.items in
    let none : c.args.vector.now ≡ [] = sym c.terms.ensures ∙ empty_list c.terms.result.now (sym c.is_empty.ensures ∙ c.if-is_empty.true) in
    let d : IsDivided m x parts [] = divided_zero m x c.requires.pair parts c.args.vector.now c.requires.top none in
    record {
      over = tt;
      weighed = subst (Each (λ t. IsWeighed n m.shared.ring.weights t.1)) (sym c.in_ok-without_residues.ensures) d.products.weighed;
      solved =
          subst (λ ts. IsSolved (setting_of n m.shared) (vectors (members_of n m.list)) (index_pair_of x ∷ []) [] (indexed_products_of n ts))
          (sym c.in_ok-without_residues.ensures)
          (solved_zero m x c.requires.pair c.kept.ensures parts d);
    }

pub divide_vector-requires-clause-over : goal.divide_vector-requires-clause-over
divide_vector-requires-clause-over c = c.requires.over

pub divide_vector-requires-clause-pair : goal.divide_vector-requires-clause-pair
divide_vector-requires-clause-pair c = c.requires.pair

pub divide_vector-requires-clause-top : goal.divide_vector-requires-clause-top
divide_vector-requires-clause-top c = c.requires.top
