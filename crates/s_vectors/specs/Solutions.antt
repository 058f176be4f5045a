-- What has been done of a job: rows that represent some of its pairs, and the products that they are sums of
use Rattle.std.specs.Prelude.{List, None, Option, Some, [], length, ℕ, ◌++◌, ◌∷◌, ◌≤◌}
use Rattle.formal_sums.specs.FormalSums.{Each, FormalSum}
use Rattle.bases.specs.Settings.{Setting}
use Rattle.basis_steps.specs.Criteria.{IsRepresented}
use Rattle.basis_steps.specs.Outcomes.{AreJobProducts, HasLeadBelowJob, IsReduct}
use Rattle.basis_steps.specs.Pairs.{Pair}
use Rattle.basis_steps.specs.States.{Member, Product, vectors}
use Rattle.member_products.specs.declared.member.Reduct.{Reduct as CodeReduct}
use Rattle.monomial_orders.specs.Kept.{IsWeighed}
use Rattle.term_lists.specs.Rings.{variables}
use Rattle.pair_criteria.specs.declared.pair.Pair.{Pair as CodePair}
use Rattle.basis_core.specs.Jobs.{index_pair_of}
use Rattle.basis_core.specs.Members.{IsRunRow, MembersShown, members_of, reduct_rows_of, setting_of}
use Rattle.basis_core.specs.Outcomes.{indexed_products_of}
use Rattle.s_vectors.specs.declared.division.Division.{Division}

-- the rows of these pairs of the members G, at most one a pair
pub record IsSolved {n : ℕ} (S : Setting n) (G : List (FormalSum n)) (job : List Pair) (rows : List (Member n)) (products : List (Product n)) : Type 0 where
  pub represented : Each (IsRepresented S (G ++ vectors rows)) job
  pub few : length rows ≤ length job
  pub low : Each (λ m. HasLeadBelowJob S G job m.vector) rows
  pub job_products : AreJobProducts S.modulus G job products
  pub sums : Each (IsReduct S.modulus G products) rows

-- a row that may be there
abbrev pub row_list : Option CodeReduct → List CodeReduct
row_list None = []
row_list (Some row) = row ∷ []

-- the rows of one pair, and their products by monomials of the ring
pub record IsSolvedPair (m : MembersShown) (x : CodePair) (d : Division) : Type 0 where
  pub over : Each (IsRunRow m.shared (length m.list)) (row_list d.row)
  pub weighed : Each (λ t. IsWeighed (variables m.shared.ring) m.shared.ring.weights t.1) d.products.items
  pub solved :
      IsSolved (setting_of (variables m.shared.ring) m.shared) (vectors (members_of (variables m.shared.ring) m.list)) (index_pair_of x ∷ [])
      (reduct_rows_of (variables m.shared.ring) (row_list d.row)) (indexed_products_of (variables m.shared.ring) d.products.items)
