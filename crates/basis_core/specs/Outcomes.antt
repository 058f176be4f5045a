-- What a worker hands in: rows that represent the pairs of its job
use Rattle.std.specs.Prelude.{List, length, map, ℕ}
use Rattle.monomials.specs.Exponents.{exponents_of}
use Rattle.formal_sums.specs.FormalSums.{Each}
use Rattle.monomial_orders.specs.Kept.{IsWeighed, Monomial}
use Rattle.term_lists.specs.Rings.{variables}
use Rattle.basis_steps.specs.Outcomes.{IsOutcome}
use Rattle.basis_steps.specs.States.{Product, vectors}
use Rattle.member_products.specs.declared.member.Reduct.{Reduct as CodeReduct}
use Rattle.basis_core.specs.Members.{IsRunRow, members_of, reduct_rows_of, setting_of}
use Rattle.basis_core.specs.Jobs.{JobShown, pairs_of}

-- what contracts see of an outcome
pub record OutcomeShown : Type 0 where
  pub job : JobShown
  pub rows : List CodeReduct
  pub products : List (ℕ × Monomial)

-- a product of a monomial and a member
abbrev pub indexed_product_of : (n : ℕ) → ℕ × Monomial → Product n
indexed_product_of n t = (t.0, exponents_of n t.1.exponents)

-- each of them
abbrev pub indexed_products_of : (n : ℕ) → List (ℕ × Monomial) → List (Product n)
indexed_products_of n ts = map (λ t. indexed_product_of n t) ts

-- the rows are of vectors of the run and of the job's members, the products have monomials of the ring, and they are an outcome of the job
pub record IsOutcomeIn (n : ℕ) (o : OutcomeShown) : Type 0 where
  pub rows : Each (IsRunRow o.job.shared (length o.job.members)) o.rows
  pub weighed : Each (λ t. IsWeighed n o.job.shared.ring.weights t.1) o.products
  pub outcome :
      IsOutcome (setting_of n o.job.shared) (vectors (members_of n o.job.members)) (pairs_of o.job.pairs)
      (reduct_rows_of n o.rows) (indexed_products_of n o.products)

-- the same, in the number of variables of the job's ring
abbrev pub IsOutcomeOver : OutcomeShown → Type 0
IsOutcomeOver o = IsOutcomeIn (variables o.job.shared.ring) o
