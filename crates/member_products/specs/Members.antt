-- What members and rows stand for, and their cofactors
use Rattle.std.specs.Prelude.{Contains, List, [], get_or, length, map, take, ⊤, ℕ, ◌+◌, ◌∷◌, ◌≡◌}
use Rattle.formal_sums.specs.FormalSums.{IsSame}
use Rattle.term_lists.specs.Rings.{variables}
use Rattle.term_lists.specs.Vectors.{sum_of, sums_of}
use Rattle.term_lists.specs.declared.key.Key.{Key as CodeKey}
use Rattle.term_lists.specs.declared.ring.Ring.{Ring}
use Rattle.term_lists.specs.declared.stop.VectStop.{VectStop}
use Rattle.term_lists.specs.declared.stop.VectStop.TheVariants.{Memory, Degree}
use Rattle.module_vectors.specs.ProductStops.{CombinationStops}
use Rattle.basis_steps.specs.Cofactors.{cofactor_lists}
use Rattle.basis_steps.specs.States.{Member}
use Rattle.member_products.specs.Generators.{IsRanked}
use Rattle.member_products.specs.declared.member.RunMember.{RunMember as CodeMember}
use Rattle.member_products.specs.declared.member.Reduct.{Reduct as CodeReduct}

-- a member, in n variables
abbrev pub member_of : (n : ℕ) → CodeMember → Member n
member_of n m = record { vector = sum_of n m.vector; multiple = sum_of n m.multiple; products = sum_of n m.products }

-- each of them
abbrev pub members_of : (n : ℕ) → List CodeMember → List (Member n)
members_of n ms = map (λ m. member_of n m) ms

-- a row: it has no multiple of a generator
abbrev pub reduct_row_of : (n : ℕ) → CodeReduct → Member n
reduct_row_of n row = record { vector = sum_of n row.vector; multiple = []; products = sum_of n row.products }

-- each of them
abbrev pub reduct_rows_of : (n : ℕ) → List CodeReduct → List (Member n)
reduct_rows_of n rows = map (λ row. reduct_row_of n row) rows

-- the row is of vectors of the ring: its vector of the rank, its products of the first k members
pub record IsRowOver (ring : Ring) (rank k : ℕ) (row : CodeReduct) : Type 0 where
  pub vector : IsRanked ring rank row.vector
  pub products : IsRanked ring k row.products

-- the member is of vectors of the ring: its vector of the rank, its multiple of one of `count` generators, its products of the first k members
pub record IsMemberOver (ring : Ring) (rank count k : ℕ) (m : CodeMember) : Type 0 where
  pub vector : IsRanked ring rank m.vector
  pub multiple : IsRanked ring count m.multiple
  pub products : IsRanked ring k m.products

-- each member in turn, k members before them
abbrev pub AreMembersOver : Ring → (rank count k : ℕ) → List CodeMember → Type 0
AreMembersOver ring rank count k [] = ⊤
AreMembersOver ring rank count k (m ∷ ms) = IsMemberOver ring rank count k m × AreMembersOver ring rank count (k + 1) ms

-- the list has the cofactors of each member over the generators
pub record AreCofactors (ring : Ring) (ms : List CodeMember) (list : List (List (CodeKey × ℕ))) : Type 0 where
  pub number : length list ≡ length ms
  pub same :
      (i : ℕ)
      → IsSame ring.modulus.value (get_or (sums_of (variables ring) list) i []) (get_or (cofactor_lists (members_of (variables ring) ms)) i [])

-- Degree comes where a product of a member and the cofactors of an earlier one has too great a degree
abbrev pub CofactorsStop : Ring → List CodeMember → VectStop → Type 0
CofactorsStop ring ms Memory = ⊤
CofactorsStop ring ms (Degree a b) =
    (i : ℕ) × (m : CodeMember) × (list : List (List (CodeKey × ℕ)))
    × Contains ms m × AreCofactors ring (take i ms) list × CombinationStops m.products list (Degree a b)
