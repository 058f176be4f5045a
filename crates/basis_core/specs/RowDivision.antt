-- How a row is divided: its vector first, then its products less the quotients, and what is left
use Rattle.std.specs.Prelude.{List, None, Option, Some, [], length, ℕ, ◌++◌, ◌∷◌}
use Rattle.formal_sums.specs.Combinations.{combination}
use Rattle.formal_sums.specs.FormalSums.{Each, FormalSum, IsSame}
use Rattle.bases.specs.Leads.{head_key}
use Rattle.term_lists.specs.Rings.{ring_comparison, variables}
use Rattle.term_lists.specs.Vectors.{IsVector, StandsFor, sum_of, sums_of}
use Rattle.term_lists.specs.declared.key.Key.{Key as CodeKey}
use Rattle.vector_division.specs.Divisions.{HasReducedLead}
use Rattle.vector_division.specs.Reductions.{AreMetFrom, HaveLeadsUpTo, IsScaledProduct, cofactors_of}
use Rattle.vector_division.specs.declared.reduction.ScaledProduct.{ScaledProduct}
use Rattle.member_products.specs.Generators.{IsVectorOf}
use Rattle.member_products.specs.declared.member.Reduct.{Reduct as CodeReduct}
use Rattle.basis_steps.specs.Divisions.{LeavesMember, LeavesNothing, difference}
use Rattle.basis_steps.specs.States.{vectors}
use Rattle.basis_core.specs.Members.{IsRunMember, Shared, MemberShown, member_of, members_of, setting_of}
use Rattle.basis_core.specs.Rows.{vectors_in}

-- the row, with this multiple of a generator
abbrev pub with_multiple : CodeReduct → List (CodeKey × ℕ) → MemberShown
with_multiple row multiple = record { vector = row.vector; multiple = multiple; products = row.products }

-- the quotients of the vector by the members: products that fit, with leads at most the vector's; each lead is a key of the vector or of an earlier product
pub record AreRowQuotients (shared : Shared) (ms : List MemberShown) (v : List (CodeKey × ℕ)) (qs : List ScaledProduct) : Type 0 where
  pub each : Each (IsScaledProduct (variables shared.ring) shared.ring.weights shared.ring.modulus.value (vectors_in ms)) qs
  pub met : AreMetFrom (variables shared.ring) (sum_of (variables shared.ring) v) (vectors_in ms) [] qs
  pub bounded : HaveLeadsUpTo (variables shared.ring) (ring_comparison shared.ring (variables shared.ring)) (vectors_in ms)
      (head_key (sum_of (variables shared.ring) v)) qs

-- the products and the rest are the vector, and no lead divides the rest's lead
pub record IsRowRest (shared : Shared) (ms : List MemberShown) (v : List (CodeKey × ℕ)) (qs : List ScaledProduct) (rest : List (CodeKey × ℕ)) : Type 0 where
  pub sum : IsSame shared.ring.modulus.value (sum_of (variables shared.ring) v) (combination (sums_of (variables shared.ring) (vectors_in ms)) (cofactors_of (variables shared.ring) qs) ++ sum_of (variables shared.ring) rest)
  pub vector : IsVector (variables shared.ring) shared.ring.weights shared.ring.modulus.value (ring_comparison shared.ring (variables shared.ring)) rest
  pub reduced : HasReducedLead (sums_of (variables shared.ring) (vectors_in ms)) (sum_of (variables shared.ring) rest)

-- the row's products less those that division takes away
pub record AreRowProducts (shared : Shared) (products : List (CodeKey × ℕ)) (qs : List ScaledProduct) (left : List (CodeKey × ℕ)) : Type 0 where
  pub vector : IsVectorOf shared.ring left
  pub sum : StandsFor shared.ring left
      (difference shared.ring.modulus.value (sum_of (variables shared.ring) products) (cofactors_of (variables shared.ring) qs))

-- the residue of the first term; 0 where there is none
abbrev pub lead_residue : List (CodeKey × ℕ) → ℕ
lead_residue [] = 0
lead_residue (t ∷ v) = t.1

-- the member is what division of the row leaves
abbrev pub IsLeftMember : Shared → List MemberShown → MemberShown → MemberShown → Type 0
IsLeftMember shared ms row m =
    IsRunMember shared (length ms) m
    × ((a : FormalSum (variables shared.ring)) × (c : ℕ) × (d : ℕ)
    × LeavesMember (setting_of (variables shared.ring) shared) (vectors (members_of (variables shared.ring) ms))
    (member_of (variables shared.ring) row) a c d (member_of (variables shared.ring) m))

-- what division of the row leaves: nothing, or a member
abbrev pub IsMemberLeft : Shared → List MemberShown → MemberShown → Option MemberShown → Type 0
IsMemberLeft shared ms row None =
    (a : FormalSum (variables shared.ring))
    × LeavesNothing (setting_of (variables shared.ring) shared) (vectors (members_of (variables shared.ring) ms)) (member_of (variables shared.ring) row) a
IsMemberLeft shared ms row (Some m) = IsLeftMember shared ms row m
