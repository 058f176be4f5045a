-- Members of a run: their vectors, what those before them make, and their ranks
use Rattle.std.proofs.Common.{List, [], ap, arith, get_or, length, refl, subst, suc, take, zero, ℕ, ◌++◌, ◌+◌, ◌<◌, ◌∷◌, ◌≡◌, ◌≤◌}
use Rattle.formal_sums.specs.Combinations.{combination}
use Rattle.formal_sums.specs.FormalSums.{Each, FormalSum, IsOfRank}
use Rattle.bases.specs.Settings.{IsLawful}
use Rattle.monomial_orders.specs.Kept.{Monomial}
use Rattle.term_lists.proofs.Monomials.{monomial_at}
use Rattle.term_lists.specs.Rings.{ring_comparison, variables}
use Rattle.term_lists.specs.Vectors.{AreVectorsOver, HasPositions, IsMonomialOver, sum_of, sums_of}
use Rattle.term_lists.specs.declared.key.Key.{Key as CodeKey}
use Rattle.term_lists.specs.declared.ring.Ring.{Ring}
use Rattle.module_vectors.specs.Trails.{IsOfProduct, KeptProduct}
use Rattle.member_products.proofs.Multiplied.{member_at}
use Rattle.member_products.proofs.Ranks as ranks
use Rattle.member_products.specs.Generators.{IsRanked}
use Rattle.member_products.specs.Members.{AreMembersOver, IsMemberOver}
use Rattle.member_products.specs.declared.member.Reduct.{Reduct as CodeReduct}
use Rattle.basis_steps.specs.States.{vectors}
use Rattle.basis_core.specs.Members.{AreRunMembers, IsRunMember, IsRunRow, IsMemberShown, Shared, MemberShown, members_of, setting_of}
use Rattle.basis_core.specs.Rows.{vectors_in}

-- ---- one member after another
members_over_more :
    (ring : Ring) (rank count k j : ℕ) (ms : List MemberShown) (m : MemberShown)
    → AreMembersOver ring rank count k ms → k + length ms ≡ j → IsMemberOver ring rank count j m → AreMembersOver ring rank count k (ms ++ (m ∷ []))
members_over_more ring rank count k j [] m h e g = (subst (λ i. IsMemberOver ring rank count i m) (omega (arith, e)) g, tt)
members_over_more ring rank count k j (x ∷ ms) m h e g = (h.0, members_over_more ring rank count (k + 1) j ms m h.1 (omega (arith, e)) g)

members_over_front :
    (ring : Ring) (rank count k i : ℕ) (ms : List MemberShown) → AreMembersOver ring rank count k ms → AreMembersOver ring rank count k (take i ms)
members_over_front ring rank count k zero [] h = tt
members_over_front ring rank count k zero (m ∷ ms) h = tt
members_over_front ring rank count k (suc i) [] h = tt
members_over_front ring rank count k (suc i) (m ∷ ms) h = (h.0, members_over_front ring rank count (k + 1) i ms h.1)

members_over_tracked :
    (shared : Shared) (count k : ℕ) (ms : List MemberShown) → AreMembersOver shared.ring shared.rank count k ms → Each (IsMemberShown shared) ms
members_over_tracked shared count k [] h = tt
members_over_tracked shared count k (m ∷ ms) h = (record { vector = h.0.vector }, members_over_tracked shared count (k + 1) ms h.1)

-- what members of a run are, their vectors are
pub members_tracked : (shared : Shared) (ms : List MemberShown) → AreRunMembers shared ms → Each (IsMemberShown shared) ms
members_tracked shared ms h = members_over_tracked shared (length shared.generators) 0 ms h

pub members_more :
    (shared : Shared) (ms : List MemberShown) (m : MemberShown)
    → AreRunMembers shared ms → IsRunMember shared (length ms) m → AreRunMembers shared (ms ++ (m ∷ []))
members_more shared ms m h g = members_over_more shared.ring shared.rank (length shared.generators) 0 (length ms) ms m h (omega arith) g

pub members_front : (shared : Shared) (i : ℕ) (ms : List MemberShown) → AreRunMembers shared ms → AreRunMembers shared (take i ms)
members_front shared i ms h = members_over_front shared.ring shared.rank (length shared.generators) 0 i ms h

pub member_over :
    (shared : Shared) (ms : List MemberShown) (i : ℕ) (m : MemberShown)
    → AreRunMembers shared ms → i < length ms → m ≡ get_or ms i m → IsRunMember shared i m
member_over shared ms i m h lt e =
    subst (λ k. IsRunMember shared k m) (omega arith) (member_at shared.ring shared.rank (length shared.generators) 0 ms i m h lt e)

-- ---- rows over fewer members
positions_more : (k m : ℕ) (v : List (CodeKey × ℕ)) → k ≤ m → HasPositions k v → HasPositions m v
positions_more k m [] le h = tt
positions_more k m (t ∷ v) le h = (omega (arith, h.0, le), positions_more k m v le h.1)

row_more : (shared : Shared) (k m : ℕ) (row : CodeReduct) → k ≤ m → IsRunRow shared k row → IsRunRow shared m row
row_more shared k m row le h = record {
  vector = h.vector;
  products = record { vector = h.products.vector; positions = positions_more k m row.products le h.products.positions };
}

pub rows_more : (shared : Shared) (k m : ℕ) (rows : List CodeReduct) → k ≤ m → Each (IsRunRow shared k) rows → Each (IsRunRow shared m) rows
rows_more shared k m [] le h = tt
rows_more shared k m (row ∷ rows) le h = (row_more shared k m row le h.0, rows_more shared k m rows le h.1)

-- ---- the members' vectors
pub vectors_of_members : (n : ℕ) (ms : List MemberShown) → vectors (members_of n ms) ≡ sums_of n (vectors_in ms)
vectors_of_members n [] = refl
vectors_of_members n (m ∷ ms) = ap (λ l. sum_of n m.vector ∷ l) (vectors_of_members n ms)

-- the ring's order and modulus are lawful
pub ring_lawful : (shared : Shared) → IsLawful (setting_of (variables shared.ring) shared)
ring_lawful shared = ranks.ring_lawful shared.ring shared.rank

pub vectors_ranked : (shared : Shared) (ms : List MemberShown) → Each (IsMemberShown shared) ms → Each (λ v. IsRanked shared.ring shared.rank v) (vectors_in ms)
vectors_ranked shared [] h = tt
vectors_ranked shared (m ∷ ms) h = (h.0.vector, vectors_ranked shared ms h.1)

pub vectors_over : (shared : Shared) (ms : List MemberShown) → Each (IsMemberShown shared) ms → AreVectorsOver shared.ring (ring_comparison shared.ring) (vectors_in ms)
vectors_over shared ms h = ranks.ranked_vectors shared.ring shared.rank (vectors_in ms) (vectors_ranked shared ms h)

-- a monomial of a member is one of the ring
pub last_weighed :
    (shared : Shared) (ms : List MemberShown) (s : KeptProduct) (last : Monomial)
    → Each (IsMemberShown shared) ms → IsOfProduct (vectors_in ms) s last → IsMonomialOver shared.ring last
last_weighed shared ms s last h m =
    monomial_at (variables shared.ring) shared.ring.weights shared.ring.modulus.value (ring_comparison shared.ring (variables shared.ring))
    (vectors_in ms) s.0 last (vectors_over shared ms h) m

-- ---- ranks
pub vectors_rank :
    (shared : Shared) (ms : List MemberShown)
    → Each (IsMemberShown shared) ms → (a : FormalSum (variables shared.ring))
    → IsOfRank shared.ring.modulus.value shared.rank (combination (sums_of (variables shared.ring) (vectors_in ms)) a)
vectors_rank shared ms h a = ranks.ranked_combination shared.ring shared.rank (vectors_in ms) (vectors_ranked shared ms h) a
