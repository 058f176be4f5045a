-- Syzygies modulo a list, by marks on the others alone: quotients and colons
use Rattle.std.proofs.Common.{List, [], arith, length, subst, sym, ℕ, ◌*◌, ◌++◌, ◌+◌, ◌<◌, ◌∷◌, ◌≡◌}
use Rattle.std.specs.Prelude.{◌↔◌}
use Rattle.std.specs.declared.cmp.Ordering.{Ordering}
use Rattle.monomials.specs.Exponents.{Exponents}
use Rattle.formal_sums.proofs.Combining.{Each_map, IsMember_same}
use Rattle.formal_sums.proofs.Sameness.{IsSame_sym}
use Rattle.formal_sums.proofs.WeightedSums.{Each_append}
use Rattle.formal_sums.specs.Combinations.{IsMember, combination}
use Rattle.formal_sums.specs.FormalSums.{Each, FormalSum, HasRank, IsOfRank, product}
use Rattle.orders.specs.MonomialOrders.{IsMonomialOrder}
use Rattle.bases.proofs.Leading.{positive}
use Rattle.bases.specs.Bases.{IsReducedBasis}
use Rattle.bases.specs.Settings.{IsLawful, Setting}
use Rattle.syzygy_laws.specs.Kernels.{kernel_of, pot_setting}
use Rattle.syzygy_laws.specs.Syzygies.{marked}
use Rattle.operation_laws.proofs.Behind.{behind_exact, behind_reduced}
use Rattle.operation_laws.proofs.Colon.{one_same, stack_from, stack_to}
use Rattle.operation_laws.proofs.OneMark.{mark_exact}
use Rattle.operation_laws.proofs.Quotient.{length-listed, multiples_same}
use Rattle.operation_laws.proofs.RankFacts.{marked_rank}
use Rattle.operation_laws.proofs.Running.{blocks_rank, multiples_rank, stacked_rank, through}
use Rattle.operation_laws.specs.Operations.{IsSyzygyModulo, basis_vector, blocks, multiples_of, stacked}

-- the list has the rank of the positions and the marks
pub one_mark_rank : {n : ℕ} (q s : ℕ) (X Y : List (FormalSum n)) → length X ≡ s → Each (HasRank q) X → Each (HasRank q) Y → Each (HasRank (q + s)) (marked q 0 X ++ Y)
one_mark_rank q s X Y e x y =
    Each_append (HasRank (q + s)) (marked q 0 X) Y (subst (λ m. Each (HasRank (q + m)) (marked q 0 X)) e (marked_rank q X x))
    (Each_map (HasRank q) (HasRank (q + s)) Y (λ v h. Each_map (λ t. t.0.0 < q) (λ t. t.0.0 < q + s) v (λ t l. omega (arith, l)) h) y)

-- the syzygies of f e_1, .. , f e_m modulo F: the quotient by f
pub modulo_multiples : {n p : ℕ} → 0 < p → (m : ℕ) (f : FormalSum n) (F : List (FormalSum n)) (v : FormalSum n) → IsSyzygyModulo p (multiples_of m f) F v ↔ (IsOfRank p m v × IsMember p F (product f v))
modulo_multiples {n} {p} pos m f F v =
    let X : List (FormalSum n) = multiples_of m f in
    let count : length X ≡ m = length-listed 0 m (λ j. product f (basis_vector j)) in
    subst (λ s. (IsOfRank p s v × IsMember p F (combination X v)) ↔ (IsOfRank p m v × IsMember p F (product f v))) (sym count) (
      λ h. (h.0, IsMember_same F (combination X v) (product f v) (multiples_same pos m f v h.0) h.1),
      λ h. (h.0, IsMember_same F (product f v) (combination X v) (IsSame_sym (multiples_same pos m f v h.0)) h.1),
    )

-- the syzygies of one vector of blocks modulo F in each block: the colon
pub modulo_stack :
    {n p : ℕ} → 0 < p → (m : ℕ) (F : List (FormalSum n)) → Each (HasRank m) F → (C : List (FormalSum n)) → Each (HasRank m) C → (v : FormalSum n)
    → IsSyzygyModulo p (stacked m 0 C ∷ []) (blocks m 0 (length C) F) v ↔ (IsOfRank p 1 v × Each (λ c. IsMember p F (product v c)) C)
modulo_stack {n} {p} pos m F ranks C c_ranks v =
    let x : FormalSum n = stacked m 0 C in
    let B : List (FormalSum n) = blocks m 0 (length C) F in
    let count : length (x ∷ []) ≡ 1 = omega arith in
    subst (λ s. (IsOfRank p s v × IsMember p B (combination (x ∷ []) v)) ↔ (IsOfRank p 1 v × Each (λ c. IsMember p F (product v c)) C)) (sym count) (
      λ h. (h.0, stack_to pos m F ranks 0 C v c_ranks (IsMember_same B (combination (x ∷ []) v) (product v x) (one_same pos x v h.0) h.1)),
      λ h. (h.0, IsMember_same B (product v x) (combination (x ∷ []) v) (IsSame_sym (one_same pos x v h.0)) (stack_from pos m F ranks 0 C v h.1)),
    )

module _ {n : ℕ} (S : Setting n) (monomials : Exponents n → Exponents n → Ordering) (lawful : IsLawful S) (o : IsMonomialOrder monomials) where
  pos : 0 < S.modulus
  pos = positive S lawful

  module _ (q s : ℕ) (X Y G : List (FormalSum n)) (e : length X ≡ s) (x : Each (HasRank q) X) (y : Each (HasRank q) Y)
      (reduced : IsReducedBasis (pot_setting S.weights S.modulus (q + s) monomials) (marked q 0 X ++ Y) G) where
    -- the syzygies of X modulo Y
    pub modulo_exact : (v : FormalSum n) → IsMember S.modulus (kernel_of q G) v ↔ IsSyzygyModulo S.modulus X Y v
    modulo_exact v = through (behind_exact S monomials q s (marked q 0 X ++ Y) G lawful o (one_mark_rank q s X Y e x y) reduced v) (mark_exact pos q X Y x y v)

    pub modulo_reduced : IsReducedBasis (pot_setting S.weights S.modulus s monomials) (kernel_of q G) (kernel_of q G)
    modulo_reduced = behind_reduced S monomials q s (marked q 0 X ++ Y) G lawful o (one_mark_rank q s X Y e x y) reduced

  module _ (m : ℕ) (f : FormalSum n) (F G : List (FormalSum n)) (ranks : Each (HasRank m) F)
      (reduced : IsReducedBasis (pot_setting S.weights S.modulus (m + m) monomials) (marked m 0 (multiples_of m f) ++ F) G) where
    count : length (multiples_of m f) ≡ m
    count = length-listed 0 m (λ j. product f (basis_vector j))

    pub quotient_exact : (v : FormalSum n) → IsMember S.modulus (kernel_of m G) v ↔ (IsOfRank S.modulus m v × IsMember S.modulus F (product f v))
    quotient_exact v = through (modulo_exact m m (multiples_of m f) F G count (multiples_rank m f) ranks reduced v) (modulo_multiples pos m f F v)

    pub quotient_reduced : IsReducedBasis (pot_setting S.weights S.modulus m monomials) (kernel_of m G) (kernel_of m G)
    quotient_reduced = modulo_reduced m m (multiples_of m f) F G count (multiples_rank m f) ranks reduced

  module _ (m : ℕ) (F C G : List (FormalSum n)) (ranks : Each (HasRank m) F) (c_ranks : Each (HasRank m) C)
      (reduced : IsReducedBasis (pot_setting S.weights S.modulus (m * length C + 1) monomials) (marked (m * length C) 0 (stacked m 0 C ∷ []) ++ blocks m 0 (length C) F) G) where
    top_rank : Each (HasRank (m * length C)) (stacked m 0 C ∷ [])
    top_rank = (stacked_rank m 0 C (m * length C) (omega arith) c_ranks, tt)

    block_ranks : Each (HasRank (m * length C)) (blocks m 0 (length C) F)
    block_ranks = blocks_rank m 0 (length C) F (m * length C) (omega arith) ranks

    pub colon_exact : (v : FormalSum n) → IsMember S.modulus (kernel_of (m * length C) G) v ↔ (IsOfRank S.modulus 1 v × Each (λ c. IsMember S.modulus F (product v c)) C)
    colon_exact v =
        through (modulo_exact (m * length C) 1 (stacked m 0 C ∷ []) (blocks m 0 (length C) F) G (omega arith) top_rank block_ranks reduced v)
        (modulo_stack pos m F ranks C c_ranks v)

    pub colon_reduced : IsReducedBasis (pot_setting S.weights S.modulus 1 monomials) (kernel_of (m * length C) G) (kernel_of (m * length C) G)
    colon_reduced = modulo_reduced (m * length C) 1 (stacked m 0 C ∷ []) (blocks m 0 (length C) F) G (omega arith) top_rank block_ranks reduced
