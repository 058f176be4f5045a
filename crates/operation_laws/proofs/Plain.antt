-- Each operation from reduced bases alone
use Rattle.std.proofs.Common.{List, [], length, map, suc, ℕ, ◌+◌, ◌++◌, ◌∷◌, ◌≡◌}
use Rattle.std.specs.declared.cmp.Ordering.{Ordering}
use Rattle.monomials.specs.Exponents.{Exponents}
use Rattle.std.specs.Prelude.{◌↔◌}
use Rattle.std.proofs.Common.{subst, sym}
use Rattle.formal_sums.proofs.OfRank.{HasRank_kept, IsSame_kept, kept}
use Rattle.formal_sums.proofs.Combining.{Each_map, IsMember_same}
use Rattle.formal_sums.proofs.Sameness.{IsSame_sym}
use Rattle.formal_sums.proofs.WeightedSums.{Each_append}
use Rattle.formal_sums.specs.Combinations.{IsMember, IsSyzygy}
use Rattle.formal_sums.specs.FormalSums.{Each, FormalSum, HasRank, IsOfRank, IsSame, product}
use Rattle.bases.specs.Bases.{IsReducedBasis}
use Rattle.bases.specs.Settings.{IsLawful, Setting}
use Rattle.bases.proofs.Leading.{positive}
use Rattle.orders.specs.MonomialOrders.{IsMonomialOrder}
use Rattle.division_laws.specs.Elimination.{has_none_of_first}
use Rattle.syzygy_laws.specs.Syzygies.{marked}
use Rattle.operation_laws.proofs.Linear.{Each_of_map, IsSame_linear}
use Rattle.operation_laws.proofs.More.{sum_members}
use Rattle.operation_laws.proofs.Saturate.{HasRank_product, IsLinear_power_times}
use Rattle.operation_laws.proofs.RankFacts.{back_rank, eliminated_rank, intersection_rank, kernel_rank, marked_rank, saturation_rank}
use Rattle.operation_laws.proofs.RunFacts.{run_of}
use Rattle.operation_laws.proofs.Parts.{kernel_exact}
use Rattle.operation_laws.proofs.Running.{eliminate_run, intersect_run, lawful_elimination, lawful_position, run_generates, saturate_run, through}
use Rattle.syzygy_laws.specs.Kernels.{kernel_of, pot_setting}
use Rattle.operation_laws.specs.Operations.{IsCombinationOfKept, IsInSaturation, IsRun, IsSumOfMembers, back, eliminated, elimination_setting, intersection_list, power_times, products_of, saturation_list}

back_of : {n : ℕ} (S : Setting n) (ws : List ℕ) → IsLawful S → (L G : List (FormalSum (suc n))) (R : List (FormalSum n)) → IsRun (elimination_setting ws (suc n) 1 S) L G → IsReducedBasis S (back G) R → IsRun S (back G) R
back_of S ws lawful L G R run b = run_of S lawful (back G) R (back_rank S.rank G run.ranks) b

pub intersect_plain :
    {n : ℕ} (S : Setting n) (ws : List ℕ) (F H : List (FormalSum n)) (G : List (FormalSum (suc n))) (R : List (FormalSum n)) (v : FormalSum n) → IsLawful S
    → Each (HasRank S.rank) F → Each (HasRank S.rank) H
    → IsReducedBasis (elimination_setting ws (suc n) 1 S) (intersection_list S.modulus F H) G → IsReducedBasis S (back G) R
    → IsMember S.modulus R v ↔ (IsMember S.modulus F v × IsMember S.modulus H v)
intersect_plain {n} S ws F H G R v lawful f h a b =
    let run = run_of (elimination_setting ws (suc n) 1 S) (lawful_elimination ws (suc n) 1 S lawful) (intersection_list S.modulus F H) G (intersection_rank S.modulus S.rank F H f h) a in
    intersect_run S ws F H G R v lawful run (back_of S ws lawful (intersection_list S.modulus F H) G R run b)

-- the list of a syzygy run is a run
pub marked_run :
    {n : ℕ} (S : Setting n) (monomials : Exponents n → Exponents n → Ordering) (q : ℕ) (F G : List (FormalSum n)) → IsLawful S → IsMonomialOrder monomials → Each (HasRank q) F
    → IsReducedBasis (pot_setting S.weights S.modulus (q + length F) monomials) (marked q 0 F) G → IsRun (pot_setting S.weights S.modulus (q + length F) monomials) (marked q 0 F) G
marked_run S monomials q F G lawful o r a = run_of (pot_setting S.weights S.modulus (q + length F) monomials) (lawful_position monomials (q + length F) S o lawful) (marked q 0 F) G (marked_rank q F r) a

pub eliminate_plain :
    {n : ℕ} (S : Setting n) (ws : List ℕ) (k : ℕ) (F G R : List (FormalSum n)) (v : FormalSum n) → IsLawful S → Each (HasRank S.rank) F
    → IsReducedBasis (elimination_setting ws n k S) F G → IsReducedBasis S (eliminated k G) R
    → IsMember S.modulus R v ↔ IsCombinationOfKept S.modulus (has_none_of_first k) F v
eliminate_plain {n} S ws k F G R v lawful r a b =
    let run = run_of (elimination_setting ws n k S) (lawful_elimination ws n k S lawful) F G r a in
    eliminate_run S ws k F G R v lawful run (run_of S lawful (eliminated k G) R (eliminated_rank S.rank k G run.ranks) b)

-- the run on the kernel: the syzygies of F
pub kernel_run :
    {n : ℕ} (S K : Setting n) (monomials : Exponents n → Exponents n → Ordering) (q : ℕ) (F G R : List (FormalSum n)) (a : FormalSum n)
    → IsLawful S → IsLawful K → K.modulus ≡ S.modulus → IsMonomialOrder monomials → Each (HasRank q) F
    → IsReducedBasis (pot_setting S.weights S.modulus (q + length F) monomials) (marked q 0 F) G → IsRun K (kernel_of q G) R
    → IsMember S.modulus R a ↔ IsSyzygy S.modulus F a
kernel_run S K monomials q F G R a lawful k_lawful same o r b last =
    through (subst (λ p. IsMember p R a ↔ IsMember p (kernel_of q G) a) same (run_generates K k_lawful (kernel_of q G) R last a))
    (kernel_exact S monomials q F G lawful o r b a)

pub kernel_plain :
    {n : ℕ} (S K : Setting n) (monomials : Exponents n → Exponents n → Ordering) (q : ℕ) (F G R : List (FormalSum n)) (a : FormalSum n)
    → IsLawful S → IsLawful K → K.modulus ≡ S.modulus → K.rank ≡ length F → IsMonomialOrder monomials → Each (HasRank q) F
    → IsReducedBasis (pot_setting S.weights S.modulus (q + length F) monomials) (marked q 0 F) G → IsReducedBasis K (kernel_of q G) R
    → IsMember S.modulus R a ↔ IsSyzygy S.modulus F a
kernel_plain S K monomials q F G R a lawful k_lawful same ranks o r x y =
    let run = marked_run S monomials q F G lawful o r x in
    kernel_run S K monomials q F G R a lawful k_lawful same o r x
    (run_of K k_lawful (kernel_of q G) R (subst (λ m. Each (HasRank m) (kernel_of q G)) (sym ranks) (kernel_rank q (length F) G run.ranks)) y)

-- what is proved of the components of v below the rank is so of v
of_rank :
    {n : ℕ} (p m : ℕ) (R : List (FormalSum n)) (P : FormalSum n → Type 0) (v : FormalSum n) → IsOfRank p m v
    → ((u w : FormalSum n) → IsSame p u w → P u → P w) → IsMember p R (kept m v) ↔ P (kept m v) → IsMember p R v ↔ P v
of_rank p m R P v r same h =
    let e = IsSame_kept m v r in (
      λ a. same (kept m v) v e (h.0 (IsMember_same R v (kept m v) (IsSame_sym e) a)),
      λ b. IsMember_same R (kept m v) v e (h.1 (same v (kept m v) (IsSame_sym e) b)),
    )

pub saturate_plain :
    {n : ℕ} (S : Setting n) (ws : List ℕ) (f : FormalSum n) (F : List (FormalSum n)) (G : List (FormalSum (suc n))) (R : List (FormalSum n)) (v : FormalSum n) → IsLawful S
    → Each (HasRank S.rank) F → IsOfRank S.modulus S.rank v
    → IsReducedBasis (elimination_setting ws (suc n) 1 S) (saturation_list S.modulus S.rank f F) G → IsReducedBasis S (back G) R
    → IsMember S.modulus R v ↔ IsInSaturation S.modulus f F v
saturate_plain {n} S ws f F G R v lawful r vr a b =
    let run = run_of (elimination_setting ws (suc n) 1 S) (lawful_elimination ws (suc n) 1 S lawful) (saturation_list S.modulus S.rank f F) G (saturation_rank S.modulus S.rank f F r) a in
    of_rank S.modulus S.rank R (IsInSaturation S.modulus f F) v vr
    (λ u w e m. record { power = m.power; positive = m.positive; inside = IsMember_same F (power_times f m.power u) (power_times f m.power w) (IsSame_linear (positive S lawful) (power_times f m.power) (IsLinear_power_times f m.power) u w e) m.inside })
    (saturate_run S ws f F G R (kept S.rank v) lawful (HasRank_kept S.rank v) run (back_of S ws lawful (saturation_list S.modulus S.rank f F) G R run b))

pub sum_plain :
    {n : ℕ} (S : Setting n) (F H R : List (FormalSum n)) (v : FormalSum n) → IsLawful S → Each (HasRank S.rank) F → Each (HasRank S.rank) H
    → IsReducedBasis S (F ++ H) R → IsMember S.modulus R v ↔ IsSumOfMembers S.modulus F H v
sum_plain S F H R v lawful f h b =
    let e = run_generates S lawful (F ++ H) R (run_of S lawful (F ++ H) R (Each_append (HasRank S.rank) F H f h) b) v in
    let s = sum_members (positive S lawful) F H v in
    (λ a. s.0 (e.0 a), λ a. e.1 (s.1 a))

pub product_plain :
    {n : ℕ} (S : Setting n) (F H R : List (FormalSum n)) (v : FormalSum n) → IsLawful S → Each (HasRank S.rank) H
    → IsReducedBasis S (products_of F H) R → IsMember S.modulus R v ↔ IsMember S.modulus (products_of F H) v
product_plain {n} S F H R v lawful h b = run_generates S lawful (products_of F H) R (run_of S lawful (products_of F H) R (ranks F) b) v
  where
    ranks : (F : List (FormalSum n)) → Each (HasRank S.rank) (products_of F H)
    ranks [] = tt
    ranks (f ∷ F) = Each_append (HasRank S.rank) (map (product f) H) (products_of F H) (Each_of_map (HasRank S.rank) (product f) H (Each_map (HasRank S.rank) (λ g. HasRank S.rank (product f g)) H (λ g r. HasRank_product S.rank f g r) h)) (ranks F)
