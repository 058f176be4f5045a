-- Images of transposed maps along a resolution
use Rattle.std.proofs.Common.{List, [], ap₂, arith, get_or, length, refl, subst, suc, sym, take, zero, ℕ, ◌<◌, ◌∷◌, ◌≡◌, ◌≤◌}
use Rattle.formal_sums.proofs.Combining.{Each_map}
use Rattle.formal_sums.specs.Combinations.{IsMember, IsSyzygy}
use Rattle.formal_sums.specs.FormalSums.{Each, FormalSum, HasRank}
use Rattle.bases.specs.Settings.{Setting}
use Rattle.syzygy_laws.specs.Syzygies.{induced_setting}
use Rattle.operation_laws.proofs.Linear.{IsMember_each}
use Rattle.resolution_laws.proofs.Starts.{start_whole}
use Rattle.resolution_laws.specs.Resolutions.{IsCanonical, IsCanonicalStart, IsCanonicalStartFrom}
use Rattle.ext_laws.specs.Transposes.{HaveRanks, IsInTransposedKernel, image_at, rank_at, rows_of}
use Rattle.ext_laws.proofs.Kernels.{image_inside, zero_inside}

-- the rank of a step is the number of columns of the map into it
pub rank_next : {X : Type 0} (r : ℕ) (maps : List (List X)) (k : ℕ) → rank_at r maps (suc k) ≡ length (get_or maps k [])
rank_next r [] zero = refl
rank_next r [] (suc k) = refl
rank_next r (C ∷ maps) zero = refl
rank_next r (C ∷ maps) (suc k) = rank_next (length C) maps k

-- the columns of each map are syzygies of those before
abbrev IsComplex : {n : ℕ} → ℕ → List (List (FormalSum n)) → Type 0
IsComplex {n} p maps = (k : ℕ) → Each (IsSyzygy p (get_or maps k [])) (get_or maps (suc k) [])

complex_from :
    {n : ℕ} (S : Setting n) (F : List (FormalSum n)) (count : ℕ) (maps : List (List (FormalSum n)))
    → IsCanonicalStartFrom S F count maps → IsComplex S.modulus (F ∷ maps)
complex_from S F count [] c k = none k
  where
    none : (k : ℕ) → Each (IsSyzygy S.modulus (get_or (F ∷ []) k [])) (get_or (F ∷ []) (suc k) [])
    none zero = tt
    none (suc k) = tt
complex_from S F zero (H ∷ maps) c k = absurd (let e : H ∷ maps ≡ [] = c in cc)
complex_from S F (suc count) (H ∷ maps) c zero = Each_map (IsMember S.modulus H) (IsSyzygy S.modulus F) H (λ h a. c.0.syzygies h a) (IsMember_each S.modulus H)
complex_from S F (suc count) (H ∷ maps) c (suc k) = complex_from (induced_setting S F) H count maps c.2 k

start_complex : {n : ℕ} (S : Setting n) (A : List (FormalSum n)) (count : ℕ) (maps : List (List (FormalSum n))) → IsCanonicalStart S A count maps → IsComplex S.modulus maps
start_complex S A count [] c k = tt
start_complex S A zero (H ∷ maps) c k = absurd (let e : H ∷ maps ≡ [] = c in cc)
start_complex S A (suc count) (H ∷ maps) c k = complex_from S H count maps c.1 k

pub ranks_at : {n : ℕ} (r : ℕ) (maps : List (List (FormalSum n))) (k : ℕ) → HaveRanks r maps → Each (HasRank (rank_at r maps k)) (get_or maps k [])
ranks_at r [] k h = tt
ranks_at r (C ∷ maps) zero h = h.0
ranks_at r (C ∷ maps) (suc k) h = ranks_at (length C) maps k h.1

pub start_images :
    {n : ℕ} (S : Setting n) → 0 < S.modulus → (A : List (FormalSum n)) (count : ℕ) (maps : List (List (FormalSum n)))
    → HaveRanks S.rank maps → IsCanonicalStart S A count maps → (k : ℕ) (v : FormalSum n) → IsMember S.modulus (image_at S.rank maps k) v
    → IsInTransposedKernel S.modulus (rank_at S.rank maps k) (get_or maps k []) v
start_images {n} S pos A count maps ranks start zero v inside =
    zero_inside pos S.rank (get_or maps 0 []) (ranks_at S.rank maps 0 ranks) v inside
start_images {n} S pos A count maps ranks start (suc k) v inside =
    let F : List (FormalSum n) = get_or maps k [] in
    let H : List (FormalSum n) = get_or maps (suc k) [] in
    let e = rank_next S.rank maps k in
    subst (λ m. IsInTransposedKernel S.modulus m H v) (sym e)
    (image_inside pos (rank_at S.rank maps k) F H (subst (λ m. Each (HasRank m) H) e (ranks_at S.rank maps (suc k) ranks)) (start_complex S A count maps start k) v inside)

-- the whole is a start
pub canonical_images :
    {n : ℕ} (S : Setting n) → 0 < S.modulus → (A : List (FormalSum n)) (maps : List (List (FormalSum n)))
    → HaveRanks S.rank maps → IsCanonical S A maps → (k : ℕ) (v : FormalSum n) → IsMember S.modulus (image_at S.rank maps k) v
    → IsInTransposedKernel S.modulus (rank_at S.rank maps k) (get_or maps k []) v
canonical_images S pos A maps ranks canonical = start_images S pos A (length maps) maps ranks (start_whole S A (length maps) maps canonical (omega arith))

-- ---- what the first maps have at a step
pub rank_taken : {X : Type 0} (r : ℕ) (maps : List (List X)) (k count : ℕ) → k ≤ count → rank_at r (take count maps) k ≡ rank_at r maps k
rank_taken r maps zero count le = refl
rank_taken r maps (suc k) zero le = absurd (omega arith)
rank_taken r [] (suc k) (suc count) le = refl
rank_taken r (C ∷ maps) (suc k) (suc count) le = rank_taken (length C) maps k count (omega arith)

pub columns_taken : {X : Type 0} (maps : List (List X)) (k count : ℕ) → k < count → get_or (take count maps) k [] ≡ get_or maps k []
columns_taken maps k zero lt = absurd (omega arith)
columns_taken [] k (suc count) lt = refl
columns_taken (C ∷ maps) zero (suc count) lt = refl
columns_taken (C ∷ maps) (suc k) (suc count) lt = columns_taken maps k count (omega arith)

pub image_taken : {n : ℕ} (r : ℕ) (maps : List (List (FormalSum n))) (k count : ℕ) → k ≤ count → image_at r (take count maps) k ≡ image_at r maps k
image_taken r maps zero count le = refl
image_taken r maps (suc k) count le = ap₂ rows_of (rank_taken r maps k count (omega arith)) (columns_taken maps k count (omega arith))
