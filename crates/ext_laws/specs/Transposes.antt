-- Transposed maps of free modules, by their columns (UAG chapter 6, section 1)
use Rattle.std.specs.Prelude.{List, [], cond, flat_map, get_or, length, map, nat_eq, suc, zero, ⊤, ℕ, ◌*◌, ◌++◌, ◌<◌, ◌∷◌, ◌≡◌}
use Rattle.std.specs.declared.cmp.Ordering.TheVariants.{Greater}
use Rattle.monomials.specs.Exponents.{times, unit}
use Rattle.formal_sums.specs.FormalSums.{Each, FormalSum, HasRank, IsOfRank, IsSame}
use Rattle.bases.specs.Settings.{Setting}
use Rattle.operation_laws.specs.Operations.{basis_vector, listed, picked}

-- the polynomial that sums the products of the components of v and c at the same positions
abbrev pub pairing : {n : ℕ} → (v c : FormalSum n) → FormalSum n
pairing v c = flat_map (λ s. flat_map (λ t. cond (nat_eq s.0.0 t.0.0) (((0, times s.0.1 t.0.1), s.1 * t.1) ∷ []) []) c) v

-- the entries at position i of the columns, the first at position j
abbrev pub row_from : {n : ℕ} → (i j : ℕ) → List (FormalSum n) → FormalSum n
row_from i j [] = []
row_from i j (c ∷ C) = map (λ t. ((j, t.0.1), t.1)) (picked (λ k. nat_eq k i) c) ++ row_from i (suc j) C

-- the rows of a map with m rows: the columns of the transposed map
abbrev pub rows_of : {n : ℕ} → ℕ → List (FormalSum n) → List (FormalSum n)
rows_of m C = listed 0 m (λ i. row_from i 0 C)

-- v is in the kernel of the transposed map, of a map with m rows: each column annihilates it
abbrev pub IsInTransposedKernel : {n : ℕ} → (p m : ℕ) → List (FormalSum n) → FormalSum n → Type 0
IsInTransposedKernel p m C v = IsOfRank p m v × Each (λ c. IsSame p (pairing v c) []) C

-- e_0, e_1 and on, m of them
abbrev pub unit_vectors : {n : ℕ} → ℕ → List (FormalSum n)
unit_vectors m = listed 0 m basis_vector

-- e_0 is above e_1, and so on: the first position is greatest
abbrev pub HasDescendingUnits : {n : ℕ} → Setting n → Type 0
HasDescendingUnits {n} S = (i j : ℕ) → i < j → S.compare (i, unit n) (j, unit n) ≡ Greater

-- ---- a list of maps, each by its columns, the first into a module of this rank (Eisenbud, Commutative Algebra, appendix A3.11)
-- the rank of the module at step k: that given at step 0, then the number of columns; 0 behind the last map
abbrev pub rank_at : {X : Type 0} → ℕ → List (List X) → ℕ → ℕ
rank_at r maps zero = r
rank_at r [] (suc k) = 0
rank_at r (C ∷ maps) (suc k) = rank_at (length C) maps k

-- the columns of each map stand at the positions of its rows
abbrev pub HaveRanks : {n : ℕ} → ℕ → List (List (FormalSum n)) → Type 0
HaveRanks r [] = ⊤
HaveRanks r (C ∷ maps) = Each (HasRank r) C × HaveRanks (length C) maps

-- the vectors that generate the image of the transposed map into step k: none at step 0, else the rows of map k
abbrev pub image_at : {n : ℕ} → ℕ → List (List (FormalSum n)) → ℕ → List (FormalSum n)
image_at r maps zero = []
image_at r maps (suc k) = rows_of (rank_at r maps k) (get_or maps k [])
