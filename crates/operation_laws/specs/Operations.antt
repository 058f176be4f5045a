-- Operations on modules (IVA chapter 4, sections 3 and 4; UAG chapter 5, section 3)
use Rattle.std.specs.Prelude.{Bool, List, [], cond, false, flat_map, length, map, nat_lt, suc, zero, ℕ, ◌++◌, ◌+◌, ◌-◌, ◌<◌, ◌∷◌, ◌≡◌}
use Rattle.residues.specs.Residues.{IsCongruent}
use Rattle.monomials.specs.Exponents.{Exponents, cons, tail, unit}
use Rattle.formal_sums.specs.Combinations.{IsMember, combination}
use Rattle.formal_sums.specs.FormalSums.{Each, FormalSum, HasRank, IsOfRank, IsSame, Key, coefficient, product, scale}
use Rattle.orders.specs.KeyOrders.{top}
use Rattle.orders.specs.WeightedOrders.{weighted_elimination}
use Rattle.bases.specs.Bases.{IsReducedBasis}
use Rattle.bases.specs.Leads.{IsMonicList}
use Rattle.bases.specs.Settings.{Setting}
use Rattle.division_laws.specs.Elimination.{has_none_of_first}
use Rattle.syzygy_laws.specs.Kernels.{kept_list}
use Rattle.syzygy_laws.specs.Syzygies.{raised}

-- the products of the members of F and H
abbrev pub products_of : {n : ℕ} → List (FormalSum n) → List (FormalSum n) → List (FormalSum n)
products_of F H = flat_map (λ f. map (product f) H) F

-- modulo p, v has kept keys alone
abbrev pub HasKeptKeys : {n : ℕ} → ℕ → (Key n → Bool) → FormalSum n → Type 0
HasKeptKeys {n} p keep v = (k : Key n) → keep k ≡ false → IsCongruent p (coefficient v k) 0

-- v is a combination of kept members of the module of F
pub record IsCombinationOfKept {n : ℕ} (p : ℕ) (keep : Key n → Bool) (F : List (FormalSum n)) (v : FormalSum n) : Type 0 where
  pub vectors : List (FormalSum n)
  pub inside : Each (IsMember p F) vectors
  pub kept : Each (HasKeptKeys p keep) vectors
  pub sums : IsMember p vectors v

-- v with one more variable in front
abbrev pub with_first : {n : ℕ} → FormalSum n → FormalSum (suc n)
with_first v = map (λ t. ((t.0.0, cons 0 t.0.1), t.1)) v

-- v without the first variable: 1 is put for it
abbrev pub without_first : {n : ℕ} → FormalSum (suc n) → FormalSum n
without_first v = map (λ t. ((t.0.0, tail t.0.1), t.1)) v

-- the first variable
abbrev pub first_variable : (n : ℕ) → Exponents (suc n)
first_variable n = cons 1 (unit n)

-- t v
abbrev pub times_first : {n : ℕ} → FormalSum n → FormalSum (suc n)
times_first {n} v = scale 1 (first_variable n) (with_first v)

-- (1 - t) v
abbrev pub times_rest : {n : ℕ} → ℕ → FormalSum n → FormalSum (suc n)
times_rest {n} p v = with_first v ++ scale (p - 1) (first_variable n) (with_first v)

-- the members t f and (1 - t) h (IVA chapter 4, section 3)
abbrev pub intersection_list : {n : ℕ} → ℕ → List (FormalSum n) → List (FormalSum n) → List (FormalSum (suc n))
intersection_list p F H = map times_first F ++ map (times_rest p) H

-- the vector e_j
abbrev pub basis_vector : {n : ℕ} → ℕ → FormalSum n
basis_vector {n} j = ((j, unit n), 1) ∷ []

-- g i, g (i + 1) and on, m of them
abbrev pub listed : {X : Type 0} → ℕ → ℕ → (ℕ → X) → List X
listed i zero g = []
listed i (suc m) g = g i ∷ listed (suc i) m g

-- f e_1, .. , f e_m
abbrev pub multiples_of : {n : ℕ} → ℕ → FormalSum n → List (FormalSum n)
multiples_of m f = listed 0 m (λ j. product f (basis_vector j))

-- (1 - t f) e_j
abbrev pub inverse_vector : {n : ℕ} → ℕ → FormalSum n → ℕ → FormalSum (suc n)
inverse_vector {n} p f j = basis_vector j ++ scale (p - 1) (first_variable n) (with_first (product f (basis_vector j)))

-- the members of F, and (1 - t f) e_1, .. , (1 - t f) e_m (IVA chapter 4, section 4)
abbrev pub saturation_list : {n : ℕ} → ℕ → ℕ → FormalSum n → List (FormalSum n) → List (FormalSum (suc n))
saturation_list p m f F = map with_first F ++ listed 0 m (inverse_vector p f)

-- f^k v
abbrev pub power_times : {n : ℕ} → FormalSum n → ℕ → FormalSum n → FormalSum n
power_times f zero v = v
power_times f (suc k) v = product f (power_times f k v)

-- the components of v at the positions that pass the test
abbrev pub picked : {n : ℕ} → (ℕ → Bool) → FormalSum n → FormalSum n
picked test [] = []
picked test (t ∷ v) = cond (test t.0.0) (t ∷ picked test v) (picked test v)

-- the components of v at the positions below m
abbrev pub first_components : {n : ℕ} → ℕ → FormalSum n → FormalSum n
first_components m v = picked (λ i. nat_lt i m) v

-- the members of C one below the other, from position i on, m for each (UAG chapter 5, section 3)
abbrev pub stacked : {n : ℕ} → ℕ → ℕ → List (FormalSum n) → FormalSum n
stacked m i [] = []
stacked m i (c ∷ C) = raised i c ++ stacked m (m + i) C

-- each member of F in each of s blocks, from position i on
abbrev pub blocks : {n : ℕ} → ℕ → ℕ → ℕ → List (FormalSum n) → List (FormalSum n)
blocks m i zero F = []
blocks m i (suc s) F = map (raised i) F ++ blocks m (m + i) s F

-- v is a syzygy of X modulo Y: the combination of X by it is in the module of Y
abbrev pub IsSyzygyModulo : {n : ℕ} → ℕ → (X Y : List (FormalSum n)) → FormalSum n → Type 0
IsSyzygyModulo p X Y v = IsOfRank p (length X) v × IsMember p Y (combination X v)

-- the setting of S in l variables of the weights ws, by an order that eliminates the first k of them, term over position
abbrev pub elimination_setting : {n : ℕ} (ws : List ℕ) (l k : ℕ) → Setting n → Setting l
elimination_setting ws l k S = record { modulus = S.modulus; weights = ws; rank = S.rank; compare = top (weighted_elimination ws k) }

-- G is what a run on F gives: the reduced basis of the module of F, in vectors of the rank
pub record IsRun {n : ℕ} (S : Setting n) (F G : List (FormalSum n)) : Type 0 where
  pub reduced : IsReducedBasis S F G
  pub list : IsMonicList S G
  pub ranks : Each (HasRank S.rank) G

-- the members of G that have not the first k variables
abbrev pub eliminated : {n : ℕ} → ℕ → List (FormalSum n) → List (FormalSum n)
eliminated k G = kept_list (has_none_of_first k) G

-- the members of G without the first variable, in the other variables
abbrev pub back : {n : ℕ} → List (FormalSum (suc n)) → List (FormalSum n)
back G = map without_first (eliminated 1 G)

-- some power of f takes v into the module of F
pub record IsInSaturation {n : ℕ} (p : ℕ) (f : FormalSum n) (F : List (FormalSum n)) (v : FormalSum n) : Type 0 where
  pub power : ℕ
  pub positive : 0 < power
  pub inside : IsMember p F (power_times f power v)

-- v is the sum of a member of F's module and one of H's
pub record IsSumOfMembers {n : ℕ} (p : ℕ) (F H : List (FormalSum n)) (v : FormalSum n) : Type 0 where
  pub left : FormalSum n
  pub right : FormalSum n
  pub in_left : IsMember p F left
  pub in_right : IsMember p H right
  pub sums : IsSame p (left ++ right) v
