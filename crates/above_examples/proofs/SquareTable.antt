-- The resolution of x^2, x y and y^2 has no constant; its table
use Rattle.std.proofs.Common.{Bool, List, [], ap, arith, cond, false, get_or, inl, inr, refl, suc, true, zero, ℕ, ◌+◌, ◌<◌, ◌∷◌, ◌≡◌, ◌⊎◌}
use Rattle.std.specs.Prelude.{nat_eq}
use Rattle.residues.proofs.Congruences.{IsCongruent_of}
use Rattle.residues.specs.Residues.{IsCongruent}
use Rattle.monomials.specs.Exponents.{Exponents, degree, unit}
use Rattle.monomials.specs.Weights.{weighted_degree}
use Rattle.formal_sums.proofs.OfRank.{IsOfRank_of}
use Rattle.formal_sums.specs.FormalSums.{Each, FormalSum, Key, coefficient}
use Rattle.betti_laws.specs.Tables.{step_count}
use Rattle.minimal_laws.proofs.CanonicalPresenting.{canonical_cancelled}
use Rattle.minimal_laws.proofs.OneCancellation.{no_step}
use Rattle.minimal_laws.specs.Cancellation.{IsCancelled}
use Rattle.minimal_laws.specs.Gradings.{AreHomogeneous, GradedMap, GradedMaps, IsHomogeneous, graded_by_leads}
use Rattle.minimal_laws.specs.Minimal.{HasConstant, IsMinimal, Presents}
use Rattle.above_examples.proofs.SquareBasis.{plane_lawful}
use Rattle.above_examples.proofs.SquareMaps.{square_canonical}
use Rattle.above_examples.proofs.Terms.{absent, at_key, each_at}
use Rattle.above_examples.specs.Square.{monomial, resolution, square_generators, square_setting, table}

-- no column has a term of degree 0
abbrev pub HasNoUnit : {n : ℕ} → GradedMap n → Type 0
HasNoUnit {n} M = Each (λ v. Each (λ t. 0 < degree t.0.1) v) M.columns

unit_degree : (n : ℕ) → degree (unit n) ≡ 0
unit_degree zero = refl
unit_degree (suc n) = let q = unit_degree n in omega (arith, q)

-- then the maps have no constants
pub no_constants : {n : ℕ} (p : ℕ) (maps : List (GradedMap n)) → Each HasNoUnit maps → (k c r : ℕ) → HasConstant p maps k c r → ⊥
no_constants p [] h k c r a = elim a [ ]
no_constants {n} p (M ∷ maps) h zero c r a = a.1.nonzero (IsCongruent_of p _ 0 (absent (r, unit n) (get_or M.columns c []) (apart (get_or M.columns c []) (each_at (λ v. Each (λ t. 0 < degree t.0.1) v) [] M.columns h.0 c a.0))))
  where
    apart : (v : FormalSum n) → Each (λ t. 0 < degree t.0.1) v → Each (λ t. (r, unit n) ≡ t.0 → ⊥) v
    apart [] h = tt
    apart (t ∷ v) h = ((λ e. let q : degree (unit n) ≡ degree t.0.1 = ap (λ k. degree k.1) e in let z = unit_degree n in let lt = h.0 in omega (arith, q, z, lt)), apart v h.1)
no_constants p (M ∷ maps) h (suc k) c r a = no_constants p maps h.1 k c r a

abbrev pub square_maps : List (GradedMap 2)
square_maps = graded_by_leads [] (0 ∷ []) resolution

abbrev pub square_list : GradedMaps 2
square_list = record { positions = 0 ∷ []; maps = graded_by_leads [] (0 ∷ []) resolution }

pub square_no_unit : Each HasNoUnit square_maps
square_no_unit = (
  ((omega arith, tt), ((omega arith, tt), ((omega arith, tt), tt))),
  (((omega arith, (omega arith, tt)), ((omega arith, (omega arith, tt)), tt)), tt),
)

pub square_cancelled : IsCancelled 101 square_list square_list
square_cancelled = no_step 101 (omega arith) square_list (no_constants 101 square_maps square_no_unit) (omega arith, (omega arith, tt))

-- the generators have degree 2
one_degree : (m : Exponents 2) → weighted_degree [] m ≡ 2 → IsHomogeneous [] 101 (0 ∷ []) 2 (((0, m), 1) ∷ [])
one_degree m e = record { rank = IsOfRank_of 101 1 (((0, m), 1) ∷ []) (omega arith, tt); degrees = λ k nz. go k nz (at_key (λ k. get_or (0 ∷ []) k.0 0 + weighted_degree [] k.1 ≡ 2) k (((0, m), 1) ∷ []) (omega (arith, e), tt)) }
  where
    go : (k : Key 2) → (IsCongruent 101 (coefficient (((0, m), 1) ∷ []) k) 0 → ⊥) → (get_or (0 ∷ []) k.0 0 + weighted_degree [] k.1 ≡ 2) ⊎ (coefficient (((0, m), 1) ∷ []) k ≡ 0) → get_or (0 ∷ []) k.0 0 + weighted_degree [] k.1 ≡ 2
    go k nz (inl a) = a
    go k nz (inr z) = absurd (nz (IsCongruent_of 101 _ 0 z))

generators_homogeneous : AreHomogeneous [] 101 (0 ∷ []) (2 ∷ (2 ∷ (2 ∷ []))) square_generators
generators_homogeneous = record { count = refl; each = each }
  where
    each : (i : ℕ) → i < 3 → IsHomogeneous [] 101 (0 ∷ []) (get_or (2 ∷ (2 ∷ (2 ∷ []))) i 0) (get_or square_generators i [])
    each zero h = one_degree (monomial 2 0) refl
    each (suc zero) h = one_degree (monomial 1 1) refl
    each (suc (suc zero)) h = one_degree (monomial 0 2) refl
    each (suc (suc (suc i))) h = absurd (omega (arith, h))

pub square_minimal : IsMinimal [] 101 square_list × Presents [] 101 square_list (0 ∷ []) square_generators
square_minimal = canonical_cancelled square_setting plane_lawful [] (0 ∷ []) (2 ∷ (2 ∷ (2 ∷ []))) square_generators refl generators_homogeneous resolution square_canonical square_list square_cancelled

once : (b : Bool) → ◌≡◌ {A = ℕ} (cond b 1 0 + 0) (cond b 1 0)
once true = refl
once false = refl

twice : (b : Bool) → ◌≡◌ {A = ℕ} (cond b 1 0 + (cond b 1 0 + 0)) (cond b 2 0)
twice true = refl
twice false = refl

thrice : (b : Bool) → ◌≡◌ {A = ℕ} (cond b 1 0 + (cond b 1 0 + (cond b 1 0 + 0))) (cond b 3 0)
thrice true = refl
thrice false = refl

pub square_counts : (k d : ℕ) → step_count (0 ∷ []) square_maps k d ≡ table k d
square_counts zero d = once (nat_eq d 0)
square_counts (suc zero) d = thrice (nat_eq d 2)
square_counts (suc (suc zero)) d = twice (nat_eq d 3)
square_counts (suc (suc (suc k))) d = refl
