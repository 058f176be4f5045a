-- What the runs of an operation give
use Rattle.std.proofs.Common.{List, [], ap, arith, length, map, refl, suc, zero, ℕ, ◌*◌, ◌+◌, ◌<◌, ◌∷◌, ◌≡◌, ◌≤◌}
use Rattle.std.specs.Prelude.{◌↔◌}
use Rattle.std.specs.declared.cmp.Ordering.{Ordering}
use mathlib.Core.Path.{fun_ext}
use Rattle.monomials.specs.Exponents.{Exponents}
use Rattle.formal_sums.proofs.Combining.{Each_map, IsMember_itself, IsMember_through}
use Rattle.formal_sums.proofs.WeightedSums.{Each_append}
use Rattle.formal_sums.specs.Combinations.{IsMember}
use Rattle.formal_sums.specs.FormalSums.{Each, FormalSum, HasRank, product}
use Rattle.orders.proofs.Positions.{pot_order, top_order}
use Rattle.orders.proofs.Weighted.{weighted_elimination-none, weighted_elimination_order}
use Rattle.orders.specs.KeyOrders.{top}
use Rattle.orders.specs.MonomialOrders.{IsMonomialOrder, elimination}
use Rattle.orders.specs.WeightedOrders.{weighted_elimination}
use Rattle.bases.proofs.Leading.{positive}
use Rattle.bases.specs.Bases.{IsReducedBasis}
use Rattle.bases.specs.Settings.{IsLawful, Setting}
use Rattle.division_laws.proofs.Generating.{IsGroebnerBasis_generates}
use Rattle.division_laws.proofs.Keeping.{IsDownClosed_elimination}
use Rattle.division_laws.specs.Elimination.{has_none_of_first}
use Rattle.syzygy_laws.specs.Syzygies.{raised}
use Rattle.operation_laws.proofs.Eliminate.{eliminate_from, eliminate_to}
use Rattle.operation_laws.proofs.Front.{front_from, front_to}
use Rattle.operation_laws.proofs.Intersect.{intersection_from, intersection_left, intersection_right}
use Rattle.operation_laws.proofs.Linear.{Each_of_map}
use Rattle.operation_laws.proofs.Saturate.{HasRank_product, saturation_from, saturation_to}
use Rattle.syzygy_laws.specs.Kernels.{pot_setting}
use Rattle.operation_laws.specs.Operations.{IsCombinationOfKept, IsInSaturation, IsRun, back, basis_vector, blocks, eliminated, elimination_setting, intersection_list, listed, multiples_of, saturation_list, stacked, with_first}

pub lawful_elimination : {n : ℕ} (ws : List ℕ) (l k : ℕ) (S : Setting n) → IsLawful S → IsLawful (elimination_setting ws l k S)
lawful_elimination ws l k S lawful = record {
  domain = lawful.domain;
  order = top_order S.rank (weighted_elimination ws k) (weighted_elimination_order l ws k);
}

-- without weights the order is that by total degrees
pub elimination_setting-none :
    (n l k : ℕ) (S : Setting n)
    → elimination_setting [] l k S ≡ record { modulus = S.modulus; weights = []; rank = S.rank; compare = top (elimination k) }
elimination_setting-none n l k S =
    ap (λ c. record { modulus = S.modulus; weights = []; rank = S.rank; compare = top {n = l} c })
    (fun_ext (λ v. fun_ext (λ w. weighted_elimination-none k v w)))

pub lawful_position : {n : ℕ} (monomials : Exponents n → Exponents n → Ordering) (r : ℕ) (S : Setting n) → IsMonomialOrder monomials → IsLawful S → IsLawful (pot_setting S.weights S.modulus r monomials)
lawful_position monomials r S o lawful = record { domain = lawful.domain; order = pot_order r monomials o }

-- a run generates the module of its list
pub run_generates : {n : ℕ} (S : Setting n) → IsLawful S → (F G : List (FormalSum n)) → IsRun S F G → (v : FormalSum n) → IsMember S.modulus G v ↔ IsMember S.modulus F v
run_generates S lawful F G run v = (IsMember_through (positive S lawful) F G run.reduced.reduced.basis.members v, IsGroebnerBasis_generates S lawful F G run.list run.reduced.reduced.basis v)

-- the basis is the reduced basis of its own module
pub run_itself : {n : ℕ} (S : Setting n) → IsLawful S → (F G : List (FormalSum n)) → IsRun S F G → IsReducedBasis S G G
run_itself S lawful F G run = record {
  reduced = record {
    basis = record {
      members = IsMember_itself S.modulus G;
      covers = λ v k m lead. run.reduced.reduced.basis.covers v k ((run_generates S lawful F G run v).0 m) lead;
    };
    normal = run.reduced.reduced.normal;
    monic = run.reduced.reduced.monic;
    apart = run.reduced.reduced.apart;
  };
  descends = run.reduced.descends;
}

pub through : {A B C : Type 0} → A ↔ B → B ↔ C → A ↔ C
through f g = (λ a. g.0 (f.0 a), λ c. f.1 (g.1 c))

pub eliminate_run :
    {n : ℕ} (S : Setting n) (ws : List ℕ) (k : ℕ) (F G R : List (FormalSum n)) (v : FormalSum n) → IsLawful S → IsRun (elimination_setting ws n k S) F G → IsRun S (eliminated k G) R
    → IsMember S.modulus R v ↔ IsCombinationOfKept S.modulus (has_none_of_first k) F v
eliminate_run {n} S ws k F G R v lawful run last =
    through (run_generates S lawful (eliminated k G) R last v)
    (let T = elimination_setting ws n k S in let l = lawful_elimination ws n k S lawful in (
      eliminate_to T l F G run.list run.reduced.reduced.normal run.reduced.reduced.basis (has_none_of_first k) (IsDownClosed_elimination T ws k refl) v,
      eliminate_from T l F G run.list run.reduced.reduced.normal run.reduced.reduced.basis (has_none_of_first k) (IsDownClosed_elimination T ws k refl) v,
    ))

-- a list in one more variable, back in fewer
pub back_run :
    {n : ℕ} (S : Setting n) (ws : List ℕ) (L G : List (FormalSum (suc n))) (R : List (FormalSum n)) (v : FormalSum n) → IsLawful S → IsRun (elimination_setting ws (suc n) 1 S) L G → IsRun S (back G) R
    → IsMember S.modulus R v ↔ IsMember S.modulus L (with_first v)
back_run {n} S ws L G R v lawful run last =
    through (run_generates S lawful (back G) R last v)
    (let T = elimination_setting ws (suc n) 1 S in let l = lawful_elimination ws (suc n) 1 S lawful in
    (front_to T l L G run.list run.reduced.reduced.normal run.reduced.reduced.basis ws refl v, front_from T l L G run.list run.reduced.reduced.normal run.reduced.reduced.basis ws refl v))

pub intersect_run :
    {n : ℕ} (S : Setting n) (ws : List ℕ) (F H : List (FormalSum n)) (G : List (FormalSum (suc n))) (R : List (FormalSum n)) (v : FormalSum n) → IsLawful S
    → IsRun (elimination_setting ws (suc n) 1 S) (intersection_list S.modulus F H) G → IsRun S (back G) R
    → IsMember S.modulus R v ↔ (IsMember S.modulus F v × IsMember S.modulus H v)
intersect_run S ws F H G R v lawful run last =
    through (back_run S ws (intersection_list S.modulus F H) G R v lawful run last)
    (let pos = positive S lawful in
    (λ a. (intersection_left pos F H v a, intersection_right pos F H v a), λ h. intersection_from pos F H v h.0 h.1))

pub saturate_run :
    {n : ℕ} (S : Setting n) (ws : List ℕ) (f : FormalSum n) (F : List (FormalSum n)) (G : List (FormalSum (suc n))) (R : List (FormalSum n)) (v : FormalSum n) → IsLawful S → HasRank S.rank v
    → IsRun (elimination_setting ws (suc n) 1 S) (saturation_list S.modulus S.rank f F) G → IsRun S (back G) R
    → IsMember S.modulus R v ↔ IsInSaturation S.modulus f F v
saturate_run S ws f F G R v lawful r run last =
    through (back_run S ws (saturation_list S.modulus S.rank f F) G R v lawful run last)
    (let pos = positive S lawful in
    (λ a. let q = saturation_to pos S.rank f F v a in record { power = q.0; positive = q.1; inside = q.2 }, λ h. saturation_from pos S.rank f F v h.power r h.inside))

pub multiples_rank : {n : ℕ} (m : ℕ) (f : FormalSum n) → Each (HasRank m) (multiples_of m f)
multiples_rank m f = go 0 m (omega arith)
  where
    go : (i s : ℕ) → i + s ≡ m → Each (HasRank m) (listed i s (λ j. product f (basis_vector j)))
    go i zero e = tt
    go i (suc s) e = (HasRank_product m f (basis_vector i) (omega (arith, e), tt), go (suc i) s (omega (arith, e)))

raised_rank : {n : ℕ} (m i q : ℕ) (v : FormalSum n) → m + i ≤ q → HasRank m v → HasRank q (raised i v)
raised_rank m i q v le h = Each_of_map (λ t. t.0.0 < q) (λ t. ((i + t.0.0, t.0.1), t.1)) v (Each_map (λ t. t.0.0 < m) (λ t. i + t.0.0 < q) v (λ t r. omega (arith, le, r)) h)

pub stacked_rank : {n : ℕ} (m i : ℕ) (C : List (FormalSum n)) (q : ℕ) → i + m * length C ≤ q → Each (HasRank m) C → HasRank q (stacked m i C)
stacked_rank m i [] q le h = tt
stacked_rank m i (c ∷ C) q le h =
    let split : m * suc (length C) ≡ m + m * length C = omega arith in
    Each_append (λ t. t.0.0 < q) (raised i c) (stacked m (m + i) C) (raised_rank m i q c (omega (arith, le, split)) h.0) (stacked_rank m (m + i) C q (omega (arith, le, split)) h.1)

pub blocks_rank : {n : ℕ} (m i s : ℕ) (F : List (FormalSum n)) (q : ℕ) → i + m * s ≤ q → Each (HasRank m) F → Each (HasRank q) (blocks m i s F)
blocks_rank m i zero F q le h = tt
blocks_rank m i (suc s) F q le h =
    let split : m * suc s ≡ m + m * s = omega arith in
    Each_append (HasRank q) (map (raised i) F) (blocks m (m + i) s F)
    (Each_of_map (HasRank q) (raised i) F (Each_map (HasRank m) (λ v. HasRank q (raised i v)) F (λ v r. raised_rank m i q v (omega (arith, le, split)) r) h))
    (blocks_rank m (m + i) s F q (omega (arith, le, split)) h)
