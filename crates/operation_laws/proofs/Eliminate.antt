-- The kept members of a basis generate the combinations of kept members of the module
use Rattle.std.proofs.Common.{Bool, List, [], ap, arith, cond, false, get_or, length, refl, subst, suc, sym, true, true≢false, zero, ℕ, ◌*◌, ◌+◌, ◌<◌, ◌∙◌, ◌∷◌, ◌≡◌}
use Rattle.std.specs.Prelude.{IsTrue}
use Rattle.residues.proofs.Congruences.{IsCongruent_of}
use Rattle.monomials.proofs.Monomials.{and_left, and_right}
use Rattle.formal_sums.proofs.Combining.{Each_map, IsMember_append, IsMember_same, IsMember_scale, IsMember_zero}
use Rattle.formal_sums.proofs.WeightedSums.{indicator_other}
use Rattle.formal_sums.specs.Combinations.{IsMember, combination}
use Rattle.formal_sums.specs.FormalSums.{Each, FormalSum, Key, coefficient, indicator, scale}
use Rattle.bases.proofs.Leading.{positive}
use Rattle.bases.specs.Bases.{IsGroebnerBasis}
use Rattle.bases.specs.Leads.{IsLead, IsMonicList, IsNormal, leads}
use Rattle.bases.specs.Settings.{IsLawful, Setting}
use Rattle.division_laws.proofs.Keeping.{IsGroebnerBasis_kept}
use Rattle.division_laws.specs.Elimination.{IsDownClosed, IsKeptCombination}
use Rattle.syzygy_laws.proofs.KernelParts.{all_kept_normal}
use Rattle.operation_laws.proofs.Linear.{Each_both, Each_tabulate, IsMember_by, IsMember_each}
use Rattle.syzygy_laws.specs.Kernels.{all_kept, kept_list}
use Rattle.operation_laws.specs.Operations.{IsCombinationOfKept, HasKeptKeys}

-- what holds of each member holds of the kept ones, which are kept
pub Each_kept :
    {n : ℕ} (P : FormalSum n → Type 0) (keep : Key n → Bool) (G : List (FormalSum n)) → Each P G
    → Each (λ g. P g × IsTrue (all_kept keep g)) (kept_list keep G)
Each_kept P keep [] h = tt
Each_kept P keep (g ∷ G) h = go (all_kept keep g) refl (Each_kept P keep G h.1)
  where
    go :
        (b : Bool)
        → all_kept keep g ≡ b → Each (λ x. P x × IsTrue (all_kept keep x)) (kept_list keep G)
        → Each (λ x. P x × IsTrue (all_kept keep x)) (cond b (g ∷ kept_list keep G) (kept_list keep G))
    go true e r = ((h.0, e), r)
    go false e r = r

-- a member that is kept is in the list
pub kept_at :
    {n : ℕ} (P : FormalSum n → Type 0) (keep : Key n → Bool) (G : List (FormalSum n)) → Each P (kept_list keep G)
    → (i : ℕ) → i < length G → all_kept keep (get_or G i []) ≡ true → P (get_or G i [])
kept_at P keep [] h i lt e = absurd (omega arith)
kept_at P keep (g ∷ G) h zero lt e = let q : Each P (cond true (g ∷ kept_list keep G) (kept_list keep G)) = subst (λ b. Each P (cond b (g ∷ kept_list keep G) (kept_list keep G))) e h in q.0
kept_at P keep (g ∷ G) h (suc i) lt e = kept_at P keep G (go (all_kept keep g) h) i (omega arith) e
  where
    go : (b : Bool) → Each P (cond b (g ∷ kept_list keep G) (kept_list keep G)) → Each P (kept_list keep G)
    go true q = q.1
    go false q = q

pub IsKept_of :
    {n : ℕ} (p : ℕ) (keep : Key n → Bool) (v : FormalSum n) → all_kept keep v ≡ true → HasKeptKeys p keep v
IsKept_of {n} p keep v e = λ k off. IsCongruent_of p _ _ (none v e k off)
  where
    none : (v : FormalSum n) → all_kept keep v ≡ true → (k : Key n) → keep k ≡ false → coefficient v k ≡ 0
    none [] e k off = refl
    none (t ∷ v) e k off =
        let z : indicator k t.0 ≡ 0 = indicator_other k t.0 (λ d. true≢false (sym (and_left _ _ e) ∙ ap keep (sym d) ∙ off)) in
        let y : coefficient v k ≡ 0 = none v (and_right _ _ e) k off in
        let zero_is : t.1 * 0 + 0 ≡ 0 = omega arith in
        rw (z, y) zero_is

-- a vector with kept keys alone has its lead kept
lead_kept :
    {n : ℕ} (S : Setting n) (keep : Key n → Bool) (v : FormalSum n) → HasKeptKeys S.modulus keep v → (k : Key n) → IsLead S v k
    → IsTrue (keep k)
lead_kept S keep v h k lead = go (keep k) refl
  where
    go : (b : Bool) → keep k ≡ b → IsTrue (keep k)
    go true e = e
    go false e = absurd (lead.nonzero (h k e))

module _ {n : ℕ} (S : Setting n) (lawful : IsLawful S) (F G : List (FormalSum n)) (list : IsMonicList S G)
    (normal : (i : ℕ) → i < length G → IsNormal S (get_or G i [])) (basis : IsGroebnerBasis S F G) (keep : Key n → Bool) (closed : IsDownClosed S keep) where
  -- a kept member of the module is a combination of kept members of the basis
  pub kept_generates : (v : FormalSum n) → IsMember S.modulus F v → HasKeptKeys S.modulus keep v → IsMember S.modulus (kept_list keep G) v
  kept_generates v member kept = IsMember_same (kept_list keep G) (combination G r.cofactors) v r.sums (go r.cofactors r.kept)
    where
      r : IsKeptCombination S G keep v
      r = IsGroebnerBasis_kept S lawful F G list basis keep closed v member (lead_kept S keep v kept)

      go : (a : FormalSum n) → Each (λ t. (t.0.0 < length G) × IsTrue (keep (leads G t.0.0))) a → IsMember S.modulus (kept_list keep G) (combination G a)
      go [] h = IsMember_zero S.modulus (kept_list keep G)
      go (t ∷ a) h =
          IsMember_append (kept_list keep G) (scale t.1 t.0.1 (get_or G t.0.0 [])) (combination G a)
          (IsMember_scale (positive S lawful) (kept_list keep G) t.1 t.0.1 (get_or G t.0.0 [])
          (kept_at (IsMember S.modulus (kept_list keep G)) keep G (IsMember_each S.modulus (kept_list keep G)) t.0.0 h.0.0
          (all_kept_normal S keep lawful closed (get_or G t.0.0 []) (normal t.0.0 h.0.0) h.0.1)))
          (go a h.1)

  kept_members : Each (λ g. IsMember S.modulus F g × IsTrue (all_kept keep g)) (kept_list keep G)
  kept_members = Each_kept (IsMember S.modulus F) keep G (Each_tabulate (IsMember S.modulus F) [] G basis.members)

  -- what kept members of the basis generate is in the module
  pub kept_inside : (v : FormalSum n) → IsMember S.modulus (kept_list keep G) v → IsMember S.modulus F v
  kept_inside = IsMember_by (positive S lawful) F (kept_list keep G) (Each_map _ (IsMember S.modulus F) (kept_list keep G) (λ g h. h.0) kept_members)

  -- the kept members of the basis generate the combinations of kept members of the module
  pub eliminate_to : (v : FormalSum n) → IsMember S.modulus (kept_list keep G) v → IsCombinationOfKept S.modulus keep F v
  eliminate_to v a = record {
    vectors = kept_list keep G;
    inside = Each_map _ (IsMember S.modulus F) (kept_list keep G) (λ g h. h.0) kept_members;
    kept = Each_map _ (HasKeptKeys S.modulus keep) (kept_list keep G) (λ g h. IsKept_of S.modulus keep g h.1) kept_members;
    sums = a;
  }

  pub eliminate_from : (v : FormalSum n) → IsCombinationOfKept S.modulus keep F v → IsMember S.modulus (kept_list keep G) v
  eliminate_from v a = IsMember_by (positive S lawful) (kept_list keep G) a.vectors (Each_both (IsMember S.modulus F) (HasKeptKeys S.modulus keep) (IsMember S.modulus (kept_list keep G)) a.vectors kept_generates a.inside a.kept) v a.sums
