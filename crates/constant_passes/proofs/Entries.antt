-- The constants that are left of a column, and the least of them
use Rattle.std.specs.Prelude.{Contains, IfOk, None, Option, Some}
use Rattle.std.proofs.Common.{Err, List, Ok, Result, [], ap, arith, inl, inr, refl, subst, suc, sym, ℕ}
use Rattle.std.proofs.Common.{◌%◌, ◌*◌, ◌++◌, ◌+◌, ◌<◌, ◌∙◌, ◌∷◌, ◌≡◌, ◌≤◌}
use Rattle.residues.proofs.Congruences.{IsCongruent_mod, IsCongruent_nonzero, IsCongruent_of, IsCongruent_sym, IsCongruent_trans}
use Rattle.residues.specs.Residues.{IsCongruent}
use Rattle.monomials.specs.Exponents.{unit}
use Rattle.formal_sums.proofs.WeightedSums.{indicator_other}
use Rattle.formal_sums.specs.FormalSums.{Each, FormalSum, IsSame, Key, coefficient, indicator}
use Rattle.minimal_laws.specs.Minimal.{IsConstantAt}
use Rattle.betti_laws.proofs.Constants.{HasNoConstant}
use Rattle.term_lists.specs.Rings.{variables}
use Rattle.term_lists.specs.declared.ring.Ring.{Ring}
use Rattle.constant_rows.specs.Rows.{entry_constants}
use Rattle.constant_rows.specs.declared.constants.Constants.{Constants}
use Rattle.column_passes.proofs.Applying.{constant_there}
use Rattle.column_passes.proofs.Lists.{all_append, all_map, contains_end, contains_left, each_in}
use Rattle.column_passes.proofs.Reordering.{IsChosen as IsChoice}
use Rattle.constant_passes.specs.Choosing.{AreFree, IsColumnChosen, IsLeastEntry}
use Rattle.constant_passes.specs.Steps.{AreLeftOver, IsConstantStep, cleared_by_constants}
use Rattle.constant_passes.specs.declared.clearing.Step.{Step}

-- ---- the least entry of one more
pub least_kept : (xs : List (ℕ × ℕ)) (x a : ℕ × ℕ) → a.0 ≤ x.0 → IsLeastEntry xs (Some a) → IsLeastEntry (xs ++ x ∷ []) (Some a)
least_kept xs x a le h = (contains_left xs (x ∷ []) a h.0, all_append _ xs (x ∷ []) h.1 (le, tt))

pub least_lower : (xs : List (ℕ × ℕ)) (x a : ℕ × ℕ) → x.0 < a.0 → IsLeastEntry xs (Some a) → IsLeastEntry (xs ++ x ∷ []) (Some x)
least_lower xs x a lt h =
    (contains_end xs x, all_append _ xs (x ∷ []) (all_map _ _ xs (λ (e : ℕ × ℕ) le. omega (arith, le, lt)) h.1) (omega arith, tt))

pub least_first : (xs : List (ℕ × ℕ)) (x : ℕ × ℕ) → IsLeastEntry xs None → IsLeastEntry (xs ++ x ∷ []) (Some x)
least_first xs x h = (contains_end xs x, subst (λ ys. Each (λ (e : ℕ × ℕ). x.0 ≤ e.0) (ys ++ x ∷ [])) (sym h) (omega arith, tt))

-- ---- their vector
coefficient_off :
    {n : ℕ} (k : Key n) (xs : List (ℕ × ℕ)) → Each (λ e. k ≡ (e.0, unit n) → ⊥) xs → coefficient (entry_constants n xs) k ≡ 0
coefficient_off k [] h = refl
coefficient_off {n} k (e ∷ xs) h =
    let i : indicator k (e.0, unit n) ≡ 0 = indicator_other k (e.0, unit n) h.0 in
    let r : coefficient (entry_constants n xs) k ≡ 0 = coefficient_off k xs h.1 in
    ap (λ z. e.1 * z + coefficient (entry_constants n xs) k) i ∙ omega (arith, r)

always : {X : Type 0} (P : X → Type 0) (xs : List X) → ((x : X) → P x) → Each P xs
always P [] f = tt
always P (x ∷ xs) f = (f x, always P xs f)

pub nothing_left : (n p : ℕ) (xs : List (ℕ × ℕ)) → xs ≡ [] → HasNoConstant p (entry_constants n xs)
nothing_left n p xs e = record { by_row = λ i. IsCongruent_of p _ 0 (ap (λ z. coefficient (entry_constants n z) (i, unit n)) e) }

module _ (n p : ℕ) (xs : List (ℕ × ℕ)) (reduced : Each (λ e. (0 < e.1) × (e.1 < p)) xs)
    (told : Each (λ e. coefficient (entry_constants n xs) (e.0, unit n) ≡ e.1) xs) where
  -- each is a constant
  pub constant_of : (x : ℕ × ℕ) → Contains xs x → IsConstantAt p (entry_constants n xs) x.0
  constant_of x c = record {
    nonzero = λ z.
        let r = each_in _ xs x reduced c in
        IsCongruent_nonzero p x.1 r.0 r.1 (IsCongruent_trans (IsCongruent_of p x.1 _ (sym (each_in _ xs x told c))) z);
    alone = λ m ne. IsCongruent_of p _ 0 (coefficient_off (x.0, m) xs (always _ xs (λ (e : ℕ × ℕ) q. ne (ap (λ (k : Key n). k.1) q))));
  }

  -- the least is the first one
  pub least_chosen :
      (row inverse residue : ℕ) → IsLeastEntry xs (Some (row, residue)) → IsCongruent p (inverse * residue) 1
      → IsChoice p (Some (row, inverse)) (entry_constants n xs)
  least_chosen row inverse residue h invert = (
    constant_of (row, residue) h.0,
    (λ q lt k. k.nonzero (IsCongruent_of p _ 0 (coefficient_off (q, unit n) xs
        (all_map _ _ xs (λ (e : ℕ × ℕ) le z. let y = ap (λ (k : Key n). k.0) z in omega (arith, le, lt, y)) h.1)))),
    IsCongruent_trans (IsCongruent_of p _ _ (ap (λ z. inverse * z) (each_in _ xs (row, residue) told h.0))) invert,
  )

-- ---- the step of the least one
pub inverse_is : (p a b : ℕ) → (a * b) % p ≡ 1 → IsCongruent p (b * a) 1
inverse_is p a b e =
    IsCongruent_trans (IsCongruent_of p (b * a) (a * b) (omega arith))
    (IsCongruent_trans (IsCongruent_sym (IsCongruent_mod p (a * b))) (IsCongruent_of p ((a * b) % p) 1 e))

each_contained : {X : Type 0} (P : X → Type 0) (xs : List X) → ((x : X) → Contains xs x → P x) → Each P xs
each_contained P [] f = tt
each_contained P (x ∷ xs) f =
    (f x (0, omega arith, refl), each_contained P xs (λ y c. f y (suc c.0, (let l = c.1 in omega (arith, l)), c.2)))

module _ (ring : Ring) (column : Constants) (over : AreLeftOver ring column) where
  -- it stands in a row of no step
  pub free_entries :
      (steps : List Step) (v : FormalSum (variables ring))
      → IsSame ring.modulus.value (entry_constants (variables ring) column.entries.items) (cleared_by_constants ring steps v) → AreFree ring steps v
      → Each (λ e. Each (λ s. s.row ≡ e.0 → ⊥) steps) column.entries.items
  free_entries steps v same free =
      each_contained _ column.entries.items (λ (e : ℕ × ℕ) c. free e.0 (constant_there ring.modulus.value _ _ e.0 same
      (constant_of (variables ring) ring.modulus.value column.entries.items over.reduced over.coefficients e c)))

  pub steps_over :
      (c : ℕ) (steps steps' : List Step) (choices choices' : List (Option (ℕ × ℕ))) → Each (IsConstantStep ring) steps
      → IsColumnChosen ring c column steps steps' choices choices' → Each (IsConstantStep ring) steps'
  steps_over c steps steps' choices choices' h (inl (none, es, ec)) = subst (Each (IsConstantStep ring)) (sym es) h
  steps_over c steps steps' choices choices' h (inr (row, inverse, residue, least, invert, below, es, ec)) =
      subst (Each (IsConstantStep ring)) (sym es) (all_append _ steps (_ ∷ []) h (
        record {
          below = over.below;
          reduced = all_map _ _ column.entries.items (λ (e : ℕ × ℕ) r. r.1) over.reduced;
          inverse = below;
        },
        tt,
      ))

pub left_over_is :
    {E : Type 0} (ring : Ring) (r : Result Constants E) → IfOk r (λ c. Each (λ e. e.0 < c.width) c.entries.items)
    → IfOk r (λ c. Each (λ e. (0 < e.1) × (e.1 < ring.modulus.value)) c.entries.items)
    → IfOk r (λ c. Each (λ e. coefficient (entry_constants (variables ring) c.entries.items) (e.0, unit (variables ring)) ≡ e.1) c.entries.items)
    → IfOk r (AreLeftOver ring)
left_over_is ring (Ok c) a b d = record { below = a; reduced = b; coefficients = d }
left_over_is ring (Err e) a b d = tt
