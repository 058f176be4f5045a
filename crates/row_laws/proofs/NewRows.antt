-- The new rows of an echelon form
use Rattle.std.proofs.Common.{List, [], ap, arith, get_or, inl, inr, length, subst, suc, zero, ℕ, ◌*◌, ◌+◌, ◌<◌, ◌∙◌, ◌∷◌, ◌≡◌, ◌≤◌, ◌⊎◌}
use Rattle.std.proofs.lemmas.Bool.{cases_lt}
use Rattle.residues.proofs.Congruences.{IsCongruent_add, IsCongruent_decide, IsCongruent_multiply, IsCongruent_of, IsCongruent_refl, IsCongruent_sym, IsCongruent_trans}
use Rattle.residues.specs.Residues.{IsCongruent}
use Rattle.monomials.specs.Exponents.{unit}
use Rattle.formal_sums.proofs.Combining.{IsMember_itself, IsMember_same, IsMember_scale}
use Rattle.formal_sums.proofs.OfRank.{IsOfRank_member}
use Rattle.formal_sums.proofs.Sameness.{coefficient-scale_unit}
use Rattle.formal_sums.proofs.WeightedSums.{coefficient-append}
use Rattle.formal_sums.specs.Combinations.{IsMember}
use Rattle.formal_sums.specs.FormalSums.{Each, FormalSum, IsOfRank, Key, coefficient, scale}
use Rattle.bases.proofs.Leading.{one_not_zero, positive}
use Rattle.bases.specs.Bases.{IsCovered}
use Rattle.bases.specs.Leads.{IsMonicLead, IsMonicList, head_key, leads}
use Rattle.bases.specs.Settings.{IsLawful, Setting}
use Rattle.row_laws.proofs.RowSpans.{IsMember_span}
use Rattle.row_laws.specs.Jobs.{AreProductRows, HasReducers, IsEchelonForm, IsNewRows}
use Rattle.row_laws.specs.Rows.{IsInSpan, row_combination}

-- each row of a list whose items have a property has it
Each_at :
    {n : ℕ} (P : FormalSum n → Type 0) (rows : List (FormalSum n)) (i : ℕ)
    → Each P rows → i < length rows → P (get_or rows i [])
Each_at P [] i h lt = absurd (omega arith)
Each_at P (e ∷ rows) zero h lt = h.0
Each_at P (e ∷ rows) (suc i) h lt = Each_at P rows i h.1 (omega arith)

-- some row is not 0 at k, or each combination is 0 there
pub find_row :
    {n p : ℕ} (k : Key n) (cs : List ℕ) (rows : List (FormalSum n))
    → ((i : ℕ) × (i < length rows) × (IsCongruent p (coefficient (get_or rows i []) k) 0 → ⊥)) ⊎ IsCongruent p (coefficient (row_combination cs rows) k) 0
find_row {n} {p} k [] rows = inr (IsCongruent_refl p 0)
find_row {n} {p} k (c ∷ cs) [] = inr (IsCongruent_refl p 0)
find_row {n} {p} k (c ∷ cs) (e ∷ rows) = go (IsCongruent_decide p (coefficient e k)) (find_row k cs rows)
  where
    go :
        IsCongruent p (coefficient e k) 0 ⊎ (IsCongruent p (coefficient e k) 0 → ⊥)
        → ((i : ℕ) × (i < length rows) × (IsCongruent p (coefficient (get_or rows i []) k) 0 → ⊥)) ⊎ IsCongruent p (coefficient (row_combination cs rows) k) 0
        → ((i : ℕ) × (i < length (e ∷ rows)) × (IsCongruent p (coefficient (get_or (e ∷ rows) i []) k) 0 → ⊥)) ⊎ IsCongruent p (coefficient (row_combination (c ∷ cs) (e ∷ rows)) k) 0
    go (inr nz) r = inl (0, omega arith, nz)
    go (inl z) (inl (i, lt, nz)) = inl (suc i, omega arith, nz)
    go (inl z) (inr w) =
        inr (IsCongruent_trans (IsCongruent_of p _ (c * coefficient e k + coefficient (row_combination cs rows) k) (coefficient-append (scale c (unit n) e) (row_combination cs rows) k ∙ ap (λ x. x + coefficient (row_combination cs rows) k) (coefficient-scale_unit c e k)))
        (IsCongruent_trans (IsCongruent_add (IsCongruent_multiply (IsCongruent_refl p c) z) w) (IsCongruent_of p (c * 0 + 0) 0 (omega arith))))

module _ {n : ℕ} (S : Setting n) (lawful : IsLawful S) (G M E N : List (FormalSum n)) (form : IsEchelonForm S M E) (new : IsNewRows M E N) where
  new_monic : (i : ℕ) → i < length N → IsMonicLead S (get_or N i []) (leads N i)
  new_monic i h = go (new.rows i h)
    where
      go : (j : ℕ) × (j < length E) × (get_or E j [] ≡ get_or N i []) → IsMonicLead S (get_or N i []) (leads N i)
      go (j, lt, e) = subst (λ v. IsMonicLead S v (head_key v)) e (Each_at (λ v. IsMonicLead S v (head_key v)) E j form.echelon.monic lt)

  new_in_span : (i : ℕ) → i < length N → IsInSpan S.modulus M (get_or N i [])
  new_in_span i h = go (new.rows i h)
    where
      go : (j : ℕ) × (j < length E) × (get_or E j [] ≡ get_or N i []) → IsInSpan S.modulus M (get_or N i [])
      go (j, lt, e) = subst (IsInSpan S.modulus M) e (form.span.outside j lt)

  -- the new rows are members
  pub IsMember_new :
      AreProductRows S.modulus G M → (i : ℕ) → i < length N → IsMember S.modulus G (get_or N i [])
  IsMember_new products i h = IsMember_span (positive S lawful) G M row (get_or N i []) (new_in_span i h)
    where
      row : (r : ℕ) → r < length M → IsMember S.modulus G (get_or M r [])
      row r lt =
          let q = products r lt in
          IsMember_same G _ (get_or M r []) q.same (IsMember_scale (positive S lawful) G 1 q.multiplier (get_or G q.member []) (IsMember_itself S.modulus G q.member q.within))

  -- and a monic list
  pub IsMonicList_new :
      ((i : ℕ) → i < length G → IsOfRank S.modulus S.rank (get_or G i [])) → AreProductRows S.modulus G M
      → IsMonicList S N
  IsMonicList_new ranks products = record { monic = new_monic; ranked = λ i h. ranked i h (cases_lt (leads N i).0 S.rank) }
    where
      ranked : (i : ℕ) → i < length N → ((leads N i).0 < S.rank) ⊎ (S.rank ≤ (leads N i).0) → (leads N i).0 < S.rank
      ranked i h (inl lt) = lt
      ranked i h (inr le) =
          let z = (IsOfRank_member S.rank G ranks (get_or N i []) (IsMember_new products i h)).past (leads N i) le in
          absurd (one_not_zero S lawful (IsCongruent_trans (IsCongruent_sym (new_monic i h).one) z))

  -- no member's lead divides a new lead
  pub new_lead_apart : HasReducers S G M → (i : ℕ) → i < length N → IsCovered S G (leads N i) → ⊥
  new_lead_apart reducers i h covered = go (find_row (leads N i) residues M)
    where
      residues : List ℕ
      residues = (new_in_span i h).residues

      go :
          ((r : ℕ) × (r < length M) × (IsCongruent S.modulus (coefficient (get_or M r []) (leads N i)) 0 → ⊥)) ⊎ IsCongruent S.modulus (coefficient (row_combination residues M) (leads N i)) 0
          → ⊥
      go (inl (r, lt, nz)) = new.new i h (reducers r (leads N i) lt nz covered)
      go (inr z) =
          one_not_zero S lawful
          (IsCongruent_trans (IsCongruent_sym (new_monic i h).one) (IsCongruent_trans (IsCongruent_sym ((new_in_span i h).sums.by_key (leads N i))) z))
