-- Pivots cleared, one row after another
use Rattle.std.proofs.Common.{List, arith, get_or, inl, inr, length, subst, sym, ℕ, ◌%◌, ◌*◌, ◌+◌, ◌-◌, ◌<◌, ◌∙◌, ◌≡◌, ◌≤◌, ◌⊎◌}
use Rattle.std.proofs.lemmas.Bool.{cases_lt}
use Rattle.std.proofs.lemmas.List.{get_or_default}
use Rattle.std.specs.Prelude.{slice_index}
use Rattle.residues.proofs.Congruences.{IsCongruent_add, IsCongruent_minus, IsCongruent_mod, IsCongruent_of, IsCongruent_refl, IsCongruent_sym, IsCongruent_trans}
use Rattle.residues.specs.Residues.{IsCongruent}
use Rattle.monomials.specs.Exponents.{Exponents, unit}
use Rattle.formal_sums.proofs.Sameness.{IsSame_sym}
use Rattle.formal_sums.specs.FormalSums.{FormalSum}
use Rattle.change_laws.proofs.Expansions.{expansion_linear}
use Rattle.change_laws.proofs.Modulo.{modulo_append, modulo_same, modulo_scale, modulo_trans}
use Rattle.change_laws.specs.Combinations.{IsSameModulo, expansion}
use Rattle.order_change.specs.Forms.{AreResidues}
use Rattle.order_change.specs.Rows.{AreRows, AreSame, IsClearedModulo, IsPivotRow}
use Rattle.order_change.specs.declared.rows.Row.{Row}

-- after the first i rows
pub record IsClearing (p : ℕ) (rows : List Row) (form0 combination0 : List ℕ) (i : ℕ) (form combination : List ℕ) : Type 0 where
  pub form_residues : AreResidues (p * p) (length form0) form
  pub combination_residues : AreResidues (p * p) (length combination0) combination
  pub cleared : IsClearedModulo p rows form i
  pub same :
      (n : ℕ) (F : List (FormalSum n)) (B N : List (Exponents n))
      → AreSame p F B N rows
      → IsSameModulo p F (expansion B (slice_index form0)) (expansion N (slice_index combination0))
      → IsSameModulo p F (expansion B (slice_index form)) (expansion N (slice_index combination))
  pub kept :
      (k : ℕ)
      → ((l : ℕ) (row : Row) → l < length rows → get_or rows l row ≡ row → slice_index row.combination k ≡ 0)
      → IsCongruent p (slice_index combination k) (slice_index combination0 k)

-- a multiple of a row is added to both
abbrev pub Adds : (p c : ℕ) (row old new : List ℕ) → Type 0
Adds p c row old new = (j : ℕ) → IsCongruent p (slice_index new j) (slice_index old j + c * slice_index row j)

pub clearing_first :
    (p : ℕ) (rows : List Row) (form combination : List ℕ) → AreResidues (p * p) (length form) form → AreResidues (p * p) (length combination) combination
    → IsClearing p rows form combination 0 form combination
clearing_first p rows form combination f g = record {
  form_residues = f;
  combination_residues = g;
  cleared = λ l row lt ll e. absurd (omega (arith, lt));
  same = λ n F B N rs h. h;
  kept = λ k none. IsCongruent_refl p (slice_index combination k);
}

-- what is added leaves a place where the row is 0
pub unchanged_at :
    (p c : ℕ) (row old new : List ℕ) (j : ℕ) → Adds p c row old new → slice_index row j ≡ 0
    → IsCongruent p (slice_index new j) (slice_index old j)
unchanged_at p c row old new j adds none =
    IsCongruent_trans (adds j) (IsCongruent_of p (slice_index old j + c * slice_index row j) (slice_index old j) (rw none (omega arith)))

-- minus c times 1 leaves nothing
cleared_at :
    (p c m : ℕ) (row old new : List ℕ) (j : ℕ) → c < p → c ≡ slice_index old j % p → m ≡ (p - c) % p → slice_index row j ≡ 1
    → Adds p m row old new → IsCongruent p (slice_index new j) 0
cleared_at p c m row old new j cp at minus one adds =
    IsCongruent_trans (adds j)
    (IsCongruent_trans (IsCongruent_add (IsCongruent_trans (IsCongruent_sym (IsCongruent_mod p (slice_index old j))) (IsCongruent_of p (slice_index old j % p) c (sym at))) (IsCongruent_of p (m * slice_index row j) ((p - c) % p) (rw (one, minus) (omega arith))))
    (IsCongruent_trans (IsCongruent_add (IsCongruent_refl p c) (IsCongruent_mod p (p - c)))
    (IsCongruent_trans (IsCongruent_of p (c + (p - c)) (1 + (p - 1) * 1) (omega (arith, cp))) (IsCongruent_minus p 1 (omega (arith, cp))))))

-- one more row is taken away
pub clearing_more :
    (p : ℕ) (rows : List Row) (form0 combination0 : List ℕ) (i : ℕ) (form combination form' combination' : List ℕ) (row : Row) (c m : ℕ)
    → AreRows p (length form0) (length combination0) rows → i < length rows → get_or rows i row ≡ row → c ≡ slice_index form row.pivot % p → c < p → m ≡ (p - c) % p
    → length form' ≡ length form → ((j : ℕ) → slice_index form' j < p * p)
    → ((j : ℕ) → IsCongruent p (slice_index form' j) (slice_index form j + m * slice_index row.form j))
    → length combination' ≡ length combination → ((j : ℕ) → slice_index combination' j < p * p)
    → ((j : ℕ) → IsCongruent p (slice_index combination' j) (slice_index combination j + m * slice_index row.combination j))
    → IsClearing p rows form0 combination0 i form combination
    → IsClearing p rows form0 combination0 (i + 1) form' combination'
clearing_more p rows form0 combination0 i form combination form' combination' row c m are lt is at small minus fl fs fa cl cs ca h = record {
  form_residues = record { long = fl ∙ h.form_residues.long; small = fs };
  combination_residues = record { long = cl ∙ h.combination_residues.long; small = cs };
  cleared = λ l other li ll e. go l other li ll e (cases_lt l i);
  same = λ n F B N rs first.
      modulo_trans F (modulo_same F _ _ (expansion_linear m B (slice_index form) (slice_index row.form) (slice_index form') (λ j jl. fa j)))
      (modulo_trans F (modulo_append F (h.same n F B N rs first) (modulo_scale F pos m (unit n) (rs i row lt is)))
      (modulo_same F _ _ (IsSame_sym (expansion_linear m N (slice_index combination) (slice_index row.combination) (slice_index combination') (λ j jl. ca j)))));
  kept = λ k none. IsCongruent_trans (unchanged_at p m row.combination combination combination' k ca (none i row lt is)) (h.kept k none);
}
  where
    good : IsPivotRow p (length form0) (length combination0) row
    good = are.each i row lt is

    pos : 0 < p
    pos = omega (arith, small)

    go : (l : ℕ) (other : Row) → l < i + 1 → l < length rows → get_or rows l other ≡ other → (l < i) ⊎ (i ≤ l) → IsCongruent p (slice_index form' other.pivot) 0
    go l other li ll e (inl early) =
        IsCongruent_trans (unchanged_at p m row.form form form' other.pivot fa (are.later l i other row early lt e is)) (h.cleared l other early ll e)
    go l other li ll e (inr late) =
        let q : l ≡ i = omega (arith, li, late) in
        let same : other ≡ row = sym e ∙ get_or_default rows l other row ll ∙ subst (λ z. get_or rows z row ≡ row) (sym q) is in
        subst (λ z. IsCongruent p (slice_index form' z.pivot) 0) (sym same) (cleared_at p c m row.form form form' row.pivot small at minus good.one fa)

-- or is not needed
pub clearing_skip :
    (p : ℕ) (rows : List Row) (form0 combination0 : List ℕ) (i : ℕ) (form combination : List ℕ) (row : Row)
    → i < length rows → get_or rows i row ≡ row → IsCongruent p (slice_index form row.pivot) 0
    → IsClearing p rows form0 combination0 i form combination → IsClearing p rows form0 combination0 (i + 1) form combination
clearing_skip p rows form0 combination0 i form combination row lt is none h = record {
  form_residues = h.form_residues;
  combination_residues = h.combination_residues;
  cleared = λ l other li ll e. go l other li ll e (cases_lt l i);
  same = h.same;
  kept = h.kept;
}
  where
    go : (l : ℕ) (other : Row) → l < i + 1 → l < length rows → get_or rows l other ≡ other → (l < i) ⊎ (i ≤ l) → IsCongruent p (slice_index form other.pivot) 0
    go l other li ll e (inl early) = h.cleared l other early ll e
    go l other li ll e (inr late) =
        let q : l ≡ i = omega (arith, li, late) in
        let same : other ≡ row = sym e ∙ get_or_default rows l other row ll ∙ subst (λ z. get_or rows z row ≡ row) (sym q) is in
        subst (λ z. IsCongruent p (slice_index form z.pivot) 0) (sym same) none
