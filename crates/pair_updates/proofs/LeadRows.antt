-- The rows of a list of keys
use Rattle.std.proofs.Common.{List, [], ap, arith, get_or, length, suc, sym, take, zero, ℕ, ◌++◌, ◌+◌, ◌<◌, ◌∙◌, ◌∷◌, ◌≡◌}
use Rattle.std.proofs.lemmas.List.{map-append, take_more}
use Rattle.monomials.specs.Exponents.{exponents_of}
use Rattle.monomial_orders.specs.Kept.{IsWeighed}
use Rattle.formal_sums.specs.FormalSums.{Each}
use Rattle.bases.specs.Leads.{leads}
use Rattle.term_lists.specs.declared.key.Key.{Key as CodeKey}
use Rattle.pair_updates.specs.Leads.{lead_sums}
use Rattle.pair_updates.specs.Rows.{key_row, row, key_rows}

-- the row of a key is that of the lead
pub row_of_lead :
    (n : ℕ) (ws : List ℕ) (ks : List CodeKey) (i : ℕ) (r : List ℕ) → Each (λ k. IsWeighed n ws k.monomial) ks → i < length ks
    → r ≡ get_or (key_rows ks) i r → r ≡ row 16 (leads (lead_sums n ks) i).1
row_of_lead n ws [] i r all lt is = absurd (omega (arith, lt))
row_of_lead n ws (k ∷ ks) zero r all lt is = is ∙ ap (λ (z : ℕ). row 16 (exponents_of z k.monomial.exponents)) (all.0).variables
row_of_lead n ws (k ∷ ks) (suc i) r all lt is = row_of_lead n ws ks i r all.1 (omega (arith, lt)) is

-- one row more
pub row_more :
    (ks : List CodeKey) (i : ℕ) (k : CodeKey) (rs more : List (List ℕ)) (r : List ℕ) → i < length ks → k ≡ get_or ks i k
    → rs ≡ key_rows (take i ks) → r ≡ key_row k → more ≡ rs ++ (r ∷ []) → more ≡ key_rows (take (i + 1) ks)
row_more ks i k rs more r lt at old new is =
    is ∙ ap (λ z. z ++ (r ∷ [])) old ∙ ap (λ z. key_rows (take i ks) ++ (z ∷ [])) new
    ∙ sym (map-append key_row (take i ks) (k ∷ []))
    ∙ ap (λ z. key_rows (take i ks ++ (z ∷ []))) at ∙ ap key_rows (sym (take_more ks i k lt))
