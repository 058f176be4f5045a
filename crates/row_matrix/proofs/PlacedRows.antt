-- Rows over columns that descend
use Rattle.std.proofs.Common.{Equal, Greater, Less, List, Ordering, [], ap, ap₂, arith, drop, get_or, inl, inr, length, refl, set, subst, suc, sym, take, zero, ℕ, ◌+◌, ◌++◌, ◌<◌, ◌∙◌, ◌∷◌, ◌≡◌, ◌≤◌}
use Rattle.std.proofs.lemmas.Bool.{cases_eq, cases_lt}
use Rattle.formal_sums.specs.FormalSums.{Each, FormalSum, Key}
use Rattle.orders.proofs.KeyOrdering.{equal_itself, less_of_greater}
use Rattle.orders.specs.KeyOrders.{Descends, IsKeyOrder}
use Rattle.bases.specs.Leads.{head_coefficient}
use Rattle.term_lists.specs.Vectors.{key_of}
use Rattle.term_lists.specs.declared.key.Key.{Key as CodeKey}
use Rattle.row_matrix.specs.Naming.{IsNumbering}
use Rattle.row_matrix.specs.Placed.{placed_entries}
use Rattle.row_matrix.specs.Rows.{AreEntries, Descend, Entry, column_key, first_residue, row_sum}

pub placed_sum :
    (n : ℕ) (ws : List ℕ) (compare : Key n → Key n → Ordering) (keys columns : List CodeKey) (places : List ℕ) (es : List Entry)
    → IsNumbering n ws compare keys columns places → Each (λ e. e.0 < length keys) es
    → row_sum (column_key n columns) (placed_entries places es) ≡ row_sum (column_key n keys) es
placed_sum n ws compare keys columns places [] h known = refl
placed_sum n ws compare keys columns places (e ∷ es) h known =
    ap₂ (λ k r. (key_of n k, e.1) ∷ r) (h.placed e.0 known.0) (placed_sum n ws compare keys columns places es h known.1)

pub placed_within : (n : ℕ) (ws : List ℕ) (compare : Key n → Key n → Ordering) (keys columns : List CodeKey) (places : List ℕ) (es : List Entry)
    → IsNumbering n ws compare keys columns places → Each (λ e. e.0 < length keys) es → Each (λ e. e.0 < length columns) (placed_entries places es)
placed_within n ws compare keys columns places [] h known = tt
placed_within n ws compare keys columns places (e ∷ es) h known = (h.within e.0 known.0, placed_within n ws compare keys columns places es h known.1)

-- keys that descend stand at columns that ascend
module _ (n p r : ℕ) (compare : Key n → Key n → Ordering) (order : IsKeyOrder r compare) (columns : List CodeKey) (descend : Descend n compare columns) where
  later_column :
      (a b : ℕ) → a < length columns → b < length columns → compare (column_key n columns a) (column_key n columns b) ≡ Greater → a < b
  later_column a b la lb g = elim (cases_lt a b) [
    | inl lt ↦ lt
    | inr ge ↦ elim (cases_eq a b) [
      | inl e ↦ absurd
          (let q : compare (column_key n columns a) (column_key n columns b) ≡ Equal =
          ap (λ x. compare (column_key n columns a) (column_key n columns x)) (sym e) ∙ equal_itself order (column_key n columns a) in
          let z : Equal ≡ Greater = sym q ∙ g in cc)
      | inr ne ↦ absurd
          (let l : compare (column_key n columns a) (column_key n columns b) ≡ Less =
          less_of_greater order (column_key n columns b) (column_key n columns a) (descend b a (omega arith) la) in
          let z : Less ≡ Greater = sym l ∙ g in cc)
    ]
  ]

  ascending :
      (low : ℕ) (es : List Entry) → low ≤ length columns
      → Each (λ e. e.0 < length columns) es → Each (λ (e : Entry). low ≤ e.0) es → Descends compare (row_sum (column_key n columns) es)
      → Each (λ t. (0 < t.1) × (t.1 < p)) (row_sum (column_key n columns) es) → AreEntries p low (length columns) es
  ascending low [] le known from d res = le
  ascending low (e ∷ es) le known from d res =
      (from.0, res.0.0, res.0.1, ascending (e.0 + 1) es (omega (arith, known.0)) known.1 (behind e es known.0 known.1 d.0) d.1 res.1)
    where
      behind : (e : Entry) (es : List Entry) → e.0 < length columns → Each (λ x. x.0 < length columns) es
          → Each (λ u. compare (column_key n columns e.0) u.0 ≡ Greater) (row_sum (column_key n columns) es) → Each (λ (x : Entry). e.0 + 1 ≤ x.0) es
      behind e [] l k g = tt
      behind e (x ∷ es) l k g = ((let q = later_column e.0 x.0 l k.0 g.0 in omega arith), behind e es l k.1 g.1)

  from_zero : (es : List Entry) → Each (λ (e : Entry). 0 ≤ e.0) es
  from_zero [] = tt
  from_zero (e ∷ es) = ((let z : 0 ≤ e.0 = omega arith in z), from_zero es)

  pub entries_of_sum :
      (es : List Entry) (v : FormalSum n)
      → Each (λ e. e.0 < length columns) es → row_sum (column_key n columns) es ≡ v → Descends compare v → Each (λ t. (0 < t.1) × (t.1 < p)) v
      → AreEntries p 0 (length columns) es
  entries_of_sum es v known e d res =
      ascending 0 es (let z : 0 ≤ length columns = omega arith in z) known (from_zero es)
      (subst (Descends compare) (sym e) d)
      (subst (Each (λ t. (0 < t.1) × (t.1 < p))) (sym e) res)

pub residue_of : {n : ℕ} (key : ℕ → Key n) (es : List Entry) → head_coefficient (row_sum key es) ≡ first_residue es
residue_of key [] = refl
residue_of key (e ∷ es) = refl

-- one entry more has the place of its number
pub place_step :
    (places : List ℕ) (es : List Entry) (k : ℕ) → k < length es
    → (let xs = placed_entries places (take k es) ++ drop k es in let e = get_or xs k (0, 0) in set xs k (get_or places e.0 0, e.1))
    ≡ placed_entries places (take (suc k) es) ++ drop (suc k) es
place_step places [] k lt = absurd (omega arith)
place_step places (e ∷ es) zero lt = refl
place_step places (e ∷ es) (suc k) lt = ap (λ ys. (get_or places e.0 0, e.1) ∷ ys) (place_step places es k (omega arith))
