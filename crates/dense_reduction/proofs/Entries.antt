-- Entries of rows
use Rattle.std.proofs.Common.{List, [], ap, arith, drop, length, ℕ, ◌+◌, ◌++◌, ◌<◌, ◌∷◌, ◌≡◌, ◌≤◌}
use Rattle.formal_sums.specs.FormalSums.{Each}
use Rattle.row_matrix.specs.Rows.{AreEntries, Entry, first_column, first_residue}
use Rattle.dense_reduction.specs.Dense.{AreWithin}

-- entries are within the columns
pub entries_within : (p low high : ℕ) (es : List Entry) → AreEntries p low high es → AreWithin p high es
entries_within p low high [] h = tt
entries_within p low high (e ∷ es) h = ((omega (arith, entries_bound p (e.0 + 1) high es h.3), h.2), entries_within p (e.0 + 1) high es h.3)
  where
    entries_bound : (p low high : ℕ) (es : List Entry) → AreEntries p low high es → low ≤ high
    entries_bound p low high [] h = h
    entries_bound p low high (e ∷ es) h = omega (arith, h.0, entries_bound p (e.0 + 1) high es h.3)

-- all columns are at least the first bound
pub entries_from : (p low high j : ℕ) (es : List Entry) → AreEntries p low high es → j < low → Each (λ e. j < e.0) es
entries_from p low high j [] h lt = tt
entries_from p low high j (e ∷ es) h lt = (omega (arith, h.0), entries_from p (e.0 + 1) high j es h.3 (omega (arith, h.0)))

-- one more entry
pub entries_push :
    (p low c r : ℕ) (es : List Entry) → AreEntries p low c es → 0 < r → r < p → AreEntries p low (c + 1) (es ++ (c, r) ∷ [])
entries_push p low c r [] h pos lt = (h, pos, lt, (let z : c + 1 ≤ c + 1 = omega arith in z))
entries_push p low c r (e ∷ es) h pos lt = (h.0, h.1, h.2, entries_push p (e.0 + 1) c r es h.3 pos lt)

-- more columns
pub entries_widen : (p low c d : ℕ) (es : List Entry) → c ≤ d → AreEntries p low c es → AreEntries p low d es
entries_widen p low c d [] le h = omega (arith, h)
entries_widen p low c d (e ∷ es) le h = (h.0, h.1, h.2, entries_widen p (e.0 + 1) c d es le h.3)

-- the entries behind the first of a monic row
pub monic_entries :
    (p low high : ℕ) (es : List Entry) → AreEntries p low high es → first_residue es ≡ 1
    → (es ≡ (first_column es, 1) ∷ drop 1 es) × AreEntries p (first_column es + 1) high (drop 1 es) × (0 < length es)
monic_entries p low high [] h e = absurd (omega arith)
monic_entries p low high (x ∷ es) h e = (ap (λ (r : ℕ). (x.0, r) ∷ es) e, h.3, omega arith)

-- the first column of a monic row is one of the columns
pub first_below : (p high : ℕ) (es : List Entry) → AreEntries p 0 high es → first_residue es ≡ 1 → first_column es < high
first_below p high [] h e = absurd (omega arith)
first_below p high (x ∷ es) h e = (entries_within p 0 high (x ∷ es) h).0.0
