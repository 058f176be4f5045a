-- A row that is being reduced by pivots, column after column
use Rattle.std.specs.Prelude.{List, [], get_or, length, map, ℕ, ◌%◌, ◌*◌, ◌++◌, ◌<◌, ◌∷◌, ◌≡◌}
use Rattle.residues.specs.Residues.{IsCongruent}
use Rattle.monomials.specs.Exponents.{unit}
use Rattle.formal_sums.specs.Combinations.{combination}
use Rattle.formal_sums.specs.FormalSums.{Each, FormalSum, IsSame, Key, scale}
use Rattle.row_laws.specs.Rows.{IsInSpan}
use Rattle.row_matrix.specs.Rows.{AreEntries, Entry, IsRow, RowShown, first_column, row_sum, shown_row_at, source_key}
use Rattle.dense_reduction.specs.Dense.{AreWithin, HasRoom, IsDense, dense_sum}
use Rattle.dense_reduction.specs.Pivots.{row_vectors}

-- v is what is left and a vector in the span of the rows
pub record IsReducedTo {n : ℕ} (p : ℕ) (rows : List (FormalSum n)) (v left : FormalSum n) : Type 0 where
  pub taken : FormalSum n
  pub spanned : IsInSpan p rows taken
  pub sums : IsSame p v (left ++ taken)

-- the sources of rows, each `factor` times, where these are numbers of rows and factors
abbrev pub taken_sum : {n : ℕ} → (ℕ → Key n) → List RowShown → List Entry → FormalSum n
taken_sum key rows [] = []
taken_sum {n} key rows (t ∷ taken) = scale t.1 (unit n) (row_sum key (shown_row_at rows t.0).sources) ++ taken_sum key rows taken

-- the sources of a row to which these rows were added
abbrev pub sources_sum : {n : ℕ} → (ℕ → Key n) → List RowShown → RowShown → List Entry → FormalSum n
sources_sum key rows row taken = row_sum key row.sources ++ taken_sum key rows taken

-- what is left of the row at the columns before c, the numbers at those from c on, and the rows, of so many, that were
-- added; the numbers are below the limit
pub record IsRowUnderway (p limit c columns count : ℕ) (pivots : List ℕ) (left : List Entry) (numbers : List ℕ) (taken : List Entry) : Type 0 where
  pub numbered : length numbers ≡ columns
  pub room : HasRoom p limit
  pub small : IsDense limit numbers
  pub known : AreWithin p count taken
  pub cleared : (j : ℕ) → j < c → get_or numbers j 0 ≡ 0
  pub entries : AreEntries p 0 c left
  pub free : Each (λ e. get_or pivots e.0 0 ≡ 0) left

-- what is left and the numbers are the combination of the input rows F by the sources of the row and of those that were added
abbrev pub IsCombinedDense :
    {n : ℕ} → ℕ → List (FormalSum n) → (ℕ → Key n) → List RowShown → RowShown → List Entry → List ℕ → List Entry → Type 0
IsCombinedDense {n} p F key rows row left numbers taken =
    IsSame p (combination F (sources_sum (source_key n) rows row taken)) (row_sum key left ++ dense_sum key 0 numbers)

-- the row was reduced by these rows to what is left and the numbers
abbrev pub IsReducedRow : ℕ → List RowShown → RowShown → List Entry → List ℕ → Type 0
IsReducedRow p rows row left numbers =
    (n : ℕ) (key : ℕ → Key n) → IsReducedTo p (row_vectors key rows) (row_sum key row.entries) (row_sum key left ++ dense_sum key 0 numbers)

-- each row is the combination of the input rows F by its sources
abbrev pub AreRowsCombined : {n : ℕ} → ℕ → List (FormalSum n) → (ℕ → Key n) → List RowShown → Type 0
AreRowsCombined {n} p F key rows = Each (λ r. IsSame p (combination F (row_sum (source_key n) r.sources)) (row_sum key r.entries)) rows

-- the entries with each residue c times itself
abbrev pub entries_rescaled : ℕ → ℕ → List Entry → List Entry
entries_rescaled p c entries = map (λ e. (e.0, (c * e.1) % p)) entries

-- r is a monic multiple of what is left, and its sources are the same multiple of those of the row and of what was added
pub record IsLeftRow (p columns inputs : ℕ) (rows : List RowShown) (row : RowShown) (left taken : List Entry) (r : RowShown) : Type 0 where
  pub good : IsRow p columns inputs r
  pub first : first_column r.entries ≡ first_column left
  pub some : 0 < length left
  pub factor : ℕ
  pub back : ℕ
  pub inverse : IsCongruent p (factor * back) 1
  pub entries : (n : ℕ) (key : ℕ → Key n) → IsSame p (row_sum key r.entries) (scale factor (unit n) (row_sum key left))
  pub combination : (n : ℕ) (key : ℕ → Key n) → IsSame p (row_sum key r.sources) (scale factor (unit n) (sources_sum key rows row taken))

-- the row is in the span of the rows
abbrev pub IsSpanned : ℕ → List RowShown → RowShown → Type 0
IsSpanned p rows row = (n : ℕ) (key : ℕ → Key n) → IsInSpan p (row_vectors key rows) (row_sum key row.entries)

-- r is what the pivots leave of the row: it spans with them what the row spans with them
pub record IsRowRemainder (p inputs : ℕ) (rows : List RowShown) (pivots : List ℕ) (row r : RowShown) : Type 0 where
  pub good : IsRow p (length pivots) inputs r
  pub free : get_or pivots (first_column r.entries) 0 ≡ 0
  pub combined :
      (n : ℕ) (F : List (FormalSum n)) (key : ℕ → Key n)
      → AreRowsCombined p F key rows → IsSame p (combination F (row_sum (source_key n) row.sources)) (row_sum key row.entries)
      → IsSame p (combination F (row_sum (source_key n) r.sources)) (row_sum key r.entries)
  pub inside : IsSpanned p (rows ++ r ∷ []) row
  pub outside : IsSpanned p (rows ++ row ∷ []) r

-- a number for each column, all 0
abbrev pub AreIdle : ℕ → List ℕ → Type 0
AreIdle columns numbers = (length numbers ≡ columns) × Each (λ a. a ≡ 0) numbers
