-- Rows as lists of columns and residues, and what a matrix stands for (Faugère 1999, section 2)
use Rattle.std.specs.Prelude.{List, [], get_or, length, map, ℕ, ◌+◌, ◌<◌, ◌∷◌, ◌≡◌, ◌≤◌}
use Rattle.std.specs.declared.cmp.Ordering.{Ordering}
use Rattle.std.specs.declared.cmp.Ordering.TheVariants.{Greater}
use Rattle.monomials.specs.Exponents.{unit}
use Rattle.formal_sums.specs.Combinations.{combination}
use Rattle.formal_sums.specs.FormalSums.{Each, FormalSum, IsSame, Key}
use Rattle.monomial_orders.specs.Kept.{IsWeighed}
use Rattle.term_lists.specs.Vectors.{key_of}
use Rattle.term_lists.specs.declared.key.Key.{Key as CodeKey}
use Rattle.row_matrix.specs.Hashes.{no_key}

-- a column and a residue
abbrev pub Entry : Type 0
Entry = ℕ × ℕ

-- what entries stand for, where each column stands for this key
abbrev pub row_sum : {n : ℕ} → (ℕ → Key n) → List Entry → FormalSum n
row_sum key entries = map (λ e. (key e.0, e.1)) entries

-- the key of a column
abbrev pub column_key : (n : ℕ) → List CodeKey → ℕ → Key n
column_key n columns c = key_of n (get_or columns c no_key)

-- the key of the cofactor of an input row: a residue at its position
abbrev pub source_key : (n : ℕ) → ℕ → Key n
source_key n i = (i, unit n)

-- the columns ascend, from `low` on and below `high`, with residues that are reduced and not 0
abbrev pub AreEntries : ℕ → ℕ → ℕ → List Entry → Type 0
AreEntries p low high [] = low ≤ high
AreEntries p low high (e ∷ es) = (low ≤ e.0) × (0 < e.1) × (e.1 < p) × AreEntries p (e.0 + 1) high es

-- the first column; 0 where there is none
abbrev pub first_column : List Entry → ℕ
first_column [] = 0
first_column (e ∷ es) = e.0

-- the first residue; 0 where there is none
abbrev pub first_residue : List Entry → ℕ
first_residue [] = 0
first_residue (e ∷ es) = e.1

-- what contracts see of a row: its entries, and the combination of input rows that it is
pub record RowShown : Type 0 where
  pub entries : List Entry
  pub sources : List Entry

-- a row without entries
abbrev pub no_row : RowShown
no_row = record { entries = []; sources = [] }

-- the row with this number
abbrev pub shown_row_at : List RowShown → ℕ → RowShown
shown_row_at rows i = get_or rows i no_row

-- what contracts see of a matrix: the columns' keys, the number of input rows, the rows
pub record MatrixShown : Type 0 where
  pub columns : List CodeKey
  pub inputs : ℕ
  pub rows : List RowShown

-- a monic row of so many columns, with a combination of so many input rows
pub record IsRow (p columns inputs : ℕ) (r : RowShown) : Type 0 where
  pub entries : AreEntries p 0 columns r.entries
  pub monic : first_residue r.entries ≡ 1
  pub sources : AreEntries p 0 inputs r.sources

-- each key has a monomial in n variables of these weights
abbrev pub AreKeys : ℕ → List ℕ → List CodeKey → Type 0
AreKeys n ws keys = Each (λ k. IsWeighed n ws k.monomial) keys

-- the columns strictly descend
abbrev pub Descend : (n : ℕ) → (Key n → Key n → Ordering) → List CodeKey → Type 0
Descend n compare columns = (c d : ℕ) → c < d → d < length columns → compare (column_key n columns c) (column_key n columns d) ≡ Greater

-- monic rows over strictly descending columns
pub record IsMatrix (n : ℕ) (ws : List ℕ) (p : ℕ) (compare : Key n → Key n → Ordering) (m : MatrixShown) : Type 0 where
  pub monomials : AreKeys n ws m.columns
  pub descend : Descend n compare m.columns
  pub rows : Each (IsRow p (length m.columns) m.inputs) m.rows

-- the vector of a row
abbrev pub vector_of : (n : ℕ) → List CodeKey → RowShown → FormalSum n
vector_of n columns r = row_sum (column_key n columns) r.entries

-- the vectors of rows
abbrev pub vectors_of : (n : ℕ) → List CodeKey → List RowShown → List (FormalSum n)
vectors_of n columns rows = map (λ r. vector_of n columns r) rows

-- the row is the combination of the input rows F by its sources
abbrev pub IsFromSources : (n p : ℕ) → List (FormalSum n) → List CodeKey → RowShown → Type 0
IsFromSources n p F columns r = IsSame p (combination F (row_sum (source_key n) r.sources)) (vector_of n columns r)
