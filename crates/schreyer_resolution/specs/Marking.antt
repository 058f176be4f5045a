-- What is kept of the terms of a map's columns
use Rattle.std.specs.Prelude.{List, [], false, get_or, length, true, ℕ, ◌<◌, ◌≡◌, ◌≤◌}
use Rattle.formal_sums.specs.FormalSums.{Each}
use Rattle.term_lists.specs.declared.key.Key.{Key as CodeKey}
use Rattle.row_matrix.specs.Hashes.{hash_of}
use Rattle.induced_leads.specs.Reaching.{HasNoLeads, OccurAmong}
use Rattle.schreyer_resolution.specs.declared.marking.ColumnMarks.{ColumnMarks}
use Rattle.schreyer_resolution.specs.declared.marking.TermMark.{TermMark}

-- of a term with this key: leads stand at its position, which is before this one, and hash and variables are the key's; or none does
pub record IsTermMark (columns : List (List (CodeKey × ℕ))) (positions : ℕ) (key : CodeKey) (m : TermMark) : Type 0 where
  pub never : m.is_reached ≡ false → HasNoLeads columns key.position
  pub place : m.is_reached ≡ true → key.position < positions
  pub hash : m.is_reached ≡ true → m.hash ≡ hash_of key
  pub variables : m.is_reached ≡ true → OccurAmong key.monomial.exponents m.variables

-- a mark for each term, and a degree that no key is above
pub record AreTermMarks (columns : List (List (CodeKey × ℕ))) (positions : ℕ) (terms : List (CodeKey × ℕ)) (m : ColumnMarks) : Type 0 where
  pub count : length m.marks.items ≡ length terms
  pub each :
      (k : ℕ) (one : TermMark) (u : CodeKey × ℕ) → k < length terms → one ≡ get_or m.marks.items k one → u ≡ get_or terms k u
      → IsTermMark columns positions u.0 one
  pub above : Each (λ u. u.0.monomial.degree ≤ m.degree) terms
  pub small : m.degree < 4294967296

-- the marks of each column
pub record AreColumnMarks (columns : List (List (CodeKey × ℕ))) (positions : ℕ) (marks : List ColumnMarks) : Type 0 where
  pub count : length marks ≡ length columns
  pub each : (c : ℕ) (m : ColumnMarks) → c < length columns → m ≡ get_or marks c m → AreTermMarks columns positions (get_or columns c []) m
