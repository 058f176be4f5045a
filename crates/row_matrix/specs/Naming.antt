-- Vectors whose keys have numbers in a table, and the numbers as columns
use Rattle.std.specs.Prelude.{Contains, List, false, [], get_or, length, map, min, take, ⊤, ℕ, ◌++◌, ◌+◌, ◌-◌, ◌<◌, ◌∷◌, ◌≡◌, ◌≤◌}
use Rattle.std.specs.Ordering.{is_lt, nat_cmp, ordering_then}
use Rattle.std.specs.declared.cmp.Ordering.{Ordering}
use Rattle.monomials.specs.Exponents.{exponents_of}
use Rattle.formal_sums.specs.FormalSums.{Each, FormalSum, Key, scale}
use Rattle.monomial_orders.specs.Kept.{IsWeighed, Monomial}
use Rattle.term_lists.specs.Stops.{Fits}
use Rattle.term_lists.specs.Vectors.{sum_of}
use Rattle.term_lists.specs.declared.key.Key.{Key as CodeKey}
use Rattle.row_matrix.specs.Hashes.{no_key}
use Rattle.row_matrix.specs.Rows.{AreKeys, Descend, Entry, column_key, row_sum}

-- the entries have numbers of keys, and stand for v
pub record AreNamed (n : ℕ) (keys : List CodeKey) (entries : List Entry) (v : FormalSum n) : Type 0 where
  pub known : Each (λ e. e.0 < length keys) entries
  pub sum : row_sum (column_key n keys) entries ≡ v

-- an entry has this number
abbrev pub NamesNumber : List Entry → ℕ → Type 0
NamesNumber entries i = Contains (map (λ e. e.0) entries) i

-- new has the keys of old and behind them others, each of which an entry names
pub record IsGrown (old new : List CodeKey) (entries : List Entry) : Type 0 where
  pub added : List CodeKey
  pub grown : new ≡ old ++ added
  pub named : (i : ℕ) → length old ≤ i → i < length new → NamesNumber entries i

-- the entries are those of t times the first terms of v, one each; the keys have grown from `start` by what they name alone
pub record IsPartOfProduct (start keys : List CodeKey) (t : Monomial) (v : List (CodeKey × ℕ)) (entries : List Entry) : Type 0 where
  pub named : AreNamed (length t.exponents) keys entries (scale 1 (exponents_of (length t.exponents) t.exponents)
      (sum_of (length t.exponents) (take (length entries) v)))
  pub grown : IsGrown start keys entries
  pub weighed : (ws : List ℕ) → IsWeighed (length t.exponents) ws t → Each (λ u. IsWeighed (length t.exponents) ws u.0.monomial) v
      → AreKeys (length t.exponents) ws start → AreKeys (length t.exponents) ws keys
  pub fits : Fits t (take (length entries) v)

-- 0 for the number of a key, 1 for any other
abbrev pub lack_of : List CodeKey → ℕ → ℕ
lack_of keys i = min 1 (i + 1 - length keys)

-- two numbers by their keys, the greatest first; numbers without a key come last
abbrev pub by_descent : (n : ℕ) → (Key n → Key n → Ordering) → List CodeKey → ℕ → ℕ → Ordering
by_descent n compare keys i j = ordering_then (nat_cmp (lack_of keys i) (lack_of keys j)) (compare (column_key n keys j) (column_key n keys i))

-- no key is below that of a later number
abbrev pub Falls : (n : ℕ) → (Key n → Key n → Ordering) → List CodeKey → List ℕ → Type 0
Falls n compare keys [] = ⊤
Falls n compare keys (i ∷ numbers) =
    Each (λ j. is_lt (compare (column_key n keys i) (column_key n keys j)) ≡ false) numbers × Falls n compare keys numbers

-- the keys are now columns, which descend: key i is column places i
pub record IsNumbering (n : ℕ) (ws : List ℕ) (compare : Key n → Key n → Ordering) (keys columns : List CodeKey) (places : List ℕ) : Type 0 where
  pub monomials : AreKeys n ws columns
  pub sized : length places ≡ length keys
  pub within : (i : ℕ) → i < length keys → get_or places i 0 < length columns
  pub placed : (i : ℕ) → i < length keys → get_or columns (get_or places i 0) no_key ≡ get_or keys i no_key
  pub descend : Descend n compare columns

-- the key with this number has its place among the columns
abbrev pub IsPlaced : List CodeKey → List CodeKey → List ℕ → ℕ → Type 0
IsPlaced keys columns places i = (get_or places i 0 < length columns) × (get_or columns (get_or places i 0) no_key ≡ get_or keys i no_key)

-- the keys that are done have their places among the columns, which strictly descend; none is below one of the rest
pub record IsPlacing (n : ℕ) (ws : List ℕ) (compare : Key n → Key n → Ordering) (keys columns : List CodeKey)
    (places done rest : List ℕ) : Type 0 where
  pub monomials : AreKeys n ws columns
  pub descend : Descend n compare columns
  pub above : (c : ℕ) → c < length columns → Each (λ i. is_lt (compare (column_key n columns c) (column_key n keys i)) ≡ false) rest
  pub falls : Falls n compare keys rest
  pub known : Each (λ i. i < length keys) rest
  pub placed : Each (IsPlaced keys columns places) done
  pub sized : length places ≡ length keys
