-- The printed text of a polynomial
use Rattle.std.specs.Prelude.{filter, flat_map, List, [], codes, map, zero, suc, ℕ, ◌++◌, ◌∷◌, ◌==◌, if◌then◌else◌}
use Rattle.std.specs.List.{range_with_len}
use Rattle.std.specs.Fmt.{decimal}
use Rattle.term_lists.specs.declared.key.Key.{Key}
use Rattle.term_lists.specs.declared.ring.Ring.{Ring}

-- the texts, with the byte between each two
abbrev pub joined : ℕ → List (List ℕ) → List ℕ
joined b [] = []
joined b (x ∷ []) = x
joined b (x ∷ xs) = x ++ b ∷ joined b xs

-- a variable with its exponent: nothing for 0, the name alone for 1
abbrev pub power_texts : List ℕ → ℕ → List (List ℕ)
power_texts name zero = []
power_texts name (suc zero) = name ∷ []
power_texts name e = (name ++ 94 ∷ decimal e) ∷ []

-- the powers of the variables that occur, in the ring's order
abbrev pub powers_texts : List (List ℕ) → List ℕ → List (List ℕ)
powers_texts [] exponents = []
powers_texts names [] = []
powers_texts (name ∷ names) (e ∷ exponents) = power_texts name e ++ powers_texts names exponents

-- the residue and the powers: the residue 1 is left out where a power stands behind it
abbrev pub factor_texts : ℕ → List (List ℕ) → List (List ℕ)
factor_texts c [] = decimal c ∷ []
factor_texts c powers = if c == 1 then powers else decimal c ∷ powers

-- a term: its factors joined by *
abbrev pub term_text : List (List ℕ) → Key × ℕ → List ℕ
term_text names t = joined 42 (factor_texts t.1 (powers_texts names t.0.monomial.exponents))

-- a polynomial: its terms joined by +, and 0 for none
abbrev pub poly_text : List (List ℕ) → List (Key × ℕ) → List ℕ
poly_text names [] = codes "0"
poly_text names terms = joined 43 (map (term_text names) terms)

-- the names of a ring's variables
abbrev pub names_of : Ring → List (List ℕ)
names_of ring = ring.vars

-- the terms at a position, in the order in which they stand
abbrev pub terms_at : ℕ → List (Key × ℕ) → List (Key × ℕ)
terms_at i terms = filter (λ t. t.0.position == i) terms

-- the entries of a vector: for each position below the rank the polynomial that stands there
abbrev pub entry_texts : List (List ℕ) → ℕ → List (Key × ℕ) → List (List ℕ)
entry_texts names rank terms = map (λ i. poly_text names (terms_at i terms)) (range_with_len 0 rank)

-- the entries in brackets, joined by commas
abbrev pub entries_text : List (List ℕ) → ℕ → List (Key × ℕ) → List ℕ
entries_text names rank terms = 91 ∷ (joined 44 (entry_texts names rank terms) ++ 93 ∷ [])

-- a vector: at rank 1 the polynomial, else its entries in brackets
abbrev pub vector_text : List (List ℕ) → ℕ → List (Key × ℕ) → List ℕ
vector_text names rank terms = if rank == 1 then poly_text names terms else entries_text names rank terms

-- a list of vectors, each on a line of its own
abbrev pub list_text : List (List ℕ) → ℕ → List (List (Key × ℕ)) → List ℕ
list_text names rank list = flat_map (λ v. vector_text names rank v ++ 10 ∷ []) list
