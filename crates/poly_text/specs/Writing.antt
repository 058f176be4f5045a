-- Texts as they are written, from left to right
use Rattle.std.specs.Prelude.{Bool, List, [], codes, false, map, suc, true, zero, ⊤, ℕ, ◌≢◌, ◌≤◌, ◌+◌, ◌-◌, ◌++◌, ◌∷◌, ◌==◌, ◌≡◌, if◌then◌else◌}
use Rattle.std.specs.List.{range_with_len}
use Rattle.std.specs.Fmt.{decimal}
use Rattle.term_lists.specs.declared.key.Key.{Key}
use Rattle.line_text.specs.Texts.{zero_entries}
use Rattle.poly_text.specs.Texts.{poly_text, term_text, terms_at}

-- new is old with more behind it
abbrev pub IsFront : List ℕ → List ℕ → Type 0
IsFront old new = (more : List ℕ) × (new ≡ old ++ more)

-- each text with the byte before it
abbrev pub tails : ℕ → List (List ℕ) → List ℕ
tails b [] = []
tails b (x ∷ xs) = b ∷ x ++ tails b xs

-- a power whose exponent is not 0
abbrev pub power_text : List ℕ → ℕ → List ℕ
power_text name e = if e == 1 then name else name ++ 94 ∷ decimal e

-- what stands before a factor: * behind an earlier one
abbrev pub factor_start : Bool → List ℕ
factor_start started = if started then 42 ∷ [] else []

-- the powers behind the factors that are written: where there is no factor at all, 1
abbrev pub powers_rest : Bool → List (List ℕ) → List ℕ
powers_rest true powers = tails 42 powers
powers_rest false [] = codes "1"
powers_rest false (x ∷ xs) = x ++ tails 42 xs

-- what stands before a term: + behind an earlier one
abbrev pub term_start : Bool → List ℕ
term_start begun = if begun then 43 ∷ [] else []

-- the terms behind those that are written: where there is no term at all, 0
abbrev pub terms_rest : Bool → List (List ℕ) → List ℕ
terms_rest true terms = tails 43 terms
terms_rest false [] = codes "0"
terms_rest false (x ∷ xs) = x ++ tails 43 xs

-- the positions ascend from this one on
abbrev pub AscendsFrom : ℕ → List (Key × ℕ) → Type 0
AscendsFrom low [] = ⊤
AscendsFrom low (t ∷ ts) = (low ≤ t.0.position) × AscendsFrom t.0.position ts

-- exactly so many terms at the front stand at the position
abbrev pub IsStretch : ℕ → List (Key × ℕ) → ℕ → Type 0
IsStretch p [] k = k ≡ 0
IsStretch p (t ∷ ts) zero = t.0.position ≢ p
IsStretch p (t ∷ ts) (suc k) = (t.0.position ≡ p) × IsStretch p ts k

-- what stands between two terms that follow one another: + in one entry, else a comma, behind the entries between theirs
abbrev pub between : ℕ → ℕ → List ℕ
between p q = if q == p then 43 ∷ [] else zero_entries (q - (p + 1)) ++ 44 ∷ []

-- so many entries from a position on, each behind a comma
abbrev pub later_entries : List (List ℕ) → ℕ → ℕ → List (Key × ℕ) → List ℕ
later_entries names p n terms = tails 44 (map (λ i. poly_text names (terms_at i terms)) (range_with_len p n))

-- what stands behind the terms of the entry at the position that are written: its further terms, and so many more entries
abbrev pub entries_rest : List (List ℕ) → ℕ → ℕ → List (Key × ℕ) → List ℕ
entries_rest names p more terms = tails 43 (map (term_text names) (terms_at p terms)) ++ later_entries names (p + 1) more terms
