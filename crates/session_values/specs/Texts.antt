-- What is printed of a value
use Rattle.std.specs.List.{range_with_len}
use Rattle.std.specs.Prelude.{Bool, List, [], codes, false, flat_map, if◌then◌else◌, length, max, suc, true, ℕ, ◌+◌, ◌++◌, ◌==◌, ◌∷◌}
use Rattle.std.specs.Fmt.{decimal}
use Rattle.term_lists.specs.declared.key.Key.{Key}
use Rattle.term_lists.specs.declared.ring.Ring.{Ring}
use Rattle.poly_text.specs.Texts.{list_text, names_of}
use Rattle.session_values.specs.Names.{Value}

-- a word, a name and a number: the line before what they are of
abbrev pub heading : List ℕ → List ℕ → ℕ → List ℕ
heading word name count = word ++ 32 ∷ (name ++ 32 ∷ (decimal count ++ 10 ∷ []))

-- a list of a value, with its heading
abbrev pub listing : List ℕ → Ring → Value → List (List (Key × ℕ)) → List ℕ
listing word ring value list = heading word value.name (length list) ++ list_text (names_of ring) value.rank list

-- the degree of the first key by the weights of its variables, 0 where there is none
abbrev pub lead_degree : List (Key × ℕ) → ℕ
lead_degree [] = 0
lead_degree (t ∷ v) = t.0.monomial.degree

-- how many vectors have a lead of this degree
abbrev pub degree_count : List (List (Key × ℕ)) → ℕ → ℕ
degree_count [] degree = 0
degree_count (v ∷ list) degree = if lead_degree v == degree then suc (degree_count list degree) else degree_count list degree

-- the greatest degree of a lead
abbrev pub greatest_degree : List (List (Key × ℕ)) → ℕ
greatest_degree [] = 0
greatest_degree (v ∷ list) = max (lead_degree v) (greatest_degree list)

-- a degree and how many leads have it; nothing where none has
abbrev pub degree_line : List (List (Key × ℕ)) → ℕ → List ℕ
degree_line list degree =
    if degree_count list degree == 0 then [] else decimal degree ++ 32 ∷ (decimal (degree_count list degree) ++ 10 ∷ [])

-- how many leads have each degree, the degrees ascending
abbrev pub degree_lines : List (List (Key × ℕ)) → List ℕ
degree_lines list = flat_map (degree_line list) (range_with_len 0 (greatest_degree list + 1))

-- how many members a reduced basis has, and its leads by degree
abbrev pub sizes : Value → List (List (Key × ℕ)) → List ℕ
sizes value basis = heading (codes "size") value.name (length basis) ++ degree_lines basis

-- yes or no
abbrev pub verdict : Bool → List ℕ
verdict true = codes "yes\n"
verdict false = codes "no\n"
