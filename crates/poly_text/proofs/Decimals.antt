-- Numbers in decimal: digits alone, and one text for each number
use Rattle.std.proofs.Common.{◌≡◌, ◌++◌, ◌^◌, ◌<◌, ◌≤◌, ◌∙◌, List, [], ◌∷◌, ℕ, sym, ap, arith}
use Rattle.std.specs.Fmt.{decimal}
use Rattle.std.specs.Str.Parse.{digits_value}
use Rattle.std.proofs.lemmas.Fmt.{decimal_by_steps, decimal_by_steps_wide, decimal_is_IsNumeral_wide}
use Rattle.formal_sums.specs.FormalSums.{Each}
use Rattle.poly_text.proofs.Splitting.{each_append}

-- a digit, 0 to 9
abbrev pub IsDigit : ℕ → Type 0
IsDigit c = (48 ≤ c) × (c ≤ 57)

-- at least one digit, and nothing else
abbrev pub AreDigits : List ℕ → Type 0
AreDigits [] = ⊥
AreDigits (c ∷ cs) = IsDigit c × Each IsDigit cs

digits_push : (ds : List ℕ) (c : ℕ) → AreDigits ds → IsDigit c → AreDigits (ds ++ c ∷ [])
digits_push [] c h d = absurd h
digits_push (x ∷ xs) c h d = (h.0, each_append IsDigit xs (c ∷ []) h.1 (d, tt))

pub decimal_digits : (n : ℕ) → n < 2 ^ 64 → AreDigits (decimal n)
decimal_digits n small =
    decimal_by_steps (λ _ ds. AreDigits ds) (λ m one. ((omega arith, omega arith), tt)) (λ m ds more known. digits_push ds _ known (omega arith, omega arith)) n small

pub decimal_digits_wide : (n : ℕ) → n < 10 ^ 64 → AreDigits (decimal n)
decimal_digits_wide n small =
    decimal_by_steps_wide (λ _ ds. AreDigits ds) (λ m one. ((omega arith, omega arith), tt)) (λ m ds more known. digits_push ds _ known (omega arith, omega arith)) n small

-- one text for each number of at most 64 digits
pub decimal_same : (m n : ℕ) → m < 10 ^ 64 → n < 10 ^ 64 → decimal m ≡ decimal n → m ≡ n
decimal_same m n hm hn e =
    let left = decimal_is_IsNumeral_wide m hm in
    let right = decimal_is_IsNumeral_wide n hn in
    sym left.1 ∙ ap (digits_value 10) e ∙ right.1
