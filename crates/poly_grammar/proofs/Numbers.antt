-- A number only grows with its digits.
use Rattle.std.proofs.Common.{◌≡◌, ℕ, ◌+◌, ◌-◌, ◌*◌, ◌<◌, ◌≤◌, List, [], ◌∷◌, length, drop, get_or, arith}
use Rattle.std.proofs.lemmas.List.{at_drop_more}
use Rattle.poly_grammar.specs.Numerals.{number_from, number_of}

grows : (n : ℕ) (bs : List ℕ) → n ≤ number_from n bs
grows n [] = omega arith
grows n (b ∷ bs) = omega (arith, grows (10 * n + (b - 48)) bs)

pub too_large : (digits : List ℕ) (i n bound : ℕ) → i < length digits → number_from n (drop i digits) ≡ number_of digits → bound ≤ 10 * n + (get_or digits i 0 - 48) → bound ≤ number_of digits
too_large digits i n bound lt so_far le =
    let e = at_drop_more (number_from n) digits i 0 lt in
    omega (arith, e, so_far, le, grows (10 * n + (get_or digits i 0 - 48)) (drop (i + 1) digits))
