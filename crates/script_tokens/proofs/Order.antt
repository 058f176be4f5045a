-- Tokens stand one behind the other.
use Rattle.std.proofs.Common.{◌≡◌, ℕ, zero, suc, ◌+◌, ◌≤◌, cond, Bool, true, false, Option, Some, None, List, [], ◌∷◌, length, Vec, Global, Result, Ok, Err, IfOk, IfSome, sym, subst, arith, eqb}
use Rattle.std.specs.List.{prefix_len}
use Rattle.std.proofs.lemmas.List.Sums.{prefix_len-le-length}
use Rattle.std.specs.Char.{is_ascii_digit, is_ascii_alphabetic}
use Rattle.script_tokens.specs.declared.token.Token.{Token}
use Rattle.script_tokens.specs.declared.token.TokenKind.{TokenKind}
use Rattle.script_tokens.specs.declared.token.TokenStop.{TokenStop}
use Rattle.script_tokens.specs.Scans.{alone, token_at, tokens_from, tokens_of, with_front_tokens, begun, GivesOrStops}
use Rattle.script_tokens.specs.Tokens.{is_blank, is_name_byte, sign_of, IsInOrder}

abbrev Ordered : ℕ → ℕ → Result (List Token) ℕ → Type 0
Ordered from limit (Ok ts) = IsInOrder from limit ts
Ordered from limit (Err at) = Unit {0}

sign_within : (o : Option TokenKind) (bs : List ℕ) → IfSome (alone o) (λ t. t.1 ≤ length bs)
sign_within None bs = tt
sign_within (Some kind) bs = omega arith

pub token_within : (b : ℕ) (bs : List ℕ) → IfSome (token_at b bs) (λ t. t.1 ≤ length bs)
unfolding token_at
token_within b bs = by_tests (is_ascii_alphabetic b) (is_ascii_digit b)
  where
    by_tests : (letter digit : Bool) → IfSome (cond letter (Some (TokenKind.Name, prefix_len is_name_byte bs)) (cond digit (Some (TokenKind.Number, prefix_len is_ascii_digit bs)) (alone (sign_of b)))) (λ t. t.1 ≤ length bs)
    by_tests true digit = prefix_len-le-length is_name_byte bs
    by_tests false true = prefix_len-le-length is_ascii_digit bs
    by_tests false false = sign_within (sign_of b) bs

weaker : (from lower limit : ℕ) (ts : List Token) → lower ≤ from → IsInOrder from limit ts → IsInOrder lower limit ts
weaker from lower limit [] le h = tt
weaker from lower limit (t ∷ ts) le h = (omega (arith, h.0), h.1, h.2, h.3)

ordered_weaker : (from lower limit : ℕ) (answer : Result (List Token) ℕ) → lower ≤ from → Ordered from limit answer → Ordered lower limit answer
ordered_weaker from lower limit (Ok ts) le h = weaker from lower limit ts le h
ordered_weaker from lower limit (Err at) le h = tt

joined : (kind : TokenKind) (at more limit : ℕ) (answer : Result (List Token) ℕ) → at + 1 + more ≤ limit → Ordered (at + 1 + more) limit answer → Ordered at limit (with_front_tokens (record { kind = kind; start = at; end = at + 1 + more } ∷ []) answer)
joined kind at more limit (Ok ts) le h = (omega arith, omega arith, le, h)
joined kind at more limit (Err i) le h = tt

moved : (a b c d : ℕ) (answer : Result (List Token) ℕ) → a ≡ c → b ≡ d → Ordered a b answer → Ordered c d answer
moved a b c d answer p q h = rw (sym p, sym q) h

chosen : (hash blank : Bool) (o : Option (TokenKind × ℕ)) (at bound limit : ℕ) (after : ℕ → Result (List Token) ℕ) → IfSome o (λ t. t.1 ≤ bound) → at + 1 + bound ≤ limit → ((more : ℕ) → more ≤ bound → Ordered (at + 1 + more) limit (after more))
    → Ordered at limit (cond hash (Ok []) (cond blank (after 0) (begun o at after)))
chosen true blank o at bound limit after within room h = tt
chosen false true o at bound limit after within room h = ordered_weaker (at + 1 + 0) at limit (after 0) (omega arith) (h 0 (omega arith))
chosen false false None at bound limit after within room h = tt
chosen false false (Some t) at bound limit after within room h = joined t.0 at t.1 limit (after t.1) (omega (arith, within)) (h t.1 within)

in_order : (inside at : ℕ) (bs : List ℕ) → inside ≤ length bs → Ordered (at + inside) (at + length bs) (tokens_from inside at bs)
unfolding tokens_from
in_order inside at [] h = tt
in_order (suc inside) at (b ∷ bs) h = moved (at + 1 + inside) (at + 1 + length bs) (at + suc inside) (at + suc (length bs)) (tokens_from inside (at + 1) bs) (omega arith) (omega arith) (in_order inside (at + 1) bs (omega arith))
in_order zero at (b ∷ bs) h =
    moved at (at + 1 + length bs) (at + 0) (at + suc (length bs)) _ (omega arith) (omega arith)
    (chosen (eqb b 35) (is_blank b) (token_at b bs) at (length bs) (at + 1 + length bs) (λ more. tokens_from more (at + 1) bs) (token_within b bs) (omega arith) (λ more le. in_order more (at + 1) bs le))

pub are_in_order : (line : List ℕ) (r : Result (Vec Token Global) TokenStop) → GivesOrStops (λ found. found.items) r (tokens_of line) → IfOk r (λ found. IsInOrder 0 (length line) found.items)
are_in_order line (Ok found) h = subst (λ o. Ordered 0 (length line) o) h (moved (0 + 0) (0 + length line) 0 (length line) (tokens_of line) (omega arith) (omega arith) (in_order 0 0 line (omega arith)))
are_in_order line (Err e) h = tt
