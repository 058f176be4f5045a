-- A line gone through byte by byte.
use Rattle.std.specs.Prelude.{◌≡◌, ℕ, zero, suc, ◌+◌, List, [], ◌∷◌, ◌++◌, Option, Some, None, Result, Ok, Err, ◌==◌, if◌then◌else◌}
use Rattle.std.specs.List.{prefix_len}
use Rattle.std.specs.Char.{is_ascii_digit, is_ascii_alphabetic}
use Rattle.script_tokens.specs.Tokens.{is_blank, is_name_byte, sign_of}
use Rattle.script_tokens.specs.declared.token.Token.{Token}
use Rattle.script_tokens.specs.declared.token.TokenKind.{TokenKind}
use Rattle.script_tokens.specs.declared.token.TokenKind.TheVariants.{Name, Number}
use Rattle.script_tokens.specs.declared.token.TokenStop.{TokenStop}
use Rattle.script_tokens.specs.declared.token.TokenStop.TheVariants.{Memory, At}

-- a sign takes no byte more
abbrev pub alone : Option TokenKind → Option (TokenKind × ℕ)
alone None = None
alone (Some kind) = Some (kind, 0)

-- the token that begins with the byte b, and how many of the bytes bs after it belong to it: as many as there are
unfoldable pub token_at : ℕ → List ℕ → Option (TokenKind × ℕ)
token_at b bs =
    if is_ascii_alphabetic b then Some (Name, prefix_len is_name_byte bs)
    else (if is_ascii_digit b then Some (Number, prefix_len is_ascii_digit bs)
    else alone (sign_of b))

abbrev pub with_front_tokens : List Token → Result (List Token) ℕ → Result (List Token) ℕ
with_front_tokens front (Err at) = Err at
with_front_tokens front (Ok found) = Ok (front ++ found)

-- The tokens of bytes that stand from place at on, of which the first `inside` belong to a token already. A # ends them
-- (35), a blank is passed over. Err i: the byte at i is the first that begins no token.
-- (begun takes what token begins at place at, if any, and the tokens of the bytes after by how many of them it takes.)
abbrev pub begun : Option (TokenKind × ℕ) → ℕ → (ℕ → Result (List Token) ℕ) → Result (List Token) ℕ
begun None at after = Err at
begun (Some t) at after = with_front_tokens (record { kind = t.0; start = at; end = at + 1 + t.1 } ∷ []) (after t.1)

unfoldable pub tokens_from : ℕ → ℕ → List ℕ → Result (List Token) ℕ
tokens_from inside at [] = Ok []
tokens_from (suc inside) at (b ∷ bs) = tokens_from inside (at + 1) bs
tokens_from zero at (b ∷ bs) =
    if b == 35 then Ok []
    else (if is_blank b then tokens_from 0 (at + 1) bs
    else begun (token_at b bs) at (λ more. tokens_from more (at + 1) bs))

abbrev pub tokens_of : List ℕ → Result (List Token) ℕ
tokens_of line = tokens_from 0 0 line

-- What a function returned, seen by view, is the answer, unless memory ran out.
abbrev pub GivesOrStops : {X Y : Type 0} → (X → Y) → Result X TokenStop → Result Y ℕ → Type 0
GivesOrStops view (Ok x) answer = answer ≡ Ok (view x)
GivesOrStops view (Err Memory) answer = Unit {0}
GivesOrStops view (Err (At i)) answer = answer ≡ Err i
