-- What the digits of a token say
use Rattle.std.specs.Prelude.{List, [], slice_range, ℕ, ◌*◌, ◌+◌, ◌-◌, ◌<◌, ◌^◌, ◌∷◌}
use Rattle.script_tokens.specs.declared.token.Token.{Token}
use Rattle.script_tokens.specs.declared.token.TokenKind.{TokenKind}
use Rattle.script_tokens.specs.declared.token.TokenKind.TheVariants.{Number}

-- the bytes of a token of the line
abbrev pub text_of : List ℕ → Token → List ℕ
text_of line token = slice_range line token.start token.end

-- the number that digits say behind those that said n
abbrev pub number_from : ℕ → List ℕ → ℕ
number_from n [] = n
number_from n (b ∷ bs) = number_from (10 * n + (b - 48)) bs

-- the number that digits say
abbrev pub number_of : List ℕ → ℕ
number_of digits = number_from 0 digits

-- the number that a token's bytes say
abbrev pub numeral_value : List ℕ → Token → ℕ
numeral_value line token = number_of (text_of line token)

-- what a token of the kind says, if it is a number, is below 2^128
abbrev pub FitsAs : TokenKind → List ℕ → Type 0
FitsAs Number text = number_of text < 2 ^ 128
FitsAs _ text = Unit {0}

-- the token is no number, or one below 2^128
abbrev pub NumeralFits : List ℕ → Token → Type 0
NumeralFits line token = FitsAs token.kind (text_of line token)
