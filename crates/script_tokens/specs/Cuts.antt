-- A line cut into its tokens, with no word on how the cut is found
use Rattle.std.specs.Prelude.{Bool, Err, IsTrue, List, Ok, Result, Some, Vec, [], false, length, slice_range, ℕ, ◌+◌, ◌++◌, ◌∷◌, ◌≡◌, ◌≢◌}
use Rattle.std.specs.Global.{Global}
use Rattle.std.specs.Char.{is_ascii_alphabetic, is_ascii_digit}
use Rattle.std.specs.List.{AllByRecursion}
use Rattle.script_tokens.specs.declared.token.Token.{Token}
use Rattle.script_tokens.specs.declared.token.TokenKind.{TokenKind}
use Rattle.script_tokens.specs.declared.token.TokenKind.TheVariants.{Name, Number}
use Rattle.script_tokens.specs.declared.token.TokenStop.{TokenStop}
use Rattle.script_tokens.specs.declared.token.TokenStop.TheVariants.{At, Memory}
use Rattle.script_tokens.specs.Tokens.{is_blank, is_name_byte, sign_of}

-- each byte passes the test
abbrev pub Passes : (ℕ → Bool) → List ℕ → Type 0
Passes test bytes = AllByRecursion (λ b. IsTrue (test b)) bytes

-- the bytes are a token of the kind: a letter and then name bytes, or digits, or one sign
abbrev pub IsToken : TokenKind → List ℕ → Type 0
IsToken kind [] = ⊥
IsToken Name (b ∷ bs) = IsTrue (is_ascii_alphabetic b) × Passes is_name_byte bs
IsToken Number (b ∷ bs) = IsTrue (is_ascii_digit b) × Passes is_ascii_digit bs
IsToken kind (b ∷ bs) = (sign_of b ≡ Some kind) × (bs ≡ [])

-- of a line that goes on with `behind`, no token begins with these bytes and goes on further
abbrev pub IsLongest : List ℕ → List ℕ → Type 0
IsLongest bytes behind = (kind : TokenKind) (more after : List ℕ) → behind ≡ more ++ after → IsToken kind (bytes ++ more) → more ≡ []

-- bytes that stand from place `at` on are blanks, then the text of t, which is the longest token there, then the rest
pub record IsNextToken (at : ℕ) (bytes : List ℕ) (t : Token) (rest : List ℕ) : Type 0 where
  pub blanks : List ℕ
  pub text : List ℕ
  pub parts : bytes ≡ blanks ++ (text ++ rest)
  pub blank : Passes is_blank blanks
  pub begins : t.start ≡ at + length blanks
  pub ends : t.end ≡ t.start + length text
  pub token : IsToken t.kind text
  pub longest : IsLongest text rest

-- bytes that stand from place `at` on are these tokens and blanks, and then bytes of which Rest says what and where they are
abbrev pub IsCut : (ℕ → List ℕ → Type 0) → ℕ → List ℕ → List Token → Type 0
IsCut Rest at bytes [] = (blanks rest : List ℕ) × (bytes ≡ blanks ++ rest) × Passes is_blank blanks × Rest (at + length blanks) rest
IsCut Rest at bytes (t ∷ ts) = (rest : List ℕ) × IsNextToken at bytes t rest × IsCut Rest t.end rest ts

-- nothing, or a comment, which begins with # (35)
abbrev pub IsComment : List ℕ → Type 0
IsComment [] = Unit {0}
IsComment (b ∷ bs) = b ≡ 35

-- a byte that is no blank, begins no comment and begins no token
abbrev pub BeginsNothing : List ℕ → Type 0
BeginsNothing [] = ⊥
BeginsNothing (b ∷ bs) = (b ≢ 35) × (is_blank b ≡ false) × ((kind : TokenKind) (more : List ℕ) → IsToken kind (b ∷ more) → ⊥)

-- the line is these tokens, blanks between them, and maybe a comment
abbrev pub HasTokens : List ℕ → List Token → Type 0
HasTokens line ts = IsCut (λ place rest. IsComment rest) 0 line ts

-- tokens and blanks go up to place i, and the byte there begins nothing
abbrev pub HasStrayByte : List ℕ → ℕ → Type 0
HasStrayByte line i = (ts : List Token) × IsCut (λ place rest. (place ≡ i) × BeginsNothing rest) 0 line ts

-- the bytes of each token in the line are a token of its kind
abbrev pub HaveTexts : List ℕ → List Token → Type 0
HaveTexts line ts = AllByRecursion (λ t. IsToken t.kind (slice_range line t.start t.end)) ts

-- the tokens are those of the line, the stop is at its stray byte, and memory may be wanting
abbrev pub IsCutInto : List ℕ → Result (Vec Token Global) TokenStop → Type 0
IsCutInto line (Ok found) = HasTokens line found.items
IsCutInto line (Err Memory) = Unit {0}
IsCutInto line (Err (At i)) = HasStrayByte line i
