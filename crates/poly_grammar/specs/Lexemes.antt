-- Tokens without the places of their signs, as the grammar sees them
use Rattle.std.specs.Prelude.{List, [], ◌∷◌}
use Rattle.script_tokens.specs.declared.token.Token.{Token}
use Rattle.script_tokens.specs.declared.token.TokenKind.{TokenKind}
use Rattle.script_tokens.specs.declared.token.TokenKind.TheVariants.{Close, CloseBracket, Comma, Equals, Caret, Minus, Name, Number, Open, OpenBracket, Plus, Star}

-- a NAME or a NUM, or a sign without its place
pub data Lexeme : Type 0 where
  name : Token → Lexeme
  number : Token → Lexeme
  plus : Lexeme
  minus : Lexeme
  star : Lexeme
  caret : Lexeme
  opened : Lexeme
  closed : Lexeme
  open_bracket : Lexeme
  close_bracket : Lexeme
  comma : Lexeme
  equals : Lexeme

-- the lexeme of a token of that kind
abbrev pub lexeme_as : TokenKind → Token → Lexeme
lexeme_as Name token = name token
lexeme_as Number token = number token
lexeme_as Plus token = plus
lexeme_as Minus token = minus
lexeme_as Star token = star
lexeme_as Caret token = caret
lexeme_as Open token = opened
lexeme_as Close token = closed
lexeme_as OpenBracket token = open_bracket
lexeme_as CloseBracket token = close_bracket
lexeme_as Comma token = comma
lexeme_as Equals token = equals

-- the lexeme of a token
abbrev pub lexeme : Token → Lexeme
lexeme token = lexeme_as token.kind token

-- the names among lexemes
abbrev pub names_in : List Lexeme → List Token
names_in [] = []
names_in (name token ∷ xs) = token ∷ names_in xs
names_in (_ ∷ xs) = names_in xs

-- the numbers among lexemes
abbrev pub numbers_in : List Lexeme → List Token
numbers_in [] = []
numbers_in (number token ∷ xs) = token ∷ numbers_in xs
numbers_in (_ ∷ xs) = numbers_in xs
