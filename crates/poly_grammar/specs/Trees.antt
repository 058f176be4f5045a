-- The grammar of POLY, by concrete syntax trees: a tree is a way to read tokens, and its spelling is those tokens
use Rattle.std.specs.Prelude.{List, [], max, ℕ, ◌+◌, ◌++◌, ◌∷◌, ◌≡◌, ◌≤◌}
use Rattle.script_tokens.specs.declared.token.Token.{Token}
use Rattle.poly_grammar.specs.Lexemes.{Lexeme, caret, closed, minus, name, number, opened, plus, star}

-- POLY := [+|-] TERM { (+|-) TERM }
-- TERM := FACTOR { * FACTOR }
-- FACTOR := ATOM [ ^ NUM ]
-- ATOM := NUM | NAME | ( POLY )
-- (Lead is the sign before the first term; Terms and Factors are the lists behind the first ones.)
pub data Lead : Type 0 where
  bare : Lead
  positive : Lead
  negative : Lead

mutual
  pub data Poly : Type 0 where
    poly : Lead → TermTree → Terms → Poly

  pub data Terms : Type 0 where
    last : Terms
    plus_term : TermTree → Terms → Terms
    minus_term : TermTree → Terms → Terms

  pub data TermTree : Type 0 where
    term : Factor → Factors → TermTree

  pub data Factors : Type 0 where
    alone : Factors
    times : Factor → Factors → Factors

  pub data Factor : Type 0 where
    plain : Atom → Factor
    power : Atom → Token → Factor

  pub data Atom : Type 0 where
    numeral : Token → Atom
    letter : Token → Atom
    group : Poly → Atom

-- the sign before the first term
abbrev pub lead : Lead → List Lexeme
lead bare = []
lead positive = plus ∷ []
lead negative = minus ∷ []

-- the tokens of a tree
abbrev mutual
  pub spelling : Poly → List Lexeme
  spelling (poly sign t ts) = lead sign ++ term_spelling t ++ terms_spelling ts

  pub terms_spelling : Terms → List Lexeme
  terms_spelling last = []
  terms_spelling (plus_term t ts) = plus ∷ (term_spelling t ++ terms_spelling ts)
  terms_spelling (minus_term t ts) = minus ∷ (term_spelling t ++ terms_spelling ts)

  pub term_spelling : TermTree → List Lexeme
  term_spelling (term f fs) = factor_spelling f ++ factors_spelling fs

  pub factors_spelling : Factors → List Lexeme
  factors_spelling alone = []
  factors_spelling (times f fs) = star ∷ (factor_spelling f ++ factors_spelling fs)

  pub factor_spelling : Factor → List Lexeme
  factor_spelling (plain a) = atom_spelling a
  factor_spelling (power a exponent) = atom_spelling a ++ caret ∷ number exponent ∷ []

  pub atom_spelling : Atom → List Lexeme
  atom_spelling (numeral token) = number token ∷ []
  atom_spelling (letter token) = name token ∷ []
  atom_spelling (group p) = opened ∷ (spelling p ++ closed ∷ [])

-- how deep parentheses nest in a tree
abbrev mutual
  pub depth : Poly → ℕ
  depth (poly sign t ts) = max (term_depth t) (terms_depth ts)

  pub terms_depth : Terms → ℕ
  terms_depth last = 0
  terms_depth (plus_term t ts) = max (term_depth t) (terms_depth ts)
  terms_depth (minus_term t ts) = max (term_depth t) (terms_depth ts)

  pub term_depth : TermTree → ℕ
  term_depth (term f fs) = max (factor_depth f) (factors_depth fs)

  pub factors_depth : Factors → ℕ
  factors_depth alone = 0
  factors_depth (times f fs) = max (factor_depth f) (factors_depth fs)

  pub factor_depth : Factor → ℕ
  factor_depth (plain a) = atom_depth a
  factor_depth (power a exponent) = atom_depth a

  pub atom_depth : Atom → ℕ
  atom_depth (numeral token) = 0
  atom_depth (letter token) = 0
  atom_depth (group p) = 1 + depth p

-- the tokens are this POLY, and parentheses nest at most 64 deep
pub record Reads (xs : List Lexeme) (p : Poly) : Type 0 where
  pub spelled : xs ≡ spelling p
  pub shallow : depth p ≤ 64
