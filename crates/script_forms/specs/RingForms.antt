-- What the parsers of a ring line give
use Rattle.std.specs.Prelude.{Bool, List, None, Option, Some, Vec, [], codes, false, if◌then◌else◌, map, nat_eq, true, ℕ, ◌++◌, ◌∷◌}
use Rattle.std.specs.Global.{Global}
use Rattle.std.specs.Cmp.Lexicographic.{pointwise}
use Rattle.script_tokens.specs.declared.token.Token.{Token}
use Rattle.script_tokens.specs.declared.token.TokenKind.{TokenKind}
use Rattle.script_tokens.specs.declared.token.TokenKind.TheVariants.{Name, Number}
use Rattle.poly_grammar.specs.Lexemes.{Lexeme, comma, lexeme, name, number}
use Rattle.poly_grammar.specs.Numerals.{text_of}
use Rattle.script_forms.specs.Written.{RingLine}
use Rattle.script_forms.specs.declared.ring_words.OrderName.{OrderName}
use Rattle.script_forms.specs.declared.ring_words.OrderName.TheVariants.{Elim, Grevlex, Lex}
use Rattle.script_forms.specs.declared.ring_words.RingForm.{RingForm}

-- the ring line that the code holds
abbrev pub ring_line_of : RingForm → RingLine
ring_line_of form = record { modulus = form.modulus; names = form.names.items; order = form.order; top = form.top; weights = form.weights.items }

-- a token before others, if there is one, and what stands behind them
abbrev pub list_item : Option Token → Option (List Token × List Lexeme) → Option (List Token × List Lexeme)
list_item (Some t) (Some found) = Some (t ∷ found.0, found.1)
list_item _ _ = None

-- tokens before others, and what stands behind them
abbrev pub with_tokens : List Token → Option (List Token × List Lexeme) → Option (List Token × List Lexeme)
with_tokens front None = None
with_tokens front (Some found) = Some (front ++ found.0, found.1)

-- the token of a NAME or a NUM
abbrev pub token_of : TokenKind → Lexeme → Option Token
token_of Name (name t) = Some t
token_of Number (number t) = Some t
token_of _ _ = None

-- a token, if there is one, before what stands behind it
abbrev pub item_before : Option Token → List Lexeme → Option (Token × List Lexeme)
item_before None xs = None
item_before (Some t) xs = Some (t, xs)

-- the token that stands first, and what stands behind it
abbrev pub item_first : (Lexeme → Option Token) → List Lexeme → Option (Token × List Lexeme)
item_first pick [] = None
item_first pick (x ∷ xs) = item_before (pick x) xs

-- whether a comma stands first
abbrev pub begins_with_comma : List Lexeme → Bool
begins_with_comma (comma ∷ xs) = true
begins_with_comma _ = false

-- { , X } as far as it goes, and what stands behind it
abbrev pub list_behind : (Lexeme → Option Token) → List Lexeme → Option (List Token × List Lexeme)
list_behind pick [] = Some ([], [])
list_behind pick (comma ∷ x ∷ xs) = list_item (pick x) (list_behind pick xs)
list_behind pick (comma ∷ []) = None
list_behind pick (x ∷ xs) = Some ([], x ∷ xs)

-- X { , X }, and what stands behind it
abbrev pub list_first : (Lexeme → Option Token) → List Lexeme → Option (List Token × List Lexeme)
list_first pick [] = None
list_first pick (x ∷ xs) = list_item (pick x) (list_behind pick xs)

-- whether the lexeme is a NAME that says the word
abbrev pub says : List ℕ → List ℕ → Lexeme → Bool
says line word (name t) = pointwise nat_eq (text_of line t) word
says line word _ = false

-- behind `elim`: NUM, and what stands behind it
abbrev pub elim_first : List Lexeme → Option (OrderName × List Lexeme)
elim_first (number k ∷ xs) = Some (Elim k, xs)
elim_first _ = None

-- an order, and what stands behind it
abbrev pub order_first : List ℕ → List Lexeme → Option (OrderName × List Lexeme)
order_first line [] = None
order_first line (x ∷ xs) =
    if says line (codes "lex") x then Some (Lex, xs)
    else (if says line (codes "grevlex") x then Some (Grevlex, xs) else (if says line (codes "elim") x then elim_first xs else None))

-- whether `top` stands first, and what stands behind it
abbrev pub top_first : List ℕ → List Lexeme → Bool × List Lexeme
top_first line [] = (false, [])
top_first line (x ∷ xs) = if says line (codes "top") x then (true, xs) else (false, x ∷ xs)

-- the tokens of a list behind which nothing stands
abbrev pub all_of : Option (List Token × List Lexeme) → Option (List Token)
all_of (Some (ts, [])) = Some ts
all_of _ = None

-- [weights NUM {, NUM}], all of the lexemes, by its NUMs
abbrev pub weights_of : List ℕ → List Lexeme → Option (List Token)
weights_of line [] = Some []
weights_of line (x ∷ xs) = if says line (codes "weights") x then all_of (list_first (token_of Number) xs) else None

-- the ring line with these parts, if there are weights or none
abbrev pub with_weights : Token → List Token → OrderName → Bool → Option (List Token) → Option RingLine
with_weights m names order top None = None
with_weights m names order top (Some weights) = Some (record { modulus = m; names = names; order = order; top = top; weights = weights })

-- behind the NAMEs of a ring line: order [top] [weights NUM {, NUM}], all of the lexemes
abbrev pub with_order_name : List ℕ → Token → List Token → Option (OrderName × List Lexeme) → Option RingLine
with_order_name line m names None = None
with_order_name line m names (Some (order, xs)) = with_weights m names order (top_first line xs).0 (weights_of line (top_first line xs).1)

-- behind the NUM of a ring line: NAME {, NAME} and the rest, all of the lexemes
abbrev pub with_names : List ℕ → Token → Option (List Token × List Lexeme) → Option RingLine
with_names line m None = None
with_names line m (Some (names, xs)) = with_order_name line m names (order_first line xs)

-- NUM NAME {, NAME} order [top] [weights NUM {, NUM}], all of the lexemes
abbrev pub ring_of : List ℕ → List Lexeme → Option RingLine
ring_of line (number m ∷ xs) = with_names line m (list_first (token_of Name) xs)
ring_of line _ = None

-- what is read of tokens that are told one by one, and what stands behind them
abbrev pub list_view : Vec Token Global → List Token → List Token × List Lexeme
list_view found rest = (found.items, map lexeme rest)
