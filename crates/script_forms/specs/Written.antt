-- The lines of a script, as they are written:
-- line := nothing | ring NUM NAME {, NAME} order [top] [weights NUM {, NUM}] | show POLY | ideal NAME = POLY {, POLY}
--       | module NAME NUM = VEC {, VEC} | let NAME = operation
--       | gens NAME | gb NAME | size NAME | hilb NAME | nf NAME VEC | member NAME VEC | lift NAME VEC | equal NAME NAME
--       | fglm NAME order | res NAME | minres NAME | betti NAME | reg NAME | ext NAME NUM | express POLY by POLY {, POLY}
-- order := lex | grevlex | elim NUM
-- operation := sum NAME NAME | product NAME NAME | intersect NAME NAME | colon NAME NAME
--            | quotient NAME POLY | saturate NAME POLY | eliminate NAME NUM | syz NAME | preimage NAME POLY {, POLY}
-- VEC := POLY | [ POLY {, POLY} ]
use Rattle.std.specs.Prelude.{Bool, List, None, Option, Some, [], codes, false, flat_map, map, true, ℕ, ◌++◌, ◌∷◌, ◌≡◌, ◌⊎◌}
use Rattle.script_tokens.specs.Cuts.{HasTokens}
use Rattle.script_tokens.specs.declared.token.Token.{Token}
use Rattle.poly_grammar.specs.Lexemes.{Lexeme, close_bracket, comma, equals, lexeme, name, number, open_bracket}
use Rattle.poly_grammar.specs.Numerals.{text_of}
use Rattle.poly_grammar.specs.Trees.{Poly, Reads}
use Rattle.script_forms.specs.declared.form.DivisionWord.{DivisionWord}
use Rattle.script_forms.specs.declared.form.DivisionWord.TheVariants.{Lift, Member, NormalForm}
use Rattle.script_forms.specs.declared.form.QuestionWord.{QuestionWord}
use Rattle.script_forms.specs.declared.form.QuestionWord.TheVariants.{Betti, Gb, Gens, Hilbert, Minimal, Regularity, Resolution, Size}
use Rattle.script_forms.specs.declared.operands.Binary.{Binary}
use Rattle.script_forms.specs.declared.operands.Binary.TheVariants.{Colon, Intersect, Product, Sum}
use Rattle.script_forms.specs.declared.operands.ByPolynomial.{ByPolynomial}
use Rattle.script_forms.specs.declared.operands.ByPolynomial.TheVariants.{Quotient, Saturate}
use Rattle.script_forms.specs.declared.ring_words.OrderName.{OrderName}
use Rattle.script_forms.specs.declared.ring_words.OrderName.TheVariants.{Elim, Grevlex, Lex}

-- a ring line: its NUM, its NAMEs, its order, whether it has `top`, and the NUMs of its `weights`, none where it has not that word
pub record RingLine : Type 0 where
  pub modulus : Token
  pub names : List Token
  pub order : OrderName
  pub top : Bool
  pub weights : List Token

-- an operation: on two values; on a value by a POLY; `eliminate` on a value by its NUM; `syz` on a value; `preimage` on a value by
-- POLYs
pub data WrittenOperation : Type 0 where
  of_two : Binary → Token → Token → WrittenOperation
  of_polynomial : ByPolynomial → Token → Poly → WrittenOperation
  elimination : Token → Token → WrittenOperation
  syzygies : Token → WrittenOperation
  preimage : Token → List Poly → WrittenOperation

-- a line: nothing; a ring; a shown polynomial; an ideal by its NAME and its POLYs; a module by its NAME, the NUM of its rank
-- and the entries of each of its VECs; a NAME for what an operation gives; a question on a value; a division of a VEC, by
-- its entries, by a value; two values to be compared; an order for a value; a POLY to be expressed by others; the NUM of an Ext
-- module of a value
pub data Written : Type 0 where
  nothing : Written
  ring_line : RingLine → Written
  show_line : Poly → Written
  ideal_line : Token → List Poly → Written
  module_line : Token → Token → List (List Poly) → Written
  let_line : Token → WrittenOperation → Written
  ask_line : QuestionWord → Token → Written
  divide_line : DivisionWord → Token → List Poly → Written
  equal_line : Token → Token → Written
  change_line : Token → OrderName → Written
  express_line : Poly → List Poly → Written
  ext_line : Token → Token → Written

-- the words that lines begin with
pub data Word : Type 0 where
  ring_word : Word
  show_word : Word
  ideal_word : Word
  module_word : Word
  let_word : Word
  question_word : QuestionWord → Word
  division_word : DivisionWord → Word
  equal_word : Word
  change_word : Word
  express_word : Word
  ext_word : Word

-- how a word is written
abbrev pub word_text : Word → List ℕ
word_text ring_word = codes "ring"
word_text show_word = codes "show"
word_text ideal_word = codes "ideal"
word_text module_word = codes "module"
word_text let_word = codes "let"
word_text (question_word Gens) = codes "gens"
word_text (question_word Gb) = codes "gb"
word_text (question_word Size) = codes "size"
word_text (question_word Hilbert) = codes "hilb"
word_text (question_word Resolution) = codes "res"
word_text (question_word Minimal) = codes "minres"
word_text (question_word Betti) = codes "betti"
word_text (question_word Regularity) = codes "reg"
word_text (division_word NormalForm) = codes "nf"
word_text (division_word Member) = codes "member"
word_text (division_word Lift) = codes "lift"
word_text equal_word = codes "equal"
word_text change_word = codes "fglm"
word_text express_word = codes "express"
word_text ext_word = codes "ext"

-- the word of a line, if it has any
abbrev pub word_of : Written → Option Word
word_of nothing = None
word_of (ring_line r) = Some ring_word
word_of (show_line p) = Some show_word
word_of (ideal_line given ps) = Some ideal_word
word_of (module_line given rank vectors) = Some module_word
word_of (let_line given operation) = Some let_word
word_of (ask_line question value) = Some (question_word question)
word_of (divide_line division value entries) = Some (division_word division)
word_of (equal_line left right) = Some equal_word
word_of (change_line value order) = Some change_word
word_of (express_line p images) = Some express_word
word_of (ext_line value count) = Some ext_word

-- the words of operations
pub data OperationWord : Type 0 where
  two_word : Binary → OperationWord
  polynomial_word : ByPolynomial → OperationWord
  elimination_word : OperationWord
  syzygies_word : OperationWord
  preimage_word : OperationWord

-- how the word of an operation is written
abbrev pub operation_text : OperationWord → List ℕ
operation_text (two_word Sum) = codes "sum"
operation_text (two_word Product) = codes "product"
operation_text (two_word Intersect) = codes "intersect"
operation_text (two_word Colon) = codes "colon"
operation_text (polynomial_word Quotient) = codes "quotient"
operation_text (polynomial_word Saturate) = codes "saturate"
operation_text elimination_word = codes "eliminate"
operation_text syzygies_word = codes "syz"
operation_text preimage_word = codes "preimage"

-- the word of an operation
abbrev pub operation_word : WrittenOperation → OperationWord
operation_word (of_two word left right) = two_word word
operation_word (of_polynomial word value p) = polynomial_word word
operation_word (elimination value count) = elimination_word
operation_word (syzygies value) = syzygies_word
operation_word (preimage value images) = preimage_word

-- { , X } for tokens of the shape X, which is NAME or NUM
abbrev pub comma_list : (Token → Lexeme) → List Token → List Lexeme
comma_list shape [] = []
comma_list shape (t ∷ ts) = comma ∷ shape t ∷ comma_list shape ts

-- NAME { , NAME }
abbrev pub AreListedNames : List Lexeme → List Token → Type 0
AreListedNames xs [] = ⊥
AreListedNames xs (t ∷ ts) = xs ≡ name t ∷ comma_list name ts

-- a NAME that says the word, and then the rest
abbrev pub IsSaid : List ℕ → List ℕ → List Lexeme → List Lexeme → Type 0
IsSaid line word xs rest = (t : Token) × (text_of line t ≡ word) × (xs ≡ name t ∷ rest)

-- order := lex | grevlex | elim NUM
abbrev pub IsOrder : List ℕ → List Lexeme → OrderName → Type 0
IsOrder line xs Lex = IsSaid line (codes "lex") xs []
IsOrder line xs Grevlex = IsSaid line (codes "grevlex") xs []
IsOrder line xs (Elim k) = IsSaid line (codes "elim") xs (number k ∷ [])

-- [top]
abbrev pub IsTopWord : List ℕ → List Lexeme → Bool → Type 0
IsTopWord line xs true = IsSaid line (codes "top") xs []
IsTopWord line xs false = xs ≡ []

-- [weights NUM {, NUM}]
abbrev pub IsWeighting : List ℕ → List Lexeme → List Token → Type 0
IsWeighting line xs [] = xs ≡ []
IsWeighting line xs (t ∷ ts) = IsSaid line (codes "weights") xs (number t ∷ comma_list number ts)

-- NUM NAME {, NAME} order [top] [weights NUM {, NUM}]
pub record IsRingLine (line : List ℕ) (xs : List Lexeme) (r : RingLine) : Type 0 where
  pub names : List Lexeme
  pub order : List Lexeme
  pub top : List Lexeme
  pub weights : List Lexeme
  pub names_are : AreListedNames names r.names
  pub order_is : IsOrder line order r.order
  pub top_is : IsTopWord line top r.top
  pub weights_are : IsWeighting line weights r.weights
  pub spelled : xs ≡ number r.modulus ∷ (names ++ (order ++ (top ++ weights)))

-- POLY { , POLY }
abbrev pub ArePolys : List Lexeme → List Poly → Type 0
ArePolys xs [] = ⊥
ArePolys xs (p ∷ []) = Reads xs p
ArePolys xs (p ∷ q ∷ more) = (front behind : List Lexeme) × (xs ≡ front ++ comma ∷ behind) × Reads front p × ArePolys behind (q ∷ more)

-- POLY by POLY { , POLY }
pub record IsExpressLine (line : List ℕ) (xs : List Lexeme) (p : Poly) (images : List Poly) : Type 0 where
  pub front : List Lexeme
  pub behind : List Lexeme
  pub rest : List Lexeme
  pub spelled : xs ≡ front ++ behind
  pub first : Reads front p
  pub word : IsSaid line (codes "by") behind rest
  pub others : ArePolys rest images

-- POLY, as the list of one
abbrev pub IsOnePoly : List Lexeme → List Poly → Type 0
IsOnePoly xs ps = (p : Poly) × (ps ≡ p ∷ []) × Reads xs p

-- [ POLY { , POLY } ]
abbrev pub AreInBrackets : List Lexeme → List Poly → Type 0
AreInBrackets xs ps = (inside : List Lexeme) × (xs ≡ open_bracket ∷ (inside ++ close_bracket ∷ [])) × ArePolys inside ps

-- VEC := POLY | [ POLY { , POLY } ], by its entries
abbrev pub AreVectorEntries : List Lexeme → List Poly → Type 0
AreVectorEntries xs ps = IsOnePoly xs ps ⊎ AreInBrackets xs ps

-- VEC { , VEC }, by the entries of each
abbrev pub AreVectors : List Lexeme → List (List Poly) → Type 0
AreVectors xs [] = ⊥
AreVectors xs (es ∷ []) = AreVectorEntries xs es
AreVectors xs (es ∷ fs ∷ more) = (front behind : List Lexeme) × (xs ≡ front ++ comma ∷ behind) × AreVectorEntries front es × AreVectors behind (fs ∷ more)

-- what stands behind the word of an operation
abbrev pub AreOperands : List Lexeme → WrittenOperation → Type 0
AreOperands xs (of_two word left right) = xs ≡ name left ∷ name right ∷ []
AreOperands xs (of_polynomial word value p) = (rest : List Lexeme) × (xs ≡ name value ∷ rest) × Reads rest p
AreOperands xs (elimination value count) = xs ≡ name value ∷ number count ∷ []
AreOperands xs (syzygies value) = xs ≡ name value ∷ []
AreOperands xs (preimage value images) = (rest : List Lexeme) × (xs ≡ name value ∷ rest) × ArePolys rest images

-- an operation: its word, and what stands behind it
abbrev pub IsOperation : List ℕ → List Lexeme → WrittenOperation → Type 0
IsOperation line xs operation = (rest : List Lexeme) × IsSaid line (operation_text (operation_word operation)) xs rest × AreOperands rest operation

-- what stands behind the word of a line
abbrev pub IsBehind : List ℕ → List Lexeme → Written → Type 0
IsBehind line xs nothing = ⊥
IsBehind line xs (ring_line r) = IsRingLine line xs r
IsBehind line xs (show_line p) = Reads xs p
IsBehind line xs (ideal_line given ps) = (rest : List Lexeme) × (xs ≡ name given ∷ equals ∷ rest) × ArePolys rest ps
IsBehind line xs (module_line given rank vectors) = (rest : List Lexeme) × (xs ≡ name given ∷ number rank ∷ equals ∷ rest) × AreVectors rest vectors
IsBehind line xs (let_line given operation) = (rest : List Lexeme) × (xs ≡ name given ∷ equals ∷ rest) × IsOperation line rest operation
IsBehind line xs (ask_line question value) = xs ≡ name value ∷ []
IsBehind line xs (divide_line division value entries) = (rest : List Lexeme) × (xs ≡ name value ∷ rest) × AreVectorEntries rest entries
IsBehind line xs (equal_line left right) = xs ≡ name left ∷ name right ∷ []
IsBehind line xs (change_line value order) = (rest : List Lexeme) × (xs ≡ name value ∷ rest) × IsOrder line rest order
IsBehind line xs (express_line p images) = IsExpressLine line xs p images
IsBehind line xs (ext_line value count) = xs ≡ name value ∷ number count ∷ []

-- the POLYs of an operation
abbrev pub operation_polys : WrittenOperation → List Poly
operation_polys (of_polynomial word value p) = p ∷ []
operation_polys (preimage value images) = images
operation_polys _ = []

-- the POLYs of a line
abbrev pub polys_of : Written → List Poly
polys_of (show_line p) = p ∷ []
polys_of (ideal_line given ps) = ps
polys_of (module_line given rank vectors) = flat_map (λ es. es) vectors
polys_of (let_line given operation) = operation_polys operation
polys_of (divide_line division value entries) = entries
polys_of (express_line p images) = p ∷ images
polys_of _ = []

-- the NAMEs of an operation in a value's place
abbrev pub operation_places : WrittenOperation → List Token
operation_places (of_two word left right) = left ∷ right ∷ []
operation_places (of_polynomial word value p) = value ∷ []
operation_places (elimination value count) = value ∷ []
operation_places (syzygies value) = value ∷ []
operation_places (preimage value images) = value ∷ []

-- the NAMEs in a value's place
abbrev pub value_places : Written → List Token
value_places (let_line given operation) = operation_places operation
value_places (ask_line question value) = value ∷ []
value_places (divide_line division value entries) = value ∷ []
value_places (equal_line left right) = left ∷ right ∷ []
value_places (change_line value order) = value ∷ []
value_places (ext_line value count) = value ∷ []
value_places _ = []

-- the NAME to be given, if any
abbrev pub given_by : Written → List Token
given_by (ideal_line given ps) = given ∷ []
given_by (module_line given rank vectors) = given ∷ []
given_by (let_line given operation) = given ∷ []
given_by _ = []

-- the lexemes are a line with this word, or with none
abbrev pub IsWrittenAs : Option Word → List ℕ → List Lexeme → Written → Type 0
IsWrittenAs None line xs w = xs ≡ []
IsWrittenAs (Some word) line xs w = (rest : List Lexeme) × IsSaid line (word_text word) xs rest × IsBehind line rest w

-- the lexemes of a line are written as w says
abbrev pub IsWritten : List ℕ → List Lexeme → Written → Type 0
IsWritten line xs w = IsWrittenAs (word_of w) line xs w

-- the line has tokens, and they are written as w says
pub record IsLine (line : List ℕ) (w : Written) : Type 0 where
  pub found : List Token
  pub cut : HasTokens line found
  pub written : IsWritten line (map lexeme found) w
