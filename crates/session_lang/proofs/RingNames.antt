-- The variables of a ring that a line states have names, and no two the same
use Rattle.std.proofs.Common.{Bool, List, None, Option, Some, [], ap, arith, false, inl, inr, length, map, refl, subst, suc, sym, true, ℕ, ◌++◌, ◌<◌, ◌∙◌, ◌∷◌, ◌≡◌, ◌≢◌, ◌≤◌}
use Rattle.std.specs.Char.{is_ascii_alphabetic}
use Rattle.std.specs.Int.{is_in_range}
use Rattle.std.specs.List.{AllByRecursion}
use Rattle.std.specs.Prelude.{Contains}
use Rattle.formal_sums.specs.FormalSums.{Each}
use Rattle.script_tokens.proofs.Texts.{have_texts}
use Rattle.script_tokens.specs.Cuts.{HaveTexts, IsToken, Passes}
use Rattle.script_tokens.specs.Tokens.{is_name_byte}
use Rattle.script_tokens.specs.declared.token.Token.{Token}
use Rattle.script_tokens.specs.declared.token.TokenKind.{TokenKind}
use Rattle.script_tokens.specs.declared.token.TokenKind.TheVariants as kinds
use Rattle.poly_grammar.specs.Lexemes.{Lexeme, lexeme, lexeme_as, name, names_in}
use Rattle.poly_grammar.specs.Numerals.{text_of}
use Rattle.term_lists.specs.declared.ring.Ring.{Ring}
use Rattle.poly_text.specs.Names.{AreAllDistinct, AreDistinctNames, IsLetter, IsName, IsNameByte}
use Rattle.script_forms.specs.Written.{AreListedNames, IsLine, IsWritten, RingLine, Written, ask_line, change_line, comma_list, divide_line, equal_line, express_line, ext_line, ideal_line, let_line, module_line, nothing, ring_line, show_line}
use Rattle.script_forms.specs.declared.form.DivisionWord.TheVariants as divisions
use Rattle.script_forms.specs.declared.form.QuestionWord.TheVariants as questions
use Rattle.script_parse.specs.Refusals.{HasRepeat}
use Rattle.script_parse.specs.Statements.{Makes, Says}
use Rattle.script_parse.specs.Statements as readings
use Rattle.script_parse.specs.declared.kind.Kind.TheVariants as refused
use Rattle.script_parse.specs.declared.stated.Statement.TheVariants as statements
use Rattle.session_lang.specs.Lines.{StatesLine}
use Rattle.session_values.specs.Names.{ScriptState}

in_range : (low high b : ℕ) → is_in_range low high b ≡ true → (low ≤ b) × (b ≤ high)
in_range low high b e = (grind arith, grind arith)

letter : (b : ℕ) → is_ascii_alphabetic b ≡ true → IsLetter b
letter b e = go (is_in_range 65 90 b) refl
  where
    go : (x : Bool) → is_in_range 65 90 b ≡ x → IsLetter b
    go true is = inl (in_range 65 90 b is)
    go false is = inr (in_range 97 122 b (grind arith))

name_byte : (b : ℕ) → is_name_byte b ≡ true → IsNameByte b
name_byte b e = go (is_ascii_alphabetic b) (is_in_range 48 57 b) refl refl
  where
    go : (x y : Bool) → is_ascii_alphabetic b ≡ x → is_in_range 48 57 b ≡ y → IsNameByte b
    go true y is digit = inl (letter b is)
    go false true is digit = inr (inl (in_range 48 57 b digit))
    go false false is digit = inr (inr (grind arith))

name_bytes : (bs : List ℕ) → Passes is_name_byte bs → Each IsNameByte bs
name_bytes [] h = tt
name_bytes (b ∷ bs) h = (name_byte b h.0, name_bytes bs h.1)

name_of_token : (text : List ℕ) → IsToken kinds.Name text → IsName text
name_of_token [] h = h
name_of_token (b ∷ bs) h = (letter b h.0, name_bytes bs h.1)

-- ---- the names of a ring line
name_joins :
    (line : List ℕ) (k : TokenKind) (t : Token) (xs : List Lexeme) → IsToken k (text_of line t) → AllByRecursion (λ u. IsName (text_of line u)) (names_in xs)
    → AllByRecursion (λ u. IsName (text_of line u)) (names_in (lexeme_as k t ∷ xs))
name_joins line kinds.Name t xs h rest = (name_of_token (text_of line t) h, rest)
name_joins line _ t xs h rest = rest

names_named : (line : List ℕ) (ts : List Token) → HaveTexts line ts → AllByRecursion (λ u. IsName (text_of line u)) (names_in (map lexeme ts))
names_named line [] h = tt
names_named line (t ∷ ts) h = name_joins line t.kind t (map lexeme ts) h.0 (names_named line ts h.1)

names_of_list : (ts : List Token) (ys : List Lexeme) → names_in (comma_list name ts ++ ys) ≡ ts ++ names_in ys
names_of_list [] ys = refl
names_of_list (t ∷ ts) ys = ap (λ l. t ∷ l) (names_of_list ts ys)

names_of_names : (xs ys : List Lexeme) (ts : List Token) → AreListedNames xs ts → names_in (xs ++ ys) ≡ ts ++ names_in ys
names_of_names xs ys [] h = absurd h
names_of_names xs ys (t ∷ ts) h = ap (λ l. names_in (l ++ ys)) h ∙ ap (λ l. t ∷ l) (names_of_list ts ys)

all_front : (P : Token → Type 0) (xs ys : List Token) → AllByRecursion P (xs ++ ys) → AllByRecursion P xs
all_front P [] ys h = tt
all_front P (x ∷ xs) ys h = (h.0, all_front P xs ys h.1)

ring_names : (P : Token → Type 0) (line : List ℕ) (xs : List Lexeme) (r : RingLine) → IsWritten line xs (ring_line r) → AllByRecursion P (names_in xs) → AllByRecursion P r.names
ring_names P line xs r h all =
    let names = subst (λ l. AllByRecursion P (names_in l)) (h.1.2 ∙ ap (λ l. name h.1.0 ∷ l) h.2.spelled) all in
    let rest = h.2.order ++ (h.2.top ++ h.2.weights) in
    all_front P r.names (names_in rest) (subst (AllByRecursion P) (names_of_names h.2.names rest r.names h.2.names_are) names.1)

each_text : (line : List ℕ) (ts : List Token) → AllByRecursion (λ u. IsName (text_of line u)) ts → Each IsName (map (text_of line) ts)
each_text line [] h = tt
each_text line (t ∷ ts) h = (h.0, each_text line ts h.1)

-- ---- none stands twice
apart : (x : List ℕ) (xs : List (List ℕ)) → (Contains xs x → ⊥) → Each (λ y. x ≢ y) xs
apart x [] h = tt
apart x (y ∷ ys) h = (
  (λ e. h (0, omega arith, sym e)),
  apart x ys (λ k. h (suc k.0, (let lt = k.1 in omega (arith, lt)), k.2)),
)

distinct : (xs : List (List ℕ)) → (HasRepeat xs → ⊥) → AreAllDistinct xs
distinct [] h = tt
distinct (x ∷ xs) h = (apart x xs (λ k. h (inl k)), distinct xs (λ k. h (inr k)))

-- ---- a ring is stated by a ring line
ring_said : (ring : Option Ring) (line : List ℕ) (w : Written) (made : Ring) → Says ring line w (statements.Ring made) → (r : RingLine) × (w ≡ ring_line r) × Makes line r made
ring_said None line nothing made h = absurd h
ring_said (Some s) line nothing made h = absurd h
ring_said None line (ring_line r) made h = (r, refl, h)
ring_said (Some s) line (ring_line r) made h = (r, refl, h)
ring_said None line (show_line p) made h = absurd h
ring_said (Some s) line (show_line p) made h = absurd h
ring_said None line (ideal_line given ps) made h = absurd h
ring_said (Some s) line (ideal_line given ps) made h = absurd h
ring_said None line (module_line given rank vectors) made h = absurd h
ring_said (Some s) line (module_line given rank vectors) made h = absurd h
ring_said None line (let_line given operation) made h = absurd h
ring_said (Some s) line (let_line given operation) made h = absurd h
ring_said None line (ask_line questions.Gens value) made h = absurd h
ring_said None line (ask_line questions.Gb value) made h = absurd h
ring_said None line (ask_line questions.Size value) made h = absurd h
ring_said None line (ask_line questions.Hilbert value) made h = absurd h
ring_said None line (ask_line questions.Resolution value) made h = absurd h
ring_said None line (ask_line questions.Minimal value) made h = absurd h
ring_said None line (ask_line questions.Betti value) made h = absurd h
ring_said None line (ask_line questions.Regularity value) made h = absurd h
ring_said None line (divide_line divisions.NormalForm value entries) made h = absurd h
ring_said None line (divide_line divisions.Member value entries) made h = absurd h
ring_said None line (divide_line divisions.Lift value entries) made h = absurd h
ring_said None line (equal_line left right) made h = absurd h
ring_said None line (change_line value order) made h = absurd h
ring_said None line (express_line p images) made h = absurd h
ring_said None line (ext_line value count) made h = absurd h
ring_said (Some s) line (ask_line questions.Gens value) made h = absurd h
ring_said (Some s) line (ask_line questions.Gb value) made h = absurd h
ring_said (Some s) line (ask_line questions.Size value) made h = absurd h
ring_said (Some s) line (ask_line questions.Hilbert value) made h = absurd h
ring_said (Some s) line (ask_line questions.Resolution value) made h = absurd h
ring_said (Some s) line (ask_line questions.Minimal value) made h = absurd h
ring_said (Some s) line (ask_line questions.Betti value) made h = absurd h
ring_said (Some s) line (ask_line questions.Regularity value) made h = absurd h
ring_said (Some s) line (divide_line divisions.NormalForm value entries) made h = absurd h
ring_said (Some s) line (divide_line divisions.Member value entries) made h = absurd h
ring_said (Some s) line (divide_line divisions.Lift value entries) made h = absurd h
ring_said (Some s) line (equal_line left right) made h = absurd h
ring_said (Some s) line (change_line value order) made h = absurd h
ring_said (Some s) line (express_line p images) made h = absurd h
ring_said (Some s) line (ext_line value count) made h = absurd h

pub stated_names : (before : ScriptState) (line : List ℕ) (made : Ring) → StatesLine before line (statements.Ring made) → AreDistinctNames made.vars
stated_names before line made h =
    let says = ring_said before.ring line h.2.written made h.2.says in
    let r = says.0 in
    let whole : IsLine line (ring_line r) = subst (IsLine line) says.1 h.2.is_line in
    let texts = names_named line whole.found (have_texts line whole.found whole.cut) in
    let named : Each IsName (map (text_of line) r.names) = each_text line r.names (ring_names (λ u. IsName (text_of line u)) line (map lexeme whole.found) r whole.written texts) in
    let once : AreAllDistinct (map (text_of line) r.names) = distinct (map (text_of line) r.names) (λ k. h.2.free refused.Ring (ring_line r, whole, inr (inl k))) in
    subst AreDistinctNames (sym says.2.names_are) (named, once)
