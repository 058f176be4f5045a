-- The texts of a line's names, and its numbers
use Rattle.std.proofs.Common.{◌≡◌, ℕ, zero, suc, ◌<◌, ◌≤◌, ◌^◌, ◌⊎◌, inl, inr, cond, nat_eq, Bool, true, false, List, [], ◌∷◌, ◌++◌, map, length, Some, Result, Ok, Err, IfOk, Vec, Global, refl, sym, ap, ap₂, subst, ◌∙◌, arith}
use Rattle.std.proofs.lemmas.Bool.{cases_lt}
use Rattle.std.specs.List.{AllByRecursion, slice_index_or}
use Rattle.std.specs.Prelude.{Contains, flat_map}
use Rattle.std.specs.Str.{IsAscii}
use Rattle.std.specs.Str.Lossy.{utf8_lossy}
use Rattle.std.specs.Char.{is_ascii_alphabetic}
use Rattle.std.proofs.lemmas.Str.{IsUtf8-from_ascii, utf8_lossy-IsUtf8}
use Rattle.std.specs.Cmp.Lexicographic.{pointwise, same_text, other_text}
use Rattle.script_tokens.specs.declared.token.Token.{Token}
use Rattle.script_tokens.specs.declared.token.TokenKind.{TokenKind}
use Rattle.script_tokens.specs.declared.token.TokenKind.TheVariants as kinds
use Rattle.script_tokens.specs.Tokens.{is_name_byte}
use Rattle.script_tokens.specs.Cuts.{HasTokens, HaveTexts, IsToken, Passes}
use Rattle.script_tokens.proofs.Cuts.{one_cut}
use Rattle.script_tokens.proofs.Texts.{have_texts}
use Rattle.poly_grammar.specs.Lexemes.{Lexeme, close_bracket, comma, lexeme, lexeme_as, name, names_in, number, numbers_in}
use Rattle.poly_grammar.specs.Numerals.{FitsAs, NumeralFits, number_of, numeral_value, text_of}
use Rattle.poly_grammar.specs.Steps.{numbers_of_steps, steps}
use Rattle.poly_grammar.specs.Trees.{Poly, Reads, spelling}
use Rattle.poly_grammar.specs.declared.step.PolyStep.{PolyStep}
use Rattle.poly_grammar.proofs.NumbersOfSteps.{steps_have_numbers}
use Rattle.script_forms.specs.Forms.{IsFormOf, head_of, operands_of, shape_behind}
use Rattle.script_forms.specs.Written.{AreVectorEntries, AreListedNames, ArePolys, AreVectors, IsExpressLine, IsOperation, IsWritten, Written, WrittenOperation, ask_line, change_line, comma_list, divide_line, elimination, equal_line, express_line, ext_line, ideal_line, let_line, module_line, nothing, of_polynomial, of_two, operation_polys, polys_of, preimage, ring_line, show_line, syzygies}
use Rattle.script_forms.specs.declared.form.Form.{Form}
use Rattle.script_forms.specs.declared.form.Form.TheVariants as forms
use Rattle.script_forms.specs.declared.form.Head.{Head}
use Rattle.script_forms.specs.declared.form.Head.TheVariants as heads
use Rattle.script_forms.specs.declared.ring_words.RingForm.{RingForm}
use Rattle.script_forms.specs.declared.vectors.Shape.TheVariants.{Empty}
use Rattle.script_forms.proofs.Pieces.{all_append}
use Rattle.script_parse.specs.Tests.{AreStepsOfPolynomial, IsWellFormed, head_names, operand_places, repeats, stands_among}
use Rattle.script_parse.specs.Refusals.{HasGreatNumeral, HasRepeat}

letter_ascii : (b : ℕ) → is_ascii_alphabetic b ≡ true → b < 128
letter_ascii b e = grind arith

name_byte_ascii : (b : ℕ) → is_name_byte b ≡ true → b < 128
name_byte_ascii b e = grind arith

passes_ascii : (bs : List ℕ) → Passes is_name_byte bs → IsAscii bs
passes_ascii [] h i = omega arith
passes_ascii (b ∷ bs) h zero = name_byte_ascii b h.0
passes_ascii (b ∷ bs) h (suc i) = passes_ascii bs h.1 i

name_ascii : (text : List ℕ) → IsToken kinds.Name text → IsAscii text
name_ascii [] h i = absurd h
name_ascii (b ∷ bs) h zero = letter_ascii b h.0
name_ascii (b ∷ bs) h (suc i) = passes_ascii bs h.1 i

-- the names among tokens are ASCII
name_joins : (line : List ℕ) (k : TokenKind) (t : Token) (xs : List Lexeme) → IsToken k (text_of line t) → AllByRecursion (λ u. IsAscii (text_of line u)) (names_in xs) → AllByRecursion (λ u. IsAscii (text_of line u)) (names_in (lexeme_as k t ∷ xs))
name_joins line kinds.Name t xs h rest = (name_ascii (text_of line t) h, rest)
name_joins line _ t xs h rest = rest

names_ascii : (line : List ℕ) (ts : List Token) → HaveTexts line ts → AllByRecursion (λ u. IsAscii (text_of line u)) (names_in (map lexeme ts))
names_ascii line [] h = tt
names_ascii line (t ∷ ts) h = name_joins line t.kind t (map lexeme ts) h.0 (names_ascii line ts h.1)

-- the numbers among tokens fit
number_joins : (line : List ℕ) (k : TokenKind) (t : Token) (xs : List Lexeme) → FitsAs k (text_of line t) → AllByRecursion (λ u. numeral_value line u < 2 ^ 128) (numbers_in xs) → AllByRecursion (λ u. numeral_value line u < 2 ^ 128) (numbers_in (lexeme_as k t ∷ xs))
number_joins line kinds.Number t xs h rest = (h, rest)
number_joins line _ t xs h rest = rest

numbers_fit : (line : List ℕ) (ts : List Token) → AllByRecursion (NumeralFits line) ts → AllByRecursion (λ u. numeral_value line u < 2 ^ 128) (numbers_in (map lexeme ts))
numbers_fit line [] h = tt
numbers_fit line (t ∷ ts) h = number_joins line t.kind t (map lexeme ts) h.0 (numbers_fit line ts h.1)

-- the names of NAME {, NAME} and of what stands behind it
names_of_list : (ts : List Token) (ys : List Lexeme) → names_in (comma_list name ts ++ ys) ≡ ts ++ names_in ys
names_of_list [] ys = refl
names_of_list (t ∷ ts) ys = ap (λ l. t ∷ l) (names_of_list ts ys)

names_of_names : (xs ys : List Lexeme) (ts : List Token) → AreListedNames xs ts → names_in (xs ++ ys) ≡ ts ++ names_in ys
names_of_names xs ys [] h = absurd h
names_of_names xs ys (t ∷ ts) h = ap (λ l. names_in (l ++ ys)) h ∙ ap (λ l. t ∷ l) (names_of_list ts ys)

all_front : (P : Token → Type 0) (xs ys : List Token) → AllByRecursion P (xs ++ ys) → AllByRecursion P xs
all_front P [] ys h = tt
all_front P (x ∷ xs) ys h = (h.0, all_front P xs ys h.1)

all_back : (P : Token → Type 0) (xs ys : List Token) → AllByRecursion P (xs ++ ys) → AllByRecursion P ys
all_back P [] ys h = h
all_back P (x ∷ xs) ys h = all_back P xs ys h.1

-- the names of an operation's values are among its names
places_among : (P : Token → Type 0) (line : List ℕ) (xs : List Lexeme) (operation : WrittenOperation) → IsOperation line xs operation → AllByRecursion P (names_in xs) → AllByRecursion P (operand_places (operands_of operation))
places_among P line xs (of_two word left right) h all =
    let names = subst (λ l. AllByRecursion P (names_in l)) (h.1.2 ∙ ap (λ l. name h.1.0 ∷ l) h.2) all in (names.1.0, (names.1.1.0, tt))
places_among P line xs (of_polynomial word value p) h all =
    let names = subst (λ l. AllByRecursion P (names_in l)) (h.1.2 ∙ ap (λ l. name h.1.0 ∷ l) h.2.1) all in (names.1.0, tt)
places_among P line xs (elimination value count) h all =
    let names = subst (λ l. AllByRecursion P (names_in l)) (h.1.2 ∙ ap (λ l. name h.1.0 ∷ l) h.2) all in (names.1.0, tt)
places_among P line xs (syzygies value) h all =
    let names = subst (λ l. AllByRecursion P (names_in l)) (h.1.2 ∙ ap (λ l. name h.1.0 ∷ l) h.2) all in (names.1.0, tt)
places_among P line xs (preimage value images) h all =
    let names = subst (λ l. AllByRecursion P (names_in l)) (h.1.2 ∙ ap (λ l. name h.1.0 ∷ l) h.2.1) all in (names.1.0, tt)

-- the names of a line's head are among its names
head_among : (P : Token → Type 0) (line : List ℕ) (xs : List Lexeme) (w : Written) (head : Head) → head_of w ≡ Some head → IsWritten line xs w → AllByRecursion P (names_in xs) → AllByRecursion P (head_names head)
head_among P line xs nothing head e h all = absurd cc
head_among P line xs (ring_line r) head e h all = absurd cc
head_among P line xs (show_line p) head e h all =
    let is : heads.Show ≡ head = cc in subst (λ d. AllByRecursion P (head_names d)) is tt
head_among P line xs (ideal_line given ps) head e h all =
    let is : heads.Ideal given ≡ head = cc in
    let names = subst (λ l. AllByRecursion P (names_in l)) (h.1.2 ∙ ap (λ l. name h.1.0 ∷ l) h.2.1) all in
    subst (λ d. AllByRecursion P (head_names d)) is (names.1.0, tt)
head_among P line xs (module_line given rank vectors) head e h all =
    let is : heads.Module given rank (shape_behind Empty vectors) ≡ head = cc in
    let names = subst (λ l. AllByRecursion P (names_in l)) (h.1.2 ∙ ap (λ l. name h.1.0 ∷ l) h.2.1) all in
    subst (λ d. AllByRecursion P (head_names d)) is (names.1.0, tt)
head_among P line xs (let_line given operation) head e h all =
    let is : heads.Let given (operands_of operation) ≡ head = cc in
    let names = subst (λ l. AllByRecursion P (names_in l)) (h.1.2 ∙ ap (λ l. name h.1.0 ∷ l) h.2.1) all in
    subst (λ d. AllByRecursion P (head_names d)) is (names.1.0, places_among P line h.2.0 operation h.2.2 names.1.1)
head_among P line xs (ask_line question value) head e h all =
    let is : heads.Ask question value ≡ head = cc in
    let names = subst (λ l. AllByRecursion P (names_in l)) (h.1.2 ∙ ap (λ l. name h.1.0 ∷ l) h.2) all in
    subst (λ d. AllByRecursion P (head_names d)) is (names.1.0, tt)
head_among P line xs (divide_line division value ps) head e h all =
    let is : heads.Divide division value ≡ head = cc in
    let names = subst (λ l. AllByRecursion P (names_in l)) (h.1.2 ∙ ap (λ l. name h.1.0 ∷ l) h.2.1) all in
    subst (λ d. AllByRecursion P (head_names d)) is (names.1.0, tt)
head_among P line xs (equal_line left right) head e h all =
    let is : heads.Equal left right ≡ head = cc in
    let names = subst (λ l. AllByRecursion P (names_in l)) (h.1.2 ∙ ap (λ l. name h.1.0 ∷ l) h.2) all in
    subst (λ d. AllByRecursion P (head_names d)) is (names.1.0, (names.1.1.0, tt))
head_among P line xs (change_line value order) head e h all =
    let is : heads.Change value order ≡ head = cc in
    let names = subst (λ l. AllByRecursion P (names_in l)) (h.1.2 ∙ ap (λ l. name h.1.0 ∷ l) h.2.1) all in
    subst (λ d. AllByRecursion P (head_names d)) is (names.1.0, tt)
head_among P line xs (express_line p images) head e h all =
    let is : heads.Express ≡ head = cc in subst (λ d. AllByRecursion P (head_names d)) is tt
head_among P line xs (ext_line value count) head e h all =
    let is : heads.Ext value count ≡ head = cc in
    let names = subst (λ l. AllByRecursion P (names_in l)) (h.1.2 ∙ ap (λ l. name h.1.0 ∷ l) h.2) all in
    subst (λ d. AllByRecursion P (head_names d)) is (names.1.0, tt)

numbers_in_both : (a b : List Lexeme) → numbers_in (a ++ b) ≡ numbers_in a ++ numbers_in b
numbers_in_both [] b = refl
numbers_in_both (number t ∷ a) b = ap (λ l. t ∷ l) (numbers_in_both a b)
numbers_in_both (_ ∷ a) b = numbers_in_both a b

-- the numbers of a line's POLYs are among its numbers
module _ (P : Token → Type 0) where
  abbrev InPolys : List Poly → Type 0
  InPolys ps = AllByRecursion (λ p. AllByRecursion P (numbers_in (spelling p))) ps

  in_poly : (xs : List Lexeme) (p : Poly) → Reads xs p → AllByRecursion P (numbers_in xs) → InPolys (p ∷ [])
  in_poly xs p r all = (subst (λ l. AllByRecursion P (numbers_in l)) r.spelled all, tt)

  in_polys : (xs : List Lexeme) (ps : List Poly) → ArePolys xs ps → AllByRecursion P (numbers_in xs) → InPolys ps
  in_polys xs [] h all = absurd h
  in_polys xs (p ∷ []) h all = in_poly xs p h all
  in_polys xs (p ∷ q ∷ ps) h all =
      let both = subst (λ l. AllByRecursion P l) (ap numbers_in h.2 ∙ numbers_in_both h.0 (comma ∷ h.1)) all in
      ((in_poly h.0 p h.3 (all_front P (numbers_in h.0) (numbers_in h.1) both)).0, in_polys h.1 (q ∷ ps) h.4 (all_back P (numbers_in h.0) (numbers_in h.1) both))

  in_entries : (xs : List Lexeme) (ps : List Poly) → AreVectorEntries xs ps → AllByRecursion P (numbers_in xs) → InPolys ps
  in_entries xs ps (inl h) all = subst InPolys (sym h.1) (in_poly xs h.0 h.2 all)
  in_entries xs ps (inr h) all =
      let both = subst (λ l. AllByRecursion P l) (ap numbers_in h.1 ∙ numbers_in_both h.0 (close_bracket ∷ [])) all in
      in_polys h.0 ps h.2 (all_front P (numbers_in h.0) [] both)

  in_vectors : (xs : List Lexeme) (vectors : List (List Poly)) → AreVectors xs vectors → AllByRecursion P (numbers_in xs) → InPolys (flat_map (λ es. es) vectors)
  in_vectors xs [] h all = absurd h
  in_vectors xs (es ∷ []) h all = all_append (λ p. AllByRecursion P (numbers_in (spelling p))) es [] (in_entries xs es h all) tt
  in_vectors xs (es ∷ fs ∷ more) h all =
      let both = subst (λ l. AllByRecursion P l) (ap numbers_in h.2 ∙ numbers_in_both h.0 (comma ∷ h.1)) all in
      all_append (λ p. AllByRecursion P (numbers_in (spelling p))) es (flat_map (λ es. es) (fs ∷ more)) (in_entries h.0 es h.3 (all_front P (numbers_in h.0) (numbers_in h.1) both))
      (in_vectors h.1 (fs ∷ more) h.4 (all_back P (numbers_in h.0) (numbers_in h.1) both))

  in_operation : (line : List ℕ) (xs : List Lexeme) (operation : WrittenOperation) → IsOperation line xs operation → AllByRecursion P (numbers_in xs) → InPolys (operation_polys operation)
  in_operation line xs (of_polynomial word value p) h all = in_poly h.2.0 p h.2.2 (subst (λ l. AllByRecursion P (numbers_in l)) (h.1.2 ∙ ap (λ l. name h.1.0 ∷ l) h.2.1) all)
  in_operation line xs (preimage value images) h all = in_polys h.2.0 images h.2.2 (subst (λ l. AllByRecursion P (numbers_in l)) (h.1.2 ∙ ap (λ l. name h.1.0 ∷ l) h.2.1) all)
  in_operation line xs _ h all = tt

  in_expression : (line : List ℕ) (xs : List Lexeme) (p : Poly) (images : List Poly) → IsExpressLine line xs p images → AllByRecursion P (numbers_in xs) → InPolys (p ∷ images)
  in_expression line xs p images e all =
      let both = subst (λ l. AllByRecursion P l) (ap numbers_in (e.spelled ∙ ap (λ l. e.front ++ l) e.word.2) ∙ numbers_in_both e.front (name e.word.0 ∷ e.rest)) all in
      ((in_poly e.front p e.first (all_front P (numbers_in e.front) (numbers_in e.rest) both)).0, in_polys e.rest images e.others (all_back P (numbers_in e.front) (numbers_in e.rest) both))

  in_line : (line : List ℕ) (xs : List Lexeme) (w : Written) → IsWritten line xs w → AllByRecursion P (numbers_in xs) → InPolys (polys_of w)
  in_line line xs (show_line p) h all = in_poly h.0 p h.2 (subst (λ l. AllByRecursion P (numbers_in l)) h.1.2 all)
  in_line line xs (ideal_line given ps) h all = in_polys h.2.0 ps h.2.2 (subst (λ l. AllByRecursion P (numbers_in l)) (h.1.2 ∙ ap (λ l. name h.1.0 ∷ l) h.2.1) all)
  in_line line xs (module_line given rank vectors) h all = in_vectors h.2.0 vectors h.2.2 (subst (λ l. AllByRecursion P (numbers_in l)) (h.1.2 ∙ ap (λ l. name h.1.0 ∷ l) h.2.1) all).1
  in_line line xs (let_line given operation) h all = in_operation line h.2.0 operation h.2.2 (subst (λ l. AllByRecursion P (numbers_in l)) (h.1.2 ∙ ap (λ l. name h.1.0 ∷ l) h.2.1) all)
  in_line line xs (divide_line division value ps) h all = in_entries h.2.0 ps h.2.2 (subst (λ l. AllByRecursion P (numbers_in l)) (h.1.2 ∙ ap (λ l. name h.1.0 ∷ l) h.2.1) all)
  in_line line xs (express_line p images) h all = in_expression line h.0 p images h.2 (subst (λ l. AllByRecursion P (numbers_in l)) h.1.2 all)
  in_line line xs _ h all = tt

  in_pieces : (pieces : List (Vec PolyStep Global)) (ps : List Poly) → map (λ v. v.items) pieces ≡ map steps ps → InPolys ps → AllByRecursion (λ v. AllByRecursion P (numbers_of_steps v.items)) pieces
  in_pieces [] ps e h = tt
  in_pieces (v ∷ pieces) [] e h = absurd cc
  in_pieces (v ∷ pieces) (p ∷ ps) e h =
      let head : v.items ≡ steps p = cc in
      let tail : map (λ v. v.items) pieces ≡ map steps ps = cc in
      (subst (λ l. AllByRecursion P l) (sym (ap numbers_of_steps head ∙ steps_have_numbers p)) h.0, in_pieces pieces ps tail h.1)

-- the steps of a line's POLYs are those of POLYs
pub are_polynomials : (pieces : List (Vec PolyStep Global)) (ps : List Poly) → map (λ v. v.items) pieces ≡ map steps ps → AllByRecursion AreStepsOfPolynomial pieces
are_polynomials [] ps e = tt
are_polynomials (v ∷ pieces) [] e = absurd cc
are_polynomials (v ∷ pieces) (p ∷ ps) e =
    let head : v.items ≡ steps p = cc in
    let tail : map (λ v. v.items) pieces ≡ map steps ps = cc in
    ((p, head), are_polynomials pieces ps tail)

sound_ring :
    (line : List ℕ) (found : List Token) (w : Written) (form : RingForm) → HasTokens line found → IsWritten line (map lexeme found) w → IsFormOf (forms.Ring form) w
    → AllByRecursion (λ u. IsAscii (text_of line u)) form.names.items
sound_ring line found (ring_line r) form cut h is =
    let ring = h.2 in
    let behind = ring.order ++ (ring.top ++ ring.weights) in
    let names : names_in (map lexeme found) ≡ h.1.0 ∷ (r.names ++ names_in behind) =
    ap names_in h.1.2 ∙ ap (λ l. h.1.0 ∷ names_in l) ring.spelled ∙ ap (λ l. h.1.0 ∷ l) (names_of_names ring.names behind r.names ring.names_are) in
    let all = subst (λ l. AllByRecursion (λ u. IsAscii (text_of line u)) l) names (names_ascii line found (have_texts line found cut)) in
    let own : r.names ≡ form.names.items = ap (λ q. q.names) (sym is) in
    subst (λ l. AllByRecursion (λ u. IsAscii (text_of line u)) l) own (all_front (λ u. IsAscii (text_of line u)) r.names (names_in behind) all.1)
sound_ring line found _ form cut h is = absurd is

pub sound : (line : List ℕ) (found : List Token) (w : Written) (form : Form) → HasTokens line found → IsWritten line (map lexeme found) w → IsFormOf form w → AllByRecursion (NumeralFits line) found → IsWellFormed line form
sound line found w forms.Nothing cut h is fits = tt
sound line found w (forms.Ring form) cut h is fits = sound_ring line found w form cut h is
sound line found w (forms.Line head pieces) cut h is fits = (
  head_among (λ u. IsAscii (text_of line u)) line (map lexeme found) w head is.head_is h (names_ascii line found (have_texts line found cut)),
  in_pieces (λ u. numeral_value line u < 2 ^ 128) pieces.items (polys_of w) is.steps_are (in_line (λ u. numeral_value line u < 2 ^ 128) line (map lexeme found) w h (numbers_fit line found fits)),
)

-- a number that does not fit
great_as : (k : TokenKind) (text : List ℕ) → FitsAs k text ⊎ ((k ≡ kinds.Number) × (2 ^ 128 ≤ number_of text))
great_as kinds.Number text = by_cases (cases_lt (number_of text) (2 ^ 128))
  where
    by_cases : (number_of text < 2 ^ 128) ⊎ (2 ^ 128 ≤ number_of text) → (number_of text < 2 ^ 128) ⊎ ((kinds.Number ≡ kinds.Number) × (2 ^ 128 ≤ number_of text))
    by_cases (inl h) = inl h
    by_cases (inr h) = inr (refl, h)
great_as _ text = inl tt

abbrev Great : List ℕ → List Token → Type 0
Great line ts = (t : Token) × Contains ts t × (t.kind ≡ kinds.Number) × (2 ^ 128 ≤ numeral_value line t)

some_great : (line : List ℕ) (ts : List Token) → (AllByRecursion (NumeralFits line) ts → ⊥) → Great line ts
some_great line [] none = absurd (none tt)
some_great line (t ∷ ts) none = by_cases (great_as t.kind (text_of line t)) (λ f. some_great line ts (λ h. none (f, h)))
  where
    by_cases : FitsAs t.kind (text_of line t) ⊎ ((t.kind ≡ kinds.Number) × (2 ^ 128 ≤ number_of (text_of line t))) → (FitsAs t.kind (text_of line t) → Great line ts) → Great line (t ∷ ts)
    by_cases (inl f) later = let g = later f in (g.0, (suc g.1.0, (let lt = g.1.1 in omega arith), g.1.2), g.2, g.3)
    by_cases (inr h) later = (t, (0, omega arith, refl), h.0, h.1)

pub great_numeral : (line : List ℕ) (found : List Token) → HasTokens line found → (AllByRecursion (NumeralFits line) found → ⊥) → HasGreatNumeral line
great_numeral line found cut none =
    let g = some_great line found none in record { found = found; cut = cut; numeral = g.0; stands = g.1; is_number = g.2; great = g.3 }

all_at : (P : Token → Type 0) (ts : List Token) (t : Token) (i : ℕ) → i < length ts → slice_index_or ts i t ≡ t → AllByRecursion P ts → P t
all_at P [] t i lt e h = absurd (omega arith)
all_at P (x ∷ ts) t zero lt e h = subst P e h.0
all_at P (x ∷ ts) t (suc i) lt e h = all_at P ts t i (omega arith) e h.1

fits_number : (k : TokenKind) (text : List ℕ) → k ≡ kinds.Number → FitsAs k text → number_of text < 2 ^ 128
fits_number k text e h = subst (λ x. FitsAs x text) e h

not_both : (a b : ℕ) → a < b → b ≤ a → ⊥
not_both a b h k = omega arith

pub no_great : (line : List ℕ) (found : List Token) → HasTokens line found → AllByRecursion (NumeralFits line) found → HasGreatNumeral line → ⊥
no_great line found cut fits g =
    let same : found ≡ g.found = one_cut line found g.found cut g.cut in
    let all = subst (λ l. AllByRecursion (NumeralFits line) l) same fits in
    let one = all_at (NumeralFits line) g.found g.numeral g.stands.0 g.stands.1 g.stands.2 all in
    not_both (numeral_value line g.numeral) (2 ^ 128) (fits_number g.numeral.kind (text_of line g.numeral) g.is_number one) g.great

-- names that are ASCII are their own texts
pub own_texts : (line : List ℕ) (ts : List Token) → AllByRecursion (λ t. IsAscii (text_of line t)) ts → map (λ t. utf8_lossy (text_of line t)) ts ≡ map (text_of line) ts
own_texts line [] h = refl
own_texts line (t ∷ ts) h = ap₂ (λ x l. x ∷ l) (utf8_lossy-IsUtf8 (text_of line t) (IsUtf8-from_ascii (text_of line t) h.0)) (own_texts line ts h.1)

pub own_name : {A E : Type 0} (view : A → List ℕ) (bytes line : List ℕ) (t : Token) (r : Result A E) → bytes ≡ text_of line t → IsAscii (text_of line t) → IfOk r (λ n. view n ≡ utf8_lossy bytes) → IfOk r (λ n. view n ≡ text_of line t)
own_name view bytes line t (Ok n) e ascii h = h ∙ ap utf8_lossy e ∙ utf8_lossy-IsUtf8 (text_of line t) (IsUtf8-from_ascii (text_of line t) ascii)
own_name view bytes line t (Err stop) e ascii h = tt

-- the tests of names say what they mean
contains_later : (xs : List (List ℕ)) (x word : List ℕ) → Contains xs word → Contains (x ∷ xs) word
contains_later xs x word c = (suc c.0, (let lt = c.1 in omega arith), c.2)

stands_says : (line word : List ℕ) (ts : List Token) → stands_among line word ts ≡ true → Contains (map (text_of line) ts) word
stands_says line word [] e = absurd cc
stands_says line word (t ∷ ts) e = by_test (pointwise nat_eq (text_of line t) word) refl e (λ h. stands_says line word ts h)
  where
    by_test : (b : Bool) → pointwise nat_eq (text_of line t) word ≡ b → cond b true (stands_among line word ts) ≡ true → (stands_among line word ts ≡ true → Contains (map (text_of line) ts) word) → Contains (map (text_of line) (t ∷ ts)) word
    by_test true q h later = (0, omega arith, same_text (text_of line t) word (sym q))
    by_test false q h later = contains_later (map (text_of line) ts) (text_of line t) word (later h)

stands_not : (line word : List ℕ) (ts : List Token) → stands_among line word ts ≡ false → Contains (map (text_of line) ts) word → ⊥
stands_not line word [] e c = omega (arith, c.1)
stands_not line word (t ∷ ts) e c = by_test (pointwise nat_eq (text_of line t) word) refl e c (λ h d. stands_not line word ts h d)
  where
    by_test : (b : Bool) → pointwise nat_eq (text_of line t) word ≡ b → cond b true (stands_among line word ts) ≡ false → Contains (map (text_of line) (t ∷ ts)) word → (stands_among line word ts ≡ false → Contains (map (text_of line) ts) word → ⊥) → ⊥
    by_test true q h d later = absurd cc
    by_test false q h (zero, lt, is) later = other_text (text_of line t) word (sym q) is
    by_test false q h (suc i, lt, is) later = later h (i, omega arith, is)

pub repeats_says : (line : List ℕ) (ts : List Token) → repeats line ts ≡ true → HasRepeat (map (text_of line) ts)
repeats_says line [] e = absurd cc
repeats_says line (t ∷ ts) e = by_test (stands_among line (text_of line t) ts) refl e (λ h. repeats_says line ts h)
  where
    by_test : (b : Bool) → stands_among line (text_of line t) ts ≡ b → cond b true (repeats line ts) ≡ true → (repeats line ts ≡ true → HasRepeat (map (text_of line) ts)) → HasRepeat (map (text_of line) (t ∷ ts))
    by_test true q h later = inl (stands_says line (text_of line t) ts q)
    by_test false q h later = inr (later h)

pub repeats_not : (line : List ℕ) (ts : List Token) → repeats line ts ≡ false → HasRepeat (map (text_of line) ts) → ⊥
repeats_not line [] e h = h
repeats_not line (t ∷ ts) e h = by_test (stands_among line (text_of line t) ts) refl e h (λ q d. repeats_not line ts q d)
  where
    by_test : (b : Bool) → stands_among line (text_of line t) ts ≡ b → cond b true (repeats line ts) ≡ false → HasRepeat (map (text_of line) (t ∷ ts)) → (repeats line ts ≡ false → HasRepeat (map (text_of line) ts) → ⊥) → ⊥
    by_test true q k d later = absurd cc
    by_test false q k (inl d) later = stands_not line (text_of line t) ts q d
    by_test false q k (inr d) later = later k d
