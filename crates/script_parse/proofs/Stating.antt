-- What is worked out is what the line says
use Rattle.std.proofs.Common.{◌≡◌, ◌<◌, ◌+◌, ℕ, zero, suc, arith, cond, nat_eq, Bool, true, false, List, [], ◌∷◌, ◌++◌, length, map, take, drop, Option, Some, None, Vec, Global, refl, sym, ap, ap₂, subst, ◌∙◌, length-append}
use Rattle.std.proofs.lemmas.List.{append-nil, drop-map, length-map, map-append, take-map}
use Rattle.std.specs.List.{AllByRecursion, list_all}
use Rattle.std.specs.Prelude.{flat_map, is_some, string_bytes}
use Rattle.script_tokens.specs.declared.token.Token.{Token}
use Rattle.poly_grammar.specs.Algebras.{Algebra, worth, worth_of_steps}
use Rattle.poly_grammar.specs.Numerals.{numeral_value, text_of}
use Rattle.poly_grammar.specs.Steps.{steps}
use Rattle.poly_grammar.specs.Trees.{Poly}
use Rattle.poly_grammar.specs.declared.step.PolyStep.{PolyStep}
use Rattle.poly_grammar.specs.declared.step.PolyStep.TheVariants.{Name}
use Rattle.poly_grammar.proofs.Worths.{worth_is_left}
use Rattle.term_lists.specs.Rings.{ring_comparison, variables}
use Rattle.term_lists.specs.Vectors.{HasPositions, IsVectorOver}
use Rattle.term_lists.specs.declared.key.Key.{Key}
use Rattle.term_lists.specs.declared.ring.Ring.{Ring}
use Rattle.poly_value.specs.Values.{line_degrees, place_of, polynomials_of}
use Rattle.script_forms.specs.Forms.{IsLineOf, operands_of, shape_behind}
use Rattle.script_forms.specs.Written.{Written, WrittenOperation, divide_line, express_line, ideal_line, module_line, of_polynomial, operation_polys, preimage, show_line}
use Rattle.script_forms.specs.declared.form.DivisionWord.TheVariants.{Lift, Member, NormalForm}
use Rattle.script_forms.specs.declared.form.Head.{Head}
use Rattle.script_forms.specs.declared.form.Head.TheVariants as heads
use Rattle.script_forms.specs.declared.operands.ByPolynomial.{ByPolynomial}
use Rattle.script_forms.specs.declared.operands.ByPolynomial.TheVariants.{Quotient, Saturate}
use Rattle.script_forms.specs.declared.operands.Operands.TheVariants as shapes
use Rattle.script_forms.specs.declared.vectors.Shape.{Shape}
use Rattle.script_forms.specs.declared.vectors.Shape.TheVariants.{Empty}
use Rattle.script_forms.proofs.Apart.{heads_apart}
use Rattle.script_parse.specs.Tests.{AreVectorWorths, AreWorths, HaveNumerals, IsWorkable, IsWorth, StandsForEntries, is_known, is_no_value, known_names, knows, low_degree, module_fits, names_pass, right_kinds}
use Rattle.script_parse.specs.Refusals.{rank_named}
use Rattle.script_parse.specs.Statements.{ArePolynomialsOf, AreVectorsOf, IsOperationOf, IsPolynomialOf, IsVectorWith, Says}
use Rattle.script_parse.specs.declared.named.NameInfo.{NameInfo}
use Rattle.script_parse.specs.declared.operation.Operation.TheVariants as operations
use Rattle.script_parse.specs.declared.stated.Statement.TheVariants as statements
use Rattle.script_parse.proofs.Ranks.{module_passes, same_width}
use Rattle.script_parse.proofs.Testing.{both_true}
use Rattle.script_parse.proofs.Working.{has_worth, weight_of}

-- ---- what passed the tests can be worked out

is_variable : (vars : List (List ℕ)) (infos : List NameInfo) (text : List ℕ) → is_known vars infos text ≡ true → is_no_value infos text ≡ true → is_some (place_of vars text) ≡ true
is_variable vars infos text e f = by_cases (is_some (place_of vars text)) (is_some (rank_named infos text)) refl refl
  where
    by_cases : (a b : Bool) → is_some (place_of vars text) ≡ a → is_some (rank_named infos text) ≡ b → is_some (place_of vars text) ≡ true
    by_cases true b p q = p
    by_cases false true p q = absurd cc
    by_cases false false p q = absurd cc

only_variables : (vars : List (List ℕ)) (infos : List NameInfo) (line : List ℕ) (xs : List PolyStep) → names_pass (is_known vars infos) line xs ≡ true → names_pass (is_no_value infos) line xs ≡ true → knows vars line xs ≡ true
only_variables vars infos line [] e f = refl
only_variables vars infos line (Name t ∷ xs) e f = by_tests (is_known vars infos (text_of line t)) (is_no_value infos (text_of line t)) refl refl e f (λ g h. only_variables vars infos line xs g h)
  where
    by_tests : (a b : Bool) → is_known vars infos (text_of line t) ≡ a → is_no_value infos (text_of line t) ≡ b → cond a (names_pass (is_known vars infos) line xs) false ≡ true → cond b (names_pass (is_no_value infos) line xs) false ≡ true
        → (names_pass (is_known vars infos) line xs ≡ true → names_pass (is_no_value infos) line xs ≡ true → knows vars line xs ≡ true) → knows vars line (Name t ∷ xs) ≡ true
    by_tests true true p q g h later = let v = is_variable vars infos (text_of line t) p q in ap (λ b. cond b (knows vars line xs) false) v ∙ later g h
    by_tests true false p q g h later = absurd cc
    by_tests false b p q g h later = absurd cc
only_variables vars infos line (_ ∷ xs) e f = only_variables vars infos line xs e f

low : (o : Option ℕ) → is_some o ≡ true → (d : ℕ) × (o ≡ Some d)
low None e = absurd cc
low (Some d) e = (d, refl)

able : (ring : Ring) (infos : List NameInfo) (line : List ℕ) (pieces : List (Vec PolyStep Global))
    → list_all (λ v. names_pass (is_known ring.vars infos) line v.items) pieces ≡ true → list_all (λ v. names_pass (is_no_value infos) line v.items) pieces ≡ true
    → list_all (λ v. low_degree ring line v.items) pieces ≡ true → AllByRecursion (HaveNumerals line) pieces → AllByRecursion (IsWorkable ring line) pieces
able ring infos line [] n k d h = tt
able ring infos line (v ∷ pieces) n k d h =
    let ns = both_true (names_pass (is_known ring.vars infos) line v.items) (list_all (λ v. names_pass (is_known ring.vars infos) line v.items) pieces) n in
    let ks = both_true (names_pass (is_no_value infos) line v.items) (list_all (λ v. names_pass (is_no_value infos) line v.items) pieces) k in
    let ds = both_true (low_degree ring line v.items) (list_all (λ v. low_degree ring line v.items) pieces) d in
    let degree = low (worth_of_steps (line_degrees ring line) v.items) ds.0 in
    let worth = has_worth (variables ring) ring.modulus.value ring.vars line (weight_of ring line) v.items degree.0 (only_variables ring.vars infos line v.items ns.0 ks.0) degree.1 in
    (record { worth = worth; degree = degree; numerals = h.0 }, able ring infos line pieces ns.1 ks.1 ds.1 h.1)

pub workable : (ring : Ring) (infos : List NameInfo) (line : List ℕ) (head : Head) (pieces : List (Vec PolyStep Global))
    → known_names ring.vars infos line head pieces ≡ true → right_kinds ring.vars infos line head pieces ≡ true → list_all (λ v. low_degree ring line v.items) pieces ≡ true
    → AllByRecursion (HaveNumerals line) pieces → AllByRecursion (IsWorkable ring line) pieces
workable ring infos line head pieces n k d h = able ring infos line pieces (both_true _ (list_all (λ v. names_pass (is_known ring.vars infos) line v.items) pieces) n).1 (both_true _ (list_all (λ v. names_pass (is_no_value infos) line v.items) pieces) k).1 d h

-- ---- what is worked out

polynomial_of : (ring : Ring) (line : List ℕ) (p : Poly) (v : Vec PolyStep Global) (u : List (Key × ℕ)) → v.items ≡ steps p → IsWorkable ring line v → IsWorth ring line v.items u → IsPolynomialOf ring line p u
polynomial_of ring line p v u e able w = (
  w.vector,
  w.polynomial,
  record {
    value = able.worth.0;
    worth_is = sym (worth_is_left (polynomials_of ring line) p) ∙ ap (worth_of_steps (polynomials_of ring line)) (sym e) ∙ able.worth.1;
    stands = w.value able.worth.0 able.worth.1;
  },
)

polynomials_are : (ring : Ring) (line : List ℕ) (pieces : List (Vec PolyStep Global)) (ps : List Poly) (us : List (List (Key × ℕ))) → map (λ v. v.items) pieces ≡ map steps ps → AllByRecursion (IsWorkable ring line) pieces → AreWorths ring line pieces us → ArePolynomialsOf ring line ps us
polynomials_are ring line [] [] [] e able w = tt
polynomials_are ring line [] [] (u ∷ us) e able w = absurd w
polynomials_are ring line [] (p ∷ ps) us e able w = absurd cc
polynomials_are ring line (v ∷ pieces) [] us e able w = absurd cc
polynomials_are ring line (v ∷ pieces) (p ∷ ps) [] e able w = absurd w
polynomials_are ring line (v ∷ pieces) (p ∷ ps) (u ∷ us) e able w =
    let head : v.items ≡ steps p = cc in
    let tail : map (λ v. v.items) pieces ≡ map steps ps = cc in
    (polynomial_of ring line p v u head able.0 w.0, polynomials_are ring line pieces ps us tail able.1 w.1)

worths_of : {A : Type 0} (g : Algebra A) (pieces : List (Vec PolyStep Global)) (ps : List Poly) → map (λ v. v.items) pieces ≡ map steps ps → map (λ v. worth_of_steps g v.items) pieces ≡ map (worth g) ps
worths_of g [] [] e = refl
worths_of g [] (p ∷ ps) e = absurd cc
worths_of g (v ∷ pieces) [] e = absurd cc
worths_of g (v ∷ pieces) (p ∷ ps) e =
    let head : v.items ≡ steps p = cc in
    let tail : map (λ v. v.items) pieces ≡ map steps ps = cc in
    ap₂ (λ x l. x ∷ l) (ap (worth_of_steps g) head ∙ worth_is_left g p) (worths_of g pieces ps tail)

vector_is : (ring : Ring) (line : List ℕ) (pieces : List (Vec PolyStep Global)) (ps : List Poly) (u : List (Key × ℕ)) → map (λ v. v.items) pieces ≡ map steps ps
    → IsVectorOver ring (ring_comparison ring) u → HasPositions (length pieces) u → StandsForEntries ring line pieces u → IsVectorWith ring line ps u
vector_is ring line pieces ps u e vector positions stands = (
  vector,
  subst (λ k. HasPositions k u) (sym (length-map pieces (λ v. v.items)) ∙ ap length e ∙ length-map ps steps) positions,
  record { entries = stands.entries; worths_are = sym (worths_of (polynomials_of ring line) pieces ps e) ∙ stands.worths_are; stands = stands.stands },
)

-- ---- what is said

-- a shown polynomial is there
pub is_shown : (pieces : List (Vec PolyStep Global)) (w : Written) → IsLineOf heads.Show pieces w → 0 < length pieces
is_shown (v ∷ pieces) w is = omega arith
is_shown [] (show_line p) is = let e = is.steps_are in absurd cc
is_shown [] _ is = absurd (heads_apart is.head_is refl)

pub show_says : (ring : Ring) (line : List ℕ) (pieces more : List (Vec PolyStep Global)) (v : Vec PolyStep Global) (u : List (Key × ℕ)) → pieces ≡ v ∷ more → AllByRecursion (IsWorkable ring line) pieces → IsWorth ring line v.items u
    → (w : Written) → IsLineOf heads.Show pieces w → Says (Some ring) line w (statements.Show u)
show_says ring line pieces more v u e able worth (show_line p) is =
    let all : map (λ v. v.items) (v ∷ more) ≡ steps p ∷ [] = ap (λ l. map (λ v. v.items) l) (sym e) ∙ is.steps_are in
    let head : v.items ≡ steps p = cc in
    let one = subst (λ l. AllByRecursion (IsWorkable ring line) l) e able in
    polynomial_of ring line p v u head one.0 worth
show_says ring line pieces more v u e able worth _ is = absurd (heads_apart is.head_is refl)

-- so is a polynomial that is expressed
pub is_expressed : (pieces : List (Vec PolyStep Global)) (w : Written) → IsLineOf heads.Express pieces w → 0 < length pieces
is_expressed (v ∷ pieces) w is = omega arith
is_expressed [] (express_line p images) is = let e = is.steps_are in absurd cc
is_expressed [] _ is = absurd (heads_apart is.head_is refl)

pub express_says :
    (ring : Ring) (line : List ℕ) (pieces more : List (Vec PolyStep Global)) (v : Vec PolyStep Global) (u : List (Key × ℕ)) (us : List (List (Key × ℕ))) → pieces ≡ v ∷ more
    → AllByRecursion (IsWorkable ring line) pieces → IsWorth ring line v.items u → AreWorths ring line more us
    → (w : Written) → IsLineOf heads.Express pieces w → Says (Some ring) line w (statements.Express u us)
express_says ring line pieces more v u us e able worth worths (express_line p images) is =
    let all : map (λ v. v.items) (v ∷ more) ≡ steps p ∷ map steps images = ap (λ l. map (λ v. v.items) l) (sym e) ∙ is.steps_are in
    let head : v.items ≡ steps p = cc in
    let tail : map (λ v. v.items) more ≡ map steps images = cc in
    let each = subst (λ l. AllByRecursion (IsWorkable ring line) l) e able in
    (polynomial_of ring line p v u head each.0 worth, polynomials_are ring line more images us tail each.1 worths)
express_says ring line pieces more v u us e able worth worths _ is = absurd (heads_apart is.head_is refl)

pub ideal_says : (ring : Ring) (line : List ℕ) (pieces : List (Vec PolyStep Global)) (given : Token) (name : _) (us : List (List (Key × ℕ))) → string_bytes name ≡ text_of line given → AllByRecursion (IsWorkable ring line) pieces → AreWorths ring line pieces us
    → (w : Written) → IsLineOf (heads.Ideal given) pieces w → Says (Some ring) line w (statements.Ideal name us)
ideal_says ring line pieces given name us e able worths (ideal_line t ps) is =
    let h = is.head_is in
    let same : given ≡ t = cc in
    (e ∙ ap (text_of line) same, polynomials_are ring line pieces ps us is.steps_are able worths)
ideal_says ring line pieces given name us e able worths _ is = absurd (heads_apart is.head_is refl)

pub normal_says : (ring : Ring) (line : List ℕ) (pieces : List (Vec PolyStep Global)) (value : Token) (name : _) (u : List (Key × ℕ)) → string_bytes name ≡ text_of line value
    → IsVectorOver ring (ring_comparison ring) u → HasPositions (length pieces) u → StandsForEntries ring line pieces u
    → (w : Written) → IsLineOf (heads.Divide NormalForm value) pieces w → Says (Some ring) line w (statements.NormalForm name u)
normal_says ring line pieces value name u e vector positions stands (divide_line NormalForm t ps) is =
    let h = is.head_is in
    let same : value ≡ t = cc in
    (e ∙ ap (text_of line) same, vector_is ring line pieces ps u is.steps_are vector positions stands)
normal_says ring line pieces value name u e vector positions stands (divide_line Member t ps) is = let h = is.head_is in absurd cc
normal_says ring line pieces value name u e vector positions stands (divide_line Lift t ps) is = let h = is.head_is in absurd cc
normal_says ring line pieces value name u e vector positions stands _ is = absurd (heads_apart is.head_is refl)

pub member_says : (ring : Ring) (line : List ℕ) (pieces : List (Vec PolyStep Global)) (value : Token) (name : _) (u : List (Key × ℕ)) → string_bytes name ≡ text_of line value
    → IsVectorOver ring (ring_comparison ring) u → HasPositions (length pieces) u → StandsForEntries ring line pieces u
    → (w : Written) → IsLineOf (heads.Divide Member value) pieces w → Says (Some ring) line w (statements.Member name u)
member_says ring line pieces value name u e vector positions stands (divide_line Member t ps) is =
    let h = is.head_is in
    let same : value ≡ t = cc in
    (e ∙ ap (text_of line) same, vector_is ring line pieces ps u is.steps_are vector positions stands)
member_says ring line pieces value name u e vector positions stands (divide_line NormalForm t ps) is = let h = is.head_is in absurd cc
member_says ring line pieces value name u e vector positions stands (divide_line Lift t ps) is = let h = is.head_is in absurd cc
member_says ring line pieces value name u e vector positions stands _ is = absurd (heads_apart is.head_is refl)

pub lift_says : (ring : Ring) (line : List ℕ) (pieces : List (Vec PolyStep Global)) (value : Token) (name : _) (u : List (Key × ℕ)) → string_bytes name ≡ text_of line value
    → IsVectorOver ring (ring_comparison ring) u → HasPositions (length pieces) u → StandsForEntries ring line pieces u
    → (w : Written) → IsLineOf (heads.Divide Lift value) pieces w → Says (Some ring) line w (statements.Lift name u)
lift_says ring line pieces value name u e vector positions stands (divide_line Lift t ps) is =
    let h = is.head_is in
    let same : value ≡ t = cc in
    (e ∙ ap (text_of line) same, vector_is ring line pieces ps u is.steps_are vector positions stands)
lift_says ring line pieces value name u e vector positions stands (divide_line NormalForm t ps) is = let h = is.head_is in absurd cc
lift_says ring line pieces value name u e vector positions stands (divide_line Member t ps) is = let h = is.head_is in absurd cc
lift_says ring line pieces value name u e vector positions stands _ is = absurd (heads_apart is.head_is refl)

-- ---- modules

take_front : {X : Type 0} (n : ℕ) (xs ys : List X) → length xs ≡ n → take n (xs ++ ys) ≡ xs
take_front zero [] ys e = refl
take_front zero (x ∷ xs) ys e = absurd (omega (arith, e))
take_front (suc n) [] ys e = absurd (omega (arith, e))
take_front (suc n) (x ∷ xs) ys e = ap (λ l. x ∷ l) (take_front n xs ys (omega (arith, e)))

drop_front : {X : Type 0} (n : ℕ) (xs ys : List X) → length xs ≡ n → drop n (xs ++ ys) ≡ ys
drop_front zero [] ys e = refl
drop_front zero (x ∷ xs) ys e = absurd (omega (arith, e))
drop_front (suc n) [] ys e = absurd (omega (arith, e))
drop_front (suc n) (x ∷ xs) ys e = drop_front n xs ys (omega (arith, e))

module _ (ring : Ring) (line : List ℕ) (rank : ℕ) (some : 0 < rank) where
  vectors_are :
      (pieces : List (Vec PolyStep Global)) (vectors : List (List Poly)) (us : List (List (Key × ℕ))) → map (λ v. v.items) pieces ≡ map steps (flat_map (λ es. es) vectors)
      → list_all (λ es. nat_eq (length es) rank) vectors ≡ true → AreVectorWorths ring line rank pieces us → AreVectorsOf ring line rank vectors us
  vectors_are pieces [] [] e wide w = tt
  vectors_are pieces [] (u ∷ us) e wide w =
      let none : length pieces ≡ 0 = sym (length-map pieces (λ v. v.items)) ∙ ap length e in
      let lt : 0 < length pieces = w.0 in absurd (omega (arith, lt, none))
  vectors_are pieces (es ∷ more) [] e wide w =
      let b = both_true (nat_eq (length es) rank) (list_all (λ es. nat_eq (length es) rank) more) wide in
      let width : length es ≡ rank = same_width (length es) rank b.0 in
      let none : length (map (λ v. v.items) pieces) ≡ 0 = ap (λ l. length (map (λ v. v.items) l)) w in
      let all : length (map steps (es ++ flat_map (λ es. es) more)) ≡ length es + length (flat_map (λ es. es) more) =
      length-map (es ++ flat_map (λ es. es) more) steps ∙ length-append es (flat_map (λ es. es) more) in
      let zero_is : length es + length (flat_map (λ es. es) more) ≡ 0 = sym all ∙ sym (ap length e) ∙ none in
      absurd (omega (arith, some, width, zero_is))
  vectors_are pieces (es ∷ more) (u ∷ us) e wide w =
      let b = both_true (nat_eq (length es) rank) (list_all (λ es. nat_eq (length es) rank) more) wide in
      let width : length es ≡ rank = same_width (length es) rank b.0 in
      let long : length (map steps es) ≡ rank = length-map es steps ∙ width in
      let parts : map steps (es ++ flat_map (λ es. es) more) ≡ map steps es ++ map steps (flat_map (λ es. es) more) = map-append steps es (flat_map (λ es. es) more) in
      let front : map (λ v. v.items) (take rank pieces) ≡ map steps es =
      sym (take-map (λ v. v.items) rank pieces) ∙ ap (take rank) (e ∙ parts) ∙ take_front rank (map steps es) (map steps (flat_map (λ es. es) more)) long in
      let back : map (λ v. v.items) (drop rank pieces) ≡ map steps (flat_map (λ es. es) more) =
      sym (drop-map (λ v. v.items) rank pieces) ∙ ap (drop rank) (e ∙ parts) ∙ drop_front rank (map steps es) (map steps (flat_map (λ es. es) more)) long in
      let one = vector_is ring line (take rank pieces) es u front w.1.vector w.1.positions w.1.entries in
      ((one.0, subst (λ k. HasPositions k u) width one.1, one.2), vectors_are (drop rank pieces) more us back b.1 w.2)

pub module_says :
    (ring : Ring) (line : List ℕ) (pieces : List (Vec PolyStep Global)) (given rank : Token) (shape : Shape) (name : _) (r : ℕ) (us : List (List (Key × ℕ))) → string_bytes name ≡ text_of line given → r ≡ numeral_value line rank
    → module_fits (numeral_value line rank) shape (length pieces) ≡ true → AreVectorWorths ring line r pieces us
    → (w : Written) → IsLineOf (heads.Module given rank shape) pieces w → Says (Some ring) line w (statements.Module name r us)
module_says ring line pieces given rank shape name r us e n fits worths (module_line t s vectors) is =
    let h = is.head_is in
    let same : given ≡ t = cc in
    let ranks : rank ≡ s = cc in
    let shapes_are : shape ≡ shape_behind Empty vectors = cc in
    let passes = module_passes (numeral_value line s) vectors (length pieces) (subst (λ x. module_fits (numeral_value line s) x (length pieces) ≡ true) shapes_are (subst (λ x. module_fits (numeral_value line x) shape (length pieces) ≡ true) ranks fits)) in
    let number : r ≡ numeral_value line s = n ∙ ap (numeral_value line) ranks in
    (e ∙ ap (text_of line) same, number, vectors_are ring line (numeral_value line s) passes.0 pieces vectors us is.steps_are passes.1 (subst (λ k. AreVectorWorths ring line k pieces us) number worths))
module_says ring line pieces given rank shape name r us e n fits worths _ is = absurd (heads_apart is.head_is refl)

-- the vectors that are worked out, one behind the other
pub record AreChunks (ring : Ring) (line : List ℕ) (rank : ℕ) (all rest : List (Vec PolyStep Global)) (list : List (List (Key × ℕ))) : Type 0 where
  pub joins : (us : List (List (Key × ℕ))) → AreVectorWorths ring line rank rest us → AreVectorWorths ring line rank all (list ++ us)
  pub workable : AllByRecursion (IsWorkable ring line) rest

pub chunks_end : (ring : Ring) (line : List ℕ) (rank : ℕ) (all rest : List (Vec PolyStep Global)) (list : List (List (Key × ℕ))) → rest ≡ [] → AreChunks ring line rank all rest list → AreVectorWorths ring line rank all list
chunks_end ring line rank all rest list none h = subst (λ l. AreVectorWorths ring line rank all l) (append-nil list) (h.joins [] none)

-- ---- operations

-- the polynomial that is worked out, and its value's name
pub record Divides (ring : Ring) (line : List ℕ) (pieces : List (Vec PolyStep Global)) (value : Token) (name : List ℕ) (u : List (Key × ℕ)) : Type 0 where
  pub first : Vec PolyStep Global
  pub more : List (Vec PolyStep Global)
  pub pieces_are : pieces ≡ first ∷ more
  pub workable : AllByRecursion (IsWorkable ring line) pieces
  pub worth : IsWorth ring line first.items u
  pub name_is : name ≡ text_of line value

divisor_of : (ring : Ring) (line : List ℕ) (pieces : List (Vec PolyStep Global)) (value : Token) (name : List ℕ) (u : List (Key × ℕ)) (p : Poly) → Divides ring line pieces value name u → map (λ v. v.items) pieces ≡ steps p ∷ [] → IsPolynomialOf ring line p u
divisor_of ring line pieces value name u p d s =
    let all : map (λ v. v.items) (d.first ∷ d.more) ≡ steps p ∷ [] = ap (λ l. map (λ v. v.items) l) (sym d.pieces_are) ∙ s in
    let head : d.first.items ≡ steps p = cc in
    let one = subst (λ l. AllByRecursion (IsWorkable ring line) l) d.pieces_are d.workable in
    polynomial_of ring line p d.first u head one.0 d.worth

-- an operation by a polynomial has one
pub polynomial_there :
    (pieces : List (Vec PolyStep Global)) (word : ByPolynomial) (value : Token) (w : WrittenOperation) → operands_of w ≡ shapes.Polynomial word value → map
    (λ v. v.items) pieces ≡ map steps (operation_polys w)
    → length pieces ≡ 0 → ⊥
polynomial_there (v ∷ pieces) word value w e s none = omega (arith, none)
polynomial_there [] word value (of_polynomial other t p) e s none = cc
polynomial_there [] word value _ e s none = cc

pub quotient_says :
    (ring : Ring) (line : List ℕ) (pieces : List (Vec PolyStep Global)) (value : Token) (name : _) (u : List (Key × ℕ)) → Divides ring line pieces value (string_bytes name) u
    → (w : WrittenOperation) → operands_of w ≡ shapes.Polynomial Quotient value → map (λ v. v.items) pieces ≡ map steps (operation_polys w) → IsOperationOf ring line w (operations.Quotient name u)
quotient_says ring line pieces value name u d (of_polynomial Quotient t p) e s =
    let same : value ≡ t = cc in (d.name_is ∙ ap (text_of line) same, divisor_of ring line pieces value (string_bytes name) u p d s)
quotient_says ring line pieces value name u d (of_polynomial Saturate t p) e s = absurd cc
quotient_says ring line pieces value name u d _ e s = absurd cc

pub saturation_says :
    (ring : Ring) (line : List ℕ) (pieces : List (Vec PolyStep Global)) (value : Token) (name : _) (u : List (Key × ℕ)) → Divides ring line pieces value (string_bytes name) u
    → (w : WrittenOperation) → operands_of w ≡ shapes.Polynomial Saturate value → map (λ v. v.items) pieces ≡ map steps (operation_polys w) → IsOperationOf ring line w (operations.Saturate name u)
saturation_says ring line pieces value name u d (of_polynomial Saturate t p) e s =
    let same : value ≡ t = cc in (d.name_is ∙ ap (text_of line) same, divisor_of ring line pieces value (string_bytes name) u p d s)
saturation_says ring line pieces value name u d (of_polynomial Quotient t p) e s = absurd cc
saturation_says ring line pieces value name u d _ e s = absurd cc

pub preimage_says :
    (ring : Ring) (line : List ℕ) (pieces : List (Vec PolyStep Global)) (value : Token) (name : _) (us : List (List (Key × ℕ))) → string_bytes name ≡ text_of line value
    → AllByRecursion (IsWorkable ring line) pieces → AreWorths ring line pieces us
    → (w : WrittenOperation) → operands_of w ≡ shapes.Preimage value → map (λ v. v.items) pieces ≡ map steps (operation_polys w) → IsOperationOf ring line w (operations.Preimage name us)
preimage_says ring line pieces value name us n able worths (preimage t images) e s =
    let same : value ≡ t = cc in (n ∙ ap (text_of line) same, polynomials_are ring line pieces images us s able worths)
preimage_says ring line pieces value name us n able worths _ e s = absurd cc
