-- The tests of a line's names, ranks and degrees
use Rattle.std.proofs.Common.{◌≡◌, ℕ, zero, suc, ◌+◌, ◌<◌, ◌≤◌, ◌⊎◌, inl, inr, cond, nat_eq, Bool, true, false, List, [], ◌∷◌, length, map, Option, Some, None, Vec, Global, refl, sym, ap, ap₂, subst, ◌∙◌, arith}
use Rattle.std.proofs.lemmas.List.{length-map}
use Rattle.std.proofs.lemmas.Bool.{eqb-false, eqb-true, false≢true, leb-false, leb-true}
use Rattle.std.proofs.lemmas.Option.{same_Some}
use Rattle.std.specs.Cmp.Lexicographic.{pointwise, same_text, other_text}
use Rattle.std.specs.List.{list_all}
use Rattle.std.specs.Option.{option_map}
use Rattle.std.specs.Prelude.{Contains, is_some, nat_le, not, ◌&&◌, ◌||◌}
use Rattle.script_tokens.specs.declared.token.Token.{Token}
use Rattle.poly_grammar.specs.Degrees.{formal_degree}
use Rattle.poly_grammar.specs.Lexemes.{names_in}
use Rattle.poly_grammar.specs.Numerals.{numeral_value, text_of}
use Rattle.poly_grammar.specs.Steps.{names_of_steps, steps}
use Rattle.poly_grammar.specs.Trees.{Poly, spelling}
use Rattle.poly_grammar.specs.declared.step.PolyStep.{PolyStep}
use Rattle.poly_grammar.specs.declared.step.PolyStep.TheVariants.{Name}
use Rattle.poly_grammar.proofs.Names.{steps_have_names}
use Rattle.poly_value.specs.Values.{place_of}
use Rattle.term_lists.specs.declared.ring.Ring.{Ring}
use Rattle.script_forms.specs.Forms.{IsLineOf, head_of, operands_of, shape_behind}
use Rattle.script_forms.specs.declared.ring_words.OrderName.{OrderName}
use Rattle.script_forms.specs.declared.ring_words.OrderName.TheVariants.{Elim, Grevlex, Lex}
use Rattle.script_forms.specs.Written.{Written, WrittenOperation, ask_line, change_line, divide_line, elimination, equal_line, express_line, ext_line, given_by, ideal_line, let_line, module_line, nothing, of_polynomial, of_two, operation_places, operation_polys, polys_of, preimage, ring_line, show_line, syzygies, value_places}
use Rattle.script_forms.specs.declared.form.Head.{Head}
use Rattle.script_forms.specs.declared.form.Head.TheVariants as heads
use Rattle.script_forms.specs.declared.operands.Binary.TheVariants.{Colon, Intersect, Product, Sum}
use Rattle.script_forms.specs.declared.vectors.Shape.TheVariants.{Empty}
use Rattle.script_parse.specs.Tests.{factor_fits, given_name, is_known, is_no_value, is_no_variable, known_names, low_degree, names_pass, number_fits, operand_places, operands_eliminate, operands_fit, operands_low, order_eliminates, rank_fits, right_kinds, same_rank, value_operands}
use Rattle.script_parse.specs.Refusals.{HasElimOutside, HasGreatDegree, HasOtherFactor, HasOtherImages, HasOtherKind, HasOtherOperands, HasOtherRank, HasUnknownName, IsNamed, LacksRing, StandsInPoly, length_named, rank_named}
use Rattle.script_parse.specs.declared.named.NameInfo.{NameInfo}
use Rattle.script_parse.proofs.Ranks.{length_low, length_other, low_not, not_within, rank_above, vectors_fit, vectors_other, within_not}
use Rattle.script_parse.proofs.Working.{degree_of_steps, weight_of}

-- a text has a place among names exactly where it is one of them
contains_later : (xs : List (List ℕ)) (x word : List ℕ) → Contains xs word → Contains (x ∷ xs) word
contains_later xs x word c = (suc c.0, (let lt = c.1 in omega arith), c.2)

later_place : (o : Option ℕ) → is_some (option_map (λ i. i + 1) o) ≡ is_some o
later_place None = refl
later_place (Some i) = refl

placed : (vars : List (List ℕ)) (word : List ℕ) → is_some (place_of vars word) ≡ true → Contains vars word
placed [] word e = absurd cc
placed (v ∷ vars) word e = by_test (pointwise nat_eq v word) refl e (λ h. placed vars word h)
  where
    by_test : (b : Bool) → pointwise nat_eq v word ≡ b → is_some (cond b (Some 0) (option_map (λ i. i + 1) (place_of vars word))) ≡ true → (is_some (place_of vars word) ≡ true → Contains vars word) → Contains (v ∷ vars) word
    by_test true q h later = (0, omega arith, same_text v word (sym q))
    by_test false q h later = contains_later vars v word (later (sym (later_place (place_of vars word)) ∙ h))

not_placed : (vars : List (List ℕ)) (word : List ℕ) → is_some (place_of vars word) ≡ false → Contains vars word → ⊥
not_placed [] word e c = omega (arith, c.1)
not_placed (v ∷ vars) word e c = by_test (pointwise nat_eq v word) refl e c (λ h d. not_placed vars word h d)
  where
    by_test : (b : Bool) → pointwise nat_eq v word ≡ b → is_some (cond b (Some 0) (option_map (λ i. i + 1) (place_of vars word))) ≡ false → Contains (v ∷ vars) word → (is_some (place_of vars word) ≡ false → Contains vars word → ⊥) → ⊥
    by_test true q h d later = absurd cc
    by_test false q h (zero, lt, is) later = other_text v word (sym q) is
    by_test false q h (suc i, lt, is) later = later (sym (later_place (place_of vars word)) ∙ h) (i, omega arith, is)

-- ---- tests

pub both_true : (a b : Bool) → (a && b) ≡ true → (a ≡ true) × (b ≡ true)
both_true true b h = (refl, h)
both_true false b h = absurd cc

one_false : (a b : Bool) → (a && b) ≡ false → (a ≡ false) ⊎ (b ≡ false)
one_false true b h = inr h
one_false false b h = inl refl

one_true : (a b : Bool) → (a || b) ≡ true → (a ≡ true) ⊎ (b ≡ true)
one_true true b h = inl refl
one_true false b h = inr h

both_false : (a b : Bool) → (a || b) ≡ false → (a ≡ false) × (b ≡ false)
both_false true b h = absurd cc
both_false false b h = (refl, h)

not_false : (b : Bool) → not b ≡ false → b ≡ true
not_false true h = refl
not_false false h = absurd cc

not_true : (b : Bool) → not b ≡ true → b ≡ false
not_true true h = absurd cc
not_true false h = refl

cond_and : (a b : Bool) → cond a b false ≡ (a && b)
cond_and true b = refl
cond_and false b = refl

some_fails : {X : Type 0} (f : X → Bool) (xs : List X) → list_all f xs ≡ false → (x : X) × Contains xs x × (f x ≡ false)
some_fails f [] e = absurd cc
some_fails f (x ∷ xs) e = by_test (one_false (f x) (list_all f xs) e) (λ h. some_fails f xs h)
  where
    by_test : (f x ≡ false) ⊎ (list_all f xs ≡ false) → (list_all f xs ≡ false → (y : _) × Contains xs y × (f y ≡ false)) → (y : _) × Contains (x ∷ xs) y × (f y ≡ false)
    by_test (inl h) later = (x, (0, omega arith, refl), h)
    by_test (inr h) later = let l = later h in (l.0, (suc l.1.0, (let lt = l.1.1 in omega arith), l.1.2), l.2)

all_pass : {X : Type 0} (f : X → Bool) (xs : List X) (x : X) → list_all f xs ≡ true → Contains xs x → f x ≡ true
all_pass f [] x e c = absurd (omega (arith, c.1))
all_pass f (y ∷ xs) x e (zero, lt, is) = subst (λ z. f z ≡ true) is (both_true (f y) (list_all f xs) e).0
all_pass f (y ∷ xs) x e (suc i, lt, is) = all_pass f xs x (both_true (f y) (list_all f xs) e).1 (i, omega (arith, lt), is)

-- where no variable is a value, a name that has a place among the variables is none
pub variable_no_value : (vars : List (List ℕ)) (infos : List NameInfo) (text : List ℕ) (apart : Bool) → apart ≡ list_all (is_no_value infos) vars → apart ≡ true → is_some (place_of vars text) ≡ true → true ≡ is_no_value infos text
variable_no_value vars infos text apart e f h = sym (all_pass (is_no_value infos) vars text (sym e ∙ f) (placed vars text h))

pass_names : (test : List ℕ → Bool) (line : List ℕ) (xs : List PolyStep) → names_pass test line xs ≡ list_all (λ t. test (text_of line t)) (names_of_steps xs)
pass_names test line [] = refl
pass_names test line (Name t ∷ xs) = cond_and (test (text_of line t)) (names_pass test line xs) ∙ ap (λ b. test (text_of line t) && b) (pass_names test line xs)
pass_names test line (_ ∷ xs) = pass_names test line xs

-- a test of a POLY's steps is one of the POLY
same_tests : (F : List PolyStep → Bool) (G : Poly → Bool) → ((p : Poly) → F (steps p) ≡ G p) → (pieces : List (Vec PolyStep Global)) (ps : List Poly) → map (λ v. v.items) pieces ≡ map steps ps → list_all (λ v. F v.items) pieces ≡ list_all G ps
same_tests F G same [] [] e = refl
same_tests F G same [] (p ∷ ps) e = absurd cc
same_tests F G same (v ∷ pieces) [] e = absurd cc
same_tests F G same (v ∷ pieces) (p ∷ ps) e =
    let head : v.items ≡ steps p = cc in
    let tail : map (λ v. v.items) pieces ≡ map steps ps = cc in
    ap₂ (λ a b. a && b) (ap F head ∙ same p) (same_tests F G same pieces ps tail)

abbrev names_test : (List ℕ → Bool) → List ℕ → Poly → Bool
names_test test line p = list_all (λ t. test (text_of line t)) (names_in (spelling p))

poly_names : (test : List ℕ → Bool) (line : List ℕ) (p : Poly) → names_pass test line (steps p) ≡ names_test test line p
poly_names test line p = pass_names test line (steps p) ∙ ap (λ l. list_all (λ t. test (text_of line t)) l) (steps_have_names p)

-- ---- the names of a head are those of its line

operand_places_are : (operation : WrittenOperation) → operand_places (operands_of operation) ≡ operation_places operation
operand_places_are (of_two word left right) = refl
operand_places_are (of_polynomial word value p) = refl
operand_places_are (elimination value count) = refl
operand_places_are (syzygies value) = refl
operand_places_are (preimage value images) = refl

places_are : (w : Written) (head : Head) → head_of w ≡ Some head → value_operands head ≡ value_places w
places_are nothing head e = absurd cc
places_are (ring_line r) head e = absurd cc
places_are (show_line p) head e = let is : heads.Show ≡ head = same_Some _ _ e in ap value_operands (sym is)
places_are (ideal_line given ps) head e = let is : heads.Ideal given ≡ head = same_Some _ _ e in ap value_operands (sym is)
places_are (module_line given rank vectors) head e = let is : heads.Module given rank (shape_behind Empty vectors) ≡ head = same_Some _ _ e in ap value_operands (sym is)
places_are (let_line given operation) head e = let is : heads.Let given (operands_of operation) ≡ head = same_Some _ _ e in ap value_operands (sym is) ∙ operand_places_are operation
places_are (ask_line question value) head e = let is : heads.Ask question value ≡ head = same_Some _ _ e in ap value_operands (sym is)
places_are (divide_line division value ps) head e = let is : heads.Divide division value ≡ head = same_Some _ _ e in ap value_operands (sym is)
places_are (equal_line left right) head e = let is : heads.Equal left right ≡ head = same_Some _ _ e in ap value_operands (sym is)
places_are (change_line value order) head e = let is : heads.Change value order ≡ head = same_Some _ _ e in ap value_operands (sym is)
places_are (express_line p images) head e = let is : heads.Express ≡ head = same_Some _ _ e in ap value_operands (sym is)
places_are (ext_line value count) head e = let is : heads.Ext value count ≡ head = same_Some _ _ e in ap value_operands (sym is)

given_are : (w : Written) (head : Head) → head_of w ≡ Some head → given_name head ≡ given_by w
given_are nothing head e = absurd cc
given_are (ring_line r) head e = absurd cc
given_are (show_line p) head e = let is : heads.Show ≡ head = same_Some _ _ e in ap given_name (sym is)
given_are (ideal_line given ps) head e = let is : heads.Ideal given ≡ head = same_Some _ _ e in ap given_name (sym is)
given_are (module_line given rank vectors) head e = let is : heads.Module given rank (shape_behind Empty vectors) ≡ head = same_Some _ _ e in ap given_name (sym is)
given_are (let_line given operation) head e = let is : heads.Let given (operands_of operation) ≡ head = same_Some _ _ e in ap given_name (sym is)
given_are (ask_line question value) head e = let is : heads.Ask question value ≡ head = same_Some _ _ e in ap given_name (sym is)
given_are (divide_line division value ps) head e = let is : heads.Divide division value ≡ head = same_Some _ _ e in ap given_name (sym is)
given_are (equal_line left right) head e = let is : heads.Equal left right ≡ head = same_Some _ _ e in ap given_name (sym is)
given_are (change_line value order) head e = let is : heads.Change value order ≡ head = same_Some _ _ e in ap given_name (sym is)
given_are (express_line p images) head e = let is : heads.Express ≡ head = same_Some _ _ e in ap given_name (sym is)
given_are (ext_line value count) head e = let is : heads.Ext value count ≡ head = same_Some _ _ e in ap given_name (sym is)

some_rank : (o : Option ℕ) → is_some o ≡ true → (r : ℕ) × (o ≡ Some r)
some_rank None e = absurd cc
some_rank (Some r) e = (r, refl)

no_rank : (o : Option ℕ) → is_some o ≡ false → (r : ℕ) × (o ≡ Some r) → ⊥
no_rank None e h = let q = h.1 in cc
no_rank (Some r) e h = cc

ranks_differ : (o q : Option ℕ) → same_rank o q ≡ false → (r s : ℕ) × (o ≡ Some r) × (q ≡ Some s) × (r ≡ s → ⊥)
ranks_differ (Some r) (Some s) e = (r, s, refl, refl, eqb-false r s e)
ranks_differ (Some r) None e = absurd cc
ranks_differ None q e = absurd cc

ranks_same : (o q : Option ℕ) (r s : ℕ) → same_rank o q ≡ true → o ≡ Some r → q ≡ Some s → r ≡ s
ranks_same (Some a) (Some b) r s e f g =
    let n : a ≡ b = eqb-true a b e in
    sym (same_Some _ _ f) ∙ n ∙ same_Some _ _ g
ranks_same (Some a) None r s e f g = absurd cc
ranks_same None q r s e f g = absurd cc

many : (n m : ℕ) → n ≡ m → nat_le n 1000 ≡ false → 1000 < m
many n m e f = subst (λ k. 1000 < k) e (leb-false n 1000 f)

few : (n m : ℕ) → n ≡ m → nat_le n 1000 ≡ true → 1000 < m → ⊥
few n m e f lt = let le : n ≤ 1000 = leb-true n 1000 f in omega arith

-- the tests of an operation

other_factor_of : (names : List NameInfo) (line : List ℕ) (given : Token) (operation : WrittenOperation) → operands_low names line (operands_of operation) ≡ false → HasOtherFactor names line (let_line given operation)
other_factor_of names line given (of_two Product left right) e = rank_above (rank_named names (text_of line left)) e
other_factor_of names line given (of_two Sum left right) e = absurd cc
other_factor_of names line given (of_two Intersect left right) e = absurd cc
other_factor_of names line given (of_two Colon left right) e = absurd cc
other_factor_of names line given (of_polynomial word value p) e = absurd cc
other_factor_of names line given (elimination value count) e = absurd cc
other_factor_of names line given (syzygies value) e = absurd cc
other_factor_of names line given (preimage value images) e = rank_above (rank_named names (text_of line value)) e

no_other_factor : (names : List NameInfo) (line : List ℕ) (given : Token) (operation : WrittenOperation) → operands_low names line (operands_of operation) ≡ true → HasOtherFactor names line (let_line given operation) → ⊥
no_other_factor names line given (of_two Product left right) e h = low_not (rank_named names (text_of line left)) h.0 e h.1 h.2
no_other_factor names line given (of_two Sum left right) e h = h
no_other_factor names line given (of_two Intersect left right) e h = h
no_other_factor names line given (of_two Colon left right) e h = h
no_other_factor names line given (of_polynomial word value p) e h = h
no_other_factor names line given (elimination value count) e h = h
no_other_factor names line given (syzygies value) e h = h
no_other_factor names line given (preimage value images) e h = low_not (rank_named names (text_of line value)) h.0 e h.1 h.2

-- images that are not as many as the variables
images_differ : (ring : Ring) (images : List Poly) (count : ℕ) → count ≡ length images → nat_eq count (length ring.vars) ≡ false → HasOtherImages (Some ring) images
images_differ ring images count n e same = eqb-false count (length ring.vars) e (n ∙ same)

images_same : (ring : Ring) (images : List Poly) (count : ℕ) → count ≡ length images → nat_eq count (length ring.vars) ≡ true → HasOtherImages (Some ring) images → ⊥
images_same ring images count n e h = h (sym n ∙ eqb-true count (length ring.vars) e)

other_operands_of : (ring : Ring) (names : List NameInfo) (line : List ℕ) (operation : WrittenOperation) (count : ℕ) → count ≡ length (operation_polys operation)
    → operands_fit (length ring.vars) names line (operands_of operation) count ≡ false → HasOtherOperands (Some ring) names line operation
other_operands_of ring names line (of_two Product left right) count n e = absurd cc
other_operands_of ring names line (of_two Sum left right) count n e = ranks_differ (rank_named names (text_of line left)) (rank_named names (text_of line right)) e
other_operands_of ring names line (of_two Intersect left right) count n e = ranks_differ (rank_named names (text_of line left)) (rank_named names (text_of line right)) e
other_operands_of ring names line (of_two Colon left right) count n e = ranks_differ (rank_named names (text_of line left)) (rank_named names (text_of line right)) e
other_operands_of ring names line (of_polynomial word value p) count n e = absurd cc
other_operands_of ring names line (elimination value k) count n e = absurd cc
other_operands_of ring names line (syzygies value) count n e = length_other (length_named names (text_of line value)) e
other_operands_of ring names line (preimage value images) count n e = images_differ ring images count n e

no_other_operands : (ring : Ring) (names : List NameInfo) (line : List ℕ) (operation : WrittenOperation) (count : ℕ) → count ≡ length (operation_polys operation)
    → operands_fit (length ring.vars) names line (operands_of operation) count ≡ true → HasOtherOperands (Some ring) names line operation → ⊥
no_other_operands ring names line (of_two Product left right) count n e h = h
no_other_operands ring names line (of_two Sum left right) count n e h = h.4 (ranks_same (rank_named names (text_of line left)) (rank_named names (text_of line right)) h.0 h.1 e h.2 h.3)
no_other_operands ring names line (of_two Intersect left right) count n e h = h.4 (ranks_same (rank_named names (text_of line left)) (rank_named names (text_of line right)) h.0 h.1 e h.2 h.3)
no_other_operands ring names line (of_two Colon left right) count n e h = h.4 (ranks_same (rank_named names (text_of line left)) (rank_named names (text_of line right)) h.0 h.1 e h.2 h.3)
no_other_operands ring names line (of_polynomial word value p) count n e h = h
no_other_operands ring names line (elimination value k) count n e h = h
no_other_operands ring names line (syzygies value) count n e h = length_low (length_named names (text_of line value)) h.0 e h.1 h.2
no_other_operands ring names line (preimage value images) count n e h = images_same ring images count n e h

outside_of : (ring : Ring) (line : List ℕ) (given : Token) (operation : WrittenOperation) → operands_eliminate (length ring.vars) line (operands_of operation) ≡ false → LacksRing (Some ring) line (let_line given operation)
outside_of ring line given (elimination value count) e = inr (not_within (length ring.vars) (numeral_value line count) e)
outside_of ring line given (of_two word left right) e = absurd cc
outside_of ring line given (of_polynomial word value p) e = absurd cc
outside_of ring line given (syzygies value) e = absurd cc
outside_of ring line given (preimage value images) e = absurd cc

not_outside : (ring : Ring) (line : List ℕ) (given : Token) (operation : WrittenOperation) → operands_eliminate (length ring.vars) line (operands_of operation) ≡ true → LacksRing (Some ring) line (let_line given operation) → ⊥
not_outside ring line given (elimination value count) e (inl h) = absurd cc
not_outside ring line given (elimination value count) e (inr h) = within_not (length ring.vars) (numeral_value line count) e h
not_outside ring line given (of_two word left right) e h = absurd cc
not_outside ring line given (of_polynomial word value p) e h = absurd cc
not_outside ring line given (syzygies value) e h = absurd cc
not_outside ring line given (preimage value images) e h = absurd cc

-- the same with the polynomial that is expressed in front of them
expressed_differ : (ring : Ring) (images : List Poly) (count : ℕ) → count ≡ suc (length images) → nat_eq count (length ring.vars + 1) ≡ false → HasOtherImages (Some ring) images
expressed_differ ring images count n e same = eqb-false count (length ring.vars + 1) e (omega (arith, n, same))

expressed_same : (ring : Ring) (images : List Poly) (count : ℕ) → count ≡ suc (length images) → nat_eq count (length ring.vars + 1) ≡ true → HasOtherImages (Some ring) images → ⊥
expressed_same ring images count n e h = let q : count ≡ length ring.vars + 1 = eqb-true count (length ring.vars + 1) e in h (omega (arith, n, q))

other_rank_of : (ring : Ring) (names : List NameInfo) (line : List ℕ) (w : Written) (head : Head) (count : ℕ) → head_of w ≡ Some head → count ≡ length (polys_of w) → rank_fits (length ring.vars) names line head count ≡ false → HasOtherRank (Some ring) names line w
other_rank_of ring names line nothing head count e n f = absurd cc
other_rank_of ring names line (ring_line r) head count e n f = absurd cc
other_rank_of ring names line (show_line p) head count e n f =
    let is : head ≡ heads.Show = sym (same_Some _ _ e) in let no : true ≡ false = subst (λ h. rank_fits (length ring.vars) names line h count ≡ false) is f in absurd (false≢true (sym no))
other_rank_of ring names line (ideal_line given ps) head count e n f =
    let is : head ≡ heads.Ideal given = sym (same_Some _ _ e) in many count (length ps) n (subst (λ h. rank_fits (length ring.vars) names line h count ≡ false) is f)
other_rank_of ring names line (module_line given rank vectors) head count e n f =
    let is : head ≡ heads.Module given rank (shape_behind Empty vectors) = sym (same_Some _ _ e) in
    vectors_other (numeral_value line rank) vectors count n (subst (λ h. rank_fits (length ring.vars) names line h count ≡ false) is f)
other_rank_of ring names line (let_line given operation) head count e n f =
    let is : head ≡ heads.Let given (operands_of operation) = sym (same_Some _ _ e) in
    other_operands_of ring names line operation count n (subst (λ h. rank_fits (length ring.vars) names line h count ≡ false) is f)
other_rank_of ring names line (ask_line question value) head count e n f =
    let is : head ≡ heads.Ask question value = sym (same_Some _ _ e) in let no : true ≡ false = subst (λ h. rank_fits (length ring.vars) names line h count ≡ false) is f in absurd (false≢true (sym no))
other_rank_of ring names line (divide_line division value ps) head count e n f =
    let is : head ≡ heads.Divide division value = sym (same_Some _ _ e) in
    let d = ranks_differ (rank_named names (text_of line value)) (Some count) (subst (λ h. rank_fits (length ring.vars) names line h count ≡ false) is f) in
    (d.0, d.2, λ same. d.4 (let c : count ≡ d.1 = (let q = d.3 in cc) in sym same ∙ sym n ∙ c))
other_rank_of ring names line (equal_line left right) head count e n f =
    let is : head ≡ heads.Equal left right = sym (same_Some _ _ e) in
    ranks_differ (rank_named names (text_of line left)) (rank_named names (text_of line right)) (subst (λ h. rank_fits (length ring.vars) names line h count ≡ false) is f)
other_rank_of ring names line (change_line value order) head count e n f =
    let is : head ≡ heads.Change value order = sym (same_Some _ _ e) in
    let d = ranks_differ (rank_named names (text_of line value)) (Some 1) (subst (λ h. rank_fits (length ring.vars) names line h count ≡ false) is f) in
    (d.0, d.2, λ one. d.4 (let c : 1 ≡ d.1 = (let q = d.3 in cc) in one ∙ c))
other_rank_of ring names line (express_line p images) head count e n f =
    let is : head ≡ heads.Express = sym (same_Some _ _ e) in expressed_differ ring images count n (subst (λ h. rank_fits (length ring.vars) names line h count ≡ false) is f)
other_rank_of ring names line (ext_line value k) head count e n f =
    let is : head ≡ heads.Ext value k = sym (same_Some _ _ e) in let no : true ≡ false = subst (λ h. rank_fits (length ring.vars) names line h count ≡ false) is f in absurd (false≢true (sym no))

right_rank_of : (ring : Ring) (names : List NameInfo) (line : List ℕ) (w : Written) (head : Head) (count : ℕ) → head_of w ≡ Some head → count ≡ length (polys_of w) → rank_fits (length ring.vars) names line head count ≡ true → HasOtherRank (Some ring) names line w → ⊥
right_rank_of ring names line (ideal_line given ps) head count e n f h =
    let is : head ≡ heads.Ideal given = sym (same_Some _ _ e) in few count (length ps) n (subst (λ d. rank_fits (length ring.vars) names line d count ≡ true) is f) h
right_rank_of ring names line (module_line given rank vectors) head count e n f h =
    let is : head ≡ heads.Module given rank (shape_behind Empty vectors) = sym (same_Some _ _ e) in
    vectors_fit (numeral_value line rank) vectors count n (subst (λ d. rank_fits (length ring.vars) names line d count ≡ true) is f) h
right_rank_of ring names line (let_line given operation) head count e n f h =
    let is : head ≡ heads.Let given (operands_of operation) = sym (same_Some _ _ e) in
    no_other_operands ring names line operation count n (subst (λ d. rank_fits (length ring.vars) names line d count ≡ true) is f) h
right_rank_of ring names line (divide_line division value ps) head count e n f h =
    let is : head ≡ heads.Divide division value = sym (same_Some _ _ e) in
    let same = ranks_same (rank_named names (text_of line value)) (Some count) h.0 count (subst (λ d. rank_fits (length ring.vars) names line d count ≡ true) is f) h.1 refl in
    h.2 (sym n ∙ sym same)
right_rank_of ring names line (equal_line left right) head count e n f h =
    let is : head ≡ heads.Equal left right = sym (same_Some _ _ e) in
    h.4 (ranks_same (rank_named names (text_of line left)) (rank_named names (text_of line right)) h.0 h.1 (subst (λ d. rank_fits (length ring.vars) names line d count ≡ true) is f) h.2 h.3)
right_rank_of ring names line (change_line value order) head count e n f h =
    let is : head ≡ heads.Change value order = sym (same_Some _ _ e) in
    h.2 (ranks_same (rank_named names (text_of line value)) (Some 1) h.0 1 (subst (λ d. rank_fits (length ring.vars) names line d count ≡ true) is f) h.1 refl)
right_rank_of ring names line (express_line p images) head count e n f h =
    let is : head ≡ heads.Express = sym (same_Some _ _ e) in expressed_same ring images count n (subst (λ d. rank_fits (length ring.vars) names line d count ≡ true) is f) h
right_rank_of ring names line _ head count e n f h = h

-- the same of a line

other_factor : (names : List NameInfo) (line : List ℕ) (w : Written) (head : Head) → head_of w ≡ Some head → factor_fits names line head ≡ false → HasOtherFactor names line w
other_factor names line (let_line given operation) head e f =
    let is : head ≡ heads.Let given (operands_of operation) = sym (same_Some _ _ e) in other_factor_of names line given operation (subst (λ h. factor_fits names line h ≡ false) is f)
other_factor names line nothing head e f = absurd cc
other_factor names line (ring_line r) head e f = absurd cc
other_factor names line (show_line p) head e f =
    let is : head ≡ heads.Show = sym (same_Some _ _ e) in let no : true ≡ false = subst (λ h. factor_fits names line h ≡ false) is f in absurd (false≢true (sym no))
other_factor names line (ideal_line given ps) head e f =
    let is : head ≡ heads.Ideal given = sym (same_Some _ _ e) in let no : true ≡ false = subst (λ h. factor_fits names line h ≡ false) is f in absurd (false≢true (sym no))
other_factor names line (module_line given rank vectors) head e f =
    let is : head ≡ heads.Module given rank (shape_behind Empty vectors) = sym (same_Some _ _ e) in let no : true ≡ false = subst (λ h. factor_fits names line h ≡ false) is f in absurd (false≢true (sym no))
other_factor names line (ask_line question value) head e f =
    let is : head ≡ heads.Ask question value = sym (same_Some _ _ e) in let no : true ≡ false = subst (λ h. factor_fits names line h ≡ false) is f in absurd (false≢true (sym no))
other_factor names line (divide_line division value ps) head e f =
    let is : head ≡ heads.Divide division value = sym (same_Some _ _ e) in let no : true ≡ false = subst (λ h. factor_fits names line h ≡ false) is f in absurd (false≢true (sym no))
other_factor names line (equal_line left right) head e f =
    let is : head ≡ heads.Equal left right = sym (same_Some _ _ e) in let no : true ≡ false = subst (λ h. factor_fits names line h ≡ false) is f in absurd (false≢true (sym no))
other_factor names line (change_line value order) head e f =
    let is : head ≡ heads.Change value order = sym (same_Some _ _ e) in let no : true ≡ false = subst (λ h. factor_fits names line h ≡ false) is f in absurd (false≢true (sym no))
other_factor names line (express_line p images) head e f =
    let is : head ≡ heads.Express = sym (same_Some _ _ e) in let no : true ≡ false = subst (λ h. factor_fits names line h ≡ false) is f in absurd (false≢true (sym no))
other_factor names line (ext_line value count) head e f =
    let is : head ≡ heads.Ext value count = sym (same_Some _ _ e) in let no : true ≡ false = subst (λ h. factor_fits names line h ≡ false) is f in absurd (false≢true (sym no))

right_factor : (names : List NameInfo) (line : List ℕ) (w : Written) (head : Head) → head_of w ≡ Some head → factor_fits names line head ≡ true → HasOtherFactor names line w → ⊥
right_factor names line (let_line given operation) head e f h =
    let is : head ≡ heads.Let given (operands_of operation) = sym (same_Some _ _ e) in no_other_factor names line given operation (subst (λ d. factor_fits names line d ≡ true) is f) h
right_factor names line _ head e f h = h

order_outside : (ring : Ring) (line : List ℕ) (order : OrderName) → order_eliminates (length ring.vars) line order ≡ false → HasElimOutside (Some ring) line order
order_outside ring line (Elim k) e = not_within (length ring.vars) (numeral_value line k) e
order_outside ring line Lex e = absurd cc
order_outside ring line Grevlex e = absurd cc

order_not_outside : (ring : Ring) (line : List ℕ) (order : OrderName) → order_eliminates (length ring.vars) line order ≡ true → HasElimOutside (Some ring) line order → ⊥
order_not_outside ring line (Elim k) e h = within_not (length ring.vars) (numeral_value line k) e h
order_not_outside ring line Lex e h = h
order_not_outside ring line Grevlex e h = h

outside : (ring : Ring) (line : List ℕ) (w : Written) (head : Head) → head_of w ≡ Some head → number_fits (length ring.vars) line head ≡ false → LacksRing (Some ring) line w
outside ring line (let_line given operation) head e f =
    let is : head ≡ heads.Let given (operands_of operation) = sym (same_Some _ _ e) in outside_of ring line given operation (subst (λ h. number_fits (length ring.vars) line h ≡ false) is f)
outside ring line nothing head e f = absurd cc
outside ring line (ring_line r) head e f = absurd cc
outside ring line (show_line p) head e f =
    let is : head ≡ heads.Show = sym (same_Some _ _ e) in let no : true ≡ false = subst (λ h. number_fits (length ring.vars) line h ≡ false) is f in absurd (false≢true (sym no))
outside ring line (ideal_line given ps) head e f =
    let is : head ≡ heads.Ideal given = sym (same_Some _ _ e) in let no : true ≡ false = subst (λ h. number_fits (length ring.vars) line h ≡ false) is f in absurd (false≢true (sym no))
outside ring line (module_line given rank vectors) head e f =
    let is : head ≡ heads.Module given rank (shape_behind Empty vectors) = sym (same_Some _ _ e) in let no : true ≡ false = subst (λ h. number_fits (length ring.vars) line h ≡ false) is f in absurd (false≢true (sym no))
outside ring line (ask_line question value) head e f =
    let is : head ≡ heads.Ask question value = sym (same_Some _ _ e) in let no : true ≡ false = subst (λ h. number_fits (length ring.vars) line h ≡ false) is f in absurd (false≢true (sym no))
outside ring line (divide_line division value ps) head e f =
    let is : head ≡ heads.Divide division value = sym (same_Some _ _ e) in let no : true ≡ false = subst (λ h. number_fits (length ring.vars) line h ≡ false) is f in absurd (false≢true (sym no))
outside ring line (equal_line left right) head e f =
    let is : head ≡ heads.Equal left right = sym (same_Some _ _ e) in let no : true ≡ false = subst (λ h. number_fits (length ring.vars) line h ≡ false) is f in absurd (false≢true (sym no))
outside ring line (change_line value order) head e f =
    let is : head ≡ heads.Change value order = sym (same_Some _ _ e) in inr (order_outside ring line order (subst (λ h. number_fits (length ring.vars) line h ≡ false) is f))
outside ring line (express_line p images) head e f =
    let is : head ≡ heads.Express = sym (same_Some _ _ e) in let no : true ≡ false = subst (λ h. number_fits (length ring.vars) line h ≡ false) is f in absurd (false≢true (sym no))
outside ring line (ext_line value count) head e f =
    let is : head ≡ heads.Ext value count = sym (same_Some _ _ e) in inr (leb-false (numeral_value line count) (length ring.vars) (subst (λ h. number_fits (length ring.vars) line h ≡ false) is f))

inside : (ring : Ring) (line : List ℕ) (w : Written) (head : Head) → head_of w ≡ Some head → number_fits (length ring.vars) line head ≡ true → LacksRing (Some ring) line w → ⊥
inside ring line (let_line given operation) head e f h =
    let is : head ≡ heads.Let given (operands_of operation) = sym (same_Some _ _ e) in not_outside ring line given operation (subst (λ d. number_fits (length ring.vars) line d ≡ true) is f) h
inside ring line (change_line value order) head e f (inl h) = absurd cc
inside ring line (change_line value order) head e f (inr h) =
    let is : head ≡ heads.Change value order = sym (same_Some _ _ e) in order_not_outside ring line order (subst (λ d. number_fits (length ring.vars) line d ≡ true) is f) h
inside ring line (ext_line value count) head e f (inl h) = absurd cc
inside ring line (ext_line value count) head e f (inr h) =
    let is : head ≡ heads.Ext value count = sym (same_Some _ _ e) in
    let le : numeral_value line count ≤ length ring.vars = leb-true (numeral_value line count) (length ring.vars) (subst (λ d. number_fits (length ring.vars) line d ≡ true) is f) in omega (arith, h)
inside ring line nothing head e f h = h
inside ring line (ring_line r) head e f h = absurd cc
inside ring line _ head e f h = absurd cc

low_poly : (ring : Ring) (line : List ℕ) (p : Poly) → low_degree ring line (steps p) ≡ is_some (formal_degree (weight_of ring line) (numeral_value line) p)
low_poly ring line p = ap is_some (degree_of_steps ring line (steps p) p (formal_degree (weight_of ring line) (numeral_value line) p) refl refl)

no_number : (o : Option ℕ) → is_some o ≡ false → o ≡ None
no_number None e = refl
no_number (Some n) e = absurd cc

-- ---- the kinds of a line

module _ (ring : Ring) (names : List NameInfo) (line : List ℕ) (w : Written) (head : Head) (pieces : List (Vec PolyStep Global)) (is : IsLineOf head pieces w) where
  abbrev vars : List (List ℕ)
  vars = ring.vars

  abbrev known : List ℕ → Bool
  known text = is_known vars names text

  abbrev no_value : List ℕ → Bool
  no_value text = is_no_value names text

  abbrev no_variable : List ℕ → Bool
  no_variable text = is_no_variable vars text

  in_pieces : (test : List ℕ → Bool) → list_all (λ v. names_pass test line v.items) pieces ≡ list_all (names_test test line) (polys_of w)
  in_pieces test = same_tests (names_pass test line) (names_test test line) (poly_names test line) pieces (polys_of w) is.steps_are

  -- some NAME of a POLY fails the test, or each passes
  some_name : (test : List ℕ → Bool) → list_all (λ v. names_pass test line v.items) pieces ≡ false → (t : Token) × StandsInPoly w t × (test (text_of line t) ≡ false)
  some_name test e =
      let f = some_fails (names_test test line) (polys_of w) (sym (in_pieces test) ∙ e) in
      let g = some_fails (λ t. test (text_of line t)) (names_in (spelling f.0)) f.2 in
      (g.0, (f.0, f.1, g.1), g.2)

  each_name : (test : List ℕ → Bool) → list_all (λ v. names_pass test line v.items) pieces ≡ true → (t : Token) → StandsInPoly w t → test (text_of line t) ≡ true
  each_name test e t s = all_pass (λ t. test (text_of line t)) (names_in (spelling s.0)) t (all_pass (names_test test line) (polys_of w) s.0 (sym (in_pieces test) ∙ e) s.1) s.2

  in_place : (t : Token) → Contains (value_operands head) t → Contains (value_places w) t
  in_place t c = subst (λ l. Contains l t) (places_are w head is.head_is) c

  of_place : (t : Token) → Contains (value_places w) t → Contains (value_operands head) t
  of_place t c = subst (λ l. Contains l t) (sym (places_are w head is.head_is)) c

  unknown : (text : List ℕ) → known text ≡ false → (Contains vars text → ⊥) × (IsNamed names text → ⊥)
  unknown text e =
      let b = both_false (is_some (place_of vars text)) (is_some (rank_named names text)) e in
      (not_placed vars text b.0, no_rank (rank_named names text) b.1)

  not_unknown : (text : List ℕ) → known text ≡ true → (Contains vars text → ⊥) → (IsNamed names text → ⊥) → ⊥
  not_unknown text e no_var no_val = by_test (one_true (is_some (place_of vars text)) (is_some (rank_named names text)) e)
    where
      by_test : (is_some (place_of vars text) ≡ true) ⊎ (is_some (rank_named names text) ≡ true) → ⊥
      by_test (inl h) = no_var (placed vars text h)
      by_test (inr h) = no_val (some_rank (rank_named names text) h)

  variable : (text : List ℕ) → no_variable text ≡ false → Contains vars text
  variable text e = placed vars text (not_false (is_some (place_of vars text)) e)

  not_variable : (text : List ℕ) → no_variable text ≡ true → Contains vars text → ⊥
  not_variable text e = not_placed vars text (not_true (is_some (place_of vars text)) e)

  value : (text : List ℕ) → no_value text ≡ false → IsNamed names text
  value text e = some_rank (rank_named names text) (not_false (is_some (rank_named names text)) e)

  not_value : (text : List ℕ) → no_value text ≡ true → IsNamed names text → ⊥
  not_value text e = no_rank (rank_named names text) (not_true (is_some (rank_named names text)) e)

  pub unknown_name : known_names vars names line head pieces ≡ false → HasUnknownName (Some ring) names line w
  unknown_name e = by_parts (one_false (list_all (λ t. known (text_of line t)) (value_operands head) && list_all (λ t. no_variable (text_of line t)) (given_name head)) (list_all (λ v. names_pass known line v.items) pieces) e)
    where
      by_head : (list_all (λ t. known (text_of line t)) (value_operands head) ≡ false) ⊎ (list_all (λ t. no_variable (text_of line t)) (given_name head) ≡ false) → HasUnknownName (Some ring) names line w
      by_head (inl h) =
          let f = some_fails (λ t. known (text_of line t)) (value_operands head) h in
          let u = unknown (text_of line f.0) f.2 in inl (f.0, inr (in_place f.0 f.1), u.0, u.1)
      by_head (inr h) =
          let f = some_fails (λ t. no_variable (text_of line t)) (given_name head) h in
          inr (f.0, subst (λ l. Contains l f.0) (given_are w head is.head_is) f.1, variable (text_of line f.0) f.2)

      by_parts : ((list_all (λ t. known (text_of line t)) (value_operands head) && list_all (λ t. no_variable (text_of line t)) (given_name head)) ≡ false) ⊎ (list_all (λ v. names_pass known line v.items) pieces ≡ false) → HasUnknownName (Some ring) names line w
      by_parts (inl h) = by_head (one_false (list_all (λ t. known (text_of line t)) (value_operands head)) (list_all (λ t. no_variable (text_of line t)) (given_name head)) h)
      by_parts (inr h) =
          let f = some_name known h in
          let u = unknown (text_of line f.0) f.2 in inl (f.0, inl f.1, u.0, u.1)

  pub each_known : known_names vars names line head pieces ≡ true → HasUnknownName (Some ring) names line w → ⊥
  each_known e = go
    where
      parts : ((list_all (λ t. known (text_of line t)) (value_operands head) && list_all (λ t. no_variable (text_of line t)) (given_name head)) ≡ true) × (list_all (λ v. names_pass known line v.items) pieces ≡ true)
      parts = both_true (list_all (λ t. known (text_of line t)) (value_operands head) && list_all (λ t. no_variable (text_of line t)) (given_name head)) (list_all (λ v. names_pass known line v.items) pieces) e

      front : (list_all (λ t. known (text_of line t)) (value_operands head) ≡ true) × (list_all (λ t. no_variable (text_of line t)) (given_name head) ≡ true)
      front = both_true (list_all (λ t. known (text_of line t)) (value_operands head)) (list_all (λ t. no_variable (text_of line t)) (given_name head)) parts.0

      go : HasUnknownName (Some ring) names line w → ⊥
      go (inl (t, inl s, no_var, no_val)) = not_unknown (text_of line t) (each_name known parts.1 t s) no_var no_val
      go (inl (t, inr c, no_var, no_val)) = not_unknown (text_of line t) (all_pass (λ t. known (text_of line t)) (value_operands head) t front.0 (of_place t c)) no_var no_val
      go (inr (t, c, v)) = not_variable (text_of line t) (all_pass (λ t. no_variable (text_of line t)) (given_name head) t front.1 (subst (λ l. Contains l t) (sym (given_are w head is.head_is)) c)) v

  pub lacks_ring : number_fits (length vars) line head ≡ false → LacksRing (Some ring) line w
  lacks_ring e = outside ring line w head is.head_is e

  pub has_ring : number_fits (length vars) line head ≡ true → LacksRing (Some ring) line w → ⊥
  has_ring e = inside ring line w head is.head_is e

  pub other_kind : right_kinds vars names line head pieces ≡ false → HasOtherKind (Some ring) names line w
  other_kind e = by_parts (one_false (list_all (λ t. no_variable (text_of line t)) (value_operands head) && factor_fits names line head) (list_all (λ v. names_pass no_value line v.items) pieces) e)
    where
      by_head : (list_all (λ t. no_variable (text_of line t)) (value_operands head) ≡ false) ⊎ (factor_fits names line head ≡ false) → HasOtherKind (Some ring) names line w
      by_head (inl h) =
          let f = some_fails (λ t. no_variable (text_of line t)) (value_operands head) h in
          inr (inl (f.0, in_place f.0 f.1, variable (text_of line f.0) f.2))
      by_head (inr h) = inr (inr (other_factor names line w head is.head_is h))

      by_parts : ((list_all (λ t. no_variable (text_of line t)) (value_operands head) && factor_fits names line head) ≡ false) ⊎ (list_all (λ v. names_pass no_value line v.items) pieces ≡ false) → HasOtherKind (Some ring) names line w
      by_parts (inl h) = by_head (one_false (list_all (λ t. no_variable (text_of line t)) (value_operands head)) (factor_fits names line head) h)
      by_parts (inr h) = let f = some_name no_value h in inl (f.0, f.1, value (text_of line f.0) f.2)

  pub each_right : right_kinds vars names line head pieces ≡ true → HasOtherKind (Some ring) names line w → ⊥
  each_right e = go
    where
      parts : ((list_all (λ t. no_variable (text_of line t)) (value_operands head) && factor_fits names line head) ≡ true) × (list_all (λ v. names_pass no_value line v.items) pieces ≡ true)
      parts = both_true (list_all (λ t. no_variable (text_of line t)) (value_operands head) && factor_fits names line head) (list_all (λ v. names_pass no_value line v.items) pieces) e

      front : (list_all (λ t. no_variable (text_of line t)) (value_operands head) ≡ true) × (factor_fits names line head ≡ true)
      front = both_true (list_all (λ t. no_variable (text_of line t)) (value_operands head)) (factor_fits names line head) parts.0

      go : HasOtherKind (Some ring) names line w → ⊥
      go (inl (t, s, v)) = not_value (text_of line t) (each_name no_value parts.1 t s) v
      go (inr (inl (t, c, v))) = not_variable (text_of line t) (all_pass (λ t. no_variable (text_of line t)) (value_operands head) t front.0 (of_place t c)) v
      go (inr (inr h)) = right_factor names line w head is.head_is front.1 h

  count : length pieces ≡ length (polys_of w)
  count = sym (length-map pieces (λ v. v.items)) ∙ ap length is.steps_are ∙ length-map (polys_of w) steps

  pub other_rank : rank_fits (length vars) names line head (length pieces) ≡ false → HasOtherRank (Some ring) names line w
  other_rank e = other_rank_of ring names line w head (length pieces) is.head_is count e

  pub right_rank : rank_fits (length vars) names line head (length pieces) ≡ true → HasOtherRank (Some ring) names line w → ⊥
  right_rank e = right_rank_of ring names line w head (length pieces) is.head_is count e

  degrees_in : list_all (λ v. low_degree ring line v.items) pieces ≡ list_all (λ p. is_some (formal_degree (weight_of ring line) (numeral_value line) p)) (polys_of w)
  degrees_in = same_tests (low_degree ring line) (λ p. is_some (formal_degree (weight_of ring line) (numeral_value line) p)) (low_poly ring line) pieces (polys_of w) is.steps_are

  pub great_degree : list_all (λ v. low_degree ring line v.items) pieces ≡ false → HasGreatDegree (Some ring) line w
  great_degree e =
      let f = some_fails (λ p. is_some (formal_degree (weight_of ring line) (numeral_value line) p)) (polys_of w) (sym degrees_in ∙ e) in
      (f.0, f.1, no_number (formal_degree (weight_of ring line) (numeral_value line) f.0) f.2)

  pub low_degrees : list_all (λ v. low_degree ring line v.items) pieces ≡ true → HasGreatDegree (Some ring) line w → ⊥
  low_degrees e h =
      let low = all_pass (λ p. is_some (formal_degree (weight_of ring line) (numeral_value line) p)) (polys_of w) h.0 (sym degrees_in ∙ e) h.1 in
      let none : is_some (formal_degree (weight_of ring line) (numeral_value line) h.0) ≡ false = ap is_some h.2 in absurd cc
