-- One thing is true of a line.
use Rattle.std.proofs.Common.{◌≡◌, ℕ, ◌<◌, ◌≤◌, ◌⊎◌, inl, inr, cond, eqb, List, [], ◌∷◌, map, Option, Some, None, refl, sym, ap, ap₂, subst, ◌∙◌, arith}
use Rattle.std.proofs.lemmas.Bool.{cases_lt}
use Rattle.formal_sums.proofs.Sameness.{IsSame_sym, IsSame_trans}
use Rattle.formal_sums.specs.FormalSums.{IsSame}
use Rattle.term_lists.specs.Rings.{ring_comparison, variables}
use Rattle.term_lists.specs.Vectors.{IsVectorOver, sum_of}
use Rattle.term_lists.proofs.NormalVectors.{vector_unique}
use Rattle.term_lists.specs.declared.key.Key.{Key}
use Rattle.term_lists.specs.declared.ring.Ring.{Ring}
use Rattle.poly_grammar.specs.Trees.{Poly}
use Rattle.poly_value.specs.Values.{IsValue}
use Rattle.script_forms.specs.Written.{Written, WrittenOperation, ask_line, change_line, divide_line, elimination, equal_line, express_line, ext_line, ideal_line, let_line, module_line, nothing, of_polynomial, of_two, preimage, ring_line, show_line, syzygies}
use Rattle.script_forms.specs.declared.form.DivisionWord.TheVariants as divisions
use Rattle.script_forms.specs.declared.form.QuestionWord.TheVariants as questions
use Rattle.script_forms.specs.declared.operands.Binary.TheVariants as binaries
use Rattle.script_forms.specs.declared.operands.ByPolynomial.TheVariants as divisors
use Rattle.script_forms.proofs.Lines.{one_line}
use Rattle.script_parse.specs.Refusals.{Refuses, place_of_kind}
use Rattle.script_parse.specs.Statements.{ArePolynomialsOf, AreVectorsOf, HasEntries, IsOperationOf, IsSameOperation, IsSameStatement, Says, States, entries_from}
use Rattle.script_parse.specs.declared.kind.Kind.{Kind}
use Rattle.script_parse.specs.declared.kind.Kind.TheVariants as kinds
use Rattle.script_parse.specs.declared.named.NameInfo.{NameInfo}
use Rattle.script_parse.specs.declared.operation.Operation.{Operation}
use Rattle.script_parse.specs.declared.operation.Operation.TheVariants as operations
use Rattle.script_parse.specs.declared.stated.Statement.{Statement}
use Rattle.script_parse.specs.declared.stated.Statement.TheVariants as statements
use Rattle.script_parse.proofs.Working.{lawful}

pub apart : (ring : Option Ring) (infos : List NameInfo) (line : List ℕ) (a : Statement) (b : Kind) → States ring infos line a → Refuses ring infos line b → ⊥
apart ring infos line a b s r = s.free b r.holds

-- kinds at one place are one
kind_at : ℕ → Kind
kind_at n = cond (eqb n 1) kinds.Syntax (cond (eqb n 2) kinds.Numeral (cond (eqb n 3) kinds.Ring (cond (eqb n 4) kinds.Modulus (cond (eqb n 5) kinds.Name (cond (eqb n 6) kinds.OfKind (cond (eqb n 7) kinds.Rank (cond (eqb n 8) kinds.Degree (cond (eqb n 9) kinds.Homogeneous (cond (eqb n 10) kinds.Leads (cond (eqb n 11) kinds.Large (cond (eqb n 12) kinds.Infinite kinds.Many)))))))))))

at_place : (k : Kind) → kind_at (place_of_kind k) ≡ k
unfolding kind_at
at_place kinds.Syntax = refl
at_place kinds.Numeral = refl
at_place kinds.Ring = refl
at_place kinds.Modulus = refl
at_place kinds.Name = refl
at_place kinds.OfKind = refl
at_place kinds.Rank = refl
at_place kinds.Degree = refl
at_place kinds.Homogeneous = refl
at_place kinds.Leads = refl
at_place kinds.Large = refl
at_place kinds.Infinite = refl
at_place kinds.Many = refl

pub one_kind : (ring : Option Ring) (infos : List NameInfo) (line : List ℕ) (a b : Kind) → Refuses ring infos line a → Refuses ring infos line b → a ≡ b
one_kind ring infos line a b r s = by_cases (cases_lt (place_of_kind a) (place_of_kind b)) (cases_lt (place_of_kind b) (place_of_kind a))
  where
    by_cases : (place_of_kind a < place_of_kind b) ⊎ (place_of_kind b ≤ place_of_kind a) → (place_of_kind b < place_of_kind a) ⊎ (place_of_kind a ≤ place_of_kind b) → a ≡ b
    by_cases (inl lt) o = absurd (s.first a lt r.holds)
    by_cases (inr le) (inl lt) = absurd (r.first b lt s.holds)
    by_cases (inr le) (inr ge) = let e : place_of_kind a ≡ place_of_kind b = omega arith in sym (at_place a) ∙ ap kind_at e ∙ at_place b

same_value : (ring : Ring) (line : List ℕ) (p : Poly) (v w : List (Key × ℕ)) → IsVectorOver ring (ring_comparison ring) v → IsVectorOver ring (ring_comparison ring) w → IsValue ring line p v → IsValue ring line p w → v ≡ w
same_value ring line p v w hv hw x y =
    let e : x.value ≡ y.value = cc (x.worth_is, y.worth_is) in
    vector_unique ring (ring_comparison ring) 1 v w (lawful ring 1) hv hw
    (IsSame_trans x.stands (IsSame_sym (subst (λ z. IsSame ring.modulus.value (sum_of (variables ring) w) z) (sym e) y.stands)))

same_values : (ring : Ring) (line : List ℕ) (ps : List Poly) (vs ws : List (List (Key × ℕ))) → ArePolynomialsOf ring line ps vs → ArePolynomialsOf ring line ps ws → vs ≡ ws
same_values ring line [] [] [] h k = refl
same_values ring line [] [] (w ∷ ws) h k = absurd k
same_values ring line [] (v ∷ vs) ws h k = absurd h
same_values ring line (p ∷ ps) [] ws h k = absurd h
same_values ring line (p ∷ ps) (v ∷ vs) [] h k = absurd k
same_values ring line (p ∷ ps) (v ∷ vs) (w ∷ ws) h k = ap₂ (λ x l. x ∷ l) (same_value ring line p v w h.0.0 k.0.0 h.0.2 k.0.2) (same_values ring line ps vs ws h.1 k.1)

same_items : {A : Type 0} (xs ys : List A) → map Some xs ≡ map Some ys → xs ≡ ys
same_items [] [] e = refl
same_items [] (y ∷ ys) e = absurd cc
same_items (x ∷ xs) [] e = absurd cc
same_items (x ∷ xs) (y ∷ ys) e =
    let head : x ≡ y = cc in
    let tail : map Some xs ≡ map Some ys = cc in
    ap₂ (λ z l. z ∷ l) head (same_items xs ys tail)

same_vector :
    (ring : Ring) (line : List ℕ) (ps : List Poly) (v w : List (Key × ℕ)) → IsVectorOver ring (ring_comparison ring) v → IsVectorOver ring (ring_comparison ring) w → HasEntries ring line ps v → HasEntries ring line ps w → v ≡ w
same_vector ring line ps v w hv hw h k =
    let e : k.entries ≡ h.entries = same_items k.entries h.entries (sym k.worths_are ∙ h.worths_are) in
    vector_unique ring (ring_comparison ring) 1 v w (lawful ring 1) hv hw
    (IsSame_trans h.stands (IsSame_sym (subst (λ z. IsSame ring.modulus.value (sum_of (variables ring) w) (entries_from 0 z)) e k.stands)))

same_vectors : (ring : Ring) (line : List ℕ) (rank : ℕ) (ess : List (List Poly)) (vs ws : List (List (Key × ℕ))) → AreVectorsOf ring line rank ess vs → AreVectorsOf ring line rank ess ws → vs ≡ ws
same_vectors ring line rank [] [] [] h k = refl
same_vectors ring line rank [] [] (w ∷ ws) h k = absurd k
same_vectors ring line rank [] (v ∷ vs) ws h k = absurd h
same_vectors ring line rank (es ∷ ess) [] ws h k = absurd h
same_vectors ring line rank (es ∷ ess) (v ∷ vs) [] h k = absurd k
same_vectors ring line rank (es ∷ ess) (v ∷ vs) (w ∷ ws) h k =
    ap₂ (λ x l. x ∷ l) (same_vector ring line es v w h.0.0 k.0.0 h.0.2 k.0.2) (same_vectors ring line rank ess vs ws h.1 k.1)

operation_same : (ring : Ring) (line : List ℕ) (w : WrittenOperation) (a b : Operation) → IsOperationOf ring line w a → IsOperationOf ring line w b → IsSameOperation a b
operation_same ring line (of_two binaries.Sum s t) (operations.Sum a b) (operations.Sum c d) h k = (h.0 ∙ sym k.0, h.1 ∙ sym k.1)
operation_same ring line (of_two binaries.Sum s t) (operations.Sum a b) _ h k = absurd k
operation_same ring line (of_two binaries.Sum s t) _ b h k = absurd h
operation_same ring line (of_two binaries.Product s t) (operations.Product a b) (operations.Product c d) h k = (h.0 ∙ sym k.0, h.1 ∙ sym k.1)
operation_same ring line (of_two binaries.Product s t) (operations.Product a b) _ h k = absurd k
operation_same ring line (of_two binaries.Product s t) _ b h k = absurd h
operation_same ring line (of_two binaries.Intersect s t) (operations.Intersect a b) (operations.Intersect c d) h k = (h.0 ∙ sym k.0, h.1 ∙ sym k.1)
operation_same ring line (of_two binaries.Intersect s t) (operations.Intersect a b) _ h k = absurd k
operation_same ring line (of_two binaries.Intersect s t) _ b h k = absurd h
operation_same ring line (of_two binaries.Colon s t) (operations.Colon a b) (operations.Colon c d) h k = (h.0 ∙ sym k.0, h.1 ∙ sym k.1)
operation_same ring line (of_two binaries.Colon s t) (operations.Colon a b) _ h k = absurd k
operation_same ring line (of_two binaries.Colon s t) _ b h k = absurd h
operation_same ring line (of_polynomial divisors.Quotient t p) (operations.Quotient a f) (operations.Quotient b g) h k = (h.0 ∙ sym k.0, same_value ring line p f g h.1.0 k.1.0 h.1.2 k.1.2)
operation_same ring line (of_polynomial divisors.Quotient t p) (operations.Quotient a f) _ h k = absurd k
operation_same ring line (of_polynomial divisors.Quotient t p) _ b h k = absurd h
operation_same ring line (of_polynomial divisors.Saturate t p) (operations.Saturate a f) (operations.Saturate b g) h k = (h.0 ∙ sym k.0, same_value ring line p f g h.1.0 k.1.0 h.1.2 k.1.2)
operation_same ring line (of_polynomial divisors.Saturate t p) (operations.Saturate a f) _ h k = absurd k
operation_same ring line (of_polynomial divisors.Saturate t p) _ b h k = absurd h
operation_same ring line (elimination t c) (operations.Eliminate a m) (operations.Eliminate b n) h k = (h.0 ∙ sym k.0, h.1 ∙ sym k.1)
operation_same ring line (elimination t c) (operations.Eliminate a m) _ h k = absurd k
operation_same ring line (elimination t c) _ b h k = absurd h
operation_same ring line (syzygies t) (operations.Syzygies a) (operations.Syzygies b) h k = h ∙ sym k
operation_same ring line (syzygies t) (operations.Syzygies a) _ h k = absurd k
operation_same ring line (syzygies t) _ b h k = absurd h
operation_same ring line (preimage t ps) (operations.Preimage a v) (operations.Preimage b w) h k = (h.0 ∙ sym k.0, same_values ring line ps v w h.1 k.1)
operation_same ring line (preimage t ps) (operations.Preimage a v) _ h k = absurd k
operation_same ring line (preimage t ps) _ b h k = absurd h

says_same : (ring : Option Ring) (line : List ℕ) (w : Written) (a b : Statement) → Says ring line w a → Says ring line w b → IsSameStatement a b
says_same ring line nothing statements.Nothing statements.Nothing h k = tt
says_same ring line nothing statements.Nothing _ h k = absurd k
says_same ring line nothing _ b h k = absurd h
says_same ring line (ring_line r) (statements.Ring a) (statements.Ring b) h k = (
  h.modulus_is ∙ sym k.modulus_is,
  h.names_are ∙ sym k.names_are,
  h.order_is ∙ sym k.order_is,
  h.module_order_is ∙ sym k.module_order_is,
  h.weights_are ∙ sym k.weights_are,
)
says_same ring line (ring_line r) (statements.Ring a) _ h k = absurd k
says_same ring line (ring_line r) _ b h k = absurd h
says_same (Some ring) line (show_line p) (statements.Show v) (statements.Show w) h k = same_value ring line p v w h.0 k.0 h.2 k.2
says_same (Some ring) line (show_line p) (statements.Show v) _ h k = absurd k
says_same (Some ring) line (show_line p) _ b h k = absurd h
says_same None line (show_line p) a b h k = absurd h
says_same (Some ring) line (ideal_line t ps) (statements.Ideal a v) (statements.Ideal b w) h k = (h.0 ∙ sym k.0, same_values ring line ps v w h.1 k.1)
says_same (Some ring) line (ideal_line t ps) (statements.Ideal a v) _ h k = absurd k
says_same (Some ring) line (ideal_line t ps) _ b h k = absurd h
says_same None line (ideal_line t ps) a b h k = absurd h
says_same (Some ring) line (module_line t r es) (statements.Module a m v) (statements.Module b n w) h k = (h.0 ∙ sym k.0, h.1 ∙ sym k.1, same_vectors ring line _ es v w h.2 k.2)
says_same (Some ring) line (module_line t r es) (statements.Module a m v) _ h k = absurd k
says_same (Some ring) line (module_line t r es) _ b h k = absurd h
says_same None line (module_line t r es) a b h k = absurd h
says_same (Some ring) line (let_line t o) (statements.Let a x) (statements.Let b y) h k = (h.0 ∙ sym k.0, operation_same ring line o x y h.1 k.1)
says_same (Some ring) line (let_line t o) (statements.Let a x) _ h k = absurd k
says_same (Some ring) line (let_line t o) _ b h k = absurd h
says_same None line (let_line t o) a b h k = absurd h
says_same ring line (ask_line questions.Gens t) (statements.Gens a) (statements.Gens b) h k = h ∙ sym k
says_same ring line (ask_line questions.Gens t) (statements.Gens a) _ h k = absurd k
says_same ring line (ask_line questions.Gens t) _ b h k = absurd h
says_same ring line (ask_line questions.Gb t) (statements.Gb a) (statements.Gb b) h k = h ∙ sym k
says_same ring line (ask_line questions.Gb t) (statements.Gb a) _ h k = absurd k
says_same ring line (ask_line questions.Gb t) _ b h k = absurd h
says_same ring line (ask_line questions.Size t) (statements.Size a) (statements.Size b) h k = h ∙ sym k
says_same ring line (ask_line questions.Size t) (statements.Size a) _ h k = absurd k
says_same ring line (ask_line questions.Size t) _ b h k = absurd h
says_same ring line (ask_line questions.Hilbert t) (statements.Hilbert a) (statements.Hilbert b) h k = h ∙ sym k
says_same ring line (ask_line questions.Hilbert t) (statements.Hilbert a) _ h k = absurd k
says_same ring line (ask_line questions.Hilbert t) _ b h k = absurd h
says_same ring line (ask_line questions.Resolution t) (statements.Resolution a) (statements.Resolution b) h k = h ∙ sym k
says_same ring line (ask_line questions.Resolution t) (statements.Resolution a) _ h k = absurd k
says_same ring line (ask_line questions.Resolution t) _ b h k = absurd h
says_same ring line (ask_line questions.Minimal t) (statements.Minimal a) (statements.Minimal b) h k = h ∙ sym k
says_same ring line (ask_line questions.Minimal t) (statements.Minimal a) _ h k = absurd k
says_same ring line (ask_line questions.Minimal t) _ b h k = absurd h
says_same ring line (ask_line questions.Betti t) (statements.Betti a) (statements.Betti b) h k = h ∙ sym k
says_same ring line (ask_line questions.Betti t) (statements.Betti a) _ h k = absurd k
says_same ring line (ask_line questions.Betti t) _ b h k = absurd h
says_same ring line (ask_line questions.Regularity t) (statements.Regularity a) (statements.Regularity b) h k = h ∙ sym k
says_same ring line (ask_line questions.Regularity t) (statements.Regularity a) _ h k = absurd k
says_same ring line (ask_line questions.Regularity t) _ b h k = absurd h
says_same (Some ring) line (divide_line divisions.NormalForm t ps) (statements.NormalForm a v) (statements.NormalForm b w) h k = (h.0 ∙ sym k.0, same_vector ring line ps v w h.1.0 k.1.0 h.1.2 k.1.2)
says_same (Some ring) line (divide_line divisions.NormalForm t ps) (statements.NormalForm a v) _ h k = absurd k
says_same (Some ring) line (divide_line divisions.NormalForm t ps) _ b h k = absurd h
says_same (Some ring) line (divide_line divisions.Member t ps) (statements.Member a v) (statements.Member b w) h k = (h.0 ∙ sym k.0, same_vector ring line ps v w h.1.0 k.1.0 h.1.2 k.1.2)
says_same (Some ring) line (divide_line divisions.Member t ps) (statements.Member a v) _ h k = absurd k
says_same (Some ring) line (divide_line divisions.Member t ps) _ b h k = absurd h
says_same (Some ring) line (divide_line divisions.Lift t ps) (statements.Lift a v) (statements.Lift b w) h k = (h.0 ∙ sym k.0, same_vector ring line ps v w h.1.0 k.1.0 h.1.2 k.1.2)
says_same (Some ring) line (divide_line divisions.Lift t ps) (statements.Lift a v) _ h k = absurd k
says_same (Some ring) line (divide_line divisions.Lift t ps) _ b h k = absurd h
says_same None line (divide_line d t ps) a b h k = absurd h
says_same ring line (equal_line s t) (statements.Equal a b) (statements.Equal c d) h k = (h.0 ∙ sym k.0, h.1 ∙ sym k.1)
says_same ring line (equal_line s t) (statements.Equal a b) _ h k = absurd k
says_same ring line (equal_line s t) _ b h k = absurd h
says_same ring line (change_line t q) (statements.Change a o) (statements.Change b r) h k = (h.0 ∙ sym k.0, h.1 ∙ sym k.1)
says_same ring line (change_line t q) (statements.Change a o) _ h k = absurd k
says_same ring line (change_line t q) _ b h k = absurd h
says_same (Some ring) line (express_line p ps) (statements.Express f v) (statements.Express g w) h k = (same_value ring line p f g h.0.0 k.0.0 h.0.2 k.0.2, same_values ring line ps v w h.1 k.1)
says_same (Some ring) line (express_line p ps) (statements.Express f v) _ h k = absurd k
says_same (Some ring) line (express_line p ps) _ b h k = absurd h
says_same None line (express_line p ps) a b h k = absurd h
says_same ring line (ext_line t c) (statements.Ext a m) (statements.Ext b n) h k = (h.0 ∙ sym k.0, h.1 ∙ sym k.1)
says_same ring line (ext_line t c) (statements.Ext a m) _ h k = absurd k
says_same ring line (ext_line t c) _ b h k = absurd h

pub one_statement : (ring : Option Ring) (infos : List NameInfo) (line : List ℕ) (a b : Statement) → States ring infos line a → States ring infos line b → IsSameStatement a b
one_statement ring infos line a b s t =
    let e = one_line line t.written s.written t.is_line s.is_line in
    says_same ring line s.written a b s.says (subst (λ w. Says ring line w b) e t.says)
