-- What a line states
use Rattle.std.specs.Prelude.{Bool, List, Option, Some, [], false, length, map, replicate, string_bytes, true, ℕ, ◌++◌, ◌+◌, ◌∷◌, ◌≡◌}
use Rattle.monomials.specs.Exponents.{unit}
use Rattle.formal_sums.specs.FormalSums.{FormalSum, product}
use Rattle.script_tokens.specs.declared.token.Token.{Token}
use Rattle.poly_grammar.specs.Algebras.{worth}
use Rattle.poly_grammar.specs.Numerals.{numeral_value, text_of}
use Rattle.poly_grammar.specs.Trees.{Poly}
use Rattle.poly_value.specs.Values.{IsValue, polynomials_of}
use Rattle.monomial_orders.specs.declared.order.ModOrder.{ModOrder}
use Rattle.monomial_orders.specs.declared.order.ModOrder.TheVariants.{Pot, Top}
use Rattle.monomial_orders.specs.declared.order.Order.{Order}
use Rattle.monomial_orders.specs.declared.order.Order.TheVariants as orders
use Rattle.term_lists.specs.Rings.{ring_comparison, variables}
use Rattle.term_lists.specs.Vectors.{HasPositions, IsVectorOver, StandsFor}
use Rattle.term_lists.specs.declared.key.Key.{Key}
use Rattle.term_lists.specs.declared.ring.Ring.{Ring}
use Rattle.script_forms.specs.Written.{IsLine, RingLine, Written, WrittenOperation, ask_line, change_line, divide_line, elimination, equal_line, express_line, ext_line, ideal_line, let_line, module_line, nothing, of_polynomial, of_two, preimage, ring_line, show_line, syzygies}
use Rattle.script_forms.specs.declared.form.DivisionWord.TheVariants as divisions
use Rattle.script_forms.specs.declared.form.QuestionWord.TheVariants as questions
use Rattle.script_forms.specs.declared.operands.Binary.TheVariants as binaries
use Rattle.script_forms.specs.declared.operands.ByPolynomial.TheVariants as divisors
use Rattle.script_forms.specs.declared.ring_words.OrderName.{OrderName}
use Rattle.script_forms.specs.declared.ring_words.OrderName.TheVariants.{Elim, Grevlex, Lex}
use Rattle.script_parse.specs.Refusals.{RefusalHolds}
use Rattle.script_parse.specs.declared.kind.Kind.{Kind}
use Rattle.script_parse.specs.declared.named.NameInfo.{NameInfo}
use Rattle.script_parse.specs.declared.operation.Operation.{Operation}
use Rattle.script_parse.specs.declared.operation.Operation.TheVariants as operations
use Rattle.script_parse.specs.declared.stated.Statement.{Statement}
use Rattle.script_parse.specs.declared.stated.Statement.TheVariants as statements

-- the order of monomials that is stated
abbrev pub order_stated : List ℕ → OrderName → Order
order_stated line Lex = orders.Lex
order_stated line Grevlex = orders.Grevlex
order_stated line (Elim k) = orders.Elim (numeral_value line k)

-- term over position with `top`, else position over term
abbrev pub module_order_stated : Bool → ModOrder
module_order_stated true = Top
module_order_stated false = Pot

-- the weights of n variables that are stated: 1 for each where none are
abbrev pub weights_stated : List ℕ → ℕ → List Token → List ℕ
weights_stated line n [] = replicate n 1
weights_stated line n ts = map (numeral_value line) ts

-- a ring line makes this ring, of the modulus, variables, orders and weights that it states
pub record Makes (line : List ℕ) (r : RingLine) (ring : Ring) : Type 0 where
  pub modulus_is : ring.modulus.value ≡ numeral_value line r.modulus
  pub names_are : ring.vars ≡ map (text_of line) r.names
  pub order_is : ring.order ≡ order_stated line r.order
  pub module_order_is : ring.module_order ≡ module_order_stated r.top
  pub weights_are : ring.weights ≡ weights_stated line (length r.names) r.weights

-- the normal vector of rank 1 that stands for the value of the line's tree
abbrev pub IsPolynomialOf : Ring → List ℕ → Poly → List (Key × ℕ) → Type 0
IsPolynomialOf ring line p v = IsVectorOver ring (ring_comparison ring) v × HasPositions 1 v × IsValue ring line p v

-- one such vector for each tree, in order
abbrev pub ArePolynomialsOf : Ring → List ℕ → List Poly → List (List (Key × ℕ)) → Type 0
ArePolynomialsOf ring line [] [] = Unit {0}
ArePolynomialsOf ring line (p ∷ ps) (v ∷ vs) = IsPolynomialOf ring line p v × ArePolynomialsOf ring line ps vs
ArePolynomialsOf ring line _ _ = ⊥

-- x e_i + y e_(i + 1) + .., for polynomials x, y, ..
abbrev pub entries_from : {n : ℕ} → ℕ → List (FormalSum n) → FormalSum n
entries_from i [] = []
entries_from {n} i (x ∷ xs) = product x (((i, unit n), 1) ∷ []) ++ entries_from (i + 1) xs

-- terms stand for the vector whose entries are the values of the line's trees: entry i at position i, from 0
pub record HasEntries (ring : Ring) (line : List ℕ) (ps : List Poly) (terms : List (Key × ℕ)) : Type 0 where
  pub entries : List (FormalSum (variables ring))
  pub worths_are : map (worth (polynomials_of ring line)) ps ≡ map Some entries
  pub stands : StandsFor ring terms (entries_from 0 entries)

-- the normal vector of this rank with these entries
abbrev pub IsVectorOfRank : Ring → List ℕ → ℕ → List Poly → List (Key × ℕ) → Type 0
IsVectorOfRank ring line rank ps v = IsVectorOver ring (ring_comparison ring) v × HasPositions rank v × HasEntries ring line ps v

-- the normal vector with these entries, of as many positions
abbrev pub IsVectorWith : Ring → List ℕ → List Poly → List (Key × ℕ) → Type 0
IsVectorWith ring line ps v = IsVectorOfRank ring line (length ps) ps v

-- one vector of the rank for each list of entries, in order
abbrev pub AreVectorsOf : Ring → List ℕ → ℕ → List (List Poly) → List (List (Key × ℕ)) → Type 0
AreVectorsOf ring line rank [] [] = Unit {0}
AreVectorsOf ring line rank (es ∷ more) (v ∷ vs) = IsVectorOfRank ring line rank es v × AreVectorsOf ring line rank more vs
AreVectorsOf ring line rank _ _ = ⊥

-- the texts are those of both NAMEs
abbrev pub AreTextsOf : List ℕ → Token → Token → List ℕ → List ℕ → Type 0
AreTextsOf line left right first second = (first ≡ text_of line left) × (second ≡ text_of line right)

-- the operation that is written: its names are the texts of its NAMEs, its polynomials are in the ring's own order, and
-- its number is that of its NUM
abbrev pub IsOperationOf : Ring → List ℕ → WrittenOperation → Operation → Type 0
IsOperationOf ring line (of_two binaries.Sum left right) (operations.Sum b c) = AreTextsOf line left right (string_bytes b) (string_bytes c)
IsOperationOf ring line (of_two binaries.Product left right) (operations.Product b c) = AreTextsOf line left right (string_bytes b) (string_bytes c)
IsOperationOf ring line (of_two binaries.Intersect left right) (operations.Intersect b c) = AreTextsOf line left right (string_bytes b) (string_bytes c)
IsOperationOf ring line (of_two binaries.Colon left right) (operations.Colon b c) = AreTextsOf line left right (string_bytes b) (string_bytes c)
IsOperationOf ring line (of_polynomial divisors.Quotient value p) (operations.Quotient b f) = (string_bytes b ≡ text_of line value) × IsPolynomialOf ring line p f
IsOperationOf ring line (of_polynomial divisors.Saturate value p) (operations.Saturate b f) = (string_bytes b ≡ text_of line value) × IsPolynomialOf ring line p f
IsOperationOf ring line (elimination value count) (operations.Eliminate b k) = (string_bytes b ≡ text_of line value) × (k ≡ numeral_value line count)
IsOperationOf ring line (syzygies value) (operations.Syzygies b) = string_bytes b ≡ text_of line value
IsOperationOf ring line (preimage value ps) (operations.Preimage b images) = (string_bytes b ≡ text_of line value) × ArePolynomialsOf ring line ps images
IsOperationOf ring line _ _ = ⊥

-- what a line states: its vectors are in the ring's own order, and its names are the texts of its NAMEs
abbrev pub Says : Option Ring → List ℕ → Written → Statement → Type 0
Says ring line nothing statements.Nothing = Unit {0}
Says ring line (ring_line r) (statements.Ring made) = Makes line r made
Says (Some ring) line (show_line p) (statements.Show v) = IsPolynomialOf ring line p v
Says (Some ring) line (ideal_line given ps) (statements.Ideal name list) = (string_bytes name ≡ text_of line given) × ArePolynomialsOf ring line ps list
Says (Some ring) line (module_line given rank vectors) (statements.Module name r list) =
    (string_bytes name ≡ text_of line given) × (r ≡ numeral_value line rank) × AreVectorsOf ring line (numeral_value line rank) vectors list
Says (Some ring) line (let_line given written) (statements.Let name operation) = (string_bytes name ≡ text_of line given) × IsOperationOf ring line written operation
Says ring line (ask_line questions.Gens value) (statements.Gens name) = string_bytes name ≡ text_of line value
Says ring line (ask_line questions.Gb value) (statements.Gb name) = string_bytes name ≡ text_of line value
Says ring line (ask_line questions.Size value) (statements.Size name) = string_bytes name ≡ text_of line value
Says ring line (ask_line questions.Hilbert value) (statements.Hilbert name) = string_bytes name ≡ text_of line value
Says ring line (ask_line questions.Resolution value) (statements.Resolution name) = string_bytes name ≡ text_of line value
Says ring line (ask_line questions.Minimal value) (statements.Minimal name) = string_bytes name ≡ text_of line value
Says ring line (ask_line questions.Betti value) (statements.Betti name) = string_bytes name ≡ text_of line value
Says ring line (ask_line questions.Regularity value) (statements.Regularity name) = string_bytes name ≡ text_of line value
Says (Some ring) line (divide_line divisions.NormalForm value entries) (statements.NormalForm name v) = (string_bytes name ≡ text_of line value) × IsVectorWith ring line entries v
Says (Some ring) line (divide_line divisions.Member value entries) (statements.Member name v) = (string_bytes name ≡ text_of line value) × IsVectorWith ring line entries v
Says (Some ring) line (divide_line divisions.Lift value entries) (statements.Lift name v) = (string_bytes name ≡ text_of line value) × IsVectorWith ring line entries v
Says ring line (equal_line left right) (statements.Equal first second) = (string_bytes first ≡ text_of line left) × (string_bytes second ≡ text_of line right)
Says ring line (change_line value order) (statements.Change name made) = (string_bytes name ≡ text_of line value) × (made ≡ order_stated line order)
Says (Some ring) line (express_line p ps) (statements.Express f images) = IsPolynomialOf ring line p f × ArePolynomialsOf ring line ps images
Says ring line (ext_line value count) (statements.Ext name k) = (string_bytes name ≡ text_of line value) × (k ≡ numeral_value line count)
Says ring line _ _ = ⊥

-- the line states this, where this ring is stated and values have these names: it is written so, and no kind of refusal
-- holds
pub record States (ring : Option Ring) (names : List NameInfo) (line : List ℕ) (statement : Statement) : Type 0 where
  pub written : Written
  pub is_line : IsLine line written
  pub free : (kind : Kind) → RefusalHolds ring names line kind → ⊥
  pub says : Says ring line written statement

-- two operations are one: the same names, terms and numbers
abbrev pub IsSameOperation : Operation → Operation → Type 0
IsSameOperation (operations.Sum a b) (operations.Sum c d) = (string_bytes a ≡ string_bytes c) × (string_bytes b ≡ string_bytes d)
IsSameOperation (operations.Product a b) (operations.Product c d) = (string_bytes a ≡ string_bytes c) × (string_bytes b ≡ string_bytes d)
IsSameOperation (operations.Intersect a b) (operations.Intersect c d) = (string_bytes a ≡ string_bytes c) × (string_bytes b ≡ string_bytes d)
IsSameOperation (operations.Colon a b) (operations.Colon c d) = (string_bytes a ≡ string_bytes c) × (string_bytes b ≡ string_bytes d)
IsSameOperation (operations.Quotient a f) (operations.Quotient b g) = (string_bytes a ≡ string_bytes b) × (f ≡ g)
IsSameOperation (operations.Saturate a f) (operations.Saturate b g) = (string_bytes a ≡ string_bytes b) × (f ≡ g)
IsSameOperation (operations.Eliminate a j) (operations.Eliminate b k) = (string_bytes a ≡ string_bytes b) × (j ≡ k)
IsSameOperation (operations.Syzygies a) (operations.Syzygies b) = string_bytes a ≡ string_bytes b
IsSameOperation (operations.Preimage a v) (operations.Preimage b w) = (string_bytes a ≡ string_bytes b) × (v ≡ w)
IsSameOperation _ _ = ⊥

-- two statements are one: rings with the same modulus, names, orders and weights, or the same names, terms and numbers
abbrev pub IsSameStatement : Statement → Statement → Type 0
IsSameStatement statements.Nothing statements.Nothing = Unit {0}
IsSameStatement (statements.Ring a) (statements.Ring b) =
    (a.modulus.value ≡ b.modulus.value) × (a.vars ≡ b.vars) × (a.order ≡ b.order) × (a.module_order ≡ b.module_order) × (a.weights ≡ b.weights)
IsSameStatement (statements.Show v) (statements.Show w) = v ≡ w
IsSameStatement (statements.Ideal a v) (statements.Ideal b w) = (string_bytes a ≡ string_bytes b) × (v ≡ w)
IsSameStatement (statements.Module a r v) (statements.Module b s w) = (string_bytes a ≡ string_bytes b) × (r ≡ s) × (v ≡ w)
IsSameStatement (statements.Let a x) (statements.Let b y) = (string_bytes a ≡ string_bytes b) × IsSameOperation x y
IsSameStatement (statements.Gens a) (statements.Gens b) = string_bytes a ≡ string_bytes b
IsSameStatement (statements.Gb a) (statements.Gb b) = string_bytes a ≡ string_bytes b
IsSameStatement (statements.Size a) (statements.Size b) = string_bytes a ≡ string_bytes b
IsSameStatement (statements.Hilbert a) (statements.Hilbert b) = string_bytes a ≡ string_bytes b
IsSameStatement (statements.Resolution a) (statements.Resolution b) = string_bytes a ≡ string_bytes b
IsSameStatement (statements.Minimal a) (statements.Minimal b) = string_bytes a ≡ string_bytes b
IsSameStatement (statements.Betti a) (statements.Betti b) = string_bytes a ≡ string_bytes b
IsSameStatement (statements.Regularity a) (statements.Regularity b) = string_bytes a ≡ string_bytes b
IsSameStatement (statements.NormalForm a v) (statements.NormalForm b w) = (string_bytes a ≡ string_bytes b) × (v ≡ w)
IsSameStatement (statements.Member a v) (statements.Member b w) = (string_bytes a ≡ string_bytes b) × (v ≡ w)
IsSameStatement (statements.Lift a v) (statements.Lift b w) = (string_bytes a ≡ string_bytes b) × (v ≡ w)
IsSameStatement (statements.Equal a b) (statements.Equal c d) = (string_bytes a ≡ string_bytes c) × (string_bytes b ≡ string_bytes d)
IsSameStatement (statements.Change a o) (statements.Change b q) = (string_bytes a ≡ string_bytes b) × (o ≡ q)
IsSameStatement (statements.Express f v) (statements.Express g w) = (f ≡ g) × (v ≡ w)
IsSameStatement (statements.Ext a j) (statements.Ext b k) = (string_bytes a ≡ string_bytes b) × (j ≡ k)
IsSameStatement _ _ = ⊥
