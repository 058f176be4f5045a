-- Why a line is refused: each kind by its own sentence, and the first kind that holds
use Rattle.std.specs.Prelude.{Contains, List, None, Option, Some, [], false, if◌then◌else◌, length, map, nat_eq, string_bytes, ℕ, ◌<◌, ◌^◌, ◌∷◌, ◌≡◌, ◌≤◌, ◌⊎◌}
use Rattle.std.specs.Cmp.Lexicographic.{pointwise}
use Rattle.script_tokens.specs.Cuts.{HasTokens}
use Rattle.script_tokens.specs.declared.token.Token.{Token}
use Rattle.script_tokens.specs.declared.token.TokenKind.TheVariants.{Number}
use Rattle.poly_grammar.specs.Degrees.{formal_degree}
use Rattle.poly_grammar.specs.Lexemes.{names_in}
use Rattle.poly_grammar.specs.Numerals.{numeral_value, text_of}
use Rattle.poly_grammar.specs.Trees.{Poly, spelling}
use Rattle.zp_field.specs.Moduli.{is_modulus}
use Rattle.term_lists.specs.Rings.{variables}
use Rattle.term_lists.specs.declared.ring.Ring.{Ring}
use Rattle.poly_value.specs.Values.{name_weight}
use Rattle.script_forms.specs.Written.{IsLine, RingLine, Written, WrittenOperation, change_line, divide_line, elimination, equal_line, express_line, ext_line, given_by, ideal_line, let_line, module_line, nothing, of_two, polys_of, preimage, ring_line, syzygies, value_places}
use Rattle.script_forms.specs.declared.operands.Binary.TheVariants.{Colon, Intersect, Product, Sum}
use Rattle.script_forms.specs.declared.ring_words.OrderName.{OrderName}
use Rattle.script_forms.specs.declared.ring_words.OrderName.TheVariants.{Elim}
use Rattle.script_parse.specs.declared.kind.Kind.{Kind}
use Rattle.script_parse.specs.declared.kind.Kind.TheVariants as kinds
use Rattle.script_parse.specs.declared.named.NameInfo.{NameInfo}

-- a NUM of the line has a value of 2^128 or more
pub record HasGreatNumeral (line : List ℕ) : Type 0 where
  pub found : List Token
  pub cut : HasTokens line found
  pub numeral : Token
  pub stands : Contains found numeral
  pub is_number : numeral.kind ≡ Number
  pub great : 2 ^ 128 ≤ numeral_value line numeral

-- a text stands twice in the list
abbrev pub HasRepeat : List (List ℕ) → Type 0
HasRepeat [] = ⊥
HasRepeat (x ∷ xs) = Contains xs x ⊎ HasRepeat xs

-- the number is not from 1 to the last one
abbrev pub IsOutside : ℕ → ℕ → Type 0
IsOutside last k = (k ≡ 0) ⊎ (last < k)

-- an order `elim K` has K outside 1..n
abbrev pub HasOtherElim : List ℕ → ℕ → OrderName → Type 0
HasOtherElim line n (Elim k) = IsOutside n (numeral_value line k)
HasOtherElim line n _ = ⊥

-- weights that are stated are not n, or one of them is outside 1..255
abbrev pub HasOtherWeights : List ℕ → ℕ → List Token → Type 0
HasOtherWeights line n [] = ⊥
HasOtherWeights line n ts = (length ts ≡ n → ⊥) ⊎ ((t : Token) × Contains ts t × IsOutside 255 (numeral_value line t))

-- a ring line has more than 15 variables, a variable twice, `elim K` with K outside 1..n, a number of weights other than n, or
-- a weight outside 1..255, where n is the number of its variables
abbrev pub HasFaultyRing : List ℕ → RingLine → Type 0
HasFaultyRing line r =
    (15 < length r.names) ⊎ HasRepeat (map (text_of line) r.names) ⊎ HasOtherElim line (length r.names) r.order
    ⊎ HasOtherWeights line (length r.names) r.weights

-- the number is not from 1 to the number of the ring's variables
abbrev pub IsOutsideRing : Option Ring → ℕ → Type 0
IsOutsideRing None k = ⊥
IsOutsideRing (Some ring) k = IsOutside (variables ring) k

-- an order is `elim K`, and K is not from 1 to the number of the ring's variables
abbrev pub HasElimOutside : Option Ring → List ℕ → OrderName → Type 0
HasElimOutside None line order = ⊥
HasElimOutside (Some ring) line order = HasOtherElim line (variables ring) order

-- the number is above that of the ring's variables
abbrev pub IsAboveRing : Option Ring → ℕ → Type 0
IsAboveRing None k = ⊥
IsAboveRing (Some ring) k = variables ring < k

-- a ring line is faulty; another line that is not blank has no ring stated before it; `eliminate B K`, or `elim K` of `fglm`, has K
-- outside 1..n, or `ext A K` has K above n, where n is the number of the ring's variables
abbrev pub LacksRing : Option Ring → List ℕ → Written → Type 0
LacksRing ring line nothing = ⊥
LacksRing ring line (ring_line r) = HasFaultyRing line r
LacksRing ring line (let_line given (elimination value count)) = (ring ≡ None) ⊎ IsOutsideRing ring (numeral_value line count)
LacksRing ring line (change_line value order) = (ring ≡ None) ⊎ HasElimOutside ring line order
LacksRing ring line (ext_line value count) = (ring ≡ None) ⊎ IsAboveRing ring (numeral_value line count)
LacksRing ring line _ = ring ≡ None

-- the first number of a ring line is not in the table
abbrev pub HasOtherModulus : List ℕ → Written → Type 0
HasOtherModulus line (ring_line r) = is_modulus (numeral_value line r.modulus) ≡ false
HasOtherModulus line _ = ⊥

-- the rank of the value with this name; were there more, of the first of them
abbrev pub rank_named : List NameInfo → List ℕ → Option ℕ
rank_named [] text = None
rank_named (value ∷ names) text = if pointwise nat_eq (string_bytes value.name) text then Some value.rank else rank_named names text

-- the length of the stored list of the value with this name; were there more, of the first of them
abbrev pub length_named : List NameInfo → List ℕ → Option ℕ
length_named [] text = None
length_named (value ∷ names) text = if pointwise nat_eq (string_bytes value.name) text then Some value.length else length_named names text

-- the text is a variable of the ring
abbrev pub IsVariable : Option Ring → List ℕ → Type 0
IsVariable None text = ⊥
IsVariable (Some ring) text = Contains ring.vars text

-- the text is the name of a value
abbrev pub IsNamed : List NameInfo → List ℕ → Type 0
IsNamed names text = (rank : ℕ) × (rank_named names text ≡ Some rank)

-- the NAME stands in a POLY of the line
abbrev pub StandsInPoly : Written → Token → Type 0
StandsInPoly w t = (p : Poly) × Contains (polys_of w) p × Contains (names_in (spelling p)) t

-- a NAME in a POLY, or in a value's place, is neither a variable nor a value; or the NAME to be given is a variable
abbrev pub HasUnknownName : Option Ring → List NameInfo → List ℕ → Written → Type 0
HasUnknownName ring names line w =
    ((t : Token) × (StandsInPoly w t ⊎ Contains (value_places w) t) × (IsVariable ring (text_of line t) → ⊥) × (IsNamed names (text_of line t) → ⊥))
    ⊎ ((t : Token) × Contains (given_by w) t × IsVariable ring (text_of line t))

-- the value with this name has a rank above 1
abbrev pub HasHighRank : List NameInfo → List ℕ → Token → Type 0
HasHighRank names line value = (rank : ℕ) × (rank_named names (text_of line value) ≡ Some rank) × (1 < rank)

-- `product` has a first operand, or `preimage` a value, of a rank above 1
abbrev pub HasOtherFactor : List NameInfo → List ℕ → Written → Type 0
HasOtherFactor names line (let_line given (of_two Product left right)) = HasHighRank names line left
HasOtherFactor names line (let_line given (preimage value images)) = HasHighRank names line value
HasOtherFactor names line _ = ⊥

-- a NAME in a POLY is a value; or a NAME in a value's place is a variable; or a value that has to be an ideal is none
abbrev pub HasOtherKind : Option Ring → List NameInfo → List ℕ → Written → Type 0
HasOtherKind ring names line w =
    ((t : Token) × StandsInPoly w t × IsNamed names (text_of line t))
    ⊎ ((t : Token) × Contains (value_places w) t × IsVariable ring (text_of line t))
    ⊎ HasOtherFactor names line w

-- the values with these names have different ranks
abbrev pub HaveOtherRanks : List NameInfo → List ℕ → Token → Token → Type 0
HaveOtherRanks names line left right =
    (r s : ℕ) × (rank_named names (text_of line left) ≡ Some r) × (rank_named names (text_of line right) ≡ Some s) × (r ≡ s → ⊥)

-- the images are not as many as the ring's variables
abbrev pub HasOtherImages : Option Ring → List Poly → Type 0
HasOtherImages None images = ⊥
HasOtherImages (Some ring) images = length images ≡ variables ring → ⊥

-- the operands of `sum`, `intersect` or `colon` have different ranks, or that of `syz` has a stored list of a length outside 1..64, or
-- the images of `preimage` are not as many as the ring's variables
abbrev pub HasOtherOperands : Option Ring → List NameInfo → List ℕ → WrittenOperation → Type 0
HasOtherOperands ring names line (of_two Sum left right) = HaveOtherRanks names line left right
HasOtherOperands ring names line (of_two Intersect left right) = HaveOtherRanks names line left right
HasOtherOperands ring names line (of_two Colon left right) = HaveOtherRanks names line left right
HasOtherOperands ring names line (syzygies value) = (n : ℕ) × (length_named names (text_of line value) ≡ Some n) × IsOutside 64 n
HasOtherOperands ring names line (preimage value images) = HasOtherImages ring images
HasOtherOperands ring names line _ = ⊥

-- an ideal or a module has more than 1,000 vectors; a module's rank is outside 1..64, or a VEC of it has another number of
-- entries; the number of entries of a divided VEC is not the value's rank; the ranks of compared values differ; the
-- operands of an operation have other ranks or lengths than it takes; the value of `fglm` is of another rank than 1; the images of
-- `express` are not as many as the ring's variables
abbrev pub HasOtherRank : Option Ring → List NameInfo → List ℕ → Written → Type 0
HasOtherRank ring names line (ideal_line given ps) = 1000 < length ps
HasOtherRank ring names line (module_line given rank vectors) =
    IsOutside 64 (numeral_value line rank) ⊎ ((es : List Poly) × Contains vectors es × (length es ≡ numeral_value line rank → ⊥)) ⊎ (1000 < length vectors)
HasOtherRank ring names line (let_line given operation) = HasOtherOperands ring names line operation
HasOtherRank ring names line (divide_line division value entries) = (rank : ℕ) × (rank_named names (text_of line value) ≡ Some rank) × (length entries ≡ rank → ⊥)
HasOtherRank ring names line (equal_line left right) = HaveOtherRanks names line left right
HasOtherRank ring names line (change_line value order) = (rank : ℕ) × (rank_named names (text_of line value) ≡ Some rank) × (rank ≡ 1 → ⊥)
HasOtherRank ring names line (express_line p images) = HasOtherImages ring images
HasOtherRank ring names line _ = ⊥

-- the formal degree, by the ring's weights, of a POLY or of a part of it is above 1,000
abbrev pub HasGreatDegree : Option Ring → List ℕ → Written → Type 0
HasGreatDegree None line w = ⊥
HasGreatDegree (Some ring) line w =
    (p : Poly) × Contains (polys_of w) p × (formal_degree (λ t. name_weight ring (text_of line t)) (numeral_value line) p ≡ None)

-- the kind holds of the line, where this ring is stated and values have these names; the last five kinds hold of no line by itself:
-- the session tells them after the line's run
abbrev pub RefusalHolds : Option Ring → List NameInfo → List ℕ → Kind → Type 0
RefusalHolds ring names line kinds.Syntax = (w : Written) → IsLine line w → ⊥
RefusalHolds ring names line kinds.Numeral = HasGreatNumeral line
RefusalHolds ring names line kinds.Ring = (w : Written) × IsLine line w × LacksRing ring line w
RefusalHolds ring names line kinds.Modulus = (w : Written) × IsLine line w × HasOtherModulus line w
RefusalHolds ring names line kinds.Name = (w : Written) × IsLine line w × HasUnknownName ring names line w
RefusalHolds ring names line kinds.OfKind = (w : Written) × IsLine line w × HasOtherKind ring names line w
RefusalHolds ring names line kinds.Rank = (w : Written) × IsLine line w × HasOtherRank ring names line w
RefusalHolds ring names line kinds.Degree = (w : Written) × IsLine line w × HasGreatDegree ring line w
RefusalHolds ring names line kinds.Homogeneous = ⊥
RefusalHolds ring names line kinds.Leads = ⊥
RefusalHolds ring names line kinds.Large = ⊥
RefusalHolds ring names line kinds.Infinite = ⊥
RefusalHolds ring names line kinds.Many = ⊥

-- the place of a kind in the order in which they are tried
abbrev pub place_of_kind : Kind → ℕ
place_of_kind kinds.Syntax = 1
place_of_kind kinds.Numeral = 2
place_of_kind kinds.Ring = 3
place_of_kind kinds.Modulus = 4
place_of_kind kinds.Name = 5
place_of_kind kinds.OfKind = 6
place_of_kind kinds.Rank = 7
place_of_kind kinds.Degree = 8
place_of_kind kinds.Homogeneous = 9
place_of_kind kinds.Leads = 10
place_of_kind kinds.Large = 11
place_of_kind kinds.Infinite = 12
place_of_kind kinds.Many = 13

-- the line is refused for this kind: it holds, and none that is tried before it
pub record Refuses (ring : Option Ring) (names : List NameInfo) (line : List ℕ) (kind : Kind) : Type 0 where
  pub holds : RefusalHolds ring names line kind
  pub first : (earlier : Kind) → place_of_kind earlier < place_of_kind kind → RefusalHolds ring names line earlier → ⊥
