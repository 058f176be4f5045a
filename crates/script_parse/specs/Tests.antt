-- What the tests of a line find, and what is worked out of it
use Rattle.std.specs.Prelude.{Bool, Contains, Err, List, None, Ok, Option, Result, Some, Vec, [], false, if◌then◌else◌, is_some, drop, length, map, nat_eq, nat_le, not, take, true, ℕ, ◌&&◌, ◌*◌, ◌+◌, ◌<◌, ◌^◌, ◌||◌, ◌∷◌, ◌≡◌, ◌≤◌}
use Rattle.std.specs.Global.{Global}
use Rattle.std.specs.Cmp.Lexicographic.{pointwise}
use Rattle.std.specs.List.{AllByRecursion, list_all}
use Rattle.std.specs.Str.{IsAscii}
use Rattle.script_tokens.specs.declared.token.Token.{Token}
use Rattle.poly_grammar.specs.Algebras.{worth_of_steps}
use Rattle.poly_grammar.specs.Numerals.{numeral_value, text_of}
use Rattle.poly_grammar.specs.Steps.{numbers_of_steps, steps}
use Rattle.poly_grammar.specs.Trees.{Poly}
use Rattle.poly_grammar.specs.declared.step.PolyStep.{PolyStep}
use Rattle.poly_grammar.specs.declared.step.PolyStep.TheVariants as acts
use Rattle.formal_sums.specs.FormalSums.{FormalSum}
use Rattle.poly_value.specs.Values.{line_degrees, place_of, polynomials_of}
use Rattle.term_lists.specs.Rings.{ring_comparison, variables}
use Rattle.term_lists.specs.Vectors.{AreTermsOver, HasPositions, IsVectorOver, StandsFor}
use Rattle.term_lists.specs.declared.key.Key.{Key}
use Rattle.term_lists.specs.declared.ring.Ring.{Ring}
use Rattle.script_forms.specs.Forms.{IsFormOf, IsLineOf, operands_of}
use Rattle.script_forms.specs.Written.{IsLine, Written, WrittenOperation, operation_polys}
use Rattle.script_forms.specs.declared.form.Form.{Form}
use Rattle.script_forms.specs.declared.form.Form.TheVariants as forms
use Rattle.script_forms.specs.declared.form.Head.{Head}
use Rattle.script_forms.specs.declared.form.Head.TheVariants as heads
use Rattle.script_forms.specs.declared.operands.Binary.TheVariants.{Product}
use Rattle.script_forms.specs.declared.operands.Operands.{Operands}
use Rattle.script_forms.specs.declared.operands.Operands.TheVariants.{Eliminate, Polynomial, Preimage, Syzygies, Two}
use Rattle.script_forms.specs.declared.ring_words.OrderName.{OrderName}
use Rattle.script_forms.specs.declared.ring_words.OrderName.TheVariants.{Elim}
use Rattle.script_forms.specs.declared.vectors.Shape.{Shape}
use Rattle.script_forms.specs.declared.vectors.Shape.TheVariants as widths
use Rattle.script_parse.specs.Refusals.{HasGreatDegree, HasGreatNumeral, HasOtherKind, HasOtherModulus, HasOtherRank, HasUnknownName, IsOutside, LacksRing, length_named, place_of_kind, rank_named}
use Rattle.script_parse.specs.Statements.{IsOperationOf, Says, entries_from}
use Rattle.script_parse.specs.declared.kind.Kind.{Kind}
use Rattle.script_parse.specs.declared.kind.Kind.TheVariants as kinds
use Rattle.script_parse.specs.declared.kind.ParseStop.{ParseStop}
use Rattle.script_parse.specs.declared.kind.ParseStop.TheVariants as stops
use Rattle.script_parse.specs.declared.named.NameInfo.{NameInfo}
use Rattle.script_parse.specs.declared.operation.Operation.{Operation}
use Rattle.script_parse.specs.declared.stated.Statement.{Statement}

-- of a line written as w, the kind holds behind the tests of its tokens
abbrev pub HoldsOf : Option Ring → List NameInfo → List ℕ → Written → Kind → Type 0
HoldsOf ring names line w kinds.Syntax = ⊥
HoldsOf ring names line w kinds.Numeral = ⊥
HoldsOf ring names line w kinds.Ring = LacksRing ring line w
HoldsOf ring names line w kinds.Modulus = HasOtherModulus line w
HoldsOf ring names line w kinds.Name = HasUnknownName ring names line w
HoldsOf ring names line w kinds.OfKind = HasOtherKind ring names line w
HoldsOf ring names line w kinds.Rank = HasOtherRank ring names line w
HoldsOf ring names line w kinds.Degree = HasGreatDegree ring line w
HoldsOf ring names line w kinds.Homogeneous = ⊥
HoldsOf ring names line w kinds.Leads = ⊥
HoldsOf ring names line w kinds.Large = ⊥
HoldsOf ring names line w kinds.Infinite = ⊥
HoldsOf ring names line w kinds.Many = ⊥

-- what is answered to a line written as w whose numbers are below 2^128
abbrev pub AnswersForm : Option Ring → List NameInfo → List ℕ → Written → Result Statement ParseStop → Type 0
AnswersForm ring names line w (Ok statement) = Says ring line w statement × ((kind : Kind) → HoldsOf ring names line w kind → ⊥)
AnswersForm ring names line w (Err stops.Memory) = Unit {0}
AnswersForm ring names line w (Err (stops.Refused kind)) = HoldsOf ring names line w kind × ((earlier : Kind) → place_of_kind earlier < place_of_kind kind → HoldsOf ring names line w earlier → ⊥)

-- the names of an operation in a value's place
abbrev pub operand_places : Operands → List Token
operand_places (Two word left right) = left ∷ right ∷ []
operand_places (Polynomial word value) = value ∷ []
operand_places (Eliminate value count) = value ∷ []
operand_places (Syzygies value) = value ∷ []
operand_places (Preimage value) = value ∷ []

-- the names of a head in a value's place
abbrev pub value_operands : Head → List Token
value_operands (heads.Let given operands) = operand_places operands
value_operands (heads.Ask question value) = value ∷ []
value_operands (heads.Divide division value) = value ∷ []
value_operands (heads.Equal left right) = left ∷ right ∷ []
value_operands (heads.Change value order) = value ∷ []
value_operands (heads.Ext value count) = value ∷ []
value_operands _ = []

-- the name of a head to be given
abbrev pub given_name : Head → List Token
given_name (heads.Ideal given) = given ∷ []
given_name (heads.Module given rank shape) = given ∷ []
given_name (heads.Let given operands) = given ∷ []
given_name _ = []

-- all names of a head
abbrev pub head_names : Head → List Token
head_names (heads.Ideal given) = given ∷ []
head_names (heads.Module given rank shape) = given ∷ []
head_names (heads.Let given operands) = given ∷ operand_places operands
head_names head = value_operands head

-- the steps are those of some POLY
abbrev pub AreStepsOfPolynomial : Vec PolyStep Global → Type 0
AreStepsOfPolynomial v = (p : Poly) × (v.items ≡ steps p)

-- their numbers are below 2^128
abbrev pub HaveNumerals : List ℕ → Vec PolyStep Global → Type 0
HaveNumerals line v = AllByRecursion (λ t. numeral_value line t < 2 ^ 128) (numbers_of_steps v.items)

-- the names of a form are ASCII, and its numbers are below 2^128
abbrev pub IsWellFormed : List ℕ → Form → Type 0
IsWellFormed line forms.Nothing = Unit {0}
IsWellFormed line (forms.Ring form) = AllByRecursion (λ t. IsAscii (text_of line t)) form.names.items
IsWellFormed line (forms.Line head pieces) =
    AllByRecursion (λ t. IsAscii (text_of line t)) (head_names head) × AllByRecursion (HaveNumerals line) pieces.items

-- the form of a line whose numbers are below 2^128, or the kind of these two that holds first
abbrev pub IsFormed : List ℕ → Result Form ParseStop → Type 0
IsFormed line (Ok form) = (w : Written) × IsLine line w × IsFormOf form w × IsWellFormed line form × (HasGreatNumeral line → ⊥)
IsFormed line (Err stops.Memory) = Unit {0}
IsFormed line (Err (stops.Refused kinds.Syntax)) = (w : Written) → IsLine line w → ⊥
IsFormed line (Err (stops.Refused kinds.Numeral)) = HasGreatNumeral line × ((w : Written) × IsLine line w)
IsFormed line (Err (stops.Refused kind)) = ⊥

-- whether one of the tokens has this text
abbrev pub stands_among : List ℕ → List ℕ → List Token → Bool
stands_among line word [] = false
stands_among line word (t ∷ ts) = if pointwise nat_eq (text_of line t) word then true else stands_among line word ts

-- whether a text stands twice
abbrev pub repeats : List ℕ → List Token → Bool
repeats line [] = false
repeats line (t ∷ ts) = if stands_among line (text_of line t) ts then true else repeats line ts

-- whether each name among the steps is a variable
abbrev pub knows : List (List ℕ) → List ℕ → List PolyStep → Bool
knows vars line [] = true
knows vars line (acts.Name t ∷ xs) = if is_some (place_of vars (text_of line t)) then knows vars line xs else false
knows vars line (_ ∷ xs) = knows vars line xs

-- whether each name among the steps passes the test
abbrev pub names_pass : (List ℕ → Bool) → List ℕ → List PolyStep → Bool
names_pass test line [] = true
names_pass test line (acts.Name t ∷ xs) = if test (text_of line t) then names_pass test line xs else false
names_pass test line (_ ∷ xs) = names_pass test line xs

-- whether a text is a variable or the name of a value
abbrev pub is_known : List (List ℕ) → List NameInfo → List ℕ → Bool
is_known vars names text = is_some (place_of vars text) || is_some (rank_named names text)

-- whether it is not the name of a value
abbrev pub is_no_value : List NameInfo → List ℕ → Bool
is_no_value names text = not (is_some (rank_named names text))

-- whether it is no variable
abbrev pub is_no_variable : List (List ℕ) → List ℕ → Bool
is_no_variable vars text = not (is_some (place_of vars text))

-- whether the names of a line, by its head and the steps of its POLYs, are known, and the one to be given is no variable
abbrev pub known_names : List (List ℕ) → List NameInfo → List ℕ → Head → List (Vec PolyStep Global) → Bool
known_names vars names line head pieces =
    (list_all (λ t. is_known vars names (text_of line t)) (value_operands head) && list_all (λ t. is_no_variable vars (text_of line t)) (given_name head))
    && list_all (λ v. names_pass (is_known vars names) line v.items) pieces

-- whether a rank, if there is one, is at most 1
abbrev pub low_rank : Option ℕ → Bool
low_rank (Some r) = nat_le r 1
low_rank None = true

-- whether the first operand of `product`, or the value of `preimage`, has no rank above 1
abbrev pub operands_low : List NameInfo → List ℕ → Operands → Bool
operands_low names line (Two Product left right) = low_rank (rank_named names (text_of line left))
operands_low names line (Preimage value) = low_rank (rank_named names (text_of line value))
operands_low names line _ = true

-- the same of a head
abbrev pub factor_fits : List NameInfo → List ℕ → Head → Bool
factor_fits names line (heads.Let given operands) = operands_low names line operands
factor_fits names line _ = true

-- whether no name in a POLY is a value, none in a value's place a variable, and a value that has to be an ideal is one
abbrev pub right_kinds : List (List ℕ) → List NameInfo → List ℕ → Head → List (Vec PolyStep Global) → Bool
right_kinds vars names line head pieces =
    (list_all (λ t. is_no_variable vars (text_of line t)) (value_operands head) && factor_fits names line head)
    && list_all (λ v. names_pass (is_no_value names) line v.items) pieces

-- whether the number is from 1 to the last one
abbrev pub within : ℕ → ℕ → Bool
within last k = nat_le 1 k && nat_le k last

-- whether `eliminate` has a number from 1 to n
abbrev pub operands_eliminate : ℕ → List ℕ → Operands → Bool
operands_eliminate n line (Eliminate value count) = within n (numeral_value line count)
operands_eliminate n line _ = true

-- an order is `elim K`, and K is 2^32 or more
abbrev pub HasGreatElim : List ℕ → OrderName → Type 0
HasGreatElim line (Elim k) = 2 ^ 32 ≤ numeral_value line k
HasGreatElim line _ = ⊥

-- whether an order `elim` has one
abbrev pub order_eliminates : ℕ → List ℕ → OrderName → Bool
order_eliminates n line (Elim k) = within n (numeral_value line k)
order_eliminates n line _ = true

-- the same of a head, or whether the number of `ext` is at most n
abbrev pub number_fits : ℕ → List ℕ → Head → Bool
number_fits n line (heads.Let given operands) = operands_eliminate n line operands
number_fits n line (heads.Change value order) = order_eliminates n line order
number_fits n line (heads.Ext value count) = nat_le (numeral_value line count) n
number_fits n line _ = true

-- whether ranks are the same, where there are two
abbrev pub same_rank : Option ℕ → Option ℕ → Bool
same_rank (Some r) (Some s) = nat_eq r s
same_rank _ _ = true

-- whether a length, if there is one, is from 1 to 64
abbrev pub length_fits : Option ℕ → Bool
length_fits (Some n) = within 64 n
length_fits None = true

-- whether the ranks and lengths of operands fit, with so many polynomials in n variables
abbrev pub operands_fit : ℕ → List NameInfo → List ℕ → Operands → ℕ → Bool
operands_fit n names line (Two Product left right) count = true
operands_fit n names line (Two _ left right) count = same_rank (rank_named names (text_of line left)) (rank_named names (text_of line right))
operands_fit n names line (Syzygies value) count = length_fits (length_named names (text_of line value))
operands_fit n names line (Preimage value) count = nat_eq count n
operands_fit n names line _ count = true

-- whether all vectors of the shape have so many entries
abbrev pub has_width : ℕ → Shape → Bool
has_width rank widths.Empty = true
has_width rank (widths.Each n) = nat_eq n rank
has_width rank widths.Mixed = false

-- whether vectors of the shape with so many entries in all are at most 1,000 of the rank, which is from 1 to 64
abbrev pub module_fits : ℕ → Shape → ℕ → Bool
module_fits rank shape count = (within 64 rank && has_width rank shape) && nat_le count (1000 * rank)

-- whether the ranks of a head fit, with so many polynomials in n variables
abbrev pub rank_fits : ℕ → List NameInfo → List ℕ → Head → ℕ → Bool
rank_fits n names line (heads.Ideal given) count = nat_le count 1000
rank_fits n names line (heads.Module given rank shape) count = module_fits (numeral_value line rank) shape count
rank_fits n names line (heads.Let given operands) count = operands_fit n names line operands count
rank_fits n names line (heads.Divide division value) count = same_rank (rank_named names (text_of line value)) (Some count)
rank_fits n names line (heads.Equal left right) count = same_rank (rank_named names (text_of line left)) (rank_named names (text_of line right))
rank_fits n names line (heads.Change value order) count = same_rank (rank_named names (text_of line value)) (Some 1)
rank_fits n names line heads.Express count = nat_eq count (n + 1)
rank_fits n names line _ count = true

-- whether steps have a formal degree, by the ring's weights, of at most 1,000
abbrev pub low_degree : Ring → List ℕ → List PolyStep → Bool
low_degree ring line xs = is_some (worth_of_steps (line_degrees ring line) xs)

-- a polynomial that can be worked out
pub record IsWorkable (ring : Ring) (line : List ℕ) (v : Vec PolyStep Global) : Type 0 where
  pub worth : (x : FormalSum (variables ring)) × (worth_of_steps (polynomials_of ring line) v.items ≡ Some x)
  pub degree : (d : ℕ) × (worth_of_steps (line_degrees ring line) v.items ≡ Some d)
  pub numerals : AllByRecursion (λ t. numeral_value line t < 2 ^ 128) (numbers_of_steps v.items)

-- the normal vector of rank 1 that steps are worth
pub record IsWorth (ring : Ring) (line : List ℕ) (xs : List PolyStep) (u : List (Key × ℕ)) : Type 0 where
  pub vector : IsVectorOver ring (ring_comparison ring) u
  pub polynomial : HasPositions 1 u
  pub value : (x : FormalSum (variables ring)) → worth_of_steps (polynomials_of ring line) xs ≡ Some x → StandsFor ring u x

-- one such vector for each
abbrev pub AreWorths : Ring → List ℕ → List (Vec PolyStep Global) → List (List (Key × ℕ)) → Type 0
AreWorths ring line [] [] = Unit {0}
AreWorths ring line (v ∷ pieces) (u ∷ us) = IsWorth ring line v.items u × AreWorths ring line pieces us
AreWorths ring line _ _ = ⊥

-- the terms, at this position
abbrev pub moved_to : ℕ → List (Key × ℕ) → List (Key × ℕ)
moved_to i terms = map (λ t. (record { position = i; monomial = t.0.monomial }, t.1)) terms

-- terms stand for the vector that has what the steps are worth for its entries
pub record StandsForEntries (ring : Ring) (line : List ℕ) (pieces : List (Vec PolyStep Global)) (terms : List (Key × ℕ)) : Type 0 where
  pub entries : List (FormalSum (variables ring))
  pub worths_are : map (λ v. worth_of_steps (polynomials_of ring line) v.items) pieces ≡ map Some entries
  pub stands : StandsFor ring terms (entries_from 0 entries)

-- terms in any order that do
pub record HasEntryTerms (ring : Ring) (line : List ℕ) (pieces : List (Vec PolyStep Global)) (terms : List (Key × ℕ)) : Type 0 where
  pub over : AreTermsOver ring terms
  pub positions : HasPositions (length pieces) terms
  pub stands : StandsForEntries ring line pieces terms

-- the normal vector that has what the steps are worth for its entries
pub record IsVectorWorth (ring : Ring) (line : List ℕ) (pieces : List (Vec PolyStep Global)) (u : List (Key × ℕ)) : Type 0 where
  pub vector : IsVectorOver ring (ring_comparison ring) u
  pub positions : HasPositions (length pieces) u
  pub entries : StandsForEntries ring line pieces u

-- one such vector for each so many of the pieces
abbrev pub AreVectorWorths : Ring → List ℕ → ℕ → List (Vec PolyStep Global) → List (List (Key × ℕ)) → Type 0
AreVectorWorths ring line rank pieces [] = pieces ≡ []
AreVectorWorths ring line rank pieces (u ∷ us) =
    (0 < length pieces) × IsVectorWorth ring line (take rank pieces) u × AreVectorWorths ring line rank (drop rank pieces) us

-- what is stated of operands and these polynomials is the operation that is written
abbrev pub IsOperationStated : Ring → List ℕ → Operands → List (Vec PolyStep Global) → Result Operation ParseStop → Type 0
IsOperationStated ring line operands pieces (Ok operation) =
    (w : WrittenOperation) → operands_of w ≡ operands → map (λ v. v.items) pieces ≡ map steps (operation_polys w) → IsOperationOf ring line w operation
IsOperationStated ring line operands pieces (Err stops.Memory) = Unit {0}
IsOperationStated ring line operands pieces (Err (stops.Refused kind)) = ⊥

-- what is stated of a line with this head and these polynomials is what it says
abbrev pub IsStated : Ring → List ℕ → Head → List (Vec PolyStep Global) → Result Statement ParseStop → Type 0
IsStated ring line head pieces (Ok statement) = (w : Written) → IsLineOf head pieces w → Says (Some ring) line w statement
IsStated ring line head pieces (Err stops.Memory) = Unit {0}
IsStated ring line head pieces (Err (stops.Refused kind)) = ⊥

-- the weights are those of the NUMs, each from 1 to 255
abbrev pub AreListedWeights : List ℕ → List Token → List ℕ → Type 0
AreListedWeights line [] [] = Unit {0}
AreListedWeights line (t ∷ ts) (w ∷ ws) = (w ≡ numeral_value line t) × (IsOutside 255 w → ⊥) × AreListedWeights line ts ws
AreListedWeights line _ _ = ⊥

-- they are, or none where one of the NUMs is outside 1..255
abbrev pub AreWeighedAll : List ℕ → List Token → Option (List ℕ) → Type 0
AreWeighedAll line ts (Some ws) = AreListedWeights line ts ws
AreWeighedAll line ts None = (t : Token) × Contains ts t × IsOutside 255 (numeral_value line t)

-- what is stated, where it is not faulty, and none where it is
abbrev pub IsGood : {X : Type 0} → X → Type 0 → Option X → Type 0
IsGood stated Faulty (Some x) = (x ≡ stated) × (Faulty → ⊥)
IsGood stated Faulty None = Faulty
