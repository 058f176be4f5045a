-- Which statements are fit to be done: their names are those of values, and their vectors and lists are over the ring
use Rattle.std.specs.Prelude.{List, Some, length, string_bytes, ℕ, ◌≡◌, ◌≤◌}
use Rattle.formal_sums.specs.FormalSums.{Each}
use Rattle.term_lists.specs.Rings.{ring_comparison, variables}
use Rattle.term_lists.specs.Vectors.{AreVectorsOver, HasPositions, IsVectorOver}
use Rattle.term_lists.specs.declared.key.Key.{Key}
use Rattle.term_lists.specs.declared.ring.Ring.{Ring}
use Rattle.script_parse.specs.declared.operation.Operation.{Operation}
use Rattle.script_parse.specs.declared.operation.Operation.TheVariants as operations
use Rattle.script_parse.specs.declared.stated.Statement.{Statement}
use Rattle.script_parse.specs.declared.stated.Statement.TheVariants as statements
use Rattle.session_values.specs.Kept.{IsListOver, IsPolynomialOver, IsValueRank}
use Rattle.session_values.specs.Names.{HasValue, ScriptState, Value}

-- a value has this name
abbrev pub IsGiven : ScriptState → List ℕ → Type 0
IsGiven before name = (ring : Ring) × (value : Value) × HasValue before name ring value

-- an ideal has this name
abbrev pub IsIdealGiven : ScriptState → List ℕ → Type 0
IsIdealGiven before name = (ring : Ring) × (value : Value) × HasValue before name ring value × (value.rank ≡ 1)

-- a value has this name, and the vector is of its rank over the ring
abbrev pub IsOfValue : ScriptState → List ℕ → List (Key × ℕ) → Type 0
IsOfValue before name v = (ring : Ring) × (value : Value) × HasValue before name ring value × IsVectorOver ring (ring_comparison ring) v

-- the same, and the vector has as many entries as the value
abbrev pub IsOfValueRank : ScriptState → List ℕ → List (Key × ℕ) → Type 0
IsOfValueRank before name v =
    (ring : Ring) × (value : Value) × HasValue before name ring value × IsVectorOver ring (ring_comparison ring) v × HasPositions value.rank v

-- two values have these names, and their ranks pass the test
abbrev pub AreGiven : ScriptState → (first second : List ℕ) → (ℕ → ℕ → Type 0) → Type 0
AreGiven before first second Test =
    (ring : Ring) × (left : Value) × (right : Value) × HasValue before first ring left × HasValue before second ring right × Test left.rank right.rank

-- a value has this name, and the vector is a polynomial over the ring
abbrev pub IsWithPolynomial : ScriptState → List ℕ → List (Key × ℕ) → Type 0
IsWithPolynomial before name f =
    (ring : Ring) × (value : Value) × HasValue before name ring value × IsVectorOver ring (ring_comparison ring) f × HasPositions 1 f

-- the list has a polynomial over the ring for each of its variables
abbrev pub AreImages : Ring → List (List (Key × ℕ)) → Type 0
AreImages ring images = IsListOver ring 1 images × (length images ≡ variables ring)

-- the operation's names are those of values that it can work on
abbrev pub IsOperable : ScriptState → Operation → Type 0
IsOperable before (operations.Sum a b) = AreGiven before (string_bytes a) (string_bytes b) (λ r s. r ≡ s)
IsOperable before (operations.Product a b) = AreGiven before (string_bytes a) (string_bytes b) (λ r s. r ≤ 1)
IsOperable before (operations.Intersect a b) = AreGiven before (string_bytes a) (string_bytes b) (λ r s. r ≡ s)
IsOperable before (operations.Colon a b) = AreGiven before (string_bytes a) (string_bytes b) (λ r s. r ≡ s)
IsOperable before (operations.Quotient a f) = IsWithPolynomial before (string_bytes a) f
IsOperable before (operations.Saturate a f) = IsWithPolynomial before (string_bytes a) f
IsOperable before (operations.Eliminate a k) = IsGiven before (string_bytes a)
IsOperable before (operations.Syzygies a) =
    (ring : Ring) × (value : Value) × HasValue before (string_bytes a) ring value × IsValueRank (length value.list)
IsOperable before (operations.Preimage a images) =
    (ring : Ring) × (value : Value) × HasValue before (string_bytes a) ring value × (value.rank ≤ 1) × AreImages ring images

-- what a statement that is read from a line says is fit to be done
abbrev pub IsFit : ScriptState → Statement → Type 0
IsFit before statements.Nothing = Unit {0}
IsFit before (statements.Ring ring) = Unit {0}
IsFit before (statements.Show v) = (ring : Ring) × (before.ring ≡ Some ring) × IsVectorOver ring (ring_comparison ring) v
IsFit before (statements.Ideal name list) =
    (ring : Ring) × (before.ring ≡ Some ring) × AreVectorsOver ring (ring_comparison ring) list × Each (HasPositions 1) list
IsFit before (statements.Module name rank list) =
    (ring : Ring) × (before.ring ≡ Some ring) × AreVectorsOver ring (ring_comparison ring) list × Each (HasPositions rank) list × IsValueRank rank
IsFit before (statements.Let name operation) = IsOperable before operation
IsFit before (statements.Gens name) = IsGiven before (string_bytes name)
IsFit before (statements.Gb name) = IsGiven before (string_bytes name)
IsFit before (statements.Size name) = IsGiven before (string_bytes name)
IsFit before (statements.NormalForm name v) = IsOfValue before (string_bytes name) v
IsFit before (statements.Member name v) = IsOfValue before (string_bytes name) v
IsFit before (statements.Lift name v) = IsOfValueRank before (string_bytes name) v
IsFit before (statements.Hilbert name) = IsGiven before (string_bytes name)
IsFit before (statements.Resolution name) = IsGiven before (string_bytes name)
IsFit before (statements.Minimal name) = IsGiven before (string_bytes name)
IsFit before (statements.Betti name) = IsGiven before (string_bytes name)
IsFit before (statements.Regularity name) = IsGiven before (string_bytes name)
IsFit before (statements.Change name order) = IsIdealGiven before (string_bytes name)
IsFit before (statements.Equal first second) = AreGiven before (string_bytes first) (string_bytes second) (λ r s. r ≡ s)
IsFit before (statements.Express f images) = (ring : Ring) × (before.ring ≡ Some ring) × IsPolynomialOver ring f × AreImages ring images
IsFit before (statements.Ext name step) = IsGiven before (string_bytes name)
