-- The operations that give a value its list (IVA chapter 3, sections 1 and 3 and chapter 4, sections 3 and 4; UAG chapter 5, section 3)
use Rattle.std.specs.Prelude.{List, length, string_bytes, ℕ, ◌++◌, ◌≡◌}
use Rattle.formal_sums.specs.Combinations.{IsMember, IsSyzygy}
use Rattle.formal_sums.specs.FormalSums.{Each, FormalSum, IsOfRank, product}
use Rattle.division_laws.specs.Elimination.{has_none_of_first}
use Rattle.operation_laws.specs.Operations.{IsCombinationOfKept, IsInSaturation, products_of}
use Rattle.term_lists.specs.Rings.{variables}
use Rattle.term_lists.specs.Vectors.{sum_of, sums_of}
use Rattle.term_lists.specs.declared.key.Key.{Key}
use Rattle.term_lists.specs.declared.ring.Ring.{Ring}
use Rattle.module_vectors.specs.declared.trail.KeptTrail.{KeptTrail}
use Rattle.syzygy_engine.specs.Answers.{IsBasisOfThose}
use Rattle.syzygy_engine.specs.Kernels.{IsSyzygyRun}
use Rattle.ideal_ops.specs.Components.{AreColonRuns, AreQuotientRuns}
use Rattle.ideal_ops.specs.FrontVariable.{AreIntersectionRuns, AreSaturationRuns, IsTrailOfIntersection, IsTrailOfSaturation}
use Rattle.ideal_ops.specs.Products.{IsProductRun, IsTrailOfProducts}
use Rattle.ideal_ops.specs.Runs.{AreEliminationRuns, IsRunOn}
use Rattle.ring_maps.specs.Graphs.{ArePreimageRuns}
use Rattle.ring_maps.specs.Maps.{IsInPreimage}
use Rattle.script_parse.specs.declared.operation.Operation.{Operation}
use Rattle.script_parse.specs.declared.operation.Operation.TheVariants as operations
use Rattle.session_values.specs.Names.{HasValue, ScriptState, Value}

abbrev pub TermList : Type 0
TermList = List (Key × ℕ)

-- an operation with the rank of its vectors and the lists that it works on; in a product the rank is that of the second list, in a
-- preimage all are polynomials
pub data TaskShown : Type 0 where
  sum : (rank : ℕ) (left right : List TermList) → TaskShown
  multiply : (rank : ℕ) (left right : List TermList) → TaskShown
  intersect : (rank : ℕ) (left right : List TermList) → TaskShown
  colon : (rank : ℕ) (left right : List TermList) → TaskShown
  quotient : (rank : ℕ) (list : List TermList) (f : TermList) → TaskShown
  saturate : (rank : ℕ) (list : List TermList) (f : TermList) → TaskShown
  eliminate : (rank : ℕ) (list : List TermList) (k : ℕ) → TaskShown
  syzygies : (rank : ℕ) (list : List TermList) → TaskShown
  preimage : (images list : List TermList) → TaskShown

-- the operation works on the stored lists of the values with its names
abbrev pub WorksOn : ScriptState → Operation → Ring → TaskShown → Type 0
WorksOn before (operations.Sum a b) ring work =
    (left right : Value) × HasValue before (string_bytes a) ring left × HasValue before (string_bytes b) ring right
    × (work ≡ sum left.rank left.list right.list)
WorksOn before (operations.Product a b) ring work =
    (left right : Value) × HasValue before (string_bytes a) ring left × HasValue before (string_bytes b) ring right
    × (work ≡ multiply right.rank left.list right.list)
WorksOn before (operations.Intersect a b) ring work =
    (left right : Value) × HasValue before (string_bytes a) ring left × HasValue before (string_bytes b) ring right
    × (work ≡ intersect left.rank left.list right.list)
WorksOn before (operations.Colon a b) ring work =
    (left right : Value) × HasValue before (string_bytes a) ring left × HasValue before (string_bytes b) ring right
    × (work ≡ colon left.rank left.list right.list)
WorksOn before (operations.Quotient a f) ring work = (value : Value) × HasValue before (string_bytes a) ring value × (work ≡ quotient value.rank value.list f)
WorksOn before (operations.Saturate a f) ring work = (value : Value) × HasValue before (string_bytes a) ring value × (work ≡ saturate value.rank value.list f)
WorksOn before (operations.Eliminate a k) ring work = (value : Value) × HasValue before (string_bytes a) ring value × (work ≡ eliminate value.rank value.list k)
WorksOn before (operations.Syzygies a) ring work = (value : Value) × HasValue before (string_bytes a) ring value × (work ≡ syzygies value.rank value.list)
WorksOn before (operations.Preimage a images) ring work = (value : Value) × HasValue before (string_bytes a) ring value × (work ≡ preimage images value.list)

-- the rank of the result
abbrev pub result_rank : TaskShown → ℕ
result_rank (sum rank left right) = rank
result_rank (multiply rank left right) = rank
result_rank (intersect rank left right) = rank
result_rank (colon rank left right) = 1
result_rank (quotient rank list f) = rank
result_rank (saturate rank list f) = rank
result_rank (eliminate rank list k) = rank
result_rank (syzygies rank list) = length list
result_rank (preimage images list) = 1

-- which vectors are in the result
abbrev pub IsInResult : (ring : Ring) → TaskShown → FormalSum (variables ring) → Type 0
IsInResult ring (sum rank left right) v = IsMember ring.modulus.value (sums_of (variables ring) left ++ sums_of (variables ring) right) v
IsInResult ring (multiply rank left right) v = IsMember ring.modulus.value (products_of (sums_of (variables ring) left) (sums_of (variables ring) right)) v
IsInResult ring (intersect rank left right) v =
    IsMember ring.modulus.value (sums_of (variables ring) left) v × IsMember ring.modulus.value (sums_of (variables ring) right) v
IsInResult ring (colon rank left right) v =
    IsOfRank ring.modulus.value 1 v
    × Each (λ c. IsMember ring.modulus.value (sums_of (variables ring) left) (product v c)) (sums_of (variables ring) right)
IsInResult ring (quotient rank list f) v =
    IsOfRank ring.modulus.value rank v × IsMember ring.modulus.value (sums_of (variables ring) list) (product (sum_of (variables ring) f) v)
IsInResult ring (saturate rank list f) v =
    IsOfRank ring.modulus.value rank v × IsInSaturation ring.modulus.value (sum_of (variables ring) f) (sums_of (variables ring) list) v
IsInResult ring (eliminate rank list k) v = IsCombinationOfKept ring.modulus.value (has_none_of_first k) (sums_of (variables ring) list) v
IsInResult ring (syzygies rank list) v = IsSyzygy ring.modulus.value (sums_of (variables ring) list) v
IsInResult ring (preimage images list) v = IsInPreimage ring images list v

-- the list is the result: the reduced basis of the module of these vectors
abbrev pub IsResult : Ring → TaskShown → List TermList → Type 0
IsResult ring work list = IsBasisOfThose ring (result_rank work) (IsInResult ring work) list

-- the runs that it needs
abbrev pub AreRunsOf : Ring → TaskShown → Ring → ℕ → List TermList → Type 0
AreRunsOf ring (sum rank left right) r m l = IsRunOn ring rank (left ++ right) r m l
AreRunsOf ring (multiply rank left right) r m l = IsProductRun ring rank left right r m l
AreRunsOf ring (intersect rank left right) r m l = AreIntersectionRuns ring rank left right r m l
AreRunsOf ring (colon rank left right) r m l = AreColonRuns ring rank left right r m l
AreRunsOf ring (quotient rank list f) r m l = AreQuotientRuns ring rank list f r m l
AreRunsOf ring (saturate rank list f) r m l = AreSaturationRuns ring rank list f r m l
AreRunsOf ring (eliminate rank list k) r m l = AreEliminationRuns k ring rank list r m l
AreRunsOf ring (syzygies rank list) r m l = IsSyzygyRun ring rank list r m l
AreRunsOf ring (preimage images list) r m l = ArePreimageRuns ring images list r m l

-- the trails that it can meet outside of its runs
abbrev pub AreTrailsOf : Ring → TaskShown → KeptTrail → Type 0
AreTrailsOf ring (multiply rank left right) t = IsTrailOfProducts ring left right t
AreTrailsOf ring (intersect rank left right) t = IsTrailOfIntersection ring left right t
AreTrailsOf ring (saturate rank list f) t = IsTrailOfSaturation ring list f t
AreTrailsOf ring _ t = ⊥
