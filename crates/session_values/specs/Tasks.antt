-- Operations in the code
use Rattle.std.specs.Prelude.{List, String, length, string_bytes, ℕ, ◌≡◌}
use Rattle.std.specs.Global.{Global}
use Rattle.term_lists.specs.Rings.{variables}
use Rattle.term_lists.specs.declared.key.Key.{Key}
use Rattle.term_lists.specs.declared.ring.Ring.{Ring}
use Rattle.session_values.specs.Kept.{IsListOver, IsPolynomialOver, IsValueRank}
use Rattle.session_values.specs.Names.{HasValue, ScriptState, Value}
use Rattle.session_values.specs.Operations.{TaskShown, colon, eliminate, intersect, multiply, preimage, quotient, result_rank, saturate, sum, syzygies}
use Rattle.session_values.specs.declared.operations.Task.{Task}
use Rattle.session_values.specs.declared.operations.Task.TheVariants as tasks

-- what the code is to do
abbrev pub work_of : Task → TaskShown
work_of (tasks.Sum rank left right) = sum rank left.now right.now
work_of (tasks.Product rank left right) = multiply rank left.now right.now
work_of (tasks.Intersect rank left right) = intersect rank left.now right.now
work_of (tasks.Colon rank left right) = colon rank left.now right.now
work_of (tasks.Quotient rank list f) = quotient rank list.now f.now
work_of (tasks.Saturate rank list f) = saturate rank list.now f.now
work_of (tasks.Eliminate rank list k) = eliminate rank list.now k
work_of (tasks.Syzygies rank list) = syzygies rank list.now
work_of (tasks.Preimage images list) = preimage images.now list.now

-- its lists are of vectors over the ring, of its rank, its polynomial is one over the ring, and there is an image for each variable
abbrev pub HasParts : Ring → TaskShown → Type 0
HasParts ring (sum rank left right) = IsListOver ring rank left × IsListOver ring rank right
HasParts ring (multiply rank left right) = IsListOver ring 1 left × IsListOver ring rank right
HasParts ring (intersect rank left right) = IsListOver ring rank left × IsListOver ring rank right × IsValueRank rank
HasParts ring (colon rank left right) = IsListOver ring rank left × IsListOver ring rank right × IsValueRank rank
HasParts ring (quotient rank list f) = IsListOver ring rank list × IsPolynomialOver ring f × IsValueRank rank
HasParts ring (saturate rank list f) = IsListOver ring rank list × IsPolynomialOver ring f × IsValueRank rank
HasParts ring (eliminate rank list k) = IsListOver ring rank list
HasParts ring (syzygies rank list) = IsListOver ring rank list × IsValueRank rank
HasParts ring (preimage images list) = IsListOver ring 1 images × (length images ≡ variables ring) × IsListOver ring 1 list

-- it can be done, and its result is a value
abbrev pub IsReady : Ring → TaskShown → Type 0
IsReady ring work = HasParts ring work × IsValueRank (result_rank work)

-- the rank and the stored list of the value with this name
pub record IsOperand (before : ScriptState) (name : String Global) (ring : Ring) (rank : ℕ) (list : List (List (Key × ℕ))) : Type 0 where
  pub value : Value
  pub has : HasValue before (string_bytes name) ring value
  pub rank_is : rank ≡ value.rank
  pub list_is : list ≡ value.list
  pub ranked : IsValueRank rank
  pub vectors : IsListOver ring rank list
