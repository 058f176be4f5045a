-- What a session keeps from line to line
use Rattle.std.specs.Prelude.{Bool, List, None, Option, Some, [], if◌then◌else◌, length, nat_eq, string_bytes, true, ℕ, ◌∷◌, ◌≡◌}
use Rattle.std.specs.Cmp.Lexicographic.{pointwise}
use Rattle.term_lists.specs.declared.key.Key.{Key}
use Rattle.term_lists.specs.declared.ring.Ring.{Ring}
use Rattle.script_parse.specs.declared.named.NameInfo.{NameInfo}

-- a value: its name, its rank, its list as it was typed or as an operation gave it, and whether its reduced basis is kept: a line
-- that was done has computed it, or the list is it
pub record Value : Type 0 where
  pub name : List ℕ
  pub rank : ℕ
  pub list : List (List (Key × ℕ))
  pub kept : Bool

-- the ring, once one is stated, and the values over it
pub record ScriptState : Type 0 where
  pub ring : Option Ring
  pub values : List Value

-- what there is before the first line
abbrev pub no_names : ScriptState
no_names = record { ring = None; values = [] }

-- the value with this name, if there is one
abbrev pub value_named : List Value → List ℕ → Option Value
value_named [] name = None
value_named (v ∷ values) name = if pointwise nat_eq v.name name then Some v else value_named values name

-- the values, with this one in place of the one with its name, or behind them all
abbrev pub with_value : Value → List Value → List Value
with_value v [] = v ∷ []
with_value v (w ∷ values) = if pointwise nat_eq w.name v.name then v ∷ values else w ∷ with_value v values

-- the state once the value is given to its name
abbrev pub after_giving : Value → ScriptState → ScriptState
after_giving v before = record { ring = before.ring; values = with_value v before.values }

-- the values, the one with this name now with its reduced basis
abbrev pub with_basis : List ℕ → List Value → List Value
with_basis name [] = []
with_basis name (v ∷ values) =
    if pointwise nat_eq v.name name then record { name = v.name; rank = v.rank; list = v.list; kept = true } ∷ values
    else v ∷ with_basis name values

-- the state once the reduced basis of the value with this name is kept
abbrev pub after_run : List ℕ → ScriptState → ScriptState
after_run name before = record { ring = before.ring; values = with_basis name before.values }

-- this ring is stated, and the value has this name
pub record HasValue (before : ScriptState) (name : List ℕ) (ring : Ring) (value : Value) : Type 0 where
  pub stated : before.ring ≡ Some ring
  pub named : value_named before.values name ≡ Some value

-- what a reader of lines is told of the values: name, rank and length of each
abbrev pub AreInfosOf : List Value → List NameInfo → Type 0
AreInfosOf [] [] = Unit {0}
AreInfosOf (v ∷ values) (i ∷ infos) = (string_bytes i.name ≡ v.name) × (i.rank ≡ v.rank) × (i.length ≡ length v.list) × AreInfosOf values infos
AreInfosOf _ _ = ⊥
