-- What a script means: its text and its ending.
use Rattle.std.specs.Prelude.{◌≡◌, ℕ, ◌+◌, ◌⊎◌, Bool, true, false, nat_lt, List, [], ◌∷◌, ◌++◌, length, take, codes}
use Rattle.std.specs.Fmt.{decimal}
use Rattle.script_parse.specs.declared.kind.Kind.{Kind}
use Rattle.script_parse.specs.declared.kind.Kind.TheVariants as kind
use Rattle.session_top.specs.declared.early.Refusal.{Refusal}
use Rattle.session_top.specs.declared.early.Refusal.TheVariants.{OfLine, Length}
use Rattle.session_top.specs.declared.TheConstants.{SCRIPT_LIMIT}
use Rattle.session_lang.specs.Lines.{Line, RefusesLine}
use Rattle.session_values.specs.Names.{ScriptState, no_names}
use Rattle.session_top.specs.Lines.{lines_in}

-- how a script ends: all its lines are done, or one is refused; line 0 stands for the script as a whole
pub data ScriptEnding : Type 0 where
  Done : ScriptEnding
  Refused : (line : ℕ) (refusal : Refusal) → ScriptEnding

-- the word for a kind of refusal
abbrev pub kind_word : Kind → List ℕ
kind_word kind.Syntax = codes "syntax"
kind_word kind.Numeral = codes "numeral"
kind_word kind.Ring = codes "ring"
kind_word kind.Modulus = codes "modulus"
kind_word kind.Name = codes "name"
kind_word kind.OfKind = codes "kind"
kind_word kind.Rank = codes "rank"
kind_word kind.Degree = codes "degree"
kind_word kind.Leads = codes "leads"
kind_word kind.Large = codes "large"
kind_word kind.Infinite = codes "infinite"
kind_word kind.Homogeneous = codes "homogeneous"
kind_word kind.Many = codes "many"

abbrev pub refusal_word : Refusal → List ℕ
refusal_word (OfLine kind) = kind_word kind
refusal_word Length = codes "length"

-- the line that tells a refusal
abbrev pub error_line : ℕ → Refusal → List ℕ
error_line line refusal = codes "error " ++ decimal line ++ (codes " " ++ refusal_word refusal ++ codes "\n")

-- what is written at an ending
abbrev pub ending_text : ScriptEnding → List ℕ
ending_text Done = []
ending_text (Refused line refusal) = error_line line refusal

-- From a state these lines are done, one after another: the state after them, and their text.
abbrev pub AllDone : ScriptState → List (List ℕ) → ScriptState → List ℕ → Type 0
AllDone before [] after text = (after ≡ before) × (text ≡ [])
AllDone before (line ∷ lines) after text = (mid : ScriptState) × (first : List ℕ) × (rest : List ℕ)
    × Line before line mid first × AllDone mid lines after rest × (text ≡ first ++ rest)

-- From a state, the lines from this number on are done up to the first that is refused; where none is, `last` comes.
abbrev pub Folds : ScriptEnding → ℕ → ScriptState → List (List ℕ) → List ℕ → ScriptEnding → Type 0
Folds last number before [] text ending = (ending ≡ last) × (text ≡ ending_text last)
Folds last number before (line ∷ lines) text ending =
    ((mid : ScriptState) × (first : List ℕ) × (rest : List ℕ)
    × Line before line mid first × Folds last (number + 1) mid lines rest ending × (text ≡ first ++ rest))
    ⊎ ((kind : Kind) × RefusesLine before line kind × (ending ≡ Refused number (OfLine kind)) × (text ≡ ending_text (Refused number (OfLine kind))))

-- a script longer than the limit
abbrev pub is_long : List ℕ → Bool
is_long script = nat_lt SCRIPT_LIMIT (length script)

-- the lines that count: all of them, and of a long script those that are whole in its first bytes
abbrev pub script_lines : List ℕ → List (List ℕ)
script_lines script = lines_in (is_long script) (take SCRIPT_LIMIT script)

-- the ending where no line is refused
abbrev pub last_of : Bool → ScriptEnding
last_of true = Refused 0 Length
last_of false = Done

-- from no names, the script has this text and this ending
abbrev pub Meaning : List ℕ → List ℕ → ScriptEnding → Type 0
Meaning script text ending = Folds (last_of (is_long script)) 1 no_names (script_lines script) text ending
