-- A line has one outcome
use Rattle.std.proofs.Common.{List, inl, inr, ℕ, ◌≡◌}
use Rattle.std.specs.Prelude.{string_bytes}
use Rattle.term_lists.specs.declared.key.Key.{Key}
use Rattle.term_lists.specs.declared.ring.Ring.{Ring}
use Rattle.script_parse.proofs.OneAnswer.{apart, one_kind, one_statement}
use Rattle.script_parse.specs.Statements.{IsSameStatement}
use Rattle.script_parse.specs.declared.kind.Kind.{Kind}
use Rattle.script_parse.specs.declared.stated.Statement.{Statement}
use Rattle.script_parse.specs.declared.stated.Statement.TheVariants as statements
use Rattle.session_lang.proofs.OneDoing.{does_once}
use Rattle.session_lang.proofs.OneMinimal.{betti_or_refused, minimal_or_refused, minimal_refused_once, regularity_or_refused, tells_or_refuses}
use Rattle.session_lang.proofs.OneReordering.{reordering_refused_once, reorders_or_refuses}
use Rattle.session_lang.proofs.OneText.{counts_or_refuses, refuses_once}
use Rattle.session_lang.proofs.Reading.{refuses_alike, states_alike}
use Rattle.session_lang.specs.Lines.{Does, Line, RefusesLine, RefusesReading, RefusesStated, RunOf, StatesLine}
use Rattle.session_reports.specs.Minimising.{IsBettiText, IsMinimalText, IsRegularityText}
use Rattle.session_values.specs.Names.{ScriptState}

-- a line states one statement
pub states_once : (before : ScriptState) (line : List ℕ) (s t : Statement) → StatesLine before line s → StatesLine before line t → IsSameStatement s t
states_once before line s t g h =
    one_statement before.ring g.0 line s t g.2 (states_alike before.values h.0 g.0 h.1 g.1 before.ring line t h.2)

-- a line that states something is not refused as it is read
pub stated_not_refused : (before : ScriptState) (line : List ℕ) (s : Statement) (kind : Kind) → StatesLine before line s → RefusesReading before line kind → ⊥
stated_not_refused before line s kind g h =
    apart before.ring g.0 line s kind g.2 (refuses_alike before.values h.0 g.0 h.1 g.1 before.ring line kind h.2)

-- a line that is done has one state behind it and one text
pub line_once : (before : ScriptState) (line : List ℕ) (p q : ScriptState) (x y : List ℕ) → Line before line p x → Line before line q y → (p ≡ q) × (x ≡ y)
line_once before line p q x y g h = does_once before g.0 h.0 p q x y (states_once before line g.0 h.0 g.1 h.1) g.2 h.2

module _ (before : ScriptState) where
  -- a statement that is done is not refused
  done_not_refused :
      (s t : Statement) (p : ScriptState) (x : List ℕ) (kind : Kind) → IsSameStatement s t → Does before s p x → RefusesStated before t kind → ⊥
  done_not_refused (statements.Hilbert m) (statements.Hilbert n) p x kind e d r =
      counts_or_refuses before (string_bytes m) (string_bytes n) e x kind d.1 r
  done_not_refused statements.Nothing (statements.Hilbert n) p x kind e d r = absurd e
  done_not_refused (statements.Ring y) (statements.Hilbert n) p x kind e d r = absurd e
  done_not_refused (statements.Show y) (statements.Hilbert n) p x kind e d r = absurd e
  done_not_refused (statements.Ideal y z) (statements.Hilbert n) p x kind e d r = absurd e
  done_not_refused (statements.Module y z w) (statements.Hilbert n) p x kind e d r = absurd e
  done_not_refused (statements.Let y z) (statements.Hilbert n) p x kind e d r = absurd e
  done_not_refused (statements.Gens y) (statements.Hilbert n) p x kind e d r = absurd e
  done_not_refused (statements.Gb y) (statements.Hilbert n) p x kind e d r = absurd e
  done_not_refused (statements.Size y) (statements.Hilbert n) p x kind e d r = absurd e
  done_not_refused (statements.NormalForm y z) (statements.Hilbert n) p x kind e d r = absurd e
  done_not_refused (statements.Member y z) (statements.Hilbert n) p x kind e d r = absurd e
  done_not_refused (statements.Lift y z) (statements.Hilbert n) p x kind e d r = absurd e
  done_not_refused (statements.Equal y z) (statements.Hilbert n) p x kind e d r = absurd e
  done_not_refused (statements.Express y z) (statements.Hilbert n) p x kind e d r = absurd e
  done_not_refused (statements.Ext y z) (statements.Hilbert n) p x kind e d r = absurd e
  done_not_refused (statements.Change y z) (statements.Hilbert n) p x kind e d r = absurd e
  done_not_refused (statements.Resolution y) (statements.Hilbert n) p x kind e d r = absurd e
  done_not_refused (statements.Change m q) (statements.Change n o) p x kind e d r =
      reorders_or_refuses before (string_bytes m) (string_bytes n) q o e.0 e.1 x kind d.1 r
  done_not_refused statements.Nothing (statements.Change n o) p x kind e d r = absurd e
  done_not_refused (statements.Ring y) (statements.Change n o) p x kind e d r = absurd e
  done_not_refused (statements.Show y) (statements.Change n o) p x kind e d r = absurd e
  done_not_refused (statements.Ideal y z) (statements.Change n o) p x kind e d r = absurd e
  done_not_refused (statements.Module y z w) (statements.Change n o) p x kind e d r = absurd e
  done_not_refused (statements.Let y z) (statements.Change n o) p x kind e d r = absurd e
  done_not_refused (statements.Gens y) (statements.Change n o) p x kind e d r = absurd e
  done_not_refused (statements.Gb y) (statements.Change n o) p x kind e d r = absurd e
  done_not_refused (statements.Size y) (statements.Change n o) p x kind e d r = absurd e
  done_not_refused (statements.NormalForm y z) (statements.Change n o) p x kind e d r = absurd e
  done_not_refused (statements.Member y z) (statements.Change n o) p x kind e d r = absurd e
  done_not_refused (statements.Lift y z) (statements.Change n o) p x kind e d r = absurd e
  done_not_refused (statements.Equal y z) (statements.Change n o) p x kind e d r = absurd e
  done_not_refused (statements.Express y z) (statements.Change n o) p x kind e d r = absurd e
  done_not_refused (statements.Ext y z) (statements.Change n o) p x kind e d r = absurd e
  done_not_refused (statements.Hilbert y) (statements.Change n o) p x kind e d r = absurd e
  done_not_refused (statements.Resolution y) (statements.Change n o) p x kind e d r = absurd e
  done_not_refused (statements.Minimal y) (statements.Hilbert n) p x kind e d r = absurd e
  done_not_refused (statements.Betti y) (statements.Hilbert n) p x kind e d r = absurd e
  done_not_refused (statements.Regularity y) (statements.Hilbert n) p x kind e d r = absurd e
  done_not_refused (statements.Minimal y) (statements.Change n o) p x kind e d r = absurd e
  done_not_refused (statements.Betti y) (statements.Change n o) p x kind e d r = absurd e
  done_not_refused (statements.Regularity y) (statements.Change n o) p x kind e d r = absurd e
  done_not_refused (statements.Minimal m) (statements.Minimal n) p x kind e d r =
      tells_or_refuses IsMinimalText (λ r v t k. minimal_or_refused r v t k) before (string_bytes m) (string_bytes n) e x kind d.1 r
  done_not_refused statements.Nothing (statements.Minimal n) p x kind e d r = absurd e
  done_not_refused (statements.Ring y) (statements.Minimal n) p x kind e d r = absurd e
  done_not_refused (statements.Show y) (statements.Minimal n) p x kind e d r = absurd e
  done_not_refused (statements.Ideal y z) (statements.Minimal n) p x kind e d r = absurd e
  done_not_refused (statements.Module y z w) (statements.Minimal n) p x kind e d r = absurd e
  done_not_refused (statements.Let y z) (statements.Minimal n) p x kind e d r = absurd e
  done_not_refused (statements.Gens y) (statements.Minimal n) p x kind e d r = absurd e
  done_not_refused (statements.Gb y) (statements.Minimal n) p x kind e d r = absurd e
  done_not_refused (statements.Size y) (statements.Minimal n) p x kind e d r = absurd e
  done_not_refused (statements.NormalForm y z) (statements.Minimal n) p x kind e d r = absurd e
  done_not_refused (statements.Member y z) (statements.Minimal n) p x kind e d r = absurd e
  done_not_refused (statements.Lift y z) (statements.Minimal n) p x kind e d r = absurd e
  done_not_refused (statements.Equal y z) (statements.Minimal n) p x kind e d r = absurd e
  done_not_refused (statements.Express y z) (statements.Minimal n) p x kind e d r = absurd e
  done_not_refused (statements.Ext y z) (statements.Minimal n) p x kind e d r = absurd e
  done_not_refused (statements.Change y z) (statements.Minimal n) p x kind e d r = absurd e
  done_not_refused (statements.Resolution y) (statements.Minimal n) p x kind e d r = absurd e
  done_not_refused (statements.Hilbert y) (statements.Minimal n) p x kind e d r = absurd e
  done_not_refused (statements.Betti y) (statements.Minimal n) p x kind e d r = absurd e
  done_not_refused (statements.Regularity y) (statements.Minimal n) p x kind e d r = absurd e
  done_not_refused (statements.Betti m) (statements.Betti n) p x kind e d r =
      tells_or_refuses IsBettiText (λ r v t k. betti_or_refused r v t k) before (string_bytes m) (string_bytes n) e x kind d.1 r
  done_not_refused statements.Nothing (statements.Betti n) p x kind e d r = absurd e
  done_not_refused (statements.Ring y) (statements.Betti n) p x kind e d r = absurd e
  done_not_refused (statements.Show y) (statements.Betti n) p x kind e d r = absurd e
  done_not_refused (statements.Ideal y z) (statements.Betti n) p x kind e d r = absurd e
  done_not_refused (statements.Module y z w) (statements.Betti n) p x kind e d r = absurd e
  done_not_refused (statements.Let y z) (statements.Betti n) p x kind e d r = absurd e
  done_not_refused (statements.Gens y) (statements.Betti n) p x kind e d r = absurd e
  done_not_refused (statements.Gb y) (statements.Betti n) p x kind e d r = absurd e
  done_not_refused (statements.Size y) (statements.Betti n) p x kind e d r = absurd e
  done_not_refused (statements.NormalForm y z) (statements.Betti n) p x kind e d r = absurd e
  done_not_refused (statements.Member y z) (statements.Betti n) p x kind e d r = absurd e
  done_not_refused (statements.Lift y z) (statements.Betti n) p x kind e d r = absurd e
  done_not_refused (statements.Equal y z) (statements.Betti n) p x kind e d r = absurd e
  done_not_refused (statements.Express y z) (statements.Betti n) p x kind e d r = absurd e
  done_not_refused (statements.Ext y z) (statements.Betti n) p x kind e d r = absurd e
  done_not_refused (statements.Change y z) (statements.Betti n) p x kind e d r = absurd e
  done_not_refused (statements.Resolution y) (statements.Betti n) p x kind e d r = absurd e
  done_not_refused (statements.Hilbert y) (statements.Betti n) p x kind e d r = absurd e
  done_not_refused (statements.Minimal y) (statements.Betti n) p x kind e d r = absurd e
  done_not_refused (statements.Regularity y) (statements.Betti n) p x kind e d r = absurd e
  done_not_refused (statements.Regularity m) (statements.Regularity n) p x kind e d r =
      tells_or_refuses IsRegularityText (λ r v t k. regularity_or_refused r v t k) before (string_bytes m) (string_bytes n) e x kind d.1 r
  done_not_refused statements.Nothing (statements.Regularity n) p x kind e d r = absurd e
  done_not_refused (statements.Ring y) (statements.Regularity n) p x kind e d r = absurd e
  done_not_refused (statements.Show y) (statements.Regularity n) p x kind e d r = absurd e
  done_not_refused (statements.Ideal y z) (statements.Regularity n) p x kind e d r = absurd e
  done_not_refused (statements.Module y z w) (statements.Regularity n) p x kind e d r = absurd e
  done_not_refused (statements.Let y z) (statements.Regularity n) p x kind e d r = absurd e
  done_not_refused (statements.Gens y) (statements.Regularity n) p x kind e d r = absurd e
  done_not_refused (statements.Gb y) (statements.Regularity n) p x kind e d r = absurd e
  done_not_refused (statements.Size y) (statements.Regularity n) p x kind e d r = absurd e
  done_not_refused (statements.NormalForm y z) (statements.Regularity n) p x kind e d r = absurd e
  done_not_refused (statements.Member y z) (statements.Regularity n) p x kind e d r = absurd e
  done_not_refused (statements.Lift y z) (statements.Regularity n) p x kind e d r = absurd e
  done_not_refused (statements.Equal y z) (statements.Regularity n) p x kind e d r = absurd e
  done_not_refused (statements.Express y z) (statements.Regularity n) p x kind e d r = absurd e
  done_not_refused (statements.Ext y z) (statements.Regularity n) p x kind e d r = absurd e
  done_not_refused (statements.Change y z) (statements.Regularity n) p x kind e d r = absurd e
  done_not_refused (statements.Resolution y) (statements.Regularity n) p x kind e d r = absurd e
  done_not_refused (statements.Hilbert y) (statements.Regularity n) p x kind e d r = absurd e
  done_not_refused (statements.Minimal y) (statements.Regularity n) p x kind e d r = absurd e
  done_not_refused (statements.Betti y) (statements.Regularity n) p x kind e d r = absurd e
  done_not_refused s statements.Nothing p x kind e d r = absurd r
  done_not_refused s (statements.Ring y) p x kind e d r = absurd r
  done_not_refused s (statements.Show y) p x kind e d r = absurd r
  done_not_refused s (statements.Ideal y z) p x kind e d r = absurd r
  done_not_refused s (statements.Module y z w) p x kind e d r = absurd r
  done_not_refused s (statements.Let y z) p x kind e d r = absurd r
  done_not_refused s (statements.Gens y) p x kind e d r = absurd r
  done_not_refused s (statements.Gb y) p x kind e d r = absurd r
  done_not_refused s (statements.Size y) p x kind e d r = absurd r
  done_not_refused s (statements.NormalForm y z) p x kind e d r = absurd r
  done_not_refused s (statements.Member y z) p x kind e d r = absurd r
  done_not_refused s (statements.Lift y z) p x kind e d r = absurd r
  done_not_refused s (statements.Equal y z) p x kind e d r = absurd r
  done_not_refused s (statements.Express y z) p x kind e d r = absurd r
  done_not_refused s (statements.Ext y z) p x kind e d r = absurd r
  done_not_refused s (statements.Resolution y) p x kind e d r = absurd r

  -- a statement is refused for one kind
  stated_once :
      (s t : Statement) (j k : Kind) → IsSameStatement s t → RefusesStated before s j → RefusesStated before t k → j ≡ k
  stated_once (statements.Hilbert m) (statements.Hilbert n) j k e g h = refuses_once before (string_bytes m) (string_bytes n) e j k g h
  stated_once (statements.Hilbert m) _ j k e g h = absurd e
  stated_once (statements.Change m o) (statements.Change n q) j k e g h = reordering_refused_once before (string_bytes m) (string_bytes n) e.0 j k g h
  stated_once (statements.Change m o) _ j k e g h = absurd e
  stated_once (statements.Minimal m) (statements.Minimal n) j k e g h = minimal_refused_once g.0 h.0 g.1 h.1 j k g.3 h.3
  stated_once (statements.Minimal m) _ j k e g h = absurd e
  stated_once (statements.Betti m) (statements.Betti n) j k e g h = minimal_refused_once g.0 h.0 g.1 h.1 j k g.3 h.3
  stated_once (statements.Betti m) _ j k e g h = absurd e
  stated_once (statements.Regularity m) (statements.Regularity n) j k e g h = minimal_refused_once g.0 h.0 g.1 h.1 j k g.3 h.3
  stated_once (statements.Regularity m) _ j k e g h = absurd e
  stated_once statements.Nothing t j k e g h = absurd g
  stated_once (statements.Ring y) t j k e g h = absurd g
  stated_once (statements.Show y) t j k e g h = absurd g
  stated_once (statements.Ideal y z) t j k e g h = absurd g
  stated_once (statements.Module y z w) t j k e g h = absurd g
  stated_once (statements.Let y z) t j k e g h = absurd g
  stated_once (statements.Gens y) t j k e g h = absurd g
  stated_once (statements.Gb y) t j k e g h = absurd g
  stated_once (statements.Size y) t j k e g h = absurd g
  stated_once (statements.NormalForm y z) t j k e g h = absurd g
  stated_once (statements.Member y z) t j k e g h = absurd g
  stated_once (statements.Lift y z) t j k e g h = absurd g
  stated_once (statements.Equal y z) t j k e g h = absurd g
  stated_once (statements.Express y z) t j k e g h = absurd g
  stated_once (statements.Ext y z) t j k e g h = absurd g
  stated_once (statements.Resolution y) t j k e g h = absurd g

-- a line that is done is not refused
pub line_not_refused : (before : ScriptState) (line : List ℕ) (p : ScriptState) (x : List ℕ) (kind : Kind) → Line before line p x → RefusesLine before line kind → ⊥
line_not_refused before line p x kind g (inl h) = stated_not_refused before line g.0 kind g.1 h
line_not_refused before line p x kind g (inr h) = done_not_refused before g.0 h.0 p x kind (states_once before line g.0 h.0 g.1 h.1) g.2 h.2

-- a line is refused for one kind
reading_once : (before : ScriptState) (line : List ℕ) (j k : Kind) → RefusesReading before line j → RefusesReading before line k → j ≡ k
reading_once before line j k g h =
    one_kind before.ring g.0 line j k g.2 (refuses_alike before.values h.0 g.0 h.1 g.1 before.ring line k h.2)

pub refused_once : (before : ScriptState) (line : List ℕ) (j k : Kind) → RefusesLine before line j → RefusesLine before line k → j ≡ k
refused_once before line j k (inl g) (inl h) = reading_once before line j k g h
refused_once before line j k (inl g) (inr h) = absurd (stated_not_refused before line h.0 j h.1 g)
refused_once before line j k (inr g) (inl h) = absurd (stated_not_refused before line g.0 k g.1 h)
refused_once before line j k (inr g) (inr h) = stated_once before g.0 h.0 j k (states_once before line g.0 h.0 g.1 h.1) g.2 h.2

-- a line that is refused as it is read has no run
pub no_run :
    (before : ScriptState) (line : List ℕ) (kind : Kind) (ring : Ring) (rank : ℕ) (list : List (List (Key × ℕ)))
    → RefusesReading before line kind → RunOf before line ring rank list → ⊥
no_run before line kind ring rank list refused run = stated_not_refused before line run.0 kind run.1 refused
