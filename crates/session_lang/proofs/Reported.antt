-- A reader that is told the ring and the names of a state: what it says is so of the state
use Rattle.std.proofs.Common.{List, Option, inl, subst, subst₂, ℕ, ◌≡◌}
use Rattle.term_lists.specs.declared.ring.Ring.{Ring}
use Rattle.script_parse.specs.Refusals as refusals
use Rattle.script_parse.specs.Statements as readings
use Rattle.script_parse.specs.declared.kind.Kind.{Kind}
use Rattle.script_parse.specs.declared.named.NameInfo.{NameInfo}
use Rattle.script_parse.specs.declared.stated.Statement.{Statement}
use Rattle.session_lang.proofs.Reading.{stated_fits}
use Rattle.session_values.proofs.Values.{kept_told}
use Rattle.session_lang.specs.Fitting.{IsFit}
use Rattle.session_values.specs.Kept.{AreKept, values_of}
use Rattle.session_lang.specs.Lines.{RefusesLine, RefusesReading, StatesLine}
use Rattle.session_values.specs.Names.{ScriptState}
use Rattle.session_values.specs.Held.{StoredShown}

module _ (before : ScriptState) (ring : Option Ring) (infos : List NameInfo) (stored : List StoredShown)
    (view : record { ring = ring; values = values_of infos stored } ≡ before) (kept : AreKept ring infos stored)
    (told : Option Ring) (names : List NameInfo) (same_ring : told ≡ ring) (same_names : names ≡ infos) (line : List ℕ) where
  pub states : (statement : Statement) → readings.States told names line statement → StatesLine before line statement
  states statement h =
      subst (λ b. StatesLine b line statement) view
      (infos, kept_told ring infos stored kept, subst₂ (λ r i. readings.States r i line statement) same_ring same_names h)

  pub fits : (statement : Statement) → readings.States told names line statement → IsFit before statement
  fits statement h =
      subst (λ b. IsFit b statement) view
      (stated_fits (record { ring = ring; values = values_of infos stored }) infos line statement (kept_told ring infos stored kept)
      (subst₂ (λ r i. readings.States r i line statement) same_ring same_names h))

  pub refuses : (kind : Kind) → refusals.Refuses told names line kind → RefusesLine before line kind
  refuses kind h =
      inl
      (subst (λ b. RefusesReading b line kind) view
      (infos, kept_told ring infos stored kept, subst₂ (λ r i. refusals.Refuses r i line kind) same_ring same_names h))
