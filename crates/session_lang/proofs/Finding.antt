-- The values that a session keeps, found by their names
use Rattle.std.proofs.Common.{List, None, Option, Some, [], ap, arith, get_or, inl, inr, length, subst, sym, ℕ, ◌<◌, ◌∙◌, ◌∷◌, ◌≡◌}
use Rattle.std.proofs.lemmas.Option.{none-some}
use Rattle.term_lists.specs.declared.key.Key.{Key}
use Rattle.term_lists.specs.declared.ring.Ring.{Ring}
use Rattle.script_parse.specs.declared.named.NameInfo.{NameInfo}
use Rattle.session_reports.proofs.KeptValues.{length_written}
use Rattle.session_values.proofs.Values.{found_value, kept_values, no_value}
use Rattle.session_values.specs.Answers.{Asked}
use Rattle.session_reports.specs.Asking.{IsAskedOver}
use Rattle.script_parse.specs.Places.{place_named}
use Rattle.session_lang.specs.Fitting.{IsGiven}
use Rattle.session_values.specs.Kept.{AreKept, AreSound, value_of, values_of}
use Rattle.session_values.specs.Names.{HasValue, ScriptState, Value, after_run, value_named}
use Rattle.session_lang.specs.Lines.{IsRunForEither, IsRunForValue}
use Rattle.session_reports.specs.Parts.{IsRunAtEither, IsRunToKeep, Keeps}
use Rattle.session_values.specs.Held.{StoredShown}

module _ (before : ScriptState) (ring : Option Ring) (infos : List NameInfo) (stored : List StoredShown)
    (view : record { ring = ring; values = values_of infos stored } ≡ before) where
  ring_is : before.ring ≡ ring
  ring_is = ap (λ s. s.ring) (sym view)

  values_are : before.values ≡ values_of infos stored
  values_are = ap (λ s. s.values) (sym view)

  -- a ring is stated where a value has a name
  pub ring_given : (name : List ℕ) → IsGiven before name → ring ≡ None → ⊥
  ring_given name h e = none-some _ (sym e ∙ sym ring_is ∙ h.2.stated)

  -- and the name has a place
  pub place_given : (name : List ℕ) → IsGiven before name → place_named infos name ≡ None → ⊥
  place_given name h e = none-some _ (sym (no_value infos stored name e) ∙ ap (λ vs. value_named vs name) (sym values_are) ∙ h.2.named)

  -- where the value is
  pub has_value :
      (r : Ring) (name : List ℕ) (i : ℕ) (d : NameInfo) (e : StoredShown) → length infos ≡ length stored → ring ≡ Some r → place_named infos name ≡ Some i
      → HasValue before name r (value_of (get_or infos i d) (get_or stored i e))
  has_value r name i d e kept is found = record {
    stated = ring_is ∙ is;
    named = ap (λ vs. value_named vs name) values_are ∙ found_value infos stored name i d e kept found;
  }

  -- the values are sound over the ring that is stated
  pub sound_over : (r : Ring) → AreKept ring infos stored → ring ≡ Some r → AreSound r infos stored
  sound_over r kept is = subst (λ o. AreKept o infos stored) is kept

  -- what is asked is so over it
  pub asked_over : (asked : Asked) (r : Ring) → ((q : Ring) → before.ring ≡ Some q → IsAskedOver q asked) → ring ≡ Some r → IsAskedOver r asked
  asked_over asked r h is = h r (ring_is ∙ is)

  -- the state once the basis of a value is kept
  pub kept_after :
      (name : List ℕ) (i : ℕ) (after : List StoredShown) (e : StoredShown) → length infos ≡ length stored → place_named infos name ≡ Some i → Keeps stored i after
      → record { ring = ring; values = values_of infos after } ≡ after_run name before
  kept_after name i after e same found k =
      ap (λ vs. record { ring = ring; values = vs }) (ap (values_of infos) k.written ∙ kept_values infos stored name i k.item e same found (k.list e) k.some)
      ∙ ap (after_run name) view

  pub as_many_after : (i : ℕ) (after : List StoredShown) → length infos ≡ length stored → Keeps stored i after → length infos ≡ length after
  as_many_after i after same k = same ∙ sym (ap length k.written ∙ length_written stored i k.item)

-- a name that stands at a place
pub some_info : (infos : List NameInfo) (i : ℕ) → i < length infos → NameInfo
some_info [] i lt = absurd (omega arith)
some_info (j ∷ infos) i lt = j

pub no_stored : StoredShown
no_stored = record { list = []; basis = None }

-- the run for a value, as the run for a name that has it
pub run_for :
    (before : ScriptState) (name : List ℕ) (over : Ring) (value : Value) → HasValue before name over value
    → (ring : Ring) (rank : ℕ) (list : List (List (Key × ℕ))) → IsRunToKeep over value ring rank list → IsRunForValue before name ring rank list
run_for before name over value has ring rank list h = (value, subst (λ r. HasValue before name r value) (sym h.0) has, h.1, h.2, h.3)

-- the run for one of two places, as the run for one of the names that have them
pub run_for_either :
    (before : ScriptState) (ring : Option Ring) (infos : List NameInfo) (stored : List StoredShown) (view : record { ring = ring; values = values_of infos stored } ≡ before)
    (over : Ring) (first second : List ℕ) (i j : ℕ) (d : NameInfo)
    → length infos ≡ length stored → ring ≡ Some over → place_named infos first ≡ Some i → place_named infos second ≡ Some j
    → (r : Ring) (rank : ℕ) (list : List (List (Key × ℕ))) → IsRunAtEither over infos stored (i, j) d no_stored r rank list
    → IsRunForEither before first second r rank list
run_for_either before ring infos stored view over first second i j d same is found found' r rank list (inl h) =
    inl (run_for before first over _ (has_value before ring infos stored view over first i d no_stored same is found) r rank list h)
run_for_either before ring infos stored view over first second i j d same is found found' r rank list (inr h) =
    inr
    (run_for (after_run first before) second over _
    (has_value (after_run first before) ring infos h.0 (kept_after before ring infos stored view first i h.0 no_stored same found h.1) over second j d no_stored
    (as_many_after before ring infos stored view i h.0 same h.1) is found')
    r rank list h.2)
