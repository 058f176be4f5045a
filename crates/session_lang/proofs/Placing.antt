-- A value at the place of its name: what it is to the state, and what a call that works on it leaves
use Rattle.std.proofs.Common.{List, Option, Some, ap, arith, get_or, length, refl, slice_set, subst, subst₂, sym, ℕ, ◌<◌, ◌∙◌, ◌≡◌}
use Rattle.std.specs.Prelude.{IsSome}
use Rattle.term_lists.specs.declared.ring.Ring.{Ring}
use Rattle.script_parse.specs.declared.named.NameInfo.{NameInfo}
use Rattle.session_lang.proofs.Finding.{has_value, kept_after, no_stored, sound_over}
use Rattle.session_reports.proofs.KeptValues.{at_place, written_same}
use Rattle.script_parse.proofs.NamePlaces.{place_bound}
use Rattle.session_values.proofs.Values.{kept_as_many, kept_sound, sound_at}
use Rattle.session_values.specs.Held.{StoredShown}
use Rattle.script_parse.specs.Places.{place_named}
use Rattle.session_values.specs.Kept.{AreKept, IsSound, value_of, values_of}
use Rattle.session_values.specs.Names.{HasValue, ScriptState, after_run}
use Rattle.session_reports.specs.Parts.{Keeps}

-- what a call has found once it has the place of a name
pub record IsPlaced (before : ScriptState) (own : Option Ring) (infos : List NameInfo) (stored : List StoredShown) (over : Ring) (name : List ℕ) (i : ℕ)
    (info : NameInfo) (s : StoredShown) : Type 0 where
  pub view : record { ring = own; values = values_of infos stored } ≡ before
  pub kept : AreKept own infos stored
  pub stated : own ≡ Some over
  pub found : place_named infos name ≡ Some i
  pub info_is : info ≡ get_or infos i info
  pub item_is : s ≡ get_or stored i s

pub is_placed :
    {before : ScriptState} {own : Option Ring} {over : Ring} {name : List ℕ} {i : ℕ} {info : NameInfo} {s : StoredShown} (infos : List NameInfo) (stored : List StoredShown)
    → record { ring = own; values = values_of infos stored } ≡ before → AreKept own infos stored → own ≡ Some over → place_named infos name ≡ Some i
    → info ≡ get_or infos i info → s ≡ get_or stored i s → IsPlaced before own infos stored over name i info s
is_placed infos stored view kept stated found info_is item_is =
    record { view = view; kept = kept; stated = stated; found = found; info_is = info_is; item_is = item_is }

module _ {before : ScriptState} {own : Option Ring} {infos : List NameInfo} {stored : List StoredShown} {over : Ring} {name : List ℕ} {i : ℕ}
    {info : NameInfo} {s : StoredShown} (p : IsPlaced before own infos stored over name i info s) where
  same : length infos ≡ length stored
  same = kept_as_many own infos stored p.kept

  within : i < length infos
  within = place_bound infos name i p.found

  below : i < length stored
  below = let w = within in let e = same in omega arith

  -- the name has the value
  pub placed_has : HasValue before name over (value_of info s)
  placed_has =
      subst₂ (λ j t. HasValue before name over (value_of j t)) (sym p.info_is) (sym p.item_is)
      (has_value before own infos stored p.view over name i info s same p.stated p.found)

  -- which is sound
  pub placed_sound : IsSound over info.rank s
  placed_sound =
      subst₂ (λ j t. IsSound over j.rank t) (sym p.info_is) (sym p.item_is)
      (sound_at over infos stored i s info (sound_over before own infos stored p.view over p.kept p.stated) within)

  module _ (item : StoredShown) where
    -- with another basis of the same list the values stay sound
    pub placed_keeps : item.list ≡ s.list → IsSound over info.rank item → AreKept own infos (slice_set stored i item)
    placed_keeps list sound =
        subst (λ o. AreKept o infos (slice_set stored i item)) (sym p.stated)
        (kept_sound over infos stored i item s info (sound_over before own infos stored p.view over p.kept p.stated)
        (subst (λ j. IsSound over j.rank item) p.info_is sound) (list ∙ ap (λ t. t.list) p.item_is))

    -- and where one is known, the state is that with the basis kept
    pub placed_after : item.list ≡ s.list → IsSome item.basis → record { ring = own; values = values_of infos (slice_set stored i item) } ≡ after_run name before
    placed_after list some =
        let keeps : Keeps stored i (slice_set stored i item) = record {
          item = item;
          written = refl;
          some = some;
          list = λ e. list ∙ ap (λ t. t.list) (at_place stored i s e below p.item_is);
        } in
        kept_after before own infos stored p.view name i (slice_set stored i item) no_stored same p.found keeps

    -- where nothing changed, neither did the state
    pub placed_same : item ≡ s → record { ring = own; values = values_of infos (slice_set stored i item) } ≡ before
    placed_same e = ap (λ st. record { ring = own; values = values_of infos st }) (written_same stored i s item below p.item_is e) ∙ p.view
