-- Values by their places
use Rattle.std.proofs.Common.{◌≡◌, ℕ, zero, suc, ◌<◌, cond, nat_eq, Bool, true, false, List, [], ◌∷◌, ◌++◌, get_or, length, slice_set, Option, Some, None, refl, sym, ap, ap₂, subst, ◌∙◌, arith}
use Rattle.std.proofs.lemmas.Option.{same_Some}
use Rattle.std.specs.Prelude.{is_some, option_map, string_bytes}
use Rattle.std.specs.Cmp.Lexicographic.{pointwise}
use Rattle.term_lists.specs.declared.ring.Ring.{Ring}
use Rattle.script_parse.proofs.NamePlaces.{later_place, no_later_place}
use Rattle.script_parse.specs.declared.named.NameInfo.{NameInfo}
use Rattle.script_parse.specs.Places.{place_named}
use Rattle.session_values.specs.Kept.{AreKept, AreSound, IsSound, value_of, values_of}
use Rattle.session_values.specs.Names.{AreInfosOf, value_named, with_basis, with_value}
use Rattle.session_values.specs.Held.{StoredShown}

-- the values are sound, so there is a list for each name
pub as_many : (ring : Ring) (infos : List NameInfo) (stored : List StoredShown) → AreSound ring infos stored → length infos ≡ length stored
as_many ring [] [] h = refl
as_many ring [] (t ∷ stored) h = absurd h
as_many ring (j ∷ infos) [] h = absurd h
as_many ring (j ∷ infos) (t ∷ stored) h = ap suc (as_many ring infos stored h.2)

pub kept_as_many : (ring : Option Ring) (infos : List NameInfo) (stored : List StoredShown) → AreKept ring infos stored → length infos ≡ length stored
kept_as_many None infos stored h = ap length h.0 ∙ sym (ap length h.1)
kept_as_many (Some ring) infos stored h = as_many ring infos stored h

-- what a reader is told of sound values is so
told : (ring : Ring) (infos : List NameInfo) (stored : List StoredShown) → AreSound ring infos stored → AreInfosOf (values_of infos stored) infos
told ring [] [] h = tt
told ring [] (t ∷ stored) h = absurd h
told ring (j ∷ infos) [] h = absurd h
told ring (j ∷ infos) (t ∷ stored) h = (refl, refl, h.1, told ring infos stored h.2)

pub kept_told : (ring : Option Ring) (infos : List NameInfo) (stored : List StoredShown) → AreKept ring infos stored → AreInfosOf (values_of infos stored) infos
kept_told None [] stored h = tt
kept_told None (j ∷ infos) stored h = absurd (cons_nil h.0)
  where
    cons_nil : {X : Type 0} {x : X} {xs : List X} → x ∷ xs ≡ [] → ⊥
    cons_nil e = cc
kept_told (Some ring) infos stored h = told ring infos stored h

module _ (info : NameInfo) (s : StoredShown) where
  -- a value in place of the one with its name
  pub placed_values :
      (infos : List NameInfo) (stored : List StoredShown) (i : ℕ)
      → length infos ≡ length stored → place_named infos (string_bytes info.name) ≡ Some i
      → values_of (slice_set infos i info) (slice_set stored i s) ≡ with_value (value_of info s) (values_of infos stored)
  placed_values [] stored i same e = absurd cc
  placed_values (j ∷ infos) [] i same e = absurd (omega arith)
  placed_values (j ∷ infos) (t ∷ stored) i same e =
      by_test (pointwise nat_eq (string_bytes j.name) (string_bytes info.name)) e (λ k h. placed_values infos stored k (omega arith) h)
    where
      by_test :
          (b : Bool) → cond b (Some 0) (option_map suc (place_named infos (string_bytes info.name))) ≡ Some i
          → ((k : ℕ) → place_named infos (string_bytes info.name) ≡ Some k
          → values_of (slice_set infos k info) (slice_set stored k s) ≡ with_value (value_of info s) (values_of infos stored))
          → values_of (slice_set (j ∷ infos) i info) (slice_set (t ∷ stored) i s)
          ≡ cond b (value_of info s ∷ values_of infos stored) (value_of j t ∷ with_value (value_of info s) (values_of infos stored))
      by_test true h later =
          subst (λ k. values_of (slice_set (j ∷ infos) k info) (slice_set (t ∷ stored) k s) ≡ value_of info s ∷ values_of infos stored) (same_Some _ _ h) refl
      by_test false h later =
          let r = later_place (place_named infos (string_bytes info.name)) i h in
          subst
          (λ k. values_of (slice_set (j ∷ infos) k info) (slice_set (t ∷ stored) k s) ≡ value_of j t ∷ with_value (value_of info s) (values_of infos stored))
          r.2
          (ap (λ vs. value_of j t ∷ vs) (later r.0 r.1))

  pub placed_sound :
      (ring : Ring) (infos : List NameInfo) (stored : List StoredShown) (i : ℕ)
      → AreSound ring infos stored → IsSound ring info.rank s → info.length ≡ length s.list
      → AreSound ring (slice_set infos i info) (slice_set stored i s)
  placed_sound ring [] [] i h sound len = tt
  placed_sound ring [] (t ∷ stored) i h sound len = absurd h
  placed_sound ring (j ∷ infos) [] i h sound len = absurd h
  placed_sound ring (j ∷ infos) (t ∷ stored) zero h sound len = (sound, len, h.2)
  placed_sound ring (j ∷ infos) (t ∷ stored) (suc i) h sound len = (h.0, h.1, placed_sound ring infos stored i h.2 sound len)

  -- a value behind the others
  pub new_values :
      (infos : List NameInfo) (stored : List StoredShown)
      → length infos ≡ length stored → place_named infos (string_bytes info.name) ≡ None
      → values_of (infos ++ info ∷ []) (stored ++ s ∷ []) ≡ with_value (value_of info s) (values_of infos stored)
  new_values [] [] same e = refl
  new_values [] (t ∷ stored) same e = absurd (omega arith)
  new_values (j ∷ infos) [] same e = absurd (omega arith)
  new_values (j ∷ infos) (t ∷ stored) same e =
      by_test (pointwise nat_eq (string_bytes j.name) (string_bytes info.name)) e (λ h. new_values infos stored (omega arith) h)
    where
      by_test :
          (b : Bool) → cond b (Some 0) (option_map suc (place_named infos (string_bytes info.name))) ≡ None
          → (place_named infos (string_bytes info.name) ≡ None
          → values_of (infos ++ info ∷ []) (stored ++ s ∷ []) ≡ with_value (value_of info s) (values_of infos stored))
          → value_of j t ∷ values_of (infos ++ info ∷ []) (stored ++ s ∷ [])
          ≡ cond b (value_of info s ∷ values_of infos stored) (value_of j t ∷ with_value (value_of info s) (values_of infos stored))
      by_test true h later = absurd cc
      by_test false h later = ap (λ vs. value_of j t ∷ vs) (later (no_later_place (place_named infos (string_bytes info.name)) h))

  pub new_sound :
      (ring : Ring) (infos : List NameInfo) (stored : List StoredShown)
      → AreSound ring infos stored → IsSound ring info.rank s → info.length ≡ length s.list
      → AreSound ring (infos ++ info ∷ []) (stored ++ s ∷ [])
  new_sound ring [] [] h sound len = (sound, len, tt)
  new_sound ring [] (t ∷ stored) h sound len = absurd h
  new_sound ring (j ∷ infos) [] h sound len = absurd h
  new_sound ring (j ∷ infos) (t ∷ stored) h sound len = (h.0, h.1, new_sound ring infos stored h.2 sound len)

-- the value at the place of a name has the name
pub found_value :
    (infos : List NameInfo) (stored : List StoredShown) (name : List ℕ) (i : ℕ) (d : NameInfo) (e : StoredShown)
    → length infos ≡ length stored → place_named infos name ≡ Some i
    → value_named (values_of infos stored) name ≡ Some (value_of (get_or infos i d) (get_or stored i e))
found_value [] stored name i d e same h = absurd cc
found_value (j ∷ infos) [] name i d e same h = absurd (omega arith)
found_value (j ∷ infos) (t ∷ stored) name i d e same h =
    by_test (pointwise nat_eq (string_bytes j.name) name) h (λ k q. found_value infos stored name k d e (omega arith) q)
  where
    by_test :
        (b : Bool) → cond b (Some 0) (option_map suc (place_named infos name)) ≡ Some i
        → ((k : ℕ) → place_named infos name ≡ Some k → value_named (values_of infos stored) name ≡ Some (value_of (get_or infos k d) (get_or stored k e)))
        → cond b (Some (value_of j t)) (value_named (values_of infos stored) name) ≡ Some (value_of (get_or (j ∷ infos) i d) (get_or (t ∷ stored) i e))
    by_test true h later = subst (λ k. Some (value_of j t) ≡ Some (value_of (get_or (j ∷ infos) k d) (get_or (t ∷ stored) k e))) (same_Some _ _ h) refl
    by_test false h later =
        let r = later_place (place_named infos name) i h in
        subst (λ k. value_named (values_of infos stored) name ≡ Some (value_of (get_or (j ∷ infos) k d) (get_or (t ∷ stored) k e))) r.2 (later r.0 r.1)

-- a value with a name has a place
pub no_value :
    (infos : List NameInfo) (stored : List StoredShown) (name : List ℕ) → place_named infos name ≡ None → value_named (values_of infos stored) name ≡ None
no_value [] stored name h = refl
no_value (j ∷ infos) [] name h = refl
no_value (j ∷ infos) (t ∷ stored) name h = by_test (pointwise nat_eq (string_bytes j.name) name) h (λ q. no_value infos stored name q)
  where
    by_test :
        (b : Bool) → cond b (Some 0) (option_map suc (place_named infos name)) ≡ None
        → (place_named infos name ≡ None → value_named (values_of infos stored) name ≡ None)
        → cond b (Some (value_of j t)) (value_named (values_of infos stored) name) ≡ None
    by_test true h later = absurd cc
    by_test false h later = later (no_later_place (place_named infos name) h)

-- a basis is kept: the value with the name has it now
pub kept_values :
    (infos : List NameInfo) (stored : List StoredShown) (name : List ℕ) (i : ℕ) (s e : StoredShown)
    → length infos ≡ length stored → place_named infos name ≡ Some i → s.list ≡ (get_or stored i e).list → is_some s.basis ≡ true
    → values_of infos (slice_set stored i s) ≡ with_basis name (values_of infos stored)
kept_values [] stored name i s e same found list some = absurd cc
kept_values (j ∷ infos) [] name i s e same found list some = absurd (omega arith)
kept_values (j ∷ infos) (t ∷ stored) name i s e same found list some =
    by_test (pointwise nat_eq (string_bytes j.name) name) i found list (λ k h l. kept_values infos stored name k s e (omega arith) h l some)
  where
    by_test :
        (b : Bool) (i : ℕ) → cond b (Some 0) (option_map suc (place_named infos name)) ≡ Some i → s.list ≡ (get_or (t ∷ stored) i e).list
        → ((k : ℕ) → place_named infos name ≡ Some k → s.list ≡ (get_or stored k e).list → values_of infos (slice_set stored k s) ≡ with_basis name (values_of infos stored))
        → values_of (j ∷ infos) (slice_set (t ∷ stored) i s)
        ≡ cond b (record { name = string_bytes j.name; rank = j.rank; list = t.list; kept = true } ∷ values_of infos stored) (value_of j t ∷ with_basis name (values_of infos stored))
    by_test true zero h l later = ap₂ (λ m k. record { name = string_bytes j.name; rank = j.rank; list = m; kept = k } ∷ values_of infos stored) l some
    by_test true (suc i) h l later = absurd (zero_apart (same_Some _ _ h))
      where
        zero_apart : 0 ≡ suc i → ⊥
        zero_apart z = omega arith
    by_test false zero h l later = let r = later_place (place_named infos name) 0 h in let z = r.2 in absurd (omega arith)
    by_test false (suc i) h l later =
        let r = later_place (place_named infos name) (suc i) h in
        let z : r.0 ≡ i = pred_same r.2 in
        ap (λ vs. value_of j t ∷ vs) (later i (r.1 ∙ ap Some z) l)
      where
        pred_same : {a b : ℕ} → suc a ≡ suc b → a ≡ b
        pred_same z = omega arith

-- and they stay sound
pub kept_sound :
    (ring : Ring) (infos : List NameInfo) (stored : List StoredShown) (i : ℕ) (s e : StoredShown) (d : NameInfo)
    → AreSound ring infos stored → IsSound ring (get_or infos i d).rank s → s.list ≡ (get_or stored i e).list
    → AreSound ring infos (slice_set stored i s)
kept_sound ring [] [] i s e d h sound same = tt
kept_sound ring [] (t ∷ stored) i s e d h sound same = absurd h
kept_sound ring (j ∷ infos) [] i s e d h sound same = absurd h
kept_sound ring (j ∷ infos) (t ∷ stored) zero s e d h sound same = (sound, h.1 ∙ ap length (sym same), h.2)
kept_sound ring (j ∷ infos) (t ∷ stored) (suc i) s e d h sound same = (h.0, h.1, kept_sound ring infos stored i s e d h.2 sound same)

-- the value at a place is sound
pub sound_at :
    (ring : Ring) (infos : List NameInfo) (stored : List StoredShown) (i : ℕ) (e : StoredShown) (d : NameInfo)
    → AreSound ring infos stored → i < length infos → IsSound ring (get_or infos i d).rank (get_or stored i e)
sound_at ring [] stored i e d h lt = absurd (omega arith)
sound_at ring (j ∷ infos) [] i e d h lt = absurd h
sound_at ring (j ∷ infos) (t ∷ stored) zero e d h lt = h.0
sound_at ring (j ∷ infos) (t ∷ stored) (suc i) e d h lt = sound_at ring infos stored i e d h.2 (omega arith)
