-- The columns that leave since they have a choice
use Rattle.std.specs.Prelude.{None, Option, Some, is_some}
use Rattle.std.proofs.Common.{Bool, List, [], ap, append-nil, arith, false, length, subst, sym, true, ℕ, ◌++◌, ◌+◌, ◌-◌, ◌∙◌, ◌∷◌, ◌≡◌, ◌≤◌}
use Rattle.std.proofs.lemmas.List.{append_assoc}
use Rattle.column_passes.specs.Passing.{add_index, indices_of}
use Rattle.column_passes.specs.Placing.{ArePlacesAfter, IsPlacePut}
use Rattle.column_passes.specs.declared.placing.Leaving.{Leaving}
use Rattle.column_passes.proofs.Places.{put_leaves, put_length, put_stays, told_none}

-- the columns before the rest were met
pub record AreIndicesTo (choices rest : List (Option (ℕ × ℕ))) (leaving : Leaving) : Type 0 where
  pub indices : List ℕ
  pub turn : ArePlacesAfter indices leaving
  pub all : indices ++ indices_of (length leaving.places.items - leaving.count) rest ≡ indices_of 0 choices

pub indices_start : (choices rest : List (Option (ℕ × ℕ))) (l : Leaving) → rest ≡ choices → l.places.items ≡ [] → l.count ≡ 0 → AreIndicesTo choices rest l
indices_start choices rest l er e none =
    let size : length l.places.items ≡ 0 = ap length e in
    let k : length l.places.items - l.count ≡ 0 = omega (arith, size) in
    record { indices = []; turn = told_none l e none; all = ap (λ z. indices_of z rest) k ∙ ap (indices_of 0) er }

pub indices_more :
    (choices rest rest' : List (Option (ℕ × ℕ))) (x : Option (ℕ × ℕ)) (leaves : Bool) (old new : Leaving) → rest ≡ x ∷ rest'
    → old.count ≤ length old.places.items
    → IsPlacePut leaves old new → leaves ≡ is_some x → AreIndicesTo choices rest old → AreIndicesTo choices rest' new
indices_more choices rest rest' x leaves old new e bound put is h =
    go x (subst (λ z. IsPlacePut z old new) is put) (sym (ap (λ z. h.indices ++ indices_of (length old.places.items - old.count) z) e) ∙ h.all)
  where
    go :
        (choice : Option (ℕ × ℕ)) → IsPlacePut (is_some choice) old new
        → h.indices ++ add_index choice (length old.places.items - old.count) (λ i. indices_of i rest') ≡ indices_of 0 choices
        → AreIndicesTo choices rest' new
    go None put' all =
        let size = put_length false old new put' in
        let count : new.count ≡ old.count = put'.1 in
        let next : length new.places.items - new.count ≡ (length old.places.items - old.count) + 1 = omega (arith, size, count, bound) in
        record {
          indices = h.indices;
          turn = λ q. put_stays old new put' q ∙ h.turn q;
          all = ap (λ z. h.indices ++ indices_of z rest') next ∙ all;
        }
    go (Some a) put' all =
        let size = put_length true old new put' in
        let count : new.count ≡ old.count + 1 = put'.1 in
        let next : length new.places.items - new.count ≡ length old.places.items - old.count = omega (arith, size, count, bound) in
        record {
          indices = h.indices ++ (length old.places.items - old.count) ∷ [];
          turn = put_leaves h.indices old new bound put' h.turn;
          all = append_assoc h.indices ((length old.places.items - old.count) ∷ []) (indices_of (length new.places.items - new.count) rest')
              ∙ ap (λ z. h.indices ++ (length old.places.items - old.count) ∷ indices_of z rest') next ∙ all;
        }

pub indices_end : (choices rest : List (Option (ℕ × ℕ))) (l : Leaving) → rest ≡ [] → AreIndicesTo choices rest l → ArePlacesAfter (indices_of 0 choices) l
indices_end choices rest l e h =
    subst (λ z. ArePlacesAfter z l)
    (sym (append-nil h.indices) ∙ sym (ap (λ z. h.indices ++ indices_of (length l.places.items - l.count) z) e) ∙ h.all) h.turn
