use Rattle.std.proofs.Common.{[], flat_map, take, ◌++◌, ◌∷◌, ◌≡◌}
use Rattle.poly_text.specs.Texts.{entries_text, names_of}
use Rattle.session_values.proofs.maps.append_columns.Given as goal

abbrev pub invariant-loop-column : goal.invariant-loop-column
invariant-loop-column l =
    l.out ≡ l.initial.out ++ flat_map (λ c. entries_text (names_of l.ring) l.rows c ++ 10 ∷ []) (take l.column-index l.columns)
