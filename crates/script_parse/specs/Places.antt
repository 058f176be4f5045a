-- Values by the places of their names
use Rattle.std.specs.Prelude.{List, None, Option, Some, [], if◌then◌else◌, nat_eq, option_map, string_bytes, suc, ℕ, ◌∷◌}
use Rattle.std.specs.Cmp.Lexicographic.{pointwise}
use Rattle.script_parse.specs.declared.named.NameInfo.{NameInfo}

-- the place of the first with this name
abbrev pub place_named : List NameInfo → List ℕ → Option ℕ
place_named [] name = None
place_named (i ∷ infos) name = if pointwise nat_eq (string_bytes i.name) name then Some 0 else option_map suc (place_named infos name)

-- the values, with this one in place of the one with its name, or behind them all
abbrev pub with_info : NameInfo → List NameInfo → List NameInfo
with_info info [] = info ∷ []
with_info info (i ∷ infos) = if pointwise nat_eq (string_bytes i.name) (string_bytes info.name) then info ∷ infos else i ∷ with_info info infos
