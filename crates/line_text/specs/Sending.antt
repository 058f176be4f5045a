-- What a sink took of bytes that are gathered before they are written
use Rattle.std.specs.Prelude.{List, ◌++◌, ◌≡◌, ℕ}
use Rattle.std.specs.declared.option.Option.{Option}
use Rattle.std.specs.Io.KnownBytes.{Appends}

-- what was held and these bytes are what was written and what is held
pub record AreSent (old new : Option (List ℕ)) (held held' bytes : List ℕ) : Type 0 where
  pub written : List ℕ
  pub took : Appends old new written
  pub parts : held ++ bytes ≡ written ++ held'
