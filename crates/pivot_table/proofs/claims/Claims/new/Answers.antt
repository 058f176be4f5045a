use Rattle.std.proofs.Common.{◌∙◌, []}
use Rattle.pivot_table.proofs.Keeps.{opens_as}
use Rattle.pivot_table.proofs.claims.Claims.new.Goals as goal

pub of_words-requires : goal.of_words-requires
of_words-requires c = opens_as _ _ _ _ _ [] c.in_ok-rows.ensures.0 c.in_ok-rows.ensures.1 (c.as_slice.ensures.value ∙ c.in_ok-words.ensures) c.requires.held
