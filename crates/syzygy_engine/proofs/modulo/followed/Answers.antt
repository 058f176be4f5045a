use Rattle.std.proofs.Common.{ap₂, ◌++◌, ◌∙◌}
use Rattle.syzygy_engine.proofs.modulo.followed.Goals as goal

pub returns : goal.returns
returns c = c.from_vec.ensures ∙ c.in_ok-append.ensures.items ∙ ap₂ ◌++◌ c.into_vec-all.ensures c.into_vec-rest.ensures
