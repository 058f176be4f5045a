-- What bounds and shapes the basis runs of a script
use Rattle.std.specs.Prelude.{ℕ}
use Rattle.queue_updates.specs.declared.Update.{Update}
use Rattle.f4_engine.specs.Engines.{F4Shown}
use Rattle.command_words.specs.declared.words.Request.{Request}

-- the budget of pairs of a basis run, how many workers it has, how many helpers one job has, and what is queued as members come
pub record Limits : Type 0 where
  pub pairs : ℕ
  pub workers : ℕ
  pub helpers : ℕ
  pub update : Update

-- those of the words
abbrev pub limits_of : Request → Limits
limits_of r = record { pairs = r.pairs; workers = r.workers; helpers = r.helpers; update = r.update }

-- those of an engine
abbrev pub limits_in : F4Shown → Limits
limits_in e = record { pairs = e.pairs; workers = e.workers; helpers = e.helpers; update = e.update }
