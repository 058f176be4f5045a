use Rattle.std.proofs.Common.{◌≡◌, ◌<◌, ℕ, length, get_or, None}
use Rattle.std.specs.Slots.{slots_items}
use Rattle.pivot_table.specs.Law.{word_row}
use Rattle.pivot_table.proofs.words.rows_of.Given as goal

abbrev pub invariant-loop-column : goal.invariant-loop-column
invariant-loop-column l = record { same : length l.rows.items ≡ length l.initial.rows.items; done : (k : ℕ) → k < l.column → get_or l.rows.items k None ≡ word_row (get_or (slots_items l.closed.words) k 0) }
