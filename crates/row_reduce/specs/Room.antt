-- Room in which a helper reduces rows, one or eight
use Rattle.std.specs.Prelude.{ℕ}
use Rattle.dense_reduction.specs.Eights.{AreAllIdle}
use Rattle.dense_reduction.specs.Underway.{AreIdle}
use Rattle.row_reduce.specs.declared.helping.Room.{Room}

-- for rows of so many columns, all numbers 0
abbrev pub HasIdleRoom : ℕ → Room → Type 0
HasIdleRoom columns room = AreIdle columns room.work.numbers.items × AreAllIdle columns room.together.numbers.items
