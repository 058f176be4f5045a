use Rattle.std.proofs.Common.{take}
use Rattle.f4_job.specs.Made.{AreMadeRows}
use Rattle.f4_job.proofs.making.make_rows.Given as goal

abbrev pub invariant-loop-row : goal.invariant-loop-row
invariant-loop-row l = AreMadeRows l.ring l.columns l.products (take l.row-index l.rows) l.made.items
