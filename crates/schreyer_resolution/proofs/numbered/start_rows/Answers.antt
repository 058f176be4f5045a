use Rattle.std.proofs.Common.{arith, subst, sym, ◌+◌}
use Rattle.schreyer_resolution.proofs.FreeRows.{starts_more, starts_next}
use Rattle.schreyer_resolution.specs.Sharing.{AreStarts}
use Rattle.schreyer_resolution.proofs.numbered.start_rows.Goals as goal

pub loop-key-preserved : goal.loop-key-preserved
loop-key-preserved c =
    let ring = c.args.ring.now in
    let cols = c.args.columns.now in
    let keys = c.args.keys.now in
    let old = c.loop-key.products in
    let new = c.push_row.new.products in
    let i = c.loop-key.key-index in
    let key = c.key-item.result in
    let rows = c.loop-key.rows.items in
    let row = c.in_ok-push_row.field-0 in
    let made = c.in_ok-push_row.ensures in
    let room = c.loop-key.invariant.room in
    record {
      count = omega (arith, c.push_reserved.ensures.len, c.loop-key.invariant.count);
      room = omega (arith, c.push_reserved.ensures.capacity, room);
      part = made.part;
      starts = subst (AreStarts ring cols new.numbers new.entries.items keys (i + 1)) (sym c.push_reserved.ensures.items)
          (starts_next ring cols new.numbers new.entries.items keys i rows row key
          (starts_more ring cols old.numbers new.numbers old.entries.items new.entries.items keys i rows made.more.numbers made.more.entries c.loop-key.invariant.starts)
          c.loop-key-test.true c.key-item.is made.row);
    }
