use Rattle.std.proofs.Common.{[], arith, get_or, length, subst, sym, ◌<◌, ◌≡◌, ◌∙◌}
use Rattle.std.proofs.lemmas.List.{get_or_default}
use Rattle.induced_leads.proofs.Pushing.{pushed_items}
use Rattle.induced_leads.specs.Reaching.{positions_of}
use Rattle.schreyer_resolution.specs.Marking.{AreTermMarks}
use Rattle.schreyer_resolution.specs.declared.marking.ColumnMarks.{ColumnMarks}
use Rattle.schreyer_resolution.proofs.marking.column_marks.Goals as goal

pub loop-column-preserved : goal.loop-column-preserved
loop-column-preserved c =
    let cols = c.args.columns.now in
    let P = positions_of c.args.index.now in
    let i = c.loop-column.column-index in
    let v = c.column-item.result in
    let made = c.in_ok-marks_of.field-0 in
    let lt : i < length cols = c.loop-column-test.true in
    let count = c.loop-column.invariant.count in
    let room = c.loop-column.invariant.room in
    record {
      count = omega (arith, c.push_reserved.ensures.len, count);
      room = omega (arith, c.push_reserved.ensures.capacity, room);
      each = λ k m l is. subst (λ xs. (m : ColumnMarks) → m ≡ get_or xs k m → AreTermMarks cols P (get_or cols k []) m) (sym c.push_reserved.ensures.items)
          (λ m is. pushed_items (λ j m. AreTermMarks cols P (get_or cols j []) m) c.loop-column.marks.items made i (omega (arith, count))
          c.loop-column.invariant.each
          (subst (λ z. AreTermMarks cols P z made) (c.terms.ensures ∙ c.column-item.is ∙ get_or_default cols i v [] lt) c.in_ok-marks_of.ensures) k m l is) m is;
    }
