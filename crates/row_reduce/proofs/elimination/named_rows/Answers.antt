use Rattle.std.proofs.Common.{ap, arith, length, set, ◌<◌, ◌∙◌, ◌≡◌}
use Rattle.std.proofs.lemmas.List.{length-set}
use Rattle.row_reduce.proofs.Echelons.{taken_fit, taken_found, taken_kept, taken_none, taken_read}
use Rattle.row_reduce.proofs.elimination.named_rows.Goals as goal
use Rattle.row_reduce.proofs.elimination.named_rows.Goals.{in-Some+in_ok-push, in_default}
use Rattle.row_matrix.specs.Rows.{shown_row_at}

pub index_mut-requires : goal.index_mut-requires
index_mut-requires c =
    let v = c.loop-past.invariant in
    let past = c.loop-past.past in
    let f = taken_fit c.args.rows.items c.args.held.now past (omega arith) c.requires c.in-Some.number c.in-Some.is in
    omega (arith, f.0, v.count, c.loop-past.rows.ok.0)

pub loop-past-preserved : goal.loop-past-preserved
loop-past-preserved c =
    let v = c.loop-past.invariant in
    let R = c.args.rows.items in
    let held = c.args.held.now in
    let past = c.loop-past.past in
    let lt : past < length held = omega arith in
    let rows = c.loop-past.rows.items in
    let found = c.loop-past.found.items in
    elim c.match-held-past.branch [
      | in-Some+in_ok-push w ↦
          let k = w.in-Some.number in
          let none = w.replace.new.dest in
          let same : c.match-held-past.rows.items ≡ set rows k none = ap (λ x. x.items) w.rows-is in
          record {
            found = ap (λ x. x.items) w.found-is ∙ w.in_ok-push.ensures.items
                ∙ taken_found R held past lt c.requires k w.in-Some.is rows found v.count v.kept w.replace.result v.found
                (taken_read rows k w.replace.result w.index_mut.result.now w.replace.ensures.value w.index_mut.ensures.value);
            count = ap length same ∙ length-set rows k none ∙ v.count;
            kept = λ j less. ap (λ xs. shown_row_at xs j) same ∙ taken_kept R held past lt c.requires k w.in-Some.is rows found v.count v.kept none j less;
          }
      | in_default w ↦
          let same : c.match-held-past.rows.items ≡ rows = ap (λ x. x.items) w.rows-is in
          record {
            found = ap (λ x. x.items) w.found-is ∙ taken_none R held past lt c.requires found v.found w.in_default.is;
            count = ap length same ∙ v.count;
            kept = λ j less. ap (λ xs. shown_row_at xs j) same ∙ v.kept j (omega arith);
          }
    ]
