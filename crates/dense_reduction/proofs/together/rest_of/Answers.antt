use Rattle.std.proofs.Common.{None, [], ap, ap₂, arith, get_or, length, sym, ◌++◌, ◌-◌, ◌<◌, ◌∙◌, ◌∷◌, ◌≡◌}
use Rattle.std.proofs.lemmas.List.{get_or_default}
use Rattle.formal_sums.proofs.Combining.{Each_map}
use Rattle.row_matrix.specs.Rows.{AreEntries, IsRow, RowShown, no_row}
use Rattle.dense_reduction.proofs.Lanes.{negative_one, none_of, sources_good}
use Rattle.dense_reduction.proofs.OnTheWay.{way_left_over, way_rest}
use Rattle.dense_reduction.specs.Rests.{rows_left}
use Rattle.dense_reduction.specs.Together.{lane_left, lane_taken}
use Rattle.dense_reduction.proofs.together.rest_of.Goals as goal

pub returns-then-is_empty : goal.returns-then-is_empty
returns-then-is_empty c = λ known way.
    let p = c.args.shared.modulus.now.value in
    let one : 1 < p = c.domain.ensures.above_one in
    let t = c.args.together.now in
    let none : c.in_ok-left.left.items ≡ [] = none_of c.in_ok-left.left.len c.in_ok-left.left.items c.in_ok-left.left.ok.0
    (sym c.is_empty.ensures ∙ c.if-is_empty.true) in
    way_rest p t.limit (length t.numbers.items) c.args.shared.inputs c.args.shared.rows.now (rows_left c.args.own.now.left.items) c.args.own.now.pivots.items
    known t.left.items t.numbers.items t.taken.items c.args.j c.args.lost None (omega (arith, one)) c.requires.own
    (ap (lane_left c.args.j) (sym c.deref.ensures.value) ∙ sym c.in_ok-left.ensures ∙ none) way

pub left_row-requires-clause-rows : goal.left_row-requires-clause-rows
left_row-requires-clause-rows c =
    let p = c.args.shared.modulus.now.value in
    let columns = length c.args.together.now.numbers.items in
    Each_map (IsRow p columns c.args.shared.inputs) (λ (r : RowShown). AreEntries p 0 c.args.shared.inputs r.sources)
    (c.args.shared.rows.now ++ rows_left c.args.own.now.left.items) (λ r h. h.sources) c.requires.rows

pub left_row-requires-clause-row : goal.left_row-requires-clause-row
left_row-requires-clause-row c =
    sources_good c.args.shared.modulus.now.value (length c.args.together.now.numbers.items) c.args.shared.inputs c.args.shared.rows.now
    (rows_left c.args.own.now.left.items)
    c.args.lost.number c.index-shared-lost.result c.requires.rows c.requires.known

pub returns : goal.returns
returns c = λ known way.
    let p = c.args.shared.modulus.now.value in
    let one : 1 < p = c.domain.ensures.above_one in
    let t = c.args.together.now in
    let rows = c.args.shared.rows.now in
    let l = c.args.lost in
    let less : c.neg.result ≡ p - 1 = negative_one p c.neg.result one c.neg.ensures.value in
    way_left_over p t.limit (length t.numbers.items) c.args.shared.inputs rows (rows_left c.args.own.now.left.items) c.args.own.now.pivots.items known
    t.left.items t.numbers.items t.taken.items c.args.j l c.in_ok-rest.rest
    (length c.args.own.now.pivots.items) (get_or rows l.number c.index-shared-lost.result) c.deref-3.result.now c.deref-4.result.now
    (omega (arith, one)) c.requires.own c.requires.own.count (get_or_default rows l.number c.index-shared-lost.result no_row c.requires.known)
    (c.deref-3.ensures.value ∙ c.in_ok-left.ensures ∙ ap (lane_left c.args.j) c.deref.ensures.value)
    (c.deref-4.ensures.value ∙ c.in_ok-taken.ensures ∙ ap₂ (λ f ts. (l.winner, f) ∷ lane_taken c.args.j ts) less c.deref-2.ensures.value)
    c.in_ok-rest.ensures way

pub entries_left-requires : goal.entries_left-requires
entries_left-requires c = c.requires.row

pub rows_taken-requires : goal.rows_taken-requires
rows_taken-requires c = c.requires.row
