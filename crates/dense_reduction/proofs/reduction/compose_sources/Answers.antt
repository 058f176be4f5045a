use Rattle.std.proofs.Common.{ap, arith, get_or, length, subst, sym, ◌+◌, ◌++◌, ◌<◌, ◌∙◌, ◌≡◌}
use Rattle.std.proofs.lemmas.List.{get_or_default, length-append, length-map, length-replicate, take_all}
use Rattle.formal_sums.specs.FormalSums.{IsSame}
use Rattle.term_lists.proofs.Scaling.{Each_at}
use Rattle.row_matrix.specs.Rows.{AreEntries, Entry, RowShown, no_row, shown_row_at}
use Rattle.dense_reduction.proofs.Reducing.{dense_start, sources_more, sources_start}
use Rattle.dense_reduction.specs.Dense.{IsDense, dense_sum}
use Rattle.dense_reduction.specs.Rests.{rows_left}
use Rattle.dense_reduction.specs.Underway.{sources_sum}
use Rattle.dense_reduction.specs.declared.lefts.Left.{Left}
use Rattle.dense_reduction.proofs.reduction.compose_sources.Goals as goal

pub add_sources-limit-requires-clause-small : goal.add_sources-limit-requires-clause-small
add_sources-limit-requires-clause-small c =
    subst (IsDense c.first_limit-limit.result) (sym (c.in_ok-sources.ensures.items_if_clones_equal (λ y e. e))) (dense_start c.args.shared.modulus.now.value c.first_limit-limit.result c.args.shared.inputs c.domain.ensures.above_one c.first_limit-limit.ensures.room)

pub add_sources-limit-requires-clause-entries : goal.add_sources-limit-requires-clause-entries
add_sources-limit-requires-clause-entries c =
    let size : length c.in_ok-sources.sources.items ≡ c.args.shared.inputs = ap length (c.in_ok-sources.ensures.items_if_clones_equal (λ y e. e)) ∙ length-replicate c.args.shared.inputs 0 in
    subst (λ m. AreEntries c.args.shared.modulus.now.value 0 m c.args.row.now.sources) (sym size) c.requires.row

pub loop-part-init : goal.loop-part-init
loop-part-init c =
    let a = c.add_sources-limit in
    let zeros = c.in_ok-sources.ensures.items_if_clones_equal (λ y e. e) in
    record {
      count = a.ensures.adds.count ∙ ap length zeros ∙ length-replicate c.args.shared.inputs 0;
      room = a.ensures.room;
      small = a.ensures.small;
      sum = λ n key. sources_start key (c.args.shared.rows.now ++ rows_left c.args.own.now.left.items) c.args.row.now c.args.shared.inputs c.in_ok-sources.sources.items a.new.sources.items zeros a.ensures.adds;
    }

pub add_sources-limit-requires-in-loop-part-clause-entries : goal.add_sources-limit-requires-in-loop-part-clause-entries
add_sources-limit-requires-in-loop-part-clause-entries c =
    let p = c.args.shared.modulus.now.value in
    let i = c.loop-part.part-index in
    let t : Entry = get_or c.args.taken.now i (0, 0) in
    let lt = c.loop-part-test.true in
    let r = c.row_numbered-added.result.now in
    let q = Each_at (λ (x : Entry). (x.0 < length (c.args.shared.rows.now ++ rows_left c.args.own.now.left.items)) × (x.1 < p)) c.args.taken.now i t c.requires.taken lt (get_or_default c.args.taken.now i (0, 0) t lt) in
    let rows = c.args.shared.rows.now ++ rows_left c.args.own.now.left.items in
    let at : r ≡ shown_row_at rows t.0 = c.row_numbered-added.ensures ∙ ap (λ left. shown_row_at (c.args.shared.rows.now ++ rows_left left) t.0) c.as_slice.ensures.value in
    let good : AreEntries p 0 c.args.shared.inputs r.sources = Each_at (λ (x : RowShown). AreEntries p 0 c.args.shared.inputs x.sources) rows t.0 r c.requires.rows q.0 (at ∙ get_or_default rows t.0 no_row r q.0) in
    subst (λ m. AreEntries p 0 m r.sources) (sym c.loop-part.invariant.count) good

pub loop-part-preserved : goal.loop-part-preserved
loop-part-preserved c =
    let i = c.loop-part.part-index in
    let t : Entry = get_or c.args.taken.now i (0, 0) in
    let lt = c.loop-part-test.true in
    let is = get_or_default c.args.taken.now i (0, 0) t lt in
    let r = c.row_numbered-added.result.now in
    let a = c.add_sources-limit-in-loop-part in
    let rows = c.args.shared.rows.now ++ rows_left c.args.own.now.left.items in
    let at : r ≡ shown_row_at rows t.0 = c.row_numbered-added.ensures ∙ ap (λ left. shown_row_at (c.args.shared.rows.now ++ rows_left left) t.0) c.as_slice.ensures.value in
    record {
      count = a.ensures.adds.count ∙ c.loop-part.invariant.count;
      room = a.ensures.room;
      small = a.ensures.small;
      sum = λ n key. sources_more key rows c.args.row.now c.args.taken.now i t r c.loop-part.sources.items a.new.sources.items lt is at a.ensures.adds (c.loop-part.invariant.sum n key);
    }

pub row_numbered-added-requires : goal.row_numbered-added-requires
row_numbered-added-requires c =
    let rows = c.args.shared.rows.now in
    let left = c.args.own.now.left.items in
    let i = c.loop-part.part-index in
    let t : Entry = get_or c.args.taken.now i (0, 0) in
    let known = Each_at (λ (x : Entry). (x.0 < length (rows ++ rows_left left)) × (x.1 < c.args.shared.modulus.now.value)) c.args.taken.now i t c.requires.taken c.loop-part-test.true (get_or_default c.args.taken.now i (0, 0) t c.loop-part-test.true) in
    let size : length (rows ++ rows_left left) ≡ length rows + length left = length-append rows (rows_left left) ∙ ap (λ n. length rows + n) (length-map left (λ (l : Left). l.row)) in
    omega (arith, known.0, size, ap length c.as_slice.ensures.value)

pub add_sources-limit-requires-in-loop-part-clause-factor : goal.add_sources-limit-requires-in-loop-part-clause-factor
add_sources-limit-requires-in-loop-part-clause-factor c =
    let i = c.loop-part.part-index in
    let t : Entry = get_or c.args.taken.now i (0, 0) in
    (Each_at (λ (x : Entry). (x.0 < length (c.args.shared.rows.now ++ rows_left c.args.own.now.left.items)) × (x.1 < c.args.shared.modulus.now.value)) c.args.taken.now i t c.requires.taken c.loop-part-test.true (get_or_default c.args.taken.now i (0, 0) t c.loop-part-test.true)).1

pub returns-clause-sum : goal.returns-clause-sum
returns-clause-sum c = λ n key.
    let rows = c.args.shared.rows.now ++ rows_left c.args.own.now.left.items in
    let taken = c.args.taken.now in
    subst (λ xs. IsSame c.args.shared.modulus.now.value (dense_sum key 0 c.loop-part.sources.items) (sources_sum key rows c.args.row.now xs))
    (take_all c.loop-part.part-index taken c.loop-part-test.false) (c.loop-part.invariant.sum n key)
