use Rattle.std.proofs.Common.{ap, arith, get_or, length, subst, ◌∙◌, ◌++◌, ◌<◌}
use Rattle.monomials.specs.Exponents.{unit}
use Rattle.formal_sums.proofs.Sameness.{IsSame_scale, IsSame_trans}
use Rattle.formal_sums.specs.FormalSums.{IsSame, scale}
use Rattle.row_matrix.specs.Rows.{AreEntries, row_sum}
use Rattle.dense_reduction.proofs.Reducing.{left_row_of, residues_below, first_residue_read, some_entries}
use Rattle.dense_reduction.specs.Dense.{dense_sum}
use Rattle.dense_reduction.specs.Rests.{rows_left}
use Rattle.dense_reduction.proofs.reduction.left_row.Goals as goal

pub rescaled_entries-requires-clause-residues : goal.rescaled_entries-requires-clause-residues
rescaled_entries-requires-clause-residues c =
    residues_below c.args.shared.modulus.now.value 0 (length c.args.own.now.pivots.items) c.args.left.now c.requires.entries

pub returns : goal.returns
returns c =
    let p = c.args.shared.modulus.now.value in
    let one : 1 < p = c.domain.ensures.above_one in
    let left = c.args.left.now in
    let f = c.in-Some.inverse in
    let some : 0 < length left = some_entries left c.if-is_empty.ensures in
    let numbers = c.in_ok-numbers-in-Some.numbers.items in
    let sources = c.in_ok-sources-in-Some.sources.items in
    let rows = c.args.shared.rows.now ++ rows_left c.args.own.now.left.items in
    let columns = length c.args.own.now.pivots.items in
    left_row_of p columns c.args.shared.inputs (get_or left 0 (0, 0)).1 f rows c.args.row.now left c.args.taken.now sources c.new.result
    c.domain.ensures.domain c.requires.entries some (first_residue_read left) c.in-Some.ensures.value
    (c.new.ensures.entries ∙ c.in_ok-entries-in-Some.ensures)
    c.new.ensures.sources
    (subst (λ m. AreEntries p 0 m sources) (ap length c.deref.ensures.value ∙ c.in_ok-numbers-in-Some.ensures.count) c.in_ok-sources-in-Some.ensures.entries)
    (λ n key.
    IsSame_trans
    (subst (λ xs. IsSame p (row_sum key sources) (scale f (unit n) (dense_sum key 0 xs))) c.deref.ensures.value (c.in_ok-sources-in-Some.ensures.sum n key))
    (IsSame_scale (let z : 0 < p = omega arith in z) f (unit n) (c.in_ok-numbers-in-Some.ensures.sum n key)))

pub compose_sources-requires-clause-rows : goal.compose_sources-requires-clause-rows
compose_sources-requires-clause-rows c = c.requires.rows

pub compose_sources-requires-clause-row : goal.compose_sources-requires-clause-row
compose_sources-requires-clause-row c = c.requires.row

pub compose_sources-requires-clause-taken : goal.compose_sources-requires-clause-taken
compose_sources-requires-clause-taken c = c.requires.taken
