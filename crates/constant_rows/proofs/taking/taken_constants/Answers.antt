use Rattle.std.specs.Prelude.{Contains}
use Rattle.std.proofs.Common.{arith, drop, get_or, subst, sym, ℕ, ◌+◌, ◌<◌, ◌≡◌, ◌⊎◌}
use Rattle.constant_rows.proofs.Listing.{AreListed, listed_kept, listed_more}
use Rattle.constant_rows.proofs.Reading.{all_taken, left_less, none_left}
use Rattle.constant_rows.specs.Rows.{entry_constants}
use Rattle.constant_rows.proofs.taking.taken_constants.Goals as goal

pub loop-row-preserved-then-residue-eq0 : goal.loop-row-preserved-then-residue-eq0
loop-row-preserved-then-residue-eq0 c =
    let p = c.args.modulus.now.value in
    let touched = c.args.touched.now in
    let i = c.loop-row.row-index in
    let row : ℕ = get_or touched i 0 in
    let start = c.args.sums.now.items in
    let sums = c.loop-row.sums.items in
    let entries = c.loop-row.entries.items in
    let taken = sym c.take_residue-residue.ensures.taken in
    record {
      listed = subst (λ z. AreListed p start z entries c.loop-row.width) taken
          (listed_kept p start sums entries c.loop-row.width row c.take_residue-residue.result c.loop-row.invariant.listed
          c.take_residue-residue.ensures.value c.if-residue-eq0.true);
      rest = subst (λ z. (j : ℕ) → (get_or z j 0 ≡ 0) ⊎ Contains (drop (i + 1) touched) j) taken
          (left_less touched i sums c.loop-row.invariant.rest c.loop-row-test.true);
    }

pub loop-row-preserved : goal.loop-row-preserved
loop-row-preserved c =
    let p = c.args.modulus.now.value in
    let touched = c.args.touched.now in
    let i = c.loop-row.row-index in
    let row : ℕ = get_or touched i 0 in
    let start = c.args.sums.now.items in
    let sums = c.loop-row.sums.items in
    let entries = c.loop-row.entries.items in
    let new = c.push.new.self.items in
    let residue = c.take_residue-residue.result in
    let after = c.wider-width.result in
    let some : 0 < residue = (let test = c.if-residue-eq0.false in omega (arith, test)) in
    let taken = sym c.take_residue-residue.ensures.taken in
    record {
      listed = subst (λ z. AreListed p start z new after) taken
          (listed_more p start sums entries c.loop-row.width row residue c.loop-row.invariant.listed c.take_residue-residue.ensures.value new after some
          c.take_residue-residue.ensures.small c.in_ok-push.ensures.items c.wider-width.ensures.kept c.wider-width.ensures.above);
      rest = subst (λ z. (j : ℕ) → (get_or z j 0 ≡ 0) ⊎ Contains (drop (i + 1) touched) j) taken
          (left_less touched i sums c.loop-row.invariant.rest c.loop-row-test.true);
    }

pub returns-clause-sum : goal.returns-clause-sum
returns-clause-sum c = λ n.
    let sums = c.loop-row.sums.items in
    all_taken c.args.sums.now.items sums (entry_constants n c.loop-row.entries.items)
    (none_left c.args.touched.now c.loop-row.row-index sums c.loop-row.invariant.rest c.loop-row-test.false) (c.loop-row.invariant.listed.sum n)

pub returns-clause-zeros : goal.returns-clause-zeros
returns-clause-zeros c = none_left c.args.touched.now c.loop-row.row-index c.loop-row.sums.items c.loop-row.invariant.rest c.loop-row-test.false
