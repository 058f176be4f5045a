use Rattle.std.proofs.Common.{[], ap, arith, length, subst, subst₂, sym, ◌≡◌, ◌≤◌}
use Rattle.numbered_sums.proofs.Taking.{written_back}
use Rattle.numbered_sums.specs.KeySums.{AddsProduct}
use Rattle.remainders.proofs.Flagging.{length_longer, longer_grown}
use Rattle.remainders.proofs.Resting.{taken_more, taken_over}
use Rattle.remainders.specs.Leaving.{AreTakenAway, IsLonger, IsRowOfList}
use Rattle.complements.proofs.numbered.add_product.Goals as goal

pub returns : goal.returns
returns c =
    let ring = c.args.ring.now in
    let columns = c.args.columns.now in
    let p = ring.modulus.value in
    let factor = c.args.factor.now in
    let f = factor.1 in
    let a = c.args.accumulator.now in
    let taken = c.requires.gathered.taken in
    let keys = c.numbered_product.new.numbers in
    let row = c.in_ok-row.row.items in
    let longer : IsLonger a.numbers keys = longer_grown a.numbers keys row c.in_ok-row.ensures.grown in
    let k = c.len.result in
    let wide = c.resize.new.self in
    let less : length a.sums.items ≤ k = omega (arith, length_longer a.numbers keys longer, taken.count, c.len.ensures) in
    let over : AreTakenAway ring columns keys [] wide.items a.touched.items =
    taken_over ring columns a.numbers [] keys k a.sums.len a.sums.items wide.items a.touched.items longer c.len.ensures a.sums.ok.0 less c.in_ok-resize.ensures.items taken in
    let new = c.add_multiple.new.sums in
    let touched = c.add_multiple.new.touched.items in
    let adds : AddsProduct p f row wide.items new =
    subst₂ (λ es xs. AddsProduct p f es xs new) c.deref.ensures.value c.as_mut_slice.ensures.value c.in_ok-add_multiple.ensures.adds in
    let product : IsRowOfList ring columns keys row = record { index = factor.0.position; monomial = factor.0.monomial; within = c.requires.position; row = c.in_ok-row.ensures.row } in
    let more : AreTakenAway ring columns keys [] new touched =
    taken_more ring columns keys [] f wide.items new a.touched.items touched row over product c.requires.residue adds c.in_ok-add_multiple.ensures.small c.in_ok-add_multiple.ensures.touched in
    let count : length new ≡ length wide.items = adds.count in
    let whole : wide.len ≡ length new = omega (arith, count, c.as_mut_slice.ensures.len, ap length c.as_mut_slice.ensures.value) in
    record {
      keys = c.in_ok-row.ensures.keys;
      hashes = c.requires.gathered.hashes;
      taken = subst (λ ns. AreTakenAway ring columns keys [] ns touched) (sym (written_back wide.len new wide.items whole)) more;
    }
