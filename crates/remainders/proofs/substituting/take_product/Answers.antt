use Rattle.std.proofs.Common.{ap, arith, length, subst, sym, ◌≡◌}
use Rattle.numbered_sums.proofs.Taking.{written_back}
use Rattle.numbered_sums.specs.KeySums.{AddsProduct}
use Rattle.remainders.proofs.Resting.{taken_more}
use Rattle.remainders.specs.Leaving.{AreTakenAway}
use Rattle.remainders.proofs.substituting.take_product.Goals as goal

pub returns : goal.returns
returns c =
    let ring = c.args.ring.now in
    let p = ring.modulus.value in
    let row = c.args.product.now in
    let f = c.factor_for.result in
    let old = c.args.sums.now in
    let new = c.add_multiple.new.sums in
    let touched = c.add_multiple.new.touched.items in
    let adds : AddsProduct p f row old.items new = subst (λ xs. AddsProduct p f row xs new) c.as_mut_slice.ensures.value c.in_ok-add_multiple.ensures.adds in
    let more = taken_more ring c.args.list.now c.args.numbers.now c.args.v.now f old.items new c.args.touched.now.items touched row
    c.requires.taken c.requires.product c.factor_for.ensures adds c.in_ok-add_multiple.ensures.small c.in_ok-add_multiple.ensures.touched in
    let count : length new ≡ length old.items = adds.count in
    let whole : old.len ≡ length new = omega (arith, count, c.as_mut_slice.ensures.len, ap length c.as_mut_slice.ensures.value) in
    subst (λ ns. AreTakenAway ring c.args.list.now c.args.numbers.now c.args.v.now ns touched)
    (sym (written_back old.len new old.items whole)) more
