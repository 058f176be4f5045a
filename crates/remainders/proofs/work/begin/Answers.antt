use Rattle.std.proofs.Common.{ap, arith, false, length, replicate, subst, sym, ◌≡◌, ◌∙◌}
use Rattle.formal_sums.specs.FormalSums.{Each}
use Rattle.term_lists.specs.Rings.{variables}
use Rattle.numbered_sums.proofs.NumberedSums.{idle_zeros}
use Rattle.numbered_sums.proofs.Taking.{written_back}
use Rattle.numbered_sums.specs.KeySums.{AddsProduct, AreZeroSums}
use Rattle.remainders.proofs.Flagging.{flags_none}
use Rattle.remainders.proofs.Padded.{filled, filled_length}
use Rattle.remainders.proofs.Resting.{taken_start}
use Rattle.remainders.specs.Leaving.{AreFactors, AreFreeFlags, AreTakenAway}
use Rattle.remainders.proofs.work.begin.Goals as goal

pub returns : goal.returns
returns c =
    let ring = c.args.ring.now in
    let list = c.args.list.now in
    let keys = c.args.numbers.now in
    let p = ring.modulus.value in
    let k = c.len-count.result in
    let sums = c.resize.new.self in
    let new = c.add_multiple.new.sums in
    let touched = c.add_multiple.new.touched.items in
    let zeros : sums.items ≡ replicate k 0 = filled 0 k c.in_ok-sums.sums.len c.in_ok-sums.sums.items sums.items c.in_ok-sums.sums.ok.0 c.in_ok-sums.ensures.items c.in_ok-resize.ensures.items in
    let adds : AddsProduct p 1 c.args.start.now sums.items new =
    subst (λ xs. AddsProduct p 1 c.args.start.now xs new) c.as_mut_slice.ensures.value c.in_ok-add_multiple.ensures.adds in
    let count : length new ≡ length sums.items = adds.count in
    let whole : sums.len ≡ length new = omega (arith, count, c.as_mut_slice.ensures.len, ap length c.as_mut_slice.ensures.value) in
    let long : length sums.items ≡ length keys = filled_length 0 k sums.items zeros ∙ c.len-count.ensures in
    let flags : c.resize-2.new.self.items ≡ replicate k false = filled false k c.in_ok-free.free.len c.in_ok-free.free.items c.resize-2.new.self.items c.in_ok-free.free.ok.0 c.in_ok-free.ensures.items c.in_ok-resize-2.ensures.items in
    record {
      taken = subst (λ ns. AreTakenAway ring list keys c.args.v.now ns touched)
          (sym (written_back sums.len new sums.items whole))
          (taken_start ring list keys c.args.v.now c.args.start.now sums.items new touched
          long (subst AreZeroSums (sym zeros) (idle_zeros k)) c.requires adds c.in_ok-add_multiple.ensures.small c.in_ok-add_multiple.ensures.touched);
      flags = subst (AreFreeFlags (variables ring) list keys) (sym flags) (flags_none (variables ring) list keys k (c.len-count.ensures));
      factors = subst (Each (AreFactors ring list)) (sym c.in_ok-with_capacity.ensures.items) tt;
    }
