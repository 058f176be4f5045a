use Rattle.std.proofs.Common.{ap, arith, get_or, length, sym, ◌<◌, ◌%◌, ◌∙◌, ◌≡◌}
use Rattle.std.proofs.lemmas.List.{get_or_default, length-set}
use Rattle.residues.specs.Residues.{IsCongruent}
use Rattle.formal_sums.proofs.Sameness.{IsSame_trans}
use Rattle.numbered_sums.proofs.NumberedSums.{Each_set, idle_rest, idle_sums, no_remainder, zeroed, zeroed_rest}
use Rattle.std.proofs.Math.Nat.{zero-mod}
use Rattle.numbered_sums.proofs.sums.clear_sums.Goals as goal

pub loop-number-preserved : goal.loop-number-preserved
loop-number-preserved c =
    let p = c.args.modulus.now.value in
    let i = c.loop-number.number-index in
    let sums = c.loop-number.sums.items in
    let at = get_or c.args.touched.now i 0 in
    let one : 1 < p = c.domain.ensures.above_one in
    let r = c.index.result.now in
    let q = c.from.result in
    let there : at < length sums = omega (arith, c.if-at-len.false, c.len.ensures) in
    let read : r ≡ get_or sums at 0 = c.index.ensures ∙ get_or_default sums at r 0 there in
    let none : get_or sums at 0 % q ≡ 0 = ap (λ x. x % q) (sym read) ∙ c.if-index-from-ne0.false in
    let z : IsCongruent p (get_or sums at 0) 0 = no_remainder p q (get_or sums at 0) (c.from.ensures ∙ c.value.ensures) none in
    record {
      count = length-set sums at 0 ∙ c.loop-number.invariant.count;
      same = λ n key. zeroed (omega (arith, one)) key at c.args.sums.now.items sums there z (c.loop-number.invariant.same n key);
      rest = zeroed_rest c.args.touched.now i sums c.loop-number.invariant.rest c.loop-number-test.true there;
      none = λ h. Each_set (λ a. a % p ≡ 0) sums at 0 (c.loop-number.invariant.none h) (zero-mod p);
    }

pub returns-clause-same : goal.returns-clause-same
returns-clause-same c = λ n key _. IsSame_trans (c.loop-number.invariant.same n key)
    (idle_sums c.args.modulus.now.value key 0 c.loop-number.sums.items (idle_rest c.args.touched.now c.loop-number.number-index c.loop-number.sums.items c.loop-number.invariant.rest c.loop-number-test.false))

pub returns-clause-idle : goal.returns-clause-idle
returns-clause-idle c = λ _. idle_rest c.args.touched.now c.loop-number.number-index c.loop-number.sums.items c.loop-number.invariant.rest c.loop-number-test.false
