use Rattle.std.proofs.Common.{arith, get_or, length, subst, ◌%◌, ◌<◌, ◌∙◌, ◌≡◌}
use Rattle.std.proofs.lemmas.List.{length-set}
use Rattle.residues.proofs.Congruences.{IsCongruent_mod, IsCongruent_of, IsCongruent_sym, IsCongruent_trans}
use Rattle.residues.specs.Residues.{IsCongruent}
use Rattle.term_lists.specs.Rings.{variables}
use Rattle.term_lists.specs.Vectors.{sum_of}
use Rattle.row_matrix.specs.Rows.{column_key}
use Rattle.numbered_sums.proofs.NumberedSums.{zeroed_rest}
use Rattle.numbered_sums.specs.KeySums.{numbered_sum}
use Rattle.remainders.proofs.Leaving.{left_all, left_more}
use Rattle.remainders.specs.Leaving.{IsTermKept}
use Rattle.remainders.proofs.substituting.left_terms.Goals as goal

pub loop-number-preserved : goal.loop-number-preserved
loop-number-preserved c =
    let ring = c.args.ring.now in
    let n = variables ring in
    let p = ring.modulus.value in
    let keys = c.args.numbers.now in
    let K = column_key n keys in
    let i = c.loop-number.number-index in
    let sums = c.loop-number.sums.items in
    let at = get_or c.args.touched.now i 0 in
    let r = c.residue_at-residue.result in
    let old = c.loop-number.terms.items in
    let new = c.keep_left.new.terms.items in
    let there : at < length sums = omega (arith, c.if-at-len.false, c.len.ensures) in
    let value : r ≡ get_or sums at 0 % p = subst (λ xs. at < length xs → r ≡ get_or xs at 0 % p) c.as_slice.ensures.value c.residue_at-residue.ensures.residue there in
    let same : IsCongruent p (get_or sums at 0) r = IsCongruent_sym (IsCongruent_trans (IsCongruent_of p _ _ value) (IsCongruent_mod p (get_or sums at 0))) in
    let kept : IsTermKept ring c.args.list.now keys at r old new = c.in_ok-keep_left.ensures c.if-not-branch.false in
    record {
      count = length-set sums at 0 ∙ c.loop-number.invariant.count;
      terms = kept.terms c.loop-number.invariant.terms;
      sum = left_more K at r sums (numbered_sum K 0 c.args.sums.now.items) (sum_of n old) (sum_of n new) there same c.loop-number.invariant.sum kept.sum;
      free = kept.free c.loop-number.invariant.free;
      rest = zeroed_rest c.args.touched.now i sums c.loop-number.invariant.rest c.loop-number-test.true there;
    }

pub returns : goal.returns
returns c =
    let n = variables c.args.ring.now in
    let K = column_key n c.args.numbers.now in
    record {
      terms = c.loop-number.invariant.terms;
      sum = left_all K c.loop-number.sums.items c.args.touched.now c.loop-number.number-index (numbered_sum K 0 c.args.sums.now.items) (sum_of n c.loop-number.terms.items)
          c.loop-number.invariant.sum c.loop-number.invariant.rest c.loop-number-test.false;
      free = c.loop-number.invariant.free;
    }
