use Rattle.std.proofs.Common.{arith, get_or, length, refl, subst, ℕ, ◌*◌, ◌+◌, ◌<◌, ◌∙◌, ◌≡◌}
use Rattle.std.proofs.lemmas.List.{get_or_default, length-set}
use Rattle.residues.specs.Residues.{IsCongruent}
use Rattle.term_lists.proofs.Scaling.{Each_at}
use Rattle.constant_rows.proofs.Adding.{adds_nothing, adds_step, sums_more}
use Rattle.constant_rows.proofs.sums.add_entries.Goals as goal

pub loop-entry-init : goal.loop-entry-init
loop-entry-init c = record {
  count = refl;
  adds = adds_nothing c.args.modulus.now.value c.args.factor c.args.sums.now.items;
  sums = c.requires.sums;
}

pub loop-entry-preserved : goal.loop-entry-preserved
loop-entry-preserved c =
    let p = c.args.modulus.now.value in
    let i = c.loop-entry.entry-index in
    let es = c.args.entries.now in
    let sums = c.loop-entry.sums.items in
    let e : ℕ × ℕ = get_or es i (0, 0) in
    let one : 1 < p = c.domain.ensures.above_one in
    let lt : i < length es = c.loop-entry-test.true in
    let is = get_or_default es i (0, 0) e lt in
    let below = Each_at (λ (x : ℕ × ℕ). x.0 < length c.args.sums.now.items) es i e c.requires.below lt is in
    let inside : e.0 < length sums = omega (arith, below, c.loop-entry.invariant.count) in
    let old = c.index-sum.result.now in
    let read : old ≡ get_or sums e.0 0 = c.index-sum.ensures ∙ get_or_default sums e.0 old 0 inside in
    let b = c.add_product.result in
    record {
      count = length-set sums e.0 b ∙ c.loop-entry.invariant.count;
      adds = adds_step p c.args.factor es i e c.args.sums.now.items sums b (omega arith) c.loop-entry.invariant.adds lt is inside
          (subst (λ x. IsCongruent p b (x + c.args.factor * e.1)) read c.add_product.ensures.congruent);
      sums = sums_more c.loop-entry.touched.items c.touch.new.touched.items sums e.0 b c.loop-entry.invariant.sums c.add_product.ensures.small
          (λ j x. c.in_ok-touch.ensures.kept j x) (λ z. c.in_ok-touch.ensures.added (read ∙ z));
    }
