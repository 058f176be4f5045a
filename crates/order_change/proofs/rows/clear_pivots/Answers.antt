use Rattle.std.proofs.Common.{arith, get_or, subst, sym, ◌+◌, ◌∙◌, ◌≡◌}
use Rattle.std.specs.Prelude.{slice_index}
use Rattle.residues.proofs.Congruences.{IsCongruent_mod, IsCongruent_of, IsCongruent_sym, IsCongruent_trans}
use Rattle.residues.specs.Residues.{IsCongruent}
use Rattle.order_change.proofs.Clearing.{IsClearing, clearing_first, clearing_more, clearing_skip}
use Rattle.order_change.proofs.rows.clear_pivots.Goals.{then-c-gt0, else-c-gt0}
use Rattle.order_change.proofs.rows.clear_pivots.Goals as goal

pub loop-row-init : goal.loop-row-init
loop-row-init c = clearing_first c.args.modulus.now.value c.args.rows.now c.args.form.now c.args.combination.now c.requires.form c.requires.combination

pub loop-row-preserved : goal.loop-row-preserved
loop-row-preserved c =
    let p = c.args.modulus.now.value in
    let rows = c.args.rows.now in
    let f = c.args.form.now in
    let g = c.args.combination.now in
    let i = c.loop-row.row-index in
    let row = c.row-item.result in
    let is : get_or rows i row ≡ row = sym c.row-item.is in
    elim c.if-c-gt0.branch [
      | then-c-gt0 w ↦
          subst (λ z. IsClearing p rows f g (i + 1) z c.if-c-gt0.combination) (sym w.form-is)
          (subst (λ z. IsClearing p rows f g (i + 1) w.add_multiple.new.self z) (sym w.combination-is)
          (clearing_more p rows f g i c.loop-row.form c.loop-row.combination w.add_multiple.new.self w.add_multiple-then-c-gt0.new.self row c.residue_at-c.result w.neg-minus.result
          c.requires.rows c.loop-row-test.true is c.residue_at-c.ensures.value c.residue_at-c.ensures.small w.neg-minus.ensures.value
          w.add_multiple.ensures.long w.add_multiple.ensures.numbers w.add_multiple.ensures.sums
          w.add_multiple-then-c-gt0.ensures.long w.add_multiple-then-c-gt0.ensures.numbers w.add_multiple-then-c-gt0.ensures.sums c.loop-row.invariant))
      | else-c-gt0 w ↦
          let none : IsCongruent p (slice_index c.loop-row.form row.pivot) 0 =
          IsCongruent_trans (IsCongruent_sym (IsCongruent_mod p (slice_index c.loop-row.form row.pivot))) (IsCongruent_of p _ 0 (sym c.residue_at-c.ensures.value ∙ (let z : c.residue_at-c.result ≡ 0 = omega arith in z))) in
          subst (λ z. IsClearing p rows f g (i + 1) z c.if-c-gt0.combination) (sym w.form-is)
          (subst (λ z. IsClearing p rows f g (i + 1) c.loop-row.form z) (sym w.combination-is)
          (clearing_skip p rows f g i c.loop-row.form c.loop-row.combination row c.loop-row-test.true is none c.loop-row.invariant))
    ]
