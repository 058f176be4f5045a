use Rattle.std.proofs.Common.{arith, length, subst, sym, ◌%◌, ◌+◌, ◌<◌, ◌∙◌, ◌≡◌}
use Rattle.std.specs.Prelude.{slice_index}
use Rattle.residues.proofs.Congruences.{IsCongruent_mod, IsCongruent_of, IsCongruent_trans}
use Rattle.residues.specs.Residues.{IsCongruent}
use Rattle.formal_sums.proofs.Sameness.{IsSame_sym}
use Rattle.change_laws.proofs.Expansions.{expansion_one, expansion_same}
use Rattle.change_laws.proofs.Modulo.{modulo_same, modulo_sym, modulo_trans}
use Rattle.order_change.proofs.Reducing.{AreReduced, copied, copied_residues, reduced_at, reduced_expansion, reduced_residues}
use Rattle.order_change.specs.Forms.{AreResidues}
use Rattle.order_change.specs.Rows.{AreRows}
use Rattle.order_change.proofs.change.rest_of.Goals as goal

pub clear_pivots-requires : goal.clear_pivots-requires
clear_pivots-requires c =
    let p = c.args.modulus.now.value in
    let pos : 0 < p = let above = c.domain.ensures.above_one in omega (arith, above) in
    let rows = c.args.rows.now in
    let at = length rows in
    let row = c.args.form.now in
    let unit = c.add_at.new.self in
    let left = c.in_ok-left.left in
    let combination = c.in_ok-combination.combination in
    let left_is = copied left row c.in_ok-left.ensures.long c.in_ok-left.ensures.same in
    let combination_is = copied combination unit c.in_ok-combination.ensures.long c.in_ok-combination.ensures.same in
    let wide : length combination ≡ at + 1 = c.in_ok-combination.ensures.long ∙ c.add_at.ensures.long ∙ c.in_ok-unit.ensures.long in
    record {
      rows = subst (λ d. AreRows p d (length combination) rows) (sym c.in_ok-left.ensures.long) (subst (λ d. AreRows p (length row) d rows) (sym wide) c.requires.rows);
      form = copied_residues p left row pos left_is c.requires.form.small;
      combination = copied_residues p combination unit pos combination_is c.add_at.ensures.residues;
    }

pub returns : goal.returns
returns c =
    let p = c.args.modulus.now.value in
    let pos : 0 < p = let above = c.domain.ensures.above_one in omega (arith, above) in
    let rows = c.args.rows.now in
    let at = length rows in
    let row = c.args.form.now in
    let unit = c.add_at.new.self in
    let left = c.in_ok-left.left in
    let combination = c.in_ok-combination.combination in
    let left_is = copied left row c.in_ok-left.ensures.long c.in_ok-left.ensures.same in
    let combination_is = copied combination unit c.in_ok-combination.ensures.long c.in_ok-combination.ensures.same in
    let wide : length combination ≡ at + 1 = c.in_ok-combination.ensures.long ∙ c.add_at.ensures.long ∙ c.in_ok-unit.ensures.long in
    let a = c.clear_pivots.new.form in
    let b = c.clear_pivots.new.combination in
    let out = c.in_ok-reduced.field-0 in
    let last = c.in_ok-reduced-2.field-0 in
    let ra : AreReduced p a out = record { long = c.in_ok-reduced.ensures.long; same = c.in_ok-reduced.ensures.same } in
    let rb : AreReduced p b last = record { long = c.in_ok-reduced-2.ensures.long; same = c.in_ok-reduced-2.ensures.same } in
    let zeros = c.in_ok-unit.ensures.zeros in
    let one : IsCongruent p (slice_index combination at) 1 =
    IsCongruent_trans (IsCongruent_of p (slice_index combination at) ((slice_index c.in_ok-unit.unit at + 1) % p) (combination_is at ∙ c.add_at.ensures.at))
    (IsCongruent_trans (IsCongruent_mod p (slice_index c.in_ok-unit.unit at + 1)) (IsCongruent_of p (slice_index c.in_ok-unit.unit at + 1) 1 (let z = zeros at in omega (arith, z)))) in
    record {
      form = subst (λ d. AreResidues p d out) (c.clear_pivots.ensures.form.long ∙ c.in_ok-left.ensures.long) (reduced_residues p pos a out ra);
      combination = subst (λ d. AreResidues p d last) (c.clear_pivots.ensures.combination.long ∙ wide) (reduced_residues p pos b last rb);
      one = reduced_at p pos b last rb at 1 c.domain.ensures.above_one (IsCongruent_trans (c.clear_pivots.ensures.kept at c.requires.before) one);
      cleared = λ l r li ll e. reduced_at p pos a out ra r.pivot 0 pos (c.clear_pivots.ensures.cleared l r li ll e);
      same = λ n F B N lt are form.
          modulo_trans F (modulo_same F _ _ (IsSame_sym (reduced_expansion p pos a out ra B)))
          (modulo_trans F (c.clear_pivots.ensures.same n F B N are
          (modulo_trans F (modulo_same F _ _ (expansion_same B (slice_index left) (slice_index row) (λ k kl. IsCongruent_of p _ _ (left_is k))))
          (modulo_trans F (modulo_sym F form)
          (modulo_same F _ _ (IsSame_sym (expansion_one N (slice_index combination) at lt one (λ j jl ne. IsCongruent_of p _ 0 (combination_is j ∙ c.add_at.ensures.others j ne ∙ zeros j))))))))
          (modulo_same F _ _ (reduced_expansion p pos b last rb N)));
    }
