use Rattle.std.proofs.Common.{arith, get_or, length, subst, sym, ℕ, ◌+◌, ◌<◌, ◌≡◌}
use Rattle.std.specs.Prelude.{slice_index}
use Rattle.bases.specs.Settings.{IsLawful}
use Rattle.term_lists.specs.Rings.{ring_comparison, setting}
use Rattle.term_lists.specs.Vectors.{sums_of}
use Rattle.order_change.proofs.Adding.{few, rows_wider}
use Rattle.order_change.proofs.Borders.{behind}
use Rattle.order_change.proofs.Items.{length_monomials}
use Rattle.order_change.proofs.Stepping.{rest_is}
use Rattle.order_change.specs.Forms.{AreResidues}
use Rattle.order_change.specs.Rows.{AreRows}
use Rattle.order_change.specs.declared.rows.Row.{Row}
use Rattle.monomial_orders.specs.Kept.{monomials}
use Rattle.order_change.proofs.change.Change.add.Goals as goal

pub rest_of-requires : goal.rest_of-requires
rest_of-requires c =
    let ring = c.args.ring.now in
    let n = length ring.weights in
    let p = ring.modulus.value in
    let F = sums_of n c.args.basis.now in
    let B = monomials n c.args.standard.now in
    let change = c.args.self.now in
    let lawful : IsLawful (setting ring n (ring_comparison ring n) 1) = subst (λ z. IsLawful (setting ring z (ring_comparison ring z) 1)) (sym ring.weighted) (c.lawful_setting.ensures 1) in
    let standard = c.requires.known.standard in
    let rows = change.rows.items in
    let d = c.deref.ensures.value in
    let long = c.requires.form.residues.long in
    let least = few n ring F B lawful change.monomials.items change.forms.items rows standard in
    let small : length rows < 65536 = omega (arith, least, standard.rows_long, length_monomials n c.args.standard.now, c.requires.few) in
    record {
      few = subst (λ z. length z < 65536) (sym d) small;
      rows = subst (λ z. AreRows p (length c.args.form) (length z + 1) z) (sym d) (subst (λ k. AreRows p k (length rows + 1) rows) (sym long)
          (rows_wider n ring F B lawful (length B) (length change.monomials.items) (length rows + 1) rows (omega (arith, standard.rows_long)) standard.rows_are));
      form = subst (λ k. AreResidues p k c.args.form) (sym long) c.requires.form.residues;
      before = subst (λ z. (l : ℕ) (row : Row) → l < length z → get_or z l row ≡ row → slice_index row.combination (length z) ≡ 0) (sym d)
          (λ l row lt e. behind row.combination (length rows) (let s = (standard.rows_are.each l row lt e).short in omega (arith, s, standard.rows_long)));
    }

pub add_member-requires-clause-rest : goal.add_member-requires-clause-rest
add_member-requires-clause-rest c =
    let ring = c.args.ring.now in
    let n = length ring.weights in
    let p = ring.modulus.value in
    let F = sums_of n c.args.basis.now in
    let B = monomials n c.args.standard.now in
    let change = c.args.self.now in
    let lawful : IsLawful (setting ring n (ring_comparison ring n) 1) = subst (λ z. IsLawful (setting ring z (ring_comparison ring z) 1)) (sym ring.weighted) (c.lawful_setting.ensures 1) in
    rest_is n ring F B lawful change c.args.m c.args.form c.deref.result.now c.in_ok-rest.rest.form c.in_ok-rest.rest.combination c.requires.known c.deref.ensures.value c.requires.form
    c.in_ok-rest.ensures.form c.in_ok-rest.ensures.combination c.in_ok-rest.ensures.one c.in_ok-rest.ensures.cleared (λ N. c.in_ok-rest.ensures.same n F B N)

pub add_standard-requires-clause-rest : goal.add_standard-requires-clause-rest
add_standard-requires-clause-rest c =
    let ring = c.args.ring.now in
    let n = length ring.weights in
    let p = ring.modulus.value in
    let F = sums_of n c.args.basis.now in
    let B = monomials n c.args.standard.now in
    let change = c.args.self.now in
    let lawful : IsLawful (setting ring n (ring_comparison ring n) 1) = subst (λ z. IsLawful (setting ring z (ring_comparison ring z) 1)) (sym ring.weighted) (c.lawful_setting.ensures 1) in
    rest_is n ring F B lawful change c.args.m c.args.form c.deref.result.now c.in_ok-rest.rest.form c.in_ok-rest.rest.combination c.requires.known c.deref.ensures.value c.requires.form
    c.in_ok-rest.ensures.form c.in_ok-rest.ensures.combination c.in_ok-rest.ensures.one c.in_ok-rest.ensures.cleared (λ N. c.in_ok-rest.ensures.same n F B N)
