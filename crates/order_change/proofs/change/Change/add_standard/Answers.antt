use Rattle.std.proofs.Common.{[], ap, arith, inl, length, refl, subst, sym, ◌%◌, ◌*◌, ◌++◌, ◌∙◌, ◌∷◌}
use Rattle.std.specs.Prelude.{slice_index}
use Rattle.residues.proofs.Congruences.{IsCongruent_mod, IsCongruent_of, IsCongruent_sym, IsCongruent_trans}
use Rattle.residues.specs.Residues.{IsCongruent}
use Rattle.monomials.specs.Exponents.{exponents_of}
use Rattle.bases.specs.Settings.{IsLawful}
use Rattle.term_lists.specs.Rings.{ring_comparison, setting}
use Rattle.term_lists.specs.Vectors.{sums_of}
use Rattle.order_change.proofs.Adding.{members_kept, standard_added}
use Rattle.order_change.proofs.Items.{monomials_push}
use Rattle.order_change.specs.Changing.{AreNewMembers, AreNewStandard}
use Rattle.order_change.specs.declared.rows.Row.{Row}
use Rattle.monomial_orders.specs.Kept.{monomials}
use Rattle.order_change.proofs.change.Change.add_standard.Goals as goal

pub returns : goal.returns
returns c =
    let ring = c.args.ring.now in
    let n = length ring.weights in
    let p = ring.modulus.value in
    let F = sums_of n c.args._basis.now in
    let B = monomials n c.args._standard.now in
    let change = c.args.self.now in
    let m = c.args.m in
    let y = exponents_of n m.exponents in
    let rest = c.args.rest.now in
    let lawful : IsLawful (setting ring n (ring_comparison ring n) 1) = subst (λ z. IsLawful (setting ring z (ring_comparison ring z) 1)) (sym ring.weighted) (c.lawful_setting.ensures 1) in
    let row : Row = record { form = c.in_ok-multiple_of-in-Some.field-0; combination = c.in_ok-multiple_of-in-Some-2.field-0; pivot = c.args.pivot } in
    let known = c.requires.known in
    let next = c.requires.next in
    let r = c.requires.rest in
    let i = c.in-Some.c in
    let inverse : IsCongruent p (i * slice_index rest.form c.args.pivot) 1 =
    IsCongruent_trans (IsCongruent_of p (i * slice_index rest.form c.args.pivot) (slice_index rest.form c.args.pivot * i) (omega arith))
    (IsCongruent_trans (IsCongruent_sym (IsCongruent_mod p (slice_index rest.form c.args.pivot * i)))
    (IsCongruent_of p ((slice_index rest.form c.args.pivot * i) % p) 1 (ap (λ z. (z * i) % p) (sym c.at.ensures) ∙ c.in-Some.ensures.value.one))) in
    let standard = standard_added n ring F B lawful change.monomials.items change.forms.items change.rows.items m c.args.form rest.form rest.combination i row
    known.standard next.weighed next.degree next.above c.requires.form.residues c.requires.form.is r.form_residues r.combination_residues r.one r.cleared r.same
    c.requires.pivot c.in-Some.ensures.value.below inverse
    c.in_ok-multiple_of-in-Some.ensures.long c.in_ok-multiple_of-in-Some.ensures.residues c.in_ok-multiple_of-in-Some.ensures.multiple
    c.in_ok-multiple_of-in-Some-2.ensures.long c.in_ok-multiple_of-in-Some-2.ensures.residues c.in_ok-multiple_of-in-Some-2.ensures.multiple in
    record {
      known = record {
        standard = subst (λ z. AreNewStandard n ring F B z c.push-in-Some.new.self.items c.push.new.self.items) (sym c.in_ok-push-in-Some-3.ensures.items)
            (subst (λ z. AreNewStandard n ring F B (change.monomials.items ++ m ∷ []) z c.push.new.self.items) (sym c.in_ok-push-in-Some-2.ensures.items)
            (subst (λ z. AreNewStandard n ring F B (change.monomials.items ++ m ∷ []) (change.forms.items ++ c.args.form ∷ []) z) (sym c.in_ok-push-in-Some.ensures.items) standard));
        members = subst (λ z. AreNewMembers n ring F (monomials n z) change.leads.items change.members.items) (sym c.in_ok-push-in-Some-3.ensures.items)
            (subst (λ z. AreNewMembers n ring F z change.leads.items change.members.items) (sym (monomials_push n change.monomials.items m))
            (members_kept n ring F B lawful (monomials n change.monomials.items) y change.leads.items change.members.items known.members next.free));
      };
      added = record { turns = refl; one = inl (c.in_ok-push-in-Some-3.ensures.items, refl) };
    }
