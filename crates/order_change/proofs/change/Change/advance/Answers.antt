use Rattle.std.proofs.Common.{MatchOption, ap, arith, false, length, refl, subst, sum, sym, true, ◌<◌, ◌∙◌, ◌≡◌}
use Rattle.std.specs.Prelude.{slice_index}
use Rattle.monomials.specs.Exponents.{exponents_of}
use Rattle.bases.specs.Settings.{IsLawful}
use Rattle.monomial_orders.specs.Comparisons.{comparison}
use Rattle.term_lists.specs.Rings.{ring_comparison, setting}
use Rattle.term_lists.specs.Vectors.{sums_of}
use Rattle.order_change.proofs.Adding.{few}
use Rattle.order_change.proofs.Filling.{sum_below}
use Rattle.order_change.proofs.Items.{length_monomials}
use Rattle.order_change.proofs.Stepping.{candidate_next, few_room, new_or_not, turns_added, turns_over}
use Rattle.order_change.specs.Lists.{IsNew}
use Rattle.order_change.specs.Products.{HadAllItems, HaveRoom, IsCandidate, IsLeast}
use Rattle.monomial_orders.specs.Kept.{monomials}
use Rattle.order_change.proofs.change.Change.advance.Goals as goal

pub least_product-requires-clause-room : goal.least_product-requires-clause-room
least_product-requires-clause-room c =
    let ring = c.args.ring.now in
    let n = length ring.weights in
    let F = sums_of n c.args.basis.now in
    let B = monomials n c.args.standard.now in
    let change = c.args.self.now in
    let h = c.requires.changing in
    let lawful : IsLawful (setting ring n (ring_comparison ring n) 1) = subst (λ z. IsLawful (setting ring z (ring_comparison ring z) 1)) (sym ring.weighted) (c.lawful_setting.ensures 1) in
    let least = few n ring F B lawful change.monomials.items change.forms.items change.rows.items h.known.standard in
    subst HaveRoom (sym c.deref.ensures.value) (few_room change.monomials.items h.known.standard.degrees (omega (arith, least, length_monomials n c.args.standard.now, c.requires.few)))

pub pass-requires-clause-room : goal.pass-requires-clause-room
pass-requires-clause-room c =
    let ring = c.args.ring.now in
    let n = length ring.weights in
    let F = sums_of n c.args.basis.now in
    let B = monomials n c.args.standard.now in
    let change = c.args.self.now in
    let h = c.requires.changing in
    let x = c.in-Some.candidate in
    let both : IsCandidate n ring.weights change.monomials.items (slice_index change.turns) x × IsLeast n (comparison ring.order ring.weights n) (monomials n change.monomials.items) (slice_index change.turns) n (exponents_of n x.monomial.exponents) =
    subst (λ l. IsCandidate n ring.weights l (slice_index change.turns) x × IsLeast n (comparison ring.order ring.weights n) (monomials n l) (slice_index change.turns) n (exponents_of n x.monomial.exponents)) c.deref.ensures.value
    (subst (λ z. MatchOption z (HadAllItems (slice_index change.turns) n (length c.deref.result.now)) (λ x. IsCandidate n ring.weights c.deref.result.now (slice_index change.turns) x
    × IsLeast n (comparison ring.order ring.weights n) (monomials n c.deref.result.now) (slice_index change.turns) n (exponents_of n x.monomial.exponents))) c.in-Some.is c.in_ok-candidate.ensures) in
    let lawful : IsLawful (setting ring n (ring_comparison ring n) 1) = subst (λ z. IsLawful (setting ring z (ring_comparison ring z) 1)) (sym ring.weighted) (c.lawful_setting.ensures 1) in
    let least = few n ring F B lawful change.monomials.items change.forms.items change.rows.items h.known.standard in
    let p = both.0.parent in
    let q = both.0.turns in
    omega (arith, p, q, least, length_monomials n c.args.standard.now, c.requires.few)

pub take-requires : goal.take-requires
take-requires c =
    let ring = c.args.ring.now in
    let n = length ring.weights in
    let F = sums_of n c.args.basis.now in
    let B = monomials n c.args.standard.now in
    let change = c.args.self.now in
    let h = c.requires.changing in
    let x = c.in-Some.candidate in
    let both : IsCandidate n ring.weights change.monomials.items (slice_index change.turns) x × IsLeast n (comparison ring.order ring.weights n) (monomials n change.monomials.items) (slice_index change.turns) n (exponents_of n x.monomial.exponents) =
    subst (λ l. IsCandidate n ring.weights l (slice_index change.turns) x × IsLeast n (comparison ring.order ring.weights n) (monomials n l) (slice_index change.turns) n (exponents_of n x.monomial.exponents)) c.deref.ensures.value
    (subst (λ z. MatchOption z (HadAllItems (slice_index change.turns) n (length c.deref.result.now)) (λ x. IsCandidate n ring.weights c.deref.result.now (slice_index change.turns) x
    × IsLeast n (comparison ring.order ring.weights n) (monomials n c.deref.result.now) (slice_index change.turns) n (exponents_of n x.monomial.exponents))) c.in-Some.is c.in_ok-candidate.ensures) in
    let new : IsNew (monomials n change.leads.items) (monomials n change.monomials.items) (exponents_of n x.monomial.exponents) =
    subst (λ z. IsNew (monomials n z) (monomials n change.monomials.items) (exponents_of n x.monomial.exponents)) c.deref-in-Some.ensures.value
    (subst (λ z. IsNew (monomials n c.deref-in-Some.result.now) (monomials n z) (exponents_of n x.monomial.exponents)) c.deref-in-Some-2.ensures.value (c.if-is_new.ensures.0 refl)) in
    let next = candidate_next n ring F B change h x both.0 both.1 new in
    record {
      known = record { standard = h.known.standard; members = h.known.members };
      few = c.requires.few;
      table = c.requires.table;
      next = record { weighed = next.weighed; degree = next.degree; above = next.above; not_below = next.not_below; free = next.free };
      variable = both.0.variable;
      parent = both.0.parent;
      product = both.0.product;
    }

pub returns-in_ok-take-in-Some-clause-changing : goal.returns-in_ok-take-in-Some-clause-changing
returns-in_ok-take-in-Some-clause-changing c =
    let ring = c.args.ring.now in
    let n = length ring.weights in
    let F = sums_of n c.args.basis.now in
    let B = monomials n c.args.standard.now in
    let change = c.args.self.now in
    let h = c.requires.changing in
    let x = c.in-Some.candidate in
    let both : IsCandidate n ring.weights change.monomials.items (slice_index change.turns) x × IsLeast n (comparison ring.order ring.weights n) (monomials n change.monomials.items) (slice_index change.turns) n (exponents_of n x.monomial.exponents) =
    subst (λ l. IsCandidate n ring.weights l (slice_index change.turns) x × IsLeast n (comparison ring.order ring.weights n) (monomials n l) (slice_index change.turns) n (exponents_of n x.monomial.exponents)) c.deref.ensures.value
    (subst (λ z. MatchOption z (HadAllItems (slice_index change.turns) n (length c.deref.result.now)) (λ x. IsCandidate n ring.weights c.deref.result.now (slice_index change.turns) x
    × IsLeast n (comparison ring.order ring.weights n) (monomials n c.deref.result.now) (slice_index change.turns) n (exponents_of n x.monomial.exponents))) c.in-Some.is c.in_ok-candidate.ensures) in
    record {
      known = c.in_ok-take-in-Some.ensures.known;
      turns = turns_added n ring F B change h x both.0 both.1 c.pass.new.self c.pass.ensures.long c.pass.ensures.at c.pass.ensures.others
          (record { monomials = change.monomials; forms = change.forms; rows = change.rows; leads = change.leads; members = change.members; turns = c.pass.new.self }) c.take.new.self refl refl refl c.in_ok-take-in-Some.ensures.added;
    }

pub returns-in_ok-take-in-Some-clause-more : goal.returns-in_ok-take-in-Some-clause-more
returns-in_ok-take-in-Some-clause-more c =
    let ring = c.args.ring.now in
    let n = length ring.weights in
    let F = sums_of n c.args.basis.now in
    let B = monomials n c.args.standard.now in
    let change = c.args.self.now in
    let h = c.requires.changing in
    let x = c.in-Some.candidate in
    let both : IsCandidate n ring.weights change.monomials.items (slice_index change.turns) x × IsLeast n (comparison ring.order ring.weights n) (monomials n change.monomials.items) (slice_index change.turns) n (exponents_of n x.monomial.exponents) =
    subst (λ l. IsCandidate n ring.weights l (slice_index change.turns) x × IsLeast n (comparison ring.order ring.weights n) (monomials n l) (slice_index change.turns) n (exponents_of n x.monomial.exponents)) c.deref.ensures.value
    (subst (λ z. MatchOption z (HadAllItems (slice_index change.turns) n (length c.deref.result.now)) (λ x. IsCandidate n ring.weights c.deref.result.now (slice_index change.turns) x
    × IsLeast n (comparison ring.order ring.weights n) (monomials n c.deref.result.now) (slice_index change.turns) n (exponents_of n x.monomial.exponents))) c.in-Some.is c.in_ok-candidate.ensures) in
    let lawful : IsLawful (setting ring n (ring_comparison ring n) 1) = subst (λ z. IsLawful (setting ring z (ring_comparison ring z) 1)) (sym ring.weighted) (c.lawful_setting.ensures 1) in
    let least = few n ring F B lawful change.monomials.items change.forms.items change.rows.items h.known.standard in
    let turned = c.in_ok-take-in-Some.ensures.added.turns in
    let e = h.turns.long in
    λ t. (
      ap sum turned ∙ c.pass.ensures.sum,
      sum_below change.turns (length c.args.standard.now) x.variable
          (λ v lt. let vn : v < n = omega (arith, lt, e) in let a = h.turns.most v vn in omega (arith, a, least, length_monomials n change.monomials.items, length_monomials n c.args.standard.now))
          (let vn = both.0.variable in omega (arith, vn, e))
          (let p = both.0.parent in let q = both.0.turns in omega (arith, p, q, least, length_monomials n c.args.standard.now)),
      ap length turned ∙ c.pass.ensures.long,
    )

pub returns-else-is_new-clause-changing : goal.returns-else-is_new-clause-changing
returns-else-is_new-clause-changing c =
    let ring = c.args.ring.now in
    let n = length ring.weights in
    let F = sums_of n c.args.basis.now in
    let B = monomials n c.args.standard.now in
    let change = c.args.self.now in
    let h = c.requires.changing in
    let x = c.in-Some.candidate in
    let both : IsCandidate n ring.weights change.monomials.items (slice_index change.turns) x × IsLeast n (comparison ring.order ring.weights n) (monomials n change.monomials.items) (slice_index change.turns) n (exponents_of n x.monomial.exponents) =
    subst (λ l. IsCandidate n ring.weights l (slice_index change.turns) x × IsLeast n (comparison ring.order ring.weights n) (monomials n l) (slice_index change.turns) n (exponents_of n x.monomial.exponents)) c.deref.ensures.value
    (subst (λ z. MatchOption z (HadAllItems (slice_index change.turns) n (length c.deref.result.now)) (λ x. IsCandidate n ring.weights c.deref.result.now (slice_index change.turns) x
    × IsLeast n (comparison ring.order ring.weights n) (monomials n c.deref.result.now) (slice_index change.turns) n (exponents_of n x.monomial.exponents))) c.in-Some.is c.in_ok-candidate.ensures) in
    let old : IsNew (monomials n change.leads.items) (monomials n change.monomials.items) (exponents_of n x.monomial.exponents) → ⊥ =
    subst (λ z. IsNew (monomials n z) (monomials n change.monomials.items) (exponents_of n x.monomial.exponents) → ⊥) c.deref-in-Some.ensures.value
    (subst (λ z. IsNew (monomials n c.deref-in-Some.result.now) (monomials n z) (exponents_of n x.monomial.exponents) → ⊥) c.deref-in-Some-2.ensures.value (λ d. let t : false ≡ true = c.if-is_new.ensures.1 d in cc)) in
    record {
      known = record { standard = h.known.standard; members = h.known.members };
      turns = turns_over n ring F B change h x both.0 both.1 c.pass.new.self c.pass.ensures.long c.pass.ensures.at c.pass.ensures.others
          (new_or_not (monomials n change.leads.items) (monomials n change.monomials.items) (exponents_of n x.monomial.exponents) old);
    }

pub returns-else-is_new-clause-more : goal.returns-else-is_new-clause-more
returns-else-is_new-clause-more c =
    let ring = c.args.ring.now in
    let n = length ring.weights in
    let F = sums_of n c.args.basis.now in
    let B = monomials n c.args.standard.now in
    let change = c.args.self.now in
    let h = c.requires.changing in
    let x = c.in-Some.candidate in
    let both : IsCandidate n ring.weights change.monomials.items (slice_index change.turns) x × IsLeast n (comparison ring.order ring.weights n) (monomials n change.monomials.items) (slice_index change.turns) n (exponents_of n x.monomial.exponents) =
    subst (λ l. IsCandidate n ring.weights l (slice_index change.turns) x × IsLeast n (comparison ring.order ring.weights n) (monomials n l) (slice_index change.turns) n (exponents_of n x.monomial.exponents)) c.deref.ensures.value
    (subst (λ z. MatchOption z (HadAllItems (slice_index change.turns) n (length c.deref.result.now)) (λ x. IsCandidate n ring.weights c.deref.result.now (slice_index change.turns) x
    × IsLeast n (comparison ring.order ring.weights n) (monomials n c.deref.result.now) (slice_index change.turns) n (exponents_of n x.monomial.exponents))) c.in-Some.is c.in_ok-candidate.ensures) in
    let lawful : IsLawful (setting ring n (ring_comparison ring n) 1) = subst (λ z. IsLawful (setting ring z (ring_comparison ring z) 1)) (sym ring.weighted) (c.lawful_setting.ensures 1) in
    let least = few n ring F B lawful change.monomials.items change.forms.items change.rows.items h.known.standard in
    let e = h.turns.long in
    λ t. (
      c.pass.ensures.sum,
      sum_below change.turns (length c.args.standard.now) x.variable
          (λ v lt. let vn : v < n = omega (arith, lt, e) in let a = h.turns.most v vn in omega (arith, a, least, length_monomials n change.monomials.items, length_monomials n c.args.standard.now))
          (let vn = both.0.variable in omega (arith, vn, e))
          (let p = both.0.parent in let q = both.0.turns in omega (arith, p, q, least, length_monomials n c.args.standard.now)),
      c.pass.ensures.long,
    )
