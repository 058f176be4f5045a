use Rattle.std.proofs.Common.{ap, arith, get_or, length, subst, sym, ℕ, ◌<◌, ◌∙◌, ◌≡◌}
use Rattle.monomials.proofs.Monomials.{times_cancel, times_comm}
use Rattle.monomials.specs.Exponents.{Divides, exponents_of, times, unit}
use Rattle.monomial_orders.specs.Monomials.{IsCofactor, IsQuotient}
use Rattle.change_laws.specs.Standard.{Has, power}
use Rattle.order_change.proofs.Filling.{if_none, if_some}
use Rattle.order_change.proofs.Items.{item_at, length_monomials, variable_power}
use Rattle.order_change.specs.Tables.{IsSmaller}
use Rattle.monomial_orders.specs.Kept.{monomials}
use Rattle.order_change.proofs.table.smaller_place.Goals as goal

pub returns-in-Some-clause-some : goal.returns-in-Some-clause-some
returns-in-Some-clause-some c =
    let ws = c.args.weights.now in
    let n = length ws in
    let standard = c.args.standard.now in
    let k = c.args.k in
    let b = c.index-standard-k.result in
    let x = c.in_ok-variable.variable in
    let smaller = c.in-Some.smaller in
    let q = subst (IsQuotient (length b.exponents) b x) c.in-Some.is c.in_ok-smaller.ensures.ok in
    let weighed = c.requires.standard k b c.requires.index (sym c.index-standard-k.is) in
    let f : IsCofactor n b.exponents x.exponents smaller.exponents = subst (λ z. IsCofactor z b.exponents x.exponents smaller.exponents) weighed.variables q.0 in
    let e : times (exponents_of n smaller.exponents) (power n c.args.j 1) ≡ get_or (monomials n standard) k (unit n) =
    ap (times (exponents_of n smaller.exponents)) (sym (c.in_ok-variable.ensures.ok.exponents ∙ variable_power n c.args.j)) ∙ f.product ∙ sym (item_at n standard k b c.requires.index c.index-standard-k.is) in
    if_some (λ h. (h < length standard) × (get_or (monomials n standard) h (unit n) ≡ exponents_of n smaller.exponents)) (IsSmaller n (monomials n standard) k c.args.j) c.position-place.result
    (λ h g. (let lt = g.0 in omega (arith, lt, length_monomials n standard), ap (λ z. times z (power n c.args.j 1)) g.1 ∙ e)) c.position-place.ensures.some

pub returns-in-Some-clause-none : goal.returns-in-Some-clause-none
returns-in-Some-clause-none c =
    let ws = c.args.weights.now in
    let n = length ws in
    let standard = c.args.standard.now in
    let k = c.args.k in
    let b = c.index-standard-k.result in
    let x = c.in_ok-variable.variable in
    let smaller = c.in-Some.smaller in
    let q = subst (IsQuotient (length b.exponents) b x) c.in-Some.is c.in_ok-smaller.ensures.ok in
    let weighed = c.requires.standard k b c.requires.index (sym c.index-standard-k.is) in
    let f : IsCofactor n b.exponents x.exponents smaller.exponents = subst (λ z. IsCofactor z b.exponents x.exponents smaller.exponents) weighed.variables q.0 in
    let e : times (exponents_of n smaller.exponents) (power n c.args.j 1) ≡ get_or (monomials n standard) k (unit n) =
    ap (times (exponents_of n smaller.exponents)) (sym (c.in_ok-variable.ensures.ok.exponents ∙ variable_power n c.args.j)) ∙ f.product ∙ sym (item_at n standard k b c.requires.index c.index-standard-k.is) in
    if_none (Has (monomials n standard) (exponents_of n smaller.exponents) → ⊥) ((h : ℕ) → IsSmaller n (monomials n standard) k c.args.j h → ⊥) c.position-place.result
    (λ free h g. free (
      h,
      g.0,
      times_cancel (power n c.args.j 1) (get_or (monomials n standard) h (unit n)) (exponents_of n smaller.exponents)
          (times_comm (power n c.args.j 1) (get_or (monomials n standard) h (unit n)) ∙ g.1 ∙ sym e ∙ times_comm (exponents_of n smaller.exponents) (power n c.args.j 1)),
    )) c.position-place.ensures.none

pub returns-in-None-clause-none : goal.returns-in-None-clause-none
returns-in-None-clause-none c =
    let ws = c.args.weights.now in
    let n = length ws in
    let standard = c.args.standard.now in
    let k = c.args.k in
    let b = c.index-standard-k.result in
    let x = c.in_ok-variable.variable in
    let q = subst (IsQuotient (length b.exponents) b x) c.in-None.is c.in_ok-smaller.ensures.ok in
    let weighed = c.requires.standard k b c.requires.index (sym c.index-standard-k.is) in
    let f = subst (λ z. Divides (exponents_of z x.exponents) (exponents_of z b.exponents) → ⊥) weighed.variables q in
    λ h g. f (
      get_or (monomials n standard) h (unit n),
      ap (times (get_or (monomials n standard) h (unit n))) (c.in_ok-variable.ensures.ok.exponents ∙ variable_power n c.args.j) ∙ g.1 ∙ item_at n standard k b c.requires.index c.index-standard-k.is,
    )

pub position-place-requires-clause-list : goal.position-place-requires-clause-list
position-place-requires-clause-list c = c.requires.standard
