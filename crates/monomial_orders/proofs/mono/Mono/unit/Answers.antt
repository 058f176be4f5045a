use Rattle.std.proofs.Common.{ap, refl, subst, sym, ◌∙◌, ◌≡◌}
use Rattle.monomials.specs.Exponents.{unit}
use Rattle.monomial_orders.proofs.Filling.{kept_at, kept_at_zero, zeros_shown}
use Rattle.monomial_orders.proofs.Over.{over_unit}
use Rattle.monomial_orders.specs.Kept.{IsWeighed, Monomial}
use Rattle.monomial_orders.specs.Monomials.{IsMonomial}
use Rattle.monomial_orders.specs.Storage.{monomial_of}
use Rattle.monomial_orders.proofs.mono.Mono.unit.Goals as goal

pub keep-requires : goal.keep-requires
keep-requires c =
    let s = c.in_ok-stored.stored in
    kept_at c.args.n 0 s c.in_ok-stored.ensures.variables
    (kept_at_zero c.args.n s c.in_ok-stored.ensures.variables c.in_ok-stored.ensures.long c.in_ok-stored.ensures.places)

-- how the answer is shown
shown : (c : goal.After-keep) → c.keep.result ≡ monomial_of c.args.n 0 c.in_ok-stored.stored
shown c =
    c.keep.ensures ∙ ap (λ k. monomial_of k 0 c.in_ok-stored.stored) c.in_ok-stored.ensures.variables

pub returns-clause-ok : goal.returns-clause-ok
returns-clause-ok c =
    subst (λ (m : Monomial). IsMonomial c.args.n (unit c.args.n) m.exponents) (sym (shown c))
    (zeros_shown c.args.n c.in_ok-stored.stored c.in_ok-stored.ensures.long c.in_ok-stored.ensures.places)

pub returns-clause-weighed : goal.returns-clause-weighed
returns-clause-weighed c = λ ws.
    subst (λ (m : Monomial). IsWeighed c.args.n ws m) (sym (shown c))
    (over_unit c.args.n _ 0 (zeros_shown c.args.n c.in_ok-stored.stored c.in_ok-stored.ensures.long c.in_ok-stored.ensures.places) refl ws)

pub returns-clause-degree : goal.returns-clause-degree
returns-clause-degree c = ap (λ (m : Monomial). m.degree) (shown c)
