use Rattle.std.proofs.Common.{length, refl, subst, sym}
use Rattle.monomial_orders.proofs.Filling.{apart_shown, apart_stored, filled_at}
use Rattle.monomial_orders.proofs.PlaceByPlace.{coprime_of, of_coprime}
use Rattle.monomial_orders.specs.Storage.{IsFilled}
use Rattle.monomial_orders.proofs.mono.Mono.coprime.Goals as goal

pub apart-requires-clause-left : goal.apart-requires-clause-left
apart-requires-clause-left c = subst (λ n. IsFilled n c.kept.result.now) (sym c.variables.ensures) c.kept.ensures.kept.filled

pub apart-requires-clause-right : goal.apart-requires-clause-right
apart-requires-clause-right c =
    subst (λ n. IsFilled n c.kept-2.result.now) (sym c.variables.ensures)
    (filled_at c.args.self.now c.args.b.now c.kept-2.result.now c.requires.variables c.kept-2.ensures)

pub returns-clause-places : goal.returns-clause-places
returns-clause-places c =
    let a = c.args.self.now in
    let b = c.args.b.now in (
      λ t. apart_shown a b c.kept.result.now c.kept-2.result.now c.requires.variables c.kept.ensures c.kept-2.ensures (c.apart.ensures.0 t),
      λ h. c.apart.ensures.1 (λ k lt. apart_stored a b c.kept.result.now c.kept-2.result.now c.requires.variables c.kept.ensures c.kept-2.ensures h k),
    )

pub returns-clause-value : goal.returns-clause-value
returns-clause-value c =
    let xs = c.args.self.now.exponents in
    let ys = c.args.b.now.exponents in
    let e = returns-clause-places c in
    (λ t. coprime_of (length xs) xs ys refl (sym c.requires.variables) (e.0 t), λ q. e.1 (of_coprime (length xs) xs ys refl (sym c.requires.variables) q))
