use Rattle.std.proofs.Common.{add-one, ap, arith, suc, sym, ℕ, ◌%◌, ◌*◌, ◌+◌, ◌<◌, ◌∙◌, ◌≡◌}
use native.Mathlib.Nat.{zero-mod}
use Rattle.sparse_poly.proofs.Choosing.{choose_above, next_value}
use Rattle.sparse_poly.specs.Binomials.{choose}
use Rattle.sparse_poly.proofs.binomial.next_coefficient.Goals as goal

pub returns-then-i-n-clause-value : goal.returns-then-i-n-clause-value
returns-then-i-n-clause-value c =
    let p : ℕ = c.args.modulus.now.value in
    let above : c.args.n < suc c.args.i = omega arith in
    let z : choose c.args.n (c.args.i + 1) ≡ 0 = ap (choose c.args.n) (add-one c.args.i) ∙ choose_above c.args.n (suc c.args.i) above in
    sym (ap (λ x. x % p) z ∙ zero-mod p)

pub returns-clause-value : goal.returns-clause-value
returns-clause-value c =
    let p : ℕ = c.args.modulus.now.value in
    let inverse : ℕ = c.in-Some.inverse in
    let one : (suc c.args.i * inverse) % p ≡ 1 = ap (λ x. (x * inverse) % p) (sym (c.narrow-next.ensures ∙ add-one c.args.i)) ∙ c.in-Some.ensures.value.one in
    c.mul-in-Some.ensures.value
    ∙ ap (λ x. (x * inverse) % p) (c.mul.ensures.value ∙ ap (λ x. (c.args.c * x) % p) c.narrow-left.ensures)
    ∙ next_value p c.args.n c.args.i c.args.c inverse c.domain.ensures.domain c.requires.index c.requires.coefficient one
    ∙ ap (λ x. choose c.args.n x % p) (sym (add-one c.args.i))
