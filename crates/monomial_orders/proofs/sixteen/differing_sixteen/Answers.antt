use Rattle.std.proofs.Common.{ap, arith, refl, ◌%◌, ◌^◌, ◌∙◌}
use Rattle.std.proofs.lemmas.Nat.{one_shl}
use Rattle.monomial_orders.proofs.Masks.{mask_ends}
use Rattle.monomial_orders.proofs.sixteen.differing_sixteen.Goals as goal

pub returns : goal.returns
returns c =
    let bits = ap (λ n. c.different.result % n) (one_shl c.args.m 64 (omega (arith, c.requires))) in
    mask_ends c.args.a.now c.args.b.now c.args.m _ _ c.told-a c.told-b c.requires (bits ∙ ap (λ n. n % 2 ^ c.args.m) c.different.ensures) refl
