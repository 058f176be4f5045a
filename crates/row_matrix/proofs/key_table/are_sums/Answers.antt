use Rattle.std.proofs.Common.{ap, arith, false, length, refl, true, ◌≡◌, ◌≤◌}
use Rattle.row_matrix.proofs.KeyProducts.{length_sums, sums_by_places}
use Rattle.row_matrix.proofs.key_table.are_sums.Goals as goal

pub returns-then-places-left : goal.returns-then-places-left
returns-then-places-left c =
    let ne : length c.args.places.now ≡ length c.args.left.now → ⊥ = c.if-places-left.true in
    let size = length_sums c.args.left.now c.args.right.now c.requires in
    (λ z. absurd (let q : false ≡ true = z in cc), λ e. absurd (ne (omega (arith, ap length e, size))))

pub returns : goal.returns
returns c =
    let e : length c.args.places.now ≡ length c.args.left.now = c.if-places-left.false in
    let past : length c.args.left.now ≤ c.loop-k.k = c.loop-k-test.false in
    (λ _. sums_by_places c.args.left.now c.args.right.now c.args.places.now c.requires e (λ k lt. c.loop-k.invariant k (omega (arith, past, lt))), λ _. refl)
