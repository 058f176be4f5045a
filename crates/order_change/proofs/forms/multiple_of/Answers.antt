use Rattle.std.proofs.Common.{arith, length, ℕ, ◌%◌, ◌*◌, ◌<◌, ◌≡◌}
use Rattle.std.specs.Prelude.{slice_index}
use Rattle.residues.proofs.Congruences.{IsCongruent_of, IsCongruent_trans}
use Rattle.residues.specs.Residues.{IsCongruent}
use Rattle.order_change.proofs.Reducing.{if_ok2, reduced_congruent, reduced_residues, square_positive}
use Rattle.order_change.proofs.forms.multiple_of.Goals as goal

pub add_multiple-requires-clause-numbers : goal.add_multiple-requires-clause-numbers
add_multiple-requires-clause-numbers c = λ j.
    let p = c.args.modulus.now.value in
    let pos : 0 < p = let above = c.domain.ensures.above_one in omega (arith, above) in
    let z = c.in_ok-multiple.ensures.zeros j in
    omega (arith, z, square_positive p pos)

pub returns-clause-residues : goal.returns-clause-residues
returns-clause-residues c =
    let p = c.args.modulus.now.value in
    let pos : 0 < p = let above = c.domain.ensures.above_one in omega (arith, above) in
    let numbers = c.add_multiple.new.self in
    if_ok2 (λ out. length out ≡ length numbers) (λ out. (k : ℕ) → k < length numbers → slice_index out k ≡ slice_index numbers k % p) (λ out. (j : ℕ) → slice_index out j < p) c.reduced.result
    (λ out long same. (reduced_residues p pos numbers out (record { long = long; same = same })).small)
    c.reduced.ensures.long c.reduced.ensures.same

pub returns-clause-multiple : goal.returns-clause-multiple
returns-clause-multiple c =
    let p = c.args.modulus.now.value in
    let pos : 0 < p = let above = c.domain.ensures.above_one in omega (arith, above) in
    let numbers = c.add_multiple.new.self in
    let zeros = c.in_ok-multiple.ensures.zeros in
    if_ok2 (λ out. length out ≡ length numbers) (λ out. (k : ℕ) → k < length numbers → slice_index out k ≡ slice_index numbers k % p)
    (λ out. (j : ℕ) → IsCongruent p (slice_index out j) (c.args.c * slice_index c.args.form.now j)) c.reduced.result
    (λ out long same j. IsCongruent_trans (reduced_congruent p pos numbers out (record { long = long; same = same }) j)
    (IsCongruent_trans (c.add_multiple.ensures.sums j) (IsCongruent_of p _ (c.args.c * slice_index c.args.form.now j) (let z = zeros j in omega (arith, z)))))
    c.reduced.ensures.long c.reduced.ensures.same
