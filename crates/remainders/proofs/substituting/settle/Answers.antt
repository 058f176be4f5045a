use Rattle.std.proofs.Common.{arith, get_or, length, subst, ◌%◌, ◌<◌, ◌≡◌}
use Rattle.residues.proofs.Congruences.{IsCongruent_mod, IsCongruent_of, IsCongruent_sym, IsCongruent_trans}
use Rattle.residues.specs.Residues.{IsCongruent}
use Rattle.remainders.proofs.Resting.{taken_settled}
use Rattle.remainders.proofs.substituting.settle.Goals as goal

pub returns-then-residue_at-eq0 : goal.returns-then-residue_at-eq0
returns-then-residue_at-eq0 c =
    let p = c.args.ring.now.modulus.value in
    let at = c.args.number in
    let sums = c.args.sums.now.items in
    let r = c.residue_at.result in
    let there : at < length sums = omega (arith, c.if-at-len.false, c.len.ensures) in
    let value : r ≡ get_or sums at 0 % p = subst (λ xs. at < length xs → r ≡ get_or xs at 0 % p) c.as_slice.ensures.value c.residue_at.ensures.residue there in
    let zero : r ≡ 0 = omega (arith, c.if-residue_at-eq0.true) in
    let same : IsCongruent p (get_or sums at 0) 0 =
    IsCongruent_trans (IsCongruent_sym (IsCongruent_mod p (get_or sums at 0))) (IsCongruent_trans (IsCongruent_sym (IsCongruent_of p _ _ value)) (IsCongruent_of p _ _ zero)) in
    let pos : 0 < p = omega (arith, c.residue_at.ensures.reduced) in
    taken_settled c.args.ring.now c.args.list.now c.args.numbers.now c.args.v.now at sums c.args.touched.now pos there same c.requires
