use Rattle.std.proofs.Common.{arith, get_or, length, refl, subst, ◌%◌, ◌<◌, ◌≡◌}
use Rattle.residues.proofs.Congruences.{IsCongruent_mod, IsCongruent_of, IsCongruent_sym, IsCongruent_trans}
use Rattle.complements.proofs.numbered.take_term.Goals as goal

pub returns : goal.returns
returns c = λ _.
    let p = c.args.ring.now.modulus.value in
    let sums = c.args.sums.now.items in
    let at = c.args.number in
    let r = c.residue_at-residue.result in
    let there : at < length sums = omega (arith, c.if-at-len.false, c.len.ensures) in
    let value : r ≡ get_or sums at 0 % p = subst (λ xs. at < length xs → r ≡ get_or xs at 0 % p) c.as_slice.ensures.value c.residue_at-residue.ensures.residue there in
    record {
      within = there;
      residue = r;
      congruent = IsCongruent_sym (IsCongruent_trans (IsCongruent_of p _ _ value) (IsCongruent_mod p (get_or sums at 0)));
      zero = refl;
      term = c.in_ok-push_term.ensures;
    }
