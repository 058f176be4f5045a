use Rattle.std.proofs.Common.{subst, sym, ◌<◌}
use Rattle.formal_sums.proofs.Sameness.{IsSame_of, IsSame_trans}
use Rattle.formal_sums.specs.FormalSums.{IsSame}
use Rattle.term_lists.proofs.Gathers.{Each_permutation}
use Rattle.term_lists.specs.Vectors.{sum_of}
use Rattle.term_tables.proofs.Sums.{each_some, ranked_permuted}
use Rattle.term_tables.specs.Tables.{ranked_sum}
use Rattle.term_tables.proofs.product.terms_of.Goals as goal

pub unpacked_terms-requires-clause-residues : goal.unpacked_terms-requires-clause-residues
unpacked_terms-requires-clause-residues c =
    rw c.deref.ensures.value
    (Each_permutation (λ t. t.2 < c.args.ring.now.modulus.value) c.args.terms.items c.sorted_terms.result.items c.sorted_terms.ensures c.requires.residues)

pub returns-clause-sum : goal.returns-clause-sum
returns-clause-sum c = λ n.
    let p = c.args.ring.now.modulus.value in
    let bs = c.args.bases.now in
    let permuted = subst (λ xs. IsSame p (ranked_sum n bs xs) (ranked_sum n bs c.args.terms.items)) (sym c.deref.ensures.value)
    (ranked_permuted n p bs c.args.terms.items c.sorted_terms.result.items c.sorted_terms.ensures) in
    each_some _ (λ v. IsSame p (sum_of n v.items) (ranked_sum n bs c.args.terms.items)) c.unpacked_terms.result
    (λ v e. IsSame_trans (IsSame_of p _ _ e) permuted) (c.unpacked_terms.ensures.sum n)
