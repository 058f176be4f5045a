use Rattle.term_lists.specs.Rings.{ring_comparison, setting, variables}
use Rattle.term_lists.specs.Vectors.{sums_of}
use Rattle.reduced_unique.proofs.Uniqueness.{IsReducedBasis_unique}
use Rattle.groebner_iface.proofs.OneBasis.{one_list_of_sums}
use Rattle.groebner_iface.proofs.laws.one_basis.Goals as goal

pub returns : goal.returns
returns c = λ rank list left right l r.
    let ring = c.args.ring.now in
    let n = variables ring in
    one_list_of_sums ring (ring_comparison ring) rank left right (c.lawful_setting.ensures rank) l.vectors r.vectors
    (IsReducedBasis_unique (setting ring n (ring_comparison ring n) rank) (c.lawful_setting.ensures rank) (sums_of n list) (sums_of n left) (sums_of n right) l.basis r.basis)
