use Rattle.std.proofs.Common.{[], arith, length, subst, sym, ◌++◌, ◌∷◌}
use Rattle.formal_sums.proofs.WeightedSums.{Each_append}
use Rattle.term_lists.specs.Rings.{variables}
use Rattle.term_lists.specs.Vectors.{StandsFor, sum_of}
use Rattle.member_products.specs.Generators.{IsRanked, IsVectorOf}
use Rattle.member_products.specs.Members.{AreCofactors}
use Rattle.member_products.proofs.Multiplied.{cofactors_more}
use Rattle.member_products.proofs.Ranks.{ranked_sum, ranked_vectors}
use Rattle.member_products.proofs.multiplying.push_cofactors.Goals as goal

pub combine-requires-clause-cofactors : goal.combine-requires-clause-cofactors
combine-requires-clause-cofactors c = c.requires.member.products.vector.each

pub combine-requires-clause-positions : goal.combine-requires-clause-positions
combine-requires-clause-positions c = c.requires.member.products.positions

pub combine-requires-clause-list : goal.combine-requires-clause-list
combine-requires-clause-list c = ranked_vectors c.args.shared.now.ring (length c.args.shared.now.generators) c.args.list.now c.requires.list

pub add-requires-clause-left : goal.add-requires-clause-left
add-requires-clause-left c = subst (IsVectorOf c.args.shared.now.ring) (sym c.in_ok-cof.ensures) c.requires.member.multiple.vector

pub returns-clause-vectors : goal.returns-clause-vectors
returns-clause-vectors c =
    let ring = c.args.shared.now.ring in
    let count = length c.args.shared.now.generators in
    let m = c.args.member.now in
    rw c.in_ok-push.ensures.ok
    (Each_append (λ v. IsRanked ring count v) c.args.list.now (c.add.new.self ∷ []) c.requires.list (
      ranked_sum ring count c.args.list.now m.multiple c.in-Ok.products c.add.new.self (sum_of (variables ring) m.products) c.requires.list c.requires.member.multiple.positions c.in_ok-add.ensures.vector
          c.in-Ok.ensures.sum (subst (λ l. StandsFor ring c.add.new.self (sum_of (variables ring) l ++ sum_of (variables ring) c.in-Ok.products)) c.in_ok-cof.ensures c.in_ok-add.ensures.sum),
      tt,
    ))

pub returns-clause-cofactors : goal.returns-clause-cofactors
returns-clause-cofactors c =
    let ring = c.args.shared.now.ring in
    λ ms h.
    subst (AreCofactors ring (ms ++ (c.args.member.now ∷ []))) (sym c.in_ok-push.ensures.ok)
    (cofactors_more ring (let q = c.domain.ensures.above_one in omega arith) ms c.args.member.now c.args.list.now c.in-Ok.products c.add.new.self
    h c.in-Ok.ensures.sum
    (subst (λ l. StandsFor ring c.add.new.self (sum_of (variables ring) l ++ sum_of (variables ring) c.in-Ok.products)) c.in_ok-cof.ensures c.in_ok-add.ensures.sum))
