use Rattle.std.proofs.Common.{length, take}
use Rattle.formal_sums.specs.FormalSums.{Each}
use Rattle.member_products.specs.Generators.{IsRanked}
use Rattle.member_products.specs.Members.{AreCofactors}
use Rattle.member_products.proofs.multiplying.cofactors.Given as goal

-- the members so far have their cofactors
abbrev pub invariant-loop-member : goal.invariant-loop-member
invariant-loop-member l = record {
  vectors : Each (λ v. IsRanked l.shared.ring (length l.shared.generators) v) l.list;
  cofactors : AreCofactors l.shared.ring (take l.member-index l.members) l.list;
}
