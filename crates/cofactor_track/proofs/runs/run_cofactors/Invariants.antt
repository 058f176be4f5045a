use Rattle.std.proofs.Common.{length, take}
use Rattle.formal_sums.specs.FormalSums.{Each}
use Rattle.member_products.specs.Generators.{IsRanked}
use Rattle.member_products.specs.Members.{AreCofactors}
use Rattle.cofactor_track.proofs.runs.run_cofactors.Given as goal

-- the members so far have their cofactors
abbrev pub invariant-loop-i : goal.invariant-loop-i
invariant-loop-i l = record {
  vectors : Each (λ v. IsRanked l.members.shared.ring (length l.members.shared.generators) v) l.list;
  cofactors : AreCofactors l.members.shared.ring (take l.i l.members.list) l.list;
}
