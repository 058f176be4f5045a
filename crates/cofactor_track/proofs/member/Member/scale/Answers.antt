use Rattle.std.proofs.Common.{subst, sym}
use Rattle.std.specs.Arc.{arc_value}
use Rattle.monomials.specs.Exponents.{unit}
use Rattle.term_lists.specs.Rings.{variables}
use Rattle.cofactor_track.proofs.CombinedSums.{combined_multiple}
use Rattle.cofactor_track.specs.Changes.{IsScaled}
use Rattle.member_products.specs.Generators.{IsVectorOf}
use Rattle.member_products.specs.declared.shared.Shared.{Shared}
use Rattle.cofactor_track.proofs.member.Member.scale.Goals as goal

pub scale-requires-clause-vector : goal.scale-requires-clause-vector
scale-requires-clause-vector c =
    subst (λ (s : Shared). IsVectorOf s.ring c.args.self.now.vector) (sym c.deref.ensures) c.args.self.now.combined.vector.vector

pub scale-requires-2-clause-vector : goal.scale-requires-2-clause-vector
scale-requires-2-clause-vector c =
    subst (λ (s : Shared). IsVectorOf s.ring c.args.self.now.cof) (sym c.deref-2.ensures) c.args.self.now.combined.cof.vector

pub invariant_of-self : goal.invariant_of-self
invariant_of-self c =
    let s = arc_value c.args.self.now.shared in
    record {
      combined = combined_multiple s.ring s.rank s.generators c.args.c (unit (variables s.ring)) c.args.self.now.vector c.args.self.now.cof c.scale.new.self c.scale-2.new.self
          c.args.self.now.combined
          (subst (λ (s : Shared). IsVectorOf s.ring c.scale.new.self) c.deref.ensures c.scale.ensures.vector)
          (subst (λ (s : Shared). IsVectorOf s.ring c.scale-2.new.self) c.deref-2.ensures c.scale-2.ensures.vector)
          (subst (λ (s : Shared). IsScaled s.ring c.args.c c.args.self.now.vector c.scale.new.self) c.deref.ensures c.scale.ensures.multiple)
          (subst (λ (s : Shared). IsScaled s.ring c.args.c c.args.self.now.cof c.scale-2.new.self) c.deref-2.ensures c.scale-2.ensures.multiple);
    }

pub returns-clause-vector : goal.returns-clause-vector
returns-clause-vector c =
    subst (λ (s : Shared). IsScaled s.ring c.args.c c.args.self.now.vector c.scale.new.self) c.deref.ensures c.scale.ensures.multiple

pub returns-clause-cofactors : goal.returns-clause-cofactors
returns-clause-cofactors c =
    subst (λ (s : Shared). IsScaled s.ring c.args.c c.args.self.now.cof c.scale-2.new.self) c.deref-2.ensures c.scale-2.ensures.multiple
