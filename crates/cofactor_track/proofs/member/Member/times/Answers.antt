use Rattle.std.proofs.Common.{subst, sym, ◌∙◌}
use Rattle.std.specs.Arc.{arc_value}
use Rattle.monomials.specs.Exponents.{exponents_of}
use Rattle.term_lists.specs.Rings.{variables}
use Rattle.cofactor_track.proofs.CombinedSums.{combined_multiple}
use Rattle.cofactor_track.specs.Changes.{IsTimes}
use Rattle.member_products.specs.Generators.{IsVectorOf}
use Rattle.cofactor_track.specs.Members.{IsCombined}
use Rattle.member_products.specs.declared.shared.Shared.{Shared}
use Rattle.cofactor_track.proofs.member.Member.times.Goals as goal

pub times_vector-requires-clause-vector : goal.times_vector-requires-clause-vector
times_vector-requires-clause-vector c =
    subst (λ (s : Shared). IsVectorOf s.ring c.args.self.now.vector) (sym (c.deref.ensures ∙ c.in_ok-shared.ensures)) c.args.self.now.combined.vector.vector

pub times_vector-requires-2-clause-vector : goal.times_vector-requires-2-clause-vector
times_vector-requires-2-clause-vector c =
    subst (λ (s : Shared). IsVectorOf s.ring c.args.self.now.cof) (sym (c.deref-2.ensures ∙ c.in_ok-shared.ensures)) c.args.self.now.combined.cof.vector

pub invariant_of-result : goal.invariant_of-result
invariant_of-result c =
    let s = arc_value c.in_ok-shared.shared in
    record {
      combined = combined_multiple s.ring s.rank s.generators 1 (exponents_of (variables s.ring) c.args.t.now.exponents) c.args.self.now.vector c.args.self.now.cof c.in_ok-vector.vector c.in_ok-cof.cof
          (subst (λ (s : Shared). IsCombined s.ring s.rank s.generators c.args.self.now.vector c.args.self.now.cof) (sym c.in_ok-shared.ensures) c.args.self.now.combined)
          (subst (λ (s : Shared). IsVectorOf s.ring c.in_ok-vector.vector) c.deref.ensures c.in_ok-vector.ensures.vector)
          (subst (λ (s : Shared). IsVectorOf s.ring c.in_ok-cof.cof) c.deref-2.ensures c.in_ok-cof.ensures.vector)
          (subst (λ (s : Shared). IsTimes s.ring c.args.t.now c.args.self.now.vector c.in_ok-vector.vector) c.deref.ensures c.in_ok-vector.ensures.times)
          (subst (λ (s : Shared). IsTimes s.ring c.args.t.now c.args.self.now.cof c.in_ok-cof.cof) c.deref-2.ensures c.in_ok-cof.ensures.times);
    }

pub returns-clause-vector : goal.returns-clause-vector
returns-clause-vector c =
    subst (λ (s : Shared). IsTimes s.ring c.args.t.now c.args.self.now.vector c.in_ok-vector.vector) (c.deref.ensures ∙ c.in_ok-shared.ensures) c.in_ok-vector.ensures.times

pub returns-clause-cofactors : goal.returns-clause-cofactors
returns-clause-cofactors c =
    subst (λ (s : Shared). IsTimes s.ring c.args.t.now c.args.self.now.cof c.in_ok-cof.cof) (c.deref-2.ensures ∙ c.in_ok-shared.ensures) c.in_ok-cof.ensures.times
