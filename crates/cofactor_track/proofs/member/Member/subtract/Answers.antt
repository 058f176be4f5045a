use Rattle.std.proofs.Common.{subst, sym, ◌-◌, ◌∙◌}
use Rattle.std.specs.Arc.{arc_value}
use Rattle.monomials.specs.Exponents.{exponents_of}
use Rattle.term_lists.specs.Rings.{variables}
use Rattle.cofactor_track.proofs.CombinedSums.{combined_sum}
use Rattle.cofactor_track.specs.Changes.{IsLess}
use Rattle.member_products.specs.Generators.{IsVectorOf}
use Rattle.cofactor_track.specs.Members.{IsCombined}
use Rattle.member_products.specs.declared.shared.Shared.{Shared}
use Rattle.cofactor_track.proofs.member.Member.subtract.Goals as goal

pub subtract_vector-requires-clause-left : goal.subtract_vector-requires-clause-left
subtract_vector-requires-clause-left c =
    subst (λ (s : Shared). IsVectorOf s.ring c.in_ok-vector.vector) (sym c.deref.ensures)
    (subst (IsVectorOf (arc_value c.args.self.now.shared).ring) (sym c.in_ok-vector.ensures) c.args.self.now.combined.vector.vector)

pub subtract_vector-requires-clause-right : goal.subtract_vector-requires-clause-right
subtract_vector-requires-clause-right c =
    subst (λ (s : Shared). IsVectorOf s.ring c.args.other.now.vector) (c.requires.shared ∙ sym c.deref.ensures) c.args.other.now.combined.vector.vector

pub subtract_vector-requires-2-clause-left : goal.subtract_vector-requires-2-clause-left
subtract_vector-requires-2-clause-left c =
    subst (λ (s : Shared). IsVectorOf s.ring c.args.self.now.cof) (sym c.deref-2.ensures) c.args.self.now.combined.cof.vector

pub subtract_vector-requires-2-clause-right : goal.subtract_vector-requires-2-clause-right
subtract_vector-requires-2-clause-right c =
    subst (λ (s : Shared). IsVectorOf s.ring c.args.other.now.cof) (c.requires.shared ∙ sym c.deref-2.ensures) c.args.other.now.combined.cof.vector

pub invariant_of-self-2 : goal.invariant_of-self-2
invariant_of-self-2 c =
    let s = arc_value c.args.self.now.shared in
    let u = c.subtract_vector.new.u in
    let a = c.subtract_vector-2.new.u in
    let other = c.args.other.now in
    record {
      combined = combined_sum s.ring s.rank s.generators (s.ring.modulus.value - c.args.c) (exponents_of (variables s.ring) c.args.t.now.exponents) c.args.self.now.vector c.args.self.now.cof other.vector other.cof u a
          c.args.self.now.combined
          (subst (λ (s : Shared). IsCombined s.ring s.rank s.generators other.vector other.cof) c.requires.shared other.combined)
          (subst (λ (s : Shared). IsVectorOf s.ring u) c.deref.ensures c.in_ok-subtract_vector.ensures.vector)
          (subst (λ (s : Shared). IsVectorOf s.ring a) c.deref-2.ensures c.in_ok-subtract_vector-2.ensures.vector)
          (subst (λ z. IsLess s.ring c.args.c c.args.t.now z other.vector u) c.in_ok-vector.ensures
          (subst (λ (s : Shared). IsLess s.ring c.args.c c.args.t.now c.in_ok-vector.vector other.vector u) c.deref.ensures c.in_ok-subtract_vector.ensures.less))
          (subst (λ (s : Shared). IsLess s.ring c.args.c c.args.t.now c.args.self.now.cof other.cof a) c.deref-2.ensures c.in_ok-subtract_vector-2.ensures.less);
    }

pub returns-clause-vector : goal.returns-clause-vector
returns-clause-vector c =
    let u = c.subtract_vector.new.u in
    let other = c.args.other.now in
    subst (λ z. IsLess (arc_value c.args.self.now.shared).ring c.args.c c.args.t.now z other.vector u) c.in_ok-vector.ensures
    (subst (λ (s : Shared). IsLess s.ring c.args.c c.args.t.now c.in_ok-vector.vector other.vector u) c.deref.ensures c.in_ok-subtract_vector.ensures.less)

pub returns-clause-cofactors : goal.returns-clause-cofactors
returns-clause-cofactors c =
    let a = c.subtract_vector-2.new.u in
    let other = c.args.other.now in
    subst (λ (s : Shared). IsLess s.ring c.args.c c.args.t.now c.args.self.now.cof other.cof a) c.deref-2.ensures c.in_ok-subtract_vector-2.ensures.less
