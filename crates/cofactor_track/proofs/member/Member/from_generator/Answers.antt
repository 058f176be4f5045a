use Rattle.std.proofs.Common.{[], ap, get_or, length, subst, sym, ◌<◌, ◌∙◌, ◌≡◌}
use Rattle.std.proofs.lemmas.List.{get_or_default}
use Rattle.std.specs.Arc.{arc_value}
use Rattle.cofactor_track.proofs.CombinedSums.{combined_generator}
use Rattle.cofactor_track.specs.Changes.{IsUnitVector}
use Rattle.member_products.specs.Generators.{IsVectorOf}
use Rattle.member_products.specs.declared.shared.Shared.{Shared}
use Rattle.cofactor_track.proofs.member.Member.from_generator.Goals as goal

pub invariant_of-result : goal.invariant_of-result
invariant_of-result c =
    let s = arc_value c.in_ok-shared.shared in
    let x = c.index-as_slice-i.result in
    let lt : c.args.i < length s.generators = subst (λ (s : Shared). c.args.i < length s.generators) (sym c.in_ok-shared.ensures) c.requires in
    let is : c.in_ok-vector.vector ≡ get_or s.generators c.args.i [] =
    c.in_ok-vector.ensures ∙ c.index-as_slice-i.is ∙ ap (λ l. get_or l c.args.i x) (c.as_slice.ensures ∙ ap (λ (s : Shared). s.generators) c.deref.ensures) ∙ get_or_default s.generators c.args.i x [] lt in
    record {
      combined = combined_generator s.ring s.rank s.generators c.args.i c.in_ok-vector.vector c.in_ok-cof.cof s.vectors lt is
          (subst (λ (s : Shared). IsVectorOf s.ring c.in_ok-cof.cof) c.deref-2.ensures c.in_ok-cof.ensures.vector)
          (subst (λ (s : Shared). IsUnitVector s.ring c.args.i c.in_ok-cof.cof) c.deref-2.ensures c.in_ok-cof.ensures.unit);
    }

pub returns-clause-cofactors : goal.returns-clause-cofactors
returns-clause-cofactors c =
    subst (λ (s : Shared). IsUnitVector s.ring c.args.i c.in_ok-cof.cof) (c.deref-2.ensures ∙ c.in_ok-shared.ensures) c.in_ok-cof.ensures.unit
