use Rattle.std.proofs.Common.{[], ap, append_assoc, subst, suc, sym, ◌++◌, ◌∙◌, ◌∷◌}
use Rattle.operation_laws.specs.Operations.{back}
use Rattle.term_lists.specs.Rings.{variables}
use Rattle.term_lists.specs.Vectors.{sums_of}
use Rattle.syzygy_engine.specs.Runs.{AreVectorsFor}
use Rattle.ideal_ops.proofs.Shared.{sums-append}
use Rattle.ideal_ops.proofs.back.members_back.Goals as goal

pub loop-v-preserved : goal.loop-v-preserved
loop-v-preserved c =
    let ring = c.args.ring.now in
    let n = suc (variables ring) in
    let done = c.loop-v.invariant.0 in
    let x = c.in-Some.v in (
      done ++ x ∷ [],
      append_assoc done (x ∷ []) c.next.new.self.rest.items ∙ ap (λ r. done ++ r) (sym c.in-Some.ensures.steps.0) ∙ c.loop-v.invariant.1,
      subst (λ F. AreVectorsFor ring (back F) c.take_back.new.fewer.items) (sym (sums-append n done (x ∷ []))) (c.in_ok-take_back.ensures (sums_of n done) c.loop-v.invariant.2),
    )
