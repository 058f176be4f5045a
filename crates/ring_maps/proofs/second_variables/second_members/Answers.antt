use Rattle.std.proofs.Common.{[], ap, append_assoc, subst, sym, ◌++◌, ◌∙◌, ◌∷◌}
use Rattle.std.proofs.lemmas.List.{map-append}
use Rattle.map_laws.specs.Graphs.{of_second}
use Rattle.term_lists.specs.Rings.{variables}
use Rattle.term_lists.specs.Vectors.{sum_of, sums_of}
use Rattle.syzygy_engine.specs.Runs.{AreVectorsFor}
use Rattle.ring_maps.proofs.second_variables.second_members.Goals as goal

pub loop-v-preserved : goal.loop-v-preserved
loop-v-preserved c =
    let ring = c.args.ring.now in
    let n = variables ring in
    let m = variables c.args.graph.now in
    let done = c.loop-v.invariant.0 in
    let x = c.in-Some.v in (
      done ++ x ∷ [],
      append_assoc done (x ∷ []) c.next.new.self.rest.items ∙ ap (λ r. done ++ r) (sym c.in-Some.ensures.steps.0) ∙ c.loop-v.invariant.1,
      subst (λ F. AreVectorsFor ring (of_second n F) c.take_second.new.members.items) (sym (map-append (λ v. sum_of m v) done (x ∷ []))) (c.in_ok-take_second.ensures (sums_of m done) c.loop-v.invariant.2),
    )
