use Rattle.std.proofs.Common.{ap, length, refl, rules, subst, sym, ◌∙◌, ◌≡◌}
use Rattle.formal_sums.specs.FormalSums.{Each}
use Rattle.term_lists.specs.Rings.{variables}
use Rattle.vector_division.specs.Progress.{AreWeighed}
use Rattle.resolution_maps.specs.Joining.{AreJoinedTo}
use Rattle.resolution_maps.specs.Resolved.{HavePositions, degrees_of}
use Rattle.resolution_maps.proofs.Joining.{columns_more, joined_all, joined_more, length-degrees, rows_by}
use Rattle.resolution_maps.proofs.maps.joined_maps.Goals as goal

pub loop-columns-preserved : goal.loop-columns-preserved
loop-columns-preserved c =
    let ring = c.args.ring.now in
    let v = c.loop-columns.invariant in
    let F = c.in-Some.columns in
    let rest = c.pop_front.new.self.items in
    let rows = c.loop-columns.row_degrees.items in
    let weighed = subst (Each (AreWeighed (variables ring) ring.weights)) c.in-Some.ensures.items v.weighed in
    let positions = subst (HavePositions (length rows)) c.in-Some.ensures.items v.positions in
    let n : c.count.result ≡ length rows = search rules in
    let degrees = c.in_ok-degrees.ensures ∙ ap (λ z. degrees_of ring z F) c.deref.ensures.value in
    record {
      columns = columns_more c.loop-columns.maps.items c.push.new.self.items _ rest c.loop-columns.rest.items _ c.in_ok-push.ensures.items c.in-Some.ensures.items v.columns;
      joined = subst (λ z. AreJoinedTo ring c.args.positions.now z c.in_ok-degrees.degrees.items) (sym c.in_ok-push.ensures.items)
          (joined_more ring c.args.positions.now c.loop-columns.maps.items rows c.in_ok-degrees.degrees.items _ v.joined (rows_by rows _ _ n positions.0 refl refl) degrees);
      weighed = weighed.1;
      positions = subst (λ z. HavePositions z rest) (sym (ap length degrees ∙ length-degrees ring rows F)) positions.1;
    }

pub returns-clause-joined : goal.returns-clause-joined
returns-clause-joined c = joined_all c.args.ring.now c.args.positions.now c.loop-columns.maps.items c.loop-columns.row_degrees.items c.loop-columns.invariant.joined
