use Rattle.std.proofs.Common.{[], ap, length, map, subst, sym, ◌*◌, ◌∙◌}
use Rattle.bases.specs.Bases.{IsReducedBasis}
use Rattle.ext_modules.specs.Ext.{AreLinked}
use Rattle.term_lists.specs.Rings.{ring_comparison, setting, variables}
use Rattle.term_lists.specs.Vectors.{sums_of}
use Rattle.resolution_maps.proofs.Joining.{length-zeros}
use Rattle.resolution_maps.specs.Resolved.{columns_of}
use Rattle.resolution_maps.specs.declared.maps.Map.{Map}
use Rattle.session_reports.proofs.Extended.{ext_computed, extending_stops, joined_linked, maps_computed}
use Rattle.session_reports.proofs.Reporting.{own_basis}
use Rattle.syzygy_engine.specs.Kernels.{runs_in_order}
use Rattle.session_reports.proofs.Counted.{none_ran}
use Rattle.session_reports.proofs.extending.ext_at.Goals as goal

pub resolve_to-requires-clause-basis : goal.resolve_to-requires-clause-basis
resolve_to-requires-clause-basis g c =
    let ring = c.args.ring.now in
    let n = variables ring in
    subst (λ r. IsReducedBasis (setting ring n (ring_comparison ring n) r) (sums_of n c.args.basis.now) (sums_of n c.args.basis.now)) (sym c.from.ensures)
    (own_basis ring c.args.rank c.requires.basis.0 c.args.basis.now c.requires.basis.1 c.requires.basis.2).basis

pub ext-requires-clause-linked : goal.ext-requires-clause-linked
ext-requires-clause-linked g c κs within =
    let ring = c.args.ring.now in
    let r = c.in-Ok.resolution in
    subst (λ l. AreLinked ring c.from-2.result (map (λ (m : Map). m.columns) l)) (sym c.deref.ensures.value)
    (joined_linked ring c.from-2.result r.positions.items [] r.maps.items
    (ap length c.in-Ok.ensures.places ∙ length-zeros c.from.result ∙ c.from.ensures ∙ sym c.from-2.ensures) c.in-Ok.ensures.joined c.in-Ok.ensures.vectors)

pub returns-in-Ok-ext-clause-answer : goal.returns-in-Ok-ext-clause-answer
returns-in-Ok-ext-clause-answer g c =
    let r = c.in-Ok.resolution in
    ext_computed c.args.ring.now c.args.rank c.from-2.result c.rank_at_step.result c.args.step c.args.basis.now r.maps.items c.deref.result.now
    c.deref-in-Ok-ext.result.now c.in-Ok-ext.ext c.deref.ensures.value c.deref-in-Ok-ext.ensures.value c.from-2.ensures
    (maps_computed c.args.ring.now c.args.rank c.from.result c.args.step c.from-count.result c.args.basis.now r c.from.ensures c.from-count.ensures c.in-Ok.ensures.start
    c.in-Ok.ensures.vectors)
    c.rank_at_step.ensures c.in-Ok-ext.ensures.ext

pub returns-clause-stop : goal.returns-clause-stop
returns-clause-stop g c =
    let r = c.in-Ok.resolution in
    extending_stops c.args.ring.now c.args.rank c.args.basis.now c.args.step _ _ _ _ (columns_of r) c.from-2.result c.in-Err-ext.stop c.from-2.ensures
    (maps_computed c.args.ring.now c.args.rank c.from.result c.args.step c.from-count.result c.args.basis.now r c.from.ensures c.from-count.ensures c.in-Ok.ensures.start
    c.in-Ok.ensures.vectors)
    (rw c.deref.ensures.value at c.in-Err-ext.ensures.stop)

pub returns-in-Err-clause-runs : goal.returns-in-Err-clause-runs
returns-in-Err-clause-runs g c = none_ran (2 * runs_in_order c.args.ring.now) (g.B.Groebner.runs c.args.engine.now)
