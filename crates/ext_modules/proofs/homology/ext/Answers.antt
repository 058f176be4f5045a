use Rattle.std.proofs.Common.{inl, inr, map, subst, subst₂, true, ◌≡◌}
use Rattle.std.specs.Prelude.{◌↔◌}
use Rattle.ext_laws.specs.Transposes.{unit_vectors}
use Rattle.term_lists.specs.Rings.{variables}
use Rattle.term_lists.specs.Vectors.{sums_of}
use Rattle.groebner_iface.specs.Calls.{CallStops, NoTrail}
use Rattle.groebner_iface.proofs.CallingRuns.{more_stops}
use Rattle.resolution_maps.specs.Inducing.{Columns}
use Rattle.resolution_maps.specs.declared.maps.Map.{Map}
use Rattle.ext_modules.specs.Ext.{AreExtRuns, IsRelationsRun, IsRowsRun}
use Rattle.ext_modules.proofs.Counted.{both_runs, first_runs}
use Rattle.ext_modules.proofs.Presenting.{zero_is}
use Rattle.ext_modules.proofs.homology.ext.Goals as goal

pub returns-in-Err-clause-stop : goal.returns-in-Err-clause-stop
returns-in-Err-clause-stop g c =
    let M : Columns = map (λ (m : Map). m.columns) c.args.maps.now in
    more_stops _ _ _ _ (IsRowsRun c.args.ring.now c.args.rank M c.args.k) (AreExtRuns c.args.ring.now c.args.rank M c.args.k) NoTrail NoTrail (λ r m l h. inl h) (λ t h. h)
    c.in-Err.stop c.in-Err.ensures.stop

pub returns-in-Err-relations_at-clause-stop : goal.returns-in-Err-relations_at-clause-stop
returns-in-Err-relations_at-clause-stop g c =
    let M : Columns = map (λ (m : Map). m.columns) c.args.maps.now in
    let stop = c.in-Err-relations_at.stop in
    subst₂ (λ a κ. CallStops (AreExtRuns c.args.ring.now c.args.rank M c.args.k) NoTrail a (g.B.Groebner.stops c.relations_at.new.engine) κ (g.B.Groebner.stopped c.relations_at.new.engine) stop)
    c.in-Ok.ensures.same.0 c.in-Ok.ensures.same.1
    (more_stops _ _ _ _ (IsRelationsRun c.args.ring.now c.args.rank M c.args.k) (AreExtRuns c.args.ring.now c.args.rank M c.args.k) NoTrail NoTrail (λ r m l h. inr h) (λ t h. h) stop
    c.in-Err-relations_at.ensures.stop)

pub returns-clause-ext : goal.returns-clause-ext
returns-clause-ext g c =
    let ring = c.args.ring.now in
    let kernel = c.in-Ok.kernel in
    let relations = c.in-Ok-relations_at.relations in
    let zero = c.in_ok-zero.zero in
    let M : Columns = map (λ (m : Map). m.columns) c.args.maps.now in
    let test = subst (λ m. (zero ≡ true) ↔ (sums_of (variables ring) relations ≡ unit_vectors m)) c.len.ensures c.in_ok-zero.ensures in
    record {
      kernel = c.in-Ok.ensures.kernel;
      relations = c.in-Ok-relations_at.ensures.relations;
      zero = zero_is ring (c.lawful_setting.ensures 0) c.args.rank M c.args.k kernel relations zero c.in-Ok-relations_at.ensures.relations test;
    }

pub returns-in-Err-clause-runs : goal.returns-in-Err-clause-runs
returns-in-Err-clause-runs g c = first_runs _ _ _ c.in-Err.ensures.runs

pub returns-in-Err-relations_at-clause-runs : goal.returns-in-Err-relations_at-clause-runs
returns-in-Err-relations_at-clause-runs g c = both_runs _ _ _ _ c.in-Ok.ensures.runs c.in-Err-relations_at.ensures.runs

pub returns-clause-runs : goal.returns-clause-runs
returns-clause-runs g c = both_runs _ _ _ _ c.in-Ok.ensures.runs c.in-Ok-relations_at.ensures.runs
