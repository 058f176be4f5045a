use Rattle.std.proofs.Common.{subst, sym, refl}
use Rattle.std.proofs.lemmas.Result.{IfErr-weaker, on_ok_weaker}
use Rattle.term_lists.specs.Rings.{ring_comparison}
use Rattle.term_lists.specs.Vectors.{HasPositions, IsVectorOver}
use Rattle.session_lang.specs.Fitting.{IsGiven}
use Rattle.session_values.specs.Kept.{value_of}
use Rattle.session_values.specs.Names.{HasValue}
use Rattle.session_lang.proofs.OneAnswer.{one_ring, one_value}
use Rattle.session_lang.proofs.Performing.{lifted_performed}
use Rattle.groebner_iface.proofs.CallingRuns.{more_stops}
use Rattle.session_lang.proofs.session.Session.lift.Goals as goal

pub found-value-requires : goal.found-value-requires
found-value-requires g c = let h = c.requires in subst (IsGiven c.args.self.now) (sym c.as_bytes.ensures.value) (h.0, h.1, h.2)

pub push_lift-requires-clause-vector : goal.push_lift-requires-clause-vector
push_lift-requires-clause-vector g c κs within =
    let h = c.requires in
    subst (λ r. IsVectorOver r (ring_comparison r) c.args.v.now)
    (one_ring c.args.self.now _ c.as_bytes.result.now h.0 c.found-value.result.ring.now h.1
    (value_of c.found-value.result.info.now c.found-value.result.stored.now) h.2 c.found-value.ensures.has) h.3

pub push_lift-requires-clause-positions : goal.push_lift-requires-clause-positions
push_lift-requires-clause-positions g c κs within =
    let h = c.requires in
    let has = subst (λ n. HasValue c.args.self.now n c.found-value.result.ring.now (value_of c.found-value.result.info.now c.found-value.result.stored.now))
    c.as_bytes.ensures.value c.found-value.ensures.has in
    subst (λ w. HasPositions w.rank c.args.v.now) (one_value c.args.self.now _ h.0 c.found-value.result.ring.now h.1 _ h.2 has) h.4

pub returns-clause-performed : goal.returns-clause-performed
returns-clause-performed g c =
    let found = c.found-value in
    let ring = found.result.ring.now in
    let value = value_of found.result.info.now found.result.stored.now in
    let called = c.push_lift.result in
    let e = c.push_lift.ensures in
    lifted_performed called c.done.result c.args.name.now c.args.v.now c.as_bytes.result.now c.as_bytes.ensures.value
    c.done.ensures.ok c.done.ensures.err
    (on_ok_weaker called (λ t. (t.0, (ring, value, found.ensures.has, t.1), t.2)) e.text) e.unwritten e.same
    (IfErr-weaker called _ _
    (more_stops _ _ _ _ _ _ _ _ (λ r m l h. (ring, value, found.ensures.has, h)) (λ t h. (ring, value, found.ensures.has, h)))
    e.stop)

pub returns-clause-runs : goal.returns-clause-runs
returns-clause-runs g c = (1, refl, c.push_lift.ensures.runs)
