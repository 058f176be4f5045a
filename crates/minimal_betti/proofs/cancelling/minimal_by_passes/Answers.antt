use Rattle.std.proofs.Common.{arith, reverse, subst, sym, ◌<◌, ◌∙◌}
use Rattle.formal_sums.specs.FormalSums.{Each}
use Rattle.term_lists.specs.Vectors.{AreTermsOver}
use Rattle.resolution_maps.specs.declared.maps.Map.{Map}
use Rattle.column_passes.proofs.Lists.{each_unmapped}
use Rattle.minimal_betti.specs.Carried.{AreCarried, LeadsTo, graded_maps}
use Rattle.minimal_betti.specs.Graded.{graded_of}
use Rattle.minimal_betti.proofs.Ending.{cancellation_result, comes_itself, minimal_result, presents_result, start_same, start_underway, vectors_result}
use Rattle.minimal_betti.proofs.Reaching.{stops_there}
use Rattle.minimal_betti.proofs.cancelling.minimal_by_passes.Goals as goal

pub carried_maps-requires : goal.carried_maps-requires
carried_maps-requires c =
    subst (Each (λ (m : Map). Each (AreTermsOver c.args.ring.now) m.columns)) (sym c.deref-2.ensures.value)
    (each_unmapped (Each (AreTermsOver c.args.ring.now)) (λ (m : Map). m.columns) c.args.resolution.now.maps.items c.requires.terms)

pub cancelled_maps-requires : goal.cancelled_maps-requires
cancelled_maps-requires c =
    let ring = c.args.ring.now in
    let above : 1 < ring.modulus.value = (c.lawful_setting.ensures 0).domain.above_one in
    let start = reverse c.in_ok-maps.maps.items in
    let carried = subst (λ z. AreCarried ring z start) c.deref-2.ensures.value c.in_ok-maps.ensures in
    record {
      underway = start_underway ring (omega (arith, above)) c.args.resolution.now start c.in_ok-positions.positions.items c.requires carried
          (c.in_ok-positions.ensures.items ∙ c.deref.ensures.value);
    }

pub returns-in_ok-resolution_of-in-Ok-clause-cancelled : goal.returns-in_ok-resolution_of-in-Ok-clause-cancelled
returns-in_ok-resolution_of-in-Ok-clause-cancelled c =
    let ring = c.args.ring.now in
    let start = reverse c.in_ok-maps.maps.items in
    let carried = subst (λ z. AreCarried ring z start) c.deref-2.ensures.value c.in_ok-maps.ensures in
    let rows = c.cancelled_maps.new.positions.items in
    let left = c.in-Ok.left.items in
    let leads = subst (λ z. LeadsTo ring.modulus.value (graded_maps ring z start) (graded_maps ring rows left))
    (c.in_ok-positions.ensures.items ∙ c.deref.ensures.value) c.in-Ok.ensures.leads in
    let x = c.in_ok-resolution_of-in-Ok.ensures.columns in
    cancellation_result ring (c.lawful_setting.ensures 0) c.args.resolution.now c.requires start carried rows left x.0
    (comes_itself ring (graded_maps ring c.args.resolution.now.positions.items start) rows left leads c.in-Ok.ensures.underway) x.3 x.2
    c.in_ok-resolution_of-in-Ok.field-0 c.in_ok-resolution_of-in-Ok.ensures.positions x.1

pub returns-in_ok-resolution_of-in-Ok-clause-minimal : goal.returns-in_ok-resolution_of-in-Ok-clause-minimal
returns-in_ok-resolution_of-in-Ok-clause-minimal c =
    let ring = c.args.ring.now in
    let start = reverse c.in_ok-maps.maps.items in
    let carried = subst (λ z. AreCarried ring z start) c.deref-2.ensures.value c.in_ok-maps.ensures in
    let rows = c.cancelled_maps.new.positions.items in
    let left = c.in-Ok.left.items in
    let leads = subst (λ z. LeadsTo ring.modulus.value (graded_maps ring z start) (graded_maps ring rows left))
    (c.in_ok-positions.ensures.items ∙ c.deref.ensures.value) c.in-Ok.ensures.leads in
    let x = c.in_ok-resolution_of-in-Ok.ensures.columns in
    minimal_result ring (c.lawful_setting.ensures 0) c.args.resolution.now c.requires start carried rows left x.0
    (comes_itself ring (graded_maps ring c.args.resolution.now.positions.items start) rows left leads c.in-Ok.ensures.underway) x.3 x.2
    c.in_ok-resolution_of-in-Ok.field-0 c.in_ok-resolution_of-in-Ok.ensures.positions x.1

pub returns-in_ok-resolution_of-in-Ok-clause-presents : goal.returns-in_ok-resolution_of-in-Ok-clause-presents
returns-in_ok-resolution_of-in-Ok-clause-presents c = λ places A h.
    let ring = c.args.ring.now in
    let start = reverse c.in_ok-maps.maps.items in
    let carried = subst (λ z. AreCarried ring z start) c.deref-2.ensures.value c.in_ok-maps.ensures in
    let rows = c.cancelled_maps.new.positions.items in
    let left = c.in-Ok.left.items in
    let leads = subst (λ z. LeadsTo ring.modulus.value (graded_maps ring z start) (graded_maps ring rows left))
    (c.in_ok-positions.ensures.items ∙ c.deref.ensures.value) c.in-Ok.ensures.leads in
    let x = c.in_ok-resolution_of-in-Ok.ensures.columns in
    presents_result ring (c.lawful_setting.ensures 0) c.args.resolution.now c.requires start carried rows left x.0
    (comes_itself ring (graded_maps ring c.args.resolution.now.positions.items start) rows left leads c.in-Ok.ensures.underway) x.3 x.2
    c.in_ok-resolution_of-in-Ok.field-0 c.in_ok-resolution_of-in-Ok.ensures.positions x.1 places A h

pub returns-in_ok-resolution_of-in-Ok-clause-vectors : goal.returns-in_ok-resolution_of-in-Ok-clause-vectors
returns-in_ok-resolution_of-in-Ok-clause-vectors c =
    let ring = c.args.ring.now in
    let start = reverse c.in_ok-maps.maps.items in
    let carried = subst (λ z. AreCarried ring z start) c.deref-2.ensures.value c.in_ok-maps.ensures in
    let rows = c.cancelled_maps.new.positions.items in
    let left = c.in-Ok.left.items in
    let leads = subst (λ z. LeadsTo ring.modulus.value (graded_maps ring z start) (graded_maps ring rows left))
    (c.in_ok-positions.ensures.items ∙ c.deref.ensures.value) c.in-Ok.ensures.leads in
    let x = c.in_ok-resolution_of-in-Ok.ensures.columns in
    vectors_result ring (c.lawful_setting.ensures 0) c.args.resolution.now c.requires start carried rows left x.0
    (comes_itself ring (graded_maps ring c.args.resolution.now.positions.items start) rows left leads c.in-Ok.ensures.underway) x.3 x.2
    c.in_ok-resolution_of-in-Ok.field-0 c.in_ok-resolution_of-in-Ok.ensures.positions x.1

pub returns-in-Err-clause-stop : goal.returns-in-Err-clause-stop
returns-in-Err-clause-stop c =
    let ring = c.args.ring.now in
    let domain = (c.lawful_setting.ensures 0).domain in
    let above : 1 < ring.modulus.value = domain.above_one in
    let r = c.args.resolution.now in
    let start = reverse c.in_ok-maps.maps.items in
    let carried = subst (λ z. AreCarried ring z start) c.deref-2.ensures.value c.in_ok-maps.ensures in
    stops_there ring (graded_of ring r) (graded_maps ring c.in_ok-positions.positions.items start) (omega (arith, above)) domain
    (sym (c.in_ok-positions.ensures.items ∙ c.deref.ensures.value)) (start_same ring r.positions.items r.maps.items start c.requires.joined carried)
    c.in-Err.stop c.in-Err.ensures.stop
