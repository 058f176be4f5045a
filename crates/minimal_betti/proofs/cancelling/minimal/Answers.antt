use Rattle.std.specs.Prelude.{IfSome}
use Rattle.std.proofs.Common.{List, arith, reverse, subst, sym, ℕ, ◌<◌, ◌∙◌}
use Rattle.formal_sums.specs.FormalSums.{Each}
use Rattle.term_lists.specs.Vectors.{AreTermsOver}
use Rattle.resolution_maps.specs.declared.maps.Map.{Map}
use Rattle.column_passes.proofs.Lists.{each_unmapped}
use Rattle.minimal_betti.specs.Carried.{AreCarried, graded_maps}
use Rattle.minimal_betti.specs.Complementing.{ComesTo}
use Rattle.minimal_betti.proofs.Ending.{cancellation_result, minimal_result, presents_result, start_underway, vectors_result}
use Rattle.minimal_betti.proofs.cancelling.minimal.Goals as goal

pub carried_maps-requires : goal.carried_maps-requires
carried_maps-requires c =
    subst (Each (λ (m : Map). Each (AreTermsOver c.args.ring.now) m.columns)) (sym c.deref-2.ensures.value)
    (each_unmapped (Each (AreTermsOver c.args.ring.now)) (λ (m : Map). m.columns) c.args.resolution.now.maps.items c.requires.terms)

pub complemented_maps-requires : goal.complemented_maps-requires
complemented_maps-requires c =
    let ring = c.args.ring.now in
    let above : 1 < ring.modulus.value = (c.lawful_setting.ensures 0).domain.above_one in
    let start = reverse c.in_ok-maps.maps.items in
    let carried = subst (λ z. AreCarried ring z start) c.deref-2.ensures.value c.in_ok-maps.ensures in
    start_underway ring (omega (arith, above)) c.args.resolution.now start c.in_ok-positions.positions.items c.requires carried
    (c.in_ok-positions.ensures.items ∙ c.deref.ensures.value)

pub returns-in_ok-resolution_of-in-Some-clause-cancelled : goal.returns-in_ok-resolution_of-in-Some-clause-cancelled
returns-in_ok-resolution_of-in-Some-clause-cancelled c =
    let ring = c.args.ring.now in
    let start = reverse c.in_ok-maps.maps.items in
    let carried = subst (λ z. AreCarried ring z start) c.deref-2.ensures.value c.in_ok-maps.ensures in
    let rows = c.complemented_maps.new.positions.items in
    let left = c.in-Some.left.items in
    let found = subst (λ o. IfSome o (λ l. ComesTo ring (graded_maps ring c.in_ok-positions.positions.items start) rows l.items)) c.in-Some.is
    c.in_ok-left.ensures in
    let comes = subst (λ (z : List ℕ). ComesTo ring (graded_maps ring z start) rows left) (c.in_ok-positions.ensures.items ∙ c.deref.ensures.value) found in
    let x = c.in_ok-resolution_of-in-Some.ensures.columns in
    cancellation_result ring (c.lawful_setting.ensures 0) c.args.resolution.now c.requires start carried rows left x.0 comes x.3 x.2
    c.in_ok-resolution_of-in-Some.field-0 c.in_ok-resolution_of-in-Some.ensures.positions x.1

pub returns-in_ok-resolution_of-in-Some-clause-minimal : goal.returns-in_ok-resolution_of-in-Some-clause-minimal
returns-in_ok-resolution_of-in-Some-clause-minimal c =
    let ring = c.args.ring.now in
    let start = reverse c.in_ok-maps.maps.items in
    let carried = subst (λ z. AreCarried ring z start) c.deref-2.ensures.value c.in_ok-maps.ensures in
    let rows = c.complemented_maps.new.positions.items in
    let left = c.in-Some.left.items in
    let found = subst (λ o. IfSome o (λ l. ComesTo ring (graded_maps ring c.in_ok-positions.positions.items start) rows l.items)) c.in-Some.is
    c.in_ok-left.ensures in
    let comes = subst (λ (z : List ℕ). ComesTo ring (graded_maps ring z start) rows left) (c.in_ok-positions.ensures.items ∙ c.deref.ensures.value) found in
    let x = c.in_ok-resolution_of-in-Some.ensures.columns in
    minimal_result ring (c.lawful_setting.ensures 0) c.args.resolution.now c.requires start carried rows left x.0 comes x.3 x.2
    c.in_ok-resolution_of-in-Some.field-0 c.in_ok-resolution_of-in-Some.ensures.positions x.1

pub returns-in_ok-resolution_of-in-Some-clause-presents : goal.returns-in_ok-resolution_of-in-Some-clause-presents
returns-in_ok-resolution_of-in-Some-clause-presents c = λ places A h.
    let ring = c.args.ring.now in
    let start = reverse c.in_ok-maps.maps.items in
    let carried = subst (λ z. AreCarried ring z start) c.deref-2.ensures.value c.in_ok-maps.ensures in
    let rows = c.complemented_maps.new.positions.items in
    let left = c.in-Some.left.items in
    let found = subst (λ o. IfSome o (λ l. ComesTo ring (graded_maps ring c.in_ok-positions.positions.items start) rows l.items)) c.in-Some.is
    c.in_ok-left.ensures in
    let comes = subst (λ (z : List ℕ). ComesTo ring (graded_maps ring z start) rows left) (c.in_ok-positions.ensures.items ∙ c.deref.ensures.value) found in
    let x = c.in_ok-resolution_of-in-Some.ensures.columns in
    presents_result ring (c.lawful_setting.ensures 0) c.args.resolution.now c.requires start carried rows left x.0 comes x.3 x.2
    c.in_ok-resolution_of-in-Some.field-0 c.in_ok-resolution_of-in-Some.ensures.positions x.1 places A h

pub returns-in_ok-resolution_of-in-Some-clause-vectors : goal.returns-in_ok-resolution_of-in-Some-clause-vectors
returns-in_ok-resolution_of-in-Some-clause-vectors c =
    let ring = c.args.ring.now in
    let start = reverse c.in_ok-maps.maps.items in
    let carried = subst (λ z. AreCarried ring z start) c.deref-2.ensures.value c.in_ok-maps.ensures in
    let rows = c.complemented_maps.new.positions.items in
    let left = c.in-Some.left.items in
    let found = subst (λ o. IfSome o (λ l. ComesTo ring (graded_maps ring c.in_ok-positions.positions.items start) rows l.items)) c.in-Some.is
    c.in_ok-left.ensures in
    let comes = subst (λ (z : List ℕ). ComesTo ring (graded_maps ring z start) rows left) (c.in_ok-positions.ensures.items ∙ c.deref.ensures.value) found in
    let x = c.in_ok-resolution_of-in-Some.ensures.columns in
    vectors_result ring (c.lawful_setting.ensures 0) c.args.resolution.now c.requires start carried rows left x.0 comes x.3 x.2
    c.in_ok-resolution_of-in-Some.field-0 c.in_ok-resolution_of-in-Some.ensures.positions x.1
