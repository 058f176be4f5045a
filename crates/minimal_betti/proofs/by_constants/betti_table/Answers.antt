use Rattle.std.specs.Prelude.{drop}
use Rattle.std.proofs.Common.{List, ap, arith, length, refl, subst, sym, ◌+◌, ◌<◌, ◌∙◌, ◌∷◌, ◌≡◌, ◌≤◌}
use Rattle.formal_sums.specs.FormalSums.{Each}
use Rattle.minimal_laws.specs.Gradings.{GradedMap}
use Rattle.betti_laws.specs.Tables.{occurrences}
use Rattle.term_lists.specs.Rings.{variables}
use Rattle.term_lists.specs.Vectors.{AreTermsOver}
use Rattle.resolution_maps.specs.declared.maps.Map.{Map}
use Rattle.minimal_betti.specs.Graded.{graded_of}
use Rattle.minimal_betti.proofs.CountedMaps.{AreCounted, counted_end, counted_graded, counted_next, counted_start, graded_own, next_map, no_map}
use Rattle.minimal_betti.proofs.Counts.{columns_at}
use Rattle.minimal_betti.proofs.by_constants.betti_table.Goals as goal

pub loop-k-init : goal.loop-k-init
loop-k-init c =
    let ring = c.args.ring.now in
    let C = graded_of ring c.args.resolution.now in
    record {
      step = refl;
      counted = counted_start ring C.positions C.maps c.none_leaving-2.result c.in_ok-former.former.items c.new-entries.result.items c.requires.graded
          c.none_leaving-2.ensures (c.in_ok-former.ensures.items ∙ c.deref.ensures.value) c.new-entries.ensures.items;
    }

pub count_map-requires-clause-terms : goal.count_map-requires-clause-terms
count_map-requires-clause-terms c =
    columns_at (Each (AreTermsOver c.args.ring.now)) (λ (m : Map). m.columns) c.args.resolution.now.maps.items c.loop-k.k c.index-map.result.now
    c.requires.terms (omega arith) c.index-map.ensures

pub count_map-requires-clause-graded : goal.count_map-requires-clause-graded
count_map-requires-clause-graded c =
    let ring = c.args.ring.now in
    let r = c.args.resolution.now in
    let C = graded_of ring r in
    let k = c.loop-k.k in
    let m = c.index-map.result.now in
    let tail = drop (k + 1) C.maps in
    let lt : k < length r.maps.items = omega arith in
    counted_graded ring C m tail c.loop-k.last.indices c.loop-k.step c.loop-k.former.items c.loop-k.entries.items
    (subst (λ (z : List (GradedMap (variables ring))). AreCounted ring C z c.loop-k.last.indices c.loop-k.step c.loop-k.former.items c.loop-k.entries.items)
    (next_map ring r.positions.items r.maps.items k m c.requires.joined lt c.index-map.ensures) c.loop-k.invariant.counted)

pub loop-k-preserved : goal.loop-k-preserved
loop-k-preserved c =
    let ring = c.args.ring.now in
    let r = c.args.resolution.now in
    let C = graded_of ring r in
    let k = c.loop-k.k in
    let m = c.index-map.result.now in
    let tail = drop (k + 1) C.maps in
    let lt : k < length r.maps.items = omega arith in
    let above : 1 < ring.modulus.value = (c.lawful_setting.ensures 0).domain.above_one in
    let h : AreCounted ring C (graded_own ring m ∷ tail) c.loop-k.last.indices c.loop-k.step c.loop-k.former.items c.loop-k.entries.items =
    subst (λ (z : List (GradedMap (variables ring))). AreCounted ring C z c.loop-k.last.indices c.loop-k.step c.loop-k.former.items c.loop-k.entries.items)
    (next_map ring r.positions.items r.maps.items k m c.requires.joined lt c.index-map.ensures) c.loop-k.invariant.counted in
    let step : c.loop-k.step + 1 ≡ c.in_ok-step.step = ap (λ z. z + 1) c.loop-k.invariant.step ∙ sym c.in_ok-step.ensures in
    record {
      step = c.in_ok-step.ensures;
      counted = subst (λ z. AreCounted ring C tail c.count_map.new.last.indices z c.in_ok-former-2.former.items c.count_map.new.entries.items) step
          (counted_next ring C m tail c.loop-k.last.indices c.loop-k.step c.loop-k.former.items c.loop-k.entries.items h (omega (arith, above))
          c.count_map.new.last c.count_map.new.entries.items c.in_ok-former-2.former.items (c.in_ok-former-2.ensures h.rows h.told));
    }

pub returns : goal.returns
returns c = λ places A D P minimal Q.
    let ring = c.args.ring.now in
    let r = c.args.resolution.now in
    let C = graded_of ring r in
    let le : length r.maps.items ≤ c.loop-k.k = omega arith in
    counted_end ring (c.lawful_setting.ensures 0) C c.loop-k.last.indices c.loop-k.step c.loop-k.former.items c.loop-k.entries.items
    c.push_step.new.entries.items c.requires.graded c.requires.exact
    (subst (λ (z : List (GradedMap (variables ring))). AreCounted ring C z c.loop-k.last.indices c.loop-k.step c.loop-k.former.items c.loop-k.entries.items)
    (no_map ring r.positions.items r.maps.items c.loop-k.k le) c.loop-k.invariant.counted)
    (λ counts here before. c.in_ok-push_step.ensures counts (λ d. here d ∙ ap (occurrences d) (sym c.deref-2.ensures.value)) before) places A D P minimal Q
