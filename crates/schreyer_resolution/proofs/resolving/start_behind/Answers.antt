use Rattle.std.specs.Prelude.{IfSome}
use Rattle.std.proofs.Common.{ap, arith, length, subst, subst₂, sym, ◌+◌, ◌<◌, ◌∙◌, ◌≡◌}
use Rattle.resolution_laws.specs.Resolutions.{IsExact}
use Rattle.term_lists.specs.Rings.{variables}
use Rattle.term_lists.specs.Vectors.{sums_of}
use Rattle.induced_leads.specs.Heads.{AreHeads}
use Rattle.induced_leads.proofs.Pushing.{length-pushed}
use Rattle.schreyer_resolution.specs.Progress.{AreResolvedTo, IsTopMap}
use Rattle.schreyer_resolution.proofs.FirstMaps.{none_at_all, resolution_stop, resolved_more, some_at_all, some_map, split_unique, start_ended, start_full}
use Rattle.schreyer_resolution.proofs.resolving.start_behind.Goals as goal

pub loop-init : goal.loop-init
loop-init c =
    let one : length c.args.first.items ≡ 1 = c.requires.one in
    let some : 0 < c.args.count = c.requires.some in
    (c.requires.resolved, one, omega (arith, some), λ below last e. tt)

pub next_map-requires-clause-some : goal.next_map-requires-clause-some
next_map-requires-clause-some c =
    subst (λ z. 0 < length z) (sym c.deref.ensures.value) (some_map c.args.ring.now c.args.rank c.args.reduced.now c.loop.maps.items c.loop.invariant.0)

pub next_map-requires-clause-top : goal.next_map-requires-clause-top
next_map-requires-clause-top c = λ below last e.
    let r = c.loop.invariant.0 in
    let u = split_unique r.below below r.last last (sym (c.deref.ensures.value ∙ r.split) ∙ e) in
    subst₂ (λ b l. IsTopMap c.args.ring.now b l) u.0 u.1 r.top

pub next_map-requires-clause-heads : goal.next_map-requires-clause-heads
next_map-requires-clause-heads c = λ below last e. c.loop.invariant.3 below last (sym c.deref.ensures.value ∙ e)

pub returns-then-is_empty-clause-start : goal.returns-then-is_empty-clause-start
returns-then-is_empty-clause-start c =
    let ring = c.args.ring.now in
    let r = c.loop.invariant.0 in
    let next = c.in-Ok.ensures.next r.below r.last (c.deref.ensures.value ∙ r.split) in
    let many = c.loop.invariant.1 in
    let few = c.loop.invariant.2 in
    start_ended ring c.args.rank c.args.reduced.now c.loop.maps.items r c.args.count
    (subst (λ H. IsExact ring.modulus.value (sums_of (variables ring) r.last) (sums_of (variables ring) H)) (none_at_all c.in-Ok.next c.if-is_empty.ensures) next.exact)
    (omega (arith, many, few))

pub returns-then-is_empty-clause-vectors : goal.returns-then-is_empty-clause-vectors
returns-then-is_empty-clause-vectors c = c.loop.invariant.0.vectors

pub returns-then-is_empty-clause-positions : goal.returns-then-is_empty-clause-positions
returns-then-is_empty-clause-positions c = c.loop.invariant.0.positions

pub loop-preserved : goal.loop-preserved
loop-preserved c =
    let ring = c.args.ring.now in
    let r = c.loop.invariant.0 in
    let next = c.in-Ok.ensures.next r.below r.last (c.deref.ensures.value ∙ r.split) in
    let many = c.loop.invariant.1 in
    let within = c.loop-test.true in
    let one_more : length c.push.new.self.items ≡ length c.loop.maps.items + 1 = ap length c.in_ok-push.ensures.items ∙ length-pushed c.loop.maps.items c.in-Ok.next in (
      subst (AreResolvedTo ring c.args.rank c.args.reduced.now) (sym c.in_ok-push.ensures.items)
          (resolved_more ring c.args.rank c.args.reduced.now c.loop.maps.items r c.in-Ok.next next (some_at_all c.in-Ok.next c.if-is_empty.ensures)),
      omega (arith, one_more, many),
      omega (arith, within),
      λ below last e.
          let u = split_unique c.loop.maps.items below c.in-Ok.next last (sym c.in_ok-push.ensures.items ∙ e) in
          subst (λ b. IfSome c.next_map.new.heads (AreHeads (variables ring) ring.weights b)) (c.deref.ensures.value ∙ u.0) c.in-Ok.ensures.heads,
    )

pub returns-in-Err-clause-stop : goal.returns-in-Err-clause-stop
returns-in-Err-clause-stop c =
    let r = c.loop.invariant.0 in
    resolution_stop c.args.ring.now c.args.rank c.args.reduced.now c.loop.maps.items r c.in-Err.stop (c.in-Err.ensures.stop r.below r.last (c.deref.ensures.value ∙ r.split))

pub returns-clause-start : goal.returns-clause-start
returns-clause-start c =
    let many = c.loop.invariant.1 in
    let few = c.loop.invariant.2 in
    let out = c.loop-test.false in
    start_full c.args.ring.now c.args.rank c.args.reduced.now c.loop.maps.items c.loop.invariant.0 c.args.count (omega (arith, many, few, out))

pub returns-clause-vectors : goal.returns-clause-vectors
returns-clause-vectors c = c.loop.invariant.0.vectors

pub returns-clause-positions : goal.returns-clause-positions
returns-clause-positions c = c.loop.invariant.0.positions
