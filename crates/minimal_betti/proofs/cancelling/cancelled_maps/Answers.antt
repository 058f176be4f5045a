use Rattle.std.proofs.Common.{ap, arith, length, reverse, subst, sym, ◌+◌, ◌++◌, ◌∙◌, ◌≡◌}
use Rattle.minimal_betti.specs.Carried.{LeadsTo, graded_maps}
use Rattle.minimal_betti.specs.Splitting.{IsCancellationUnderway}
use Rattle.minimal_betti.proofs.Reaching.{leads_itself, leads_on, stops_before}
use Rattle.minimal_betti.proofs.Splittings.{done_more, leads_popped, leads_pushed, length_end}
use Rattle.minimal_betti.proofs.cancelling.cancelled_maps.Goals as goal

pub loop-current-init : goal.loop-current-init
loop-current-init c =
    let ring = c.args.ring.now in
    let rows = c.args.positions.now.items in
    let maps = reverse c.args.maps.items in
    let none = sym c.in_ok-done.ensures.items in
    record {
      underway = subst (λ d. IsCancellationUnderway ring rows d (d ++ maps)) none c.requires.underway;
      leads = subst (λ d. LeadsTo ring.modulus.value (graded_maps ring rows maps) (graded_maps ring rows (d ++ maps))) none
          (leads_itself ring.modulus.value (graded_maps ring rows maps));
    }

pub loop-current-preserved : goal.loop-current-preserved
loop-current-preserved c =
    let ring = c.args.ring.now in
    let start = graded_maps ring c.args.positions.now.items (reverse c.args.maps.items) in
    let rows = c.cancelled_map.new.positions.items in
    let done = c.cancelled_map.new.done.items in
    let rest = c.cancelled_map.new.rest.items in
    let put = c.in_ok-push-in-Ok.ensures.items in
    let before =
    leads_popped ring start c.loop-current.positions.items c.loop-current.done.items c.loop-current.rest.items c.pop.new.self.items c.in-Some.current
    c.in-Some.ensures.items
    c.loop-current.invariant.leads
    in
    record {
      underway =
          subst (λ d. IsCancellationUnderway ring rows d (d ++ reverse rest)) (sym put)
          (done_more ring rows done c.in-Ok.map (reverse rest) c.in-Ok.ensures.underway c.in-Ok.ensures.none);
      leads = leads_pushed ring start rows done c.push.new.self.items rest c.in-Ok.map put
          (leads_on ring.modulus.value start _ _ before c.in-Ok.ensures.leads);
    }

pub returns-in-Err-clause-stop : goal.returns-in-Err-clause-stop
returns-in-Err-clause-stop c =
    let ring = c.args.ring.now in
    let start = graded_maps ring c.args.positions.now.items (reverse c.args.maps.items) in
    stops_before ring start _
    (leads_popped ring start c.loop-current.positions.items c.loop-current.done.items c.loop-current.rest.items c.pop.new.self.items c.in-Some.current
    c.in-Some.ensures.items
    c.loop-current.invariant.leads) c.in-Err.stop c.in-Err.ensures.stop

pub loop-current-smaller : goal.loop-current-smaller
loop-current-smaller c =
    let same = c.in-Ok.ensures.rest in
    let popped : length c.loop-current.rest.items ≡ length c.pop.new.self.items + 1 = ap length c.in-Some.ensures.items
    ∙ length_end c.pop.new.self.items c.in-Some.current in
    omega (arith, same, popped)
