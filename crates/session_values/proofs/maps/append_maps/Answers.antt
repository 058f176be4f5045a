use Rattle.term_lists.proofs.Scaling.{Each_at}
use Rattle.session_values.proofs.Appending.{maps_done, maps_step}
use Rattle.session_values.specs.Writing.{AreOverVariables}
use Rattle.poly_text.proofs.Writing.{begins_more}
use Rattle.session_values.proofs.maps.append_maps.Goals as goal

pub returns-in-Err-clause-err : goal.returns-in-Err-clause-err
returns-in-Err-clause-err c =
    let more = c.in-Err.ensures.err in
    begins_more c.args.out.now c.loop-k.out c.append_map.new.out more.0 c.loop-k.invariant.0 more.1

pub append_map-requires : goal.append_map-requires
append_map-requires c =
    Each_at (AreOverVariables c.args.ring.now) c.args.maps.now c.loop-k.k c.index-maps-k.result c.requires c.loop-k-test.true c.index-maps-k.is

pub loop-k-preserved : goal.loop-k-preserved
loop-k-preserved c =
    maps_step c.args.ring.now c.args.maps.now c.loop-k.k c.index-maps-k.result c.args.out.now c.loop-k.out c.append_map.new.out
    c.loop-k-test.true
    c.index-maps-k.is c.loop-k.invariant.0 c.loop-k.invariant.1 c.in-Ok.ensures.ok

pub returns-clause-ok : goal.returns-clause-ok
returns-clause-ok c = maps_done c.args.ring.now c.args.maps.now c.loop-k.k c.args.out.now c.loop-k.out c.loop-k-test.false c.loop-k.invariant.1
