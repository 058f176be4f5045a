use Rattle.std.proofs.Common.{ap, arith, ◌∙◌}
use Rattle.std.proofs.lemmas.List.{take_all}
use Rattle.resolution_maps.specs.Resolved.{degrees_of}
use Rattle.resolution_maps.proofs.Joining.{degrees_more}
use Rattle.resolution_maps.proofs.maps.column_degrees.Goals as goal

pub loop-v-preserved : goal.loop-v-preserved
loop-v-preserved c =
    degrees_more c.args.ring.now c.args.rows.now c.as_slice-v-items.result.now c.loop-v.v-index c.v-item.result c.in_ok-lead_degree.field-0 c.loop-v.degrees.items c.push.new.self.items (omega arith) c.v-item.is c.loop-v.invariant
    c.in_ok-lead_degree.ensures c.in_ok-push.ensures.items

pub returns : goal.returns
returns c =
    c.loop-v.invariant ∙ ap (degrees_of c.args.ring.now c.args.rows.now) (take_all c.loop-v.v-index c.as_slice-v-items.result.now (omega arith) ∙ c.as_slice-v-items.ensures)

pub loop-v-init : goal.loop-v-init
loop-v-init c = c.in_ok-degrees.ensures.items
