use Rattle.std.proofs.Common.{arith, subst₂, sym, ◌∙◌}
use Rattle.std.proofs.lemmas.List.{take_all}
use Rattle.formal_sums.specs.FormalSums.{FormalSum}
use Rattle.term_lists.specs.Rings.{variables}
use Rattle.column_passes.proofs.Columns.{image_pushed, vectors_pushed}
use Rattle.minimal_betti.specs.Carried.{AreOwn}
use Rattle.minimal_betti.proofs.cancelling.own_columns.Goals as goal

pub loop-v-preserved : goal.loop-v-preserved
loop-v-preserved c =
    let ring = c.args.ring.now in
    record {
      same = image_pushed ring
          (λ (v : FormalSum (variables ring)). v) c.as_slice-v-items.result.now c.loop-v.v-index c.v-item.result c.loop-v.own.items c.push.new.self.items
          c.in_ok-in_own_order.field-0
          (omega arith) c.v-item.is c.loop-v.invariant.same c.in_ok-in_own_order.ensures.sum c.in_ok-push.ensures.items;
      vectors = vectors_pushed ring c.loop-v.own.items c.push.new.self.items c.in_ok-in_own_order.field-0 c.loop-v.invariant.vectors
          c.in_ok-in_own_order.ensures.vector c.in_ok-push.ensures.items;
    }

pub returns : goal.returns
returns c =
    let items = c.as_slice-v-items.result.now in
    subst₂ (AreOwn c.args.ring.now) (take_all c.loop-v.v-index items (omega arith) ∙ c.as_slice-v-items.ensures) (sym c.from_vec.ensures)
    (record { same = c.loop-v.invariant.same; vectors = c.loop-v.invariant.vectors })
