use Rattle.std.proofs.Common.{[], arith, rules, ap, length, ◌++◌, ◌∙◌, ◌≡◌}
use Rattle.column_passes.specs.Placing.{keep_at, place_told}
use Rattle.column_passes.proofs.Places.{staying_end, staying_more}
use Rattle.column_passes.proofs.placing.kept_items.Goals as goal

pub loop-item-preserved : goal.loop-item-preserved
loop-item-preserved g c =
    let size = ap length c.in-Some.ensures.items in
    record {
      number = omega (arith, size, c.loop-item.invariant.number);
      kept = staying_more (place_told c.args.leaving.now) c.loop-item.number c.in-Some.item _ c.loop-item.kept.items c.put_item.new.kept.items
          c.loop-item.rest.items
          c.pop_front.new.self.items c.in-Some.ensures.items
          (c.in_ok-put_item.ensures ∙ ap (λ z. c.loop-item.kept.items ++ keep_at z c.in-Some.item []) c.place_of.ensures) c.loop-item.invariant.kept;
    }

pub returns : goal.returns
returns g c = λ rows h.
    let none : c.loop-item.rest.items ≡ [] = search rules in
    staying_end rows c.args.leaving.now c.loop-item.number c.args.items.items c.loop-item.kept.items c.loop-item.rest.items h none c.loop-item.invariant.kept
