use Rattle.std.proofs.Common.{[], ◌∷◌}
use Rattle.line_text.proofs.Runs.{order_behind, spread_more}
use Rattle.line_text.proofs.text.LineText.push.Goals as goal

pub invariant_of-self-2 : goal.invariant_of-self-2
invariant_of-self-2 c =
    rw c.in_ok-push.ensures.items (order_behind c.self.inside.runs.items c.self.inside.bytes.items (c.args.byte ∷ []) c.self.invariant.0, c.self.invariant.1)

pub returns : goal.returns
returns c = record {
  items =
      rw (c.in_ok-push.ensures.items, ← c.self.view_is)
      (spread_more c.self.inside.bytes.items 0 c.self.inside.runs.items (c.args.byte ∷ []) c.self.invariant.0);
}
