use Rattle.std.proofs.Common.{◌≡◌, arith, length}
use Rattle.line_text.proofs.Runs.{bytes_of_more, order_run, spread_run}
use Rattle.line_text.proofs.text.LineText.push_zero_bytes.Goals as goal

pub invariant_of-self-2 : goal.invariant_of-self-2
invariant_of-self-2 c =
    let runs = c.self.inside.runs.items in
    let end : c.len.result ≡ length c.self.inside.bytes.items = omega (arith, c.len.ensures, c.self.inside.bytes.ok.0) in
    let more = bytes_of_more runs (record { end = c.len.result; length = c.args.count }) in
    rw c.in_ok-push.ensures.items (
      order_run 0 runs _ _ c.self.invariant.0 (omega (arith, c.if-count.false)) end,
      omega (arith, more, c.self.invariant.1, c.in-Some.ensures),
    )

pub returns : goal.returns
returns c =
    let end : c.len.result ≡ length c.self.inside.bytes.items = omega (arith, c.len.ensures, c.self.inside.bytes.ok.0) in
    record {
      items = rw (c.in_ok-push.ensures.items, ← c.self.view_is) (spread_run c.self.inside.bytes.items 0 c.self.inside.runs.items _ c.self.invariant.0 end);
    }
