use Rattle.std.proofs.Common.{ap, arith, false, get_or, length, ◌∙◌}
use Rattle.pair_queue.proofs.Words.{flags_more, length-flags_of}
use Rattle.pair_queue.specs.Rows.{FlagRowShown}
use Rattle.pair_queue.proofs.row.Row.reserve.Goals as goal

pub returns-in_ok-resize-clause-wide : goal.returns-in_ok-resize-clause-wide
returns-in_ok-resize-clause-wide c = omega
    (arith, length-flags_of c.resize.new.self.items, c.resize.new.self.ok, c.in_ok-resize.ensures.len, c.div_ceil-count.ensures)

pub returns-in_ok-resize-clause-wider : goal.returns-in_ok-resize-clause-wider
returns-in_ok-resize-clause-wider c = omega (
  arith,
  length-flags_of c.resize.new.self.items,
  length-flags_of c.self.inside.words.items,
  ap (λ (r : FlagRowShown). length r.flags) c.self.view_is,
  c.resize.new.self.ok,
  c.in_ok-resize.ensures.len,
  c.len.ensures,
  c.self.inside.words.ok,
)

pub returns-in_ok-resize-clause-has : goal.returns-in_ok-resize-clause-has
returns-in_ok-resize-clause-has c = λ i.
    flags_more c.self.inside.words.items c.resize.new.self.items c.div_ceil-count.result _
    (omega (arith, c.if-len-count.true, c.len.ensures, c.self.inside.words.ok)) c.in_ok-resize.ensures.items i
    ∙ ap (λ (r : FlagRowShown). get_or r.flags i false) c.self.view_is

pub returns-else-len-count-clause-wide : goal.returns-else-len-count-clause-wide
returns-else-len-count-clause-wide c = omega (
  arith,
  length-flags_of c.self.inside.words.items,
  ap (λ (r : FlagRowShown). length r.flags) c.self.view_is,
  c.len.ensures,
  c.self.inside.words.ok,
  c.div_ceil-count.ensures,
)
