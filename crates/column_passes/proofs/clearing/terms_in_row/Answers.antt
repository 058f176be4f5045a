use Rattle.std.proofs.Common.{ap, arith, take_all, ◌∙◌}
use Rattle.minimal_laws.specs.Cancellation.{component}
use Rattle.term_lists.specs.Rings.{variables}
use Rattle.term_lists.specs.Vectors.{sum_of}
use Rattle.column_passes.proofs.Clearings.{entry_more}
use Rattle.column_passes.proofs.clearing.terms_in_row.Goals as goal

pub loop-term-preserved : goal.loop-term-preserved
loop-term-preserved c =
    let h = c.loop-term.invariant in
    let more = entry_more c.args.ring.now c.args.row c.args.terms.now c.loop-term.term-index c.term-item.result c.loop-term-test.true c.term-item.is
    c.loop-term.entry.items c.copy_in_row.new.entry.items c.in_ok-copy_in_row.ensures.here c.in_ok-copy_in_row.ensures.other c.requires
    h.inside h.over h.same in
    record { over = more.0; inside = more.1; same = more.2 }

pub returns : goal.returns
returns c =
    let h = c.loop-term.invariant in
    let ring = c.args.ring.now in
    record {
      terms = h.over;
      contained = h.inside;
      component = h.same ∙ ap (λ z. component c.args.row (sum_of (variables ring) z)) (take_all c.loop-term.term-index c.args.terms.now (omega arith));
    }
