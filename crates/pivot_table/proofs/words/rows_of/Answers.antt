use Rattle.std.proofs.Common.{rules, ◌≡◌, ◌<◌, sym, ◌∙◌, ap, length, length-set, arith, below_more, None, get_or-set_other, get_or-set_same}
use Rattle.std.proofs.lemmas.List.{ext_get_or, length-map, get_or-map}
use Rattle.std.specs.Slots.{slots_items}
use Rattle.pivot_table.specs.Law.{word_row}
use Rattle.pivot_table.proofs.Keeps.{get_at}
use Rattle.pivot_table.proofs.words.rows_of.Goals as goal

pub loop-column-preserved : goal.loop-column-preserved
loop-column-preserved c = record {
  same = length-set c.loop-column.rows.items c.loop-column.column c.row_of.result ∙ c.loop-column.invariant.same;
  done = below_more _ _ (λ k h. get_or-set_other c.loop-column.rows.items c.loop-column.column k c.row_of.result None (λ e. omega arith) ∙ c.loop-column.invariant.done k h)
      (get_or-set_same c.loop-column.rows.items c.loop-column.column c.row_of.result None (search rules) ∙ (c.row_of.ensures ∙ ap word_row (sym (get_at (slots_items c.args.closed.now.words) c.loop-column.column c.word.result c.word.ensures))));
}

pub returns : goal.returns
returns c =
    let wide : length c.loop-column.rows.items ≡ length (slots_items c.args.closed.now.words) = c.loop-column.invariant.same ∙ omega arith in
    ext_get_or None _ _ (wide ∙ sym (length-map (slots_items c.args.closed.now.words) word_row))
    (λ i l. let l' : i < length c.loop-column.rows.items = l in c.loop-column.invariant.done i (omega arith) ∙ sym (get_or-map word_row (slots_items c.args.closed.now.words) i 0 None (omega arith)))
