use Rattle.std.proofs.Common.{ap, reverse, ◌∙◌}
use Rattle.poly_grammar.specs.Numerals.{number_of}
use Rattle.poly_value.proofs.Steps.{power_fits}
use Rattle.poly_value.proofs.stack.raise_top.Goals as goal

pub power_part-requires-clause-fits : goal.power_part-requires-clause-fits
power_part-requires-clause-fits g c =
    power_fits (g.F.Frame.over c.args.frame.now) c.args.line.now c.args.token (reverse c.args.stack.now.items) (reverse c.take_top.new.stack.items)
    c.in-Some.base c.in-Some-number.n c.requires c.in-Some.ensures (c.in-Some-number.ensures ∙ ap number_of c.text.ensures)
