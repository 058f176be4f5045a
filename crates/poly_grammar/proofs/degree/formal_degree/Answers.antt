use Rattle.poly_grammar.specs.Numerals.{numeral_value, text_of}
use Rattle.poly_grammar.proofs.Degrees.{as_degree}
use Rattle.poly_grammar.proofs.degree.formal_degree.Goals as goal

pub returns : goal.returns
returns g c =
    as_degree (λ t. g.N.NameWeights.weight c.args.names.now (text_of c.args.line.now t)) (numeral_value c.args.line.now)
    c.args.steps.now c.degree_left.result c.degree_left.ensures
