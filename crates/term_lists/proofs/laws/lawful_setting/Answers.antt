use Rattle.std.proofs.Common.{subst}
use Rattle.residues.specs.Residues.{IsDomain}
use Rattle.term_lists.specs.Rings.{variables}
use Rattle.term_lists.proofs.laws.lawful_setting.Goals as goal

pub returns : goal.returns
returns g c = λ rank. record {
  domain = subst (λ r. IsDomain r.modulus.value) c.ring.ensures c.domain.ensures.domain;
  order = g.met.F.Frame.laws c.args.frame.now (variables (g.F.Frame.over c.args.frame.now)) rank;
}
