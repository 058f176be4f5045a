use Rattle.division_laws.proofs.Remainders.{normal_form_unique}
use Rattle.division_laws.proofs.remainder.one_normal_form.Goals as goal

pub returns : goal.returns
returns c = λ n S F G v w lawful basis member nv nw fv fw. normal_form_unique S lawful F G basis v w member nv nw fv fw
