use Rattle.std.proofs.Common.{ap, sym, ◌∙◌}
use Rattle.bases.specs.Leads.{head_key}
use Rattle.term_lists.specs.Vectors.{sum_of}
use Rattle.induced_leads.proofs.Summing.{exponents-none}
use Rattle.induced_leads.proofs.head.lead_parts.Goals as goal

pub returns-in-None : goal.returns-in-None
returns-in-None c = λ n. ap (λ v. head_key (sum_of n v)) c.in-None.ensures ∙ ap (λ x. (0, x)) (sym (exponents-none n))
