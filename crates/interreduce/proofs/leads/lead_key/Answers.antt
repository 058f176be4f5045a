use Rattle.std.proofs.Common.{ap, get_or, length, subst, ◌∙◌, ◌≡◌}
use Rattle.term_lists.specs.Vectors.{key_of}
use Rattle.module_vectors.specs.Trails.{lead_at}
use Rattle.interreduce.proofs.Leading.{lead_key}
use Rattle.interreduce.proofs.leads.lead_key.Goals as goal

pub returns : goal.returns
returns g c = λ n vars.
    let list = g.L.Vectors.listed c.args.list.now in
    let v = c.at.result.now in
    let s = c.index-terms-0.result in
    subst (λ y. (lead_at n list c.args.index ≡ key_of n y.0) × (length y.0.monomial.exponents ≡ n)) c.index-terms-0.is
    (lead_key n list c.args.index v s c.requires.some vars c.requires.index c.at.ensures (c.index-terms-0.is ∙ ap (λ l. get_or l 0 s) c.terms.ensures))
