use Rattle.std.proofs.Common.{subst, ◌++◌, ◌≡◌}
use Rattle.session_reports.proofs.Extended.{ext_told}
use Rattle.session_reports.proofs.Variables.{listed}
use Rattle.session_values.specs.Extending.{ext_text}
use Rattle.session_reports.proofs.extending.push_ext_at.Goals as goal

pub ext_at-requires-clause-rank : goal.ext_at-requires-clause-rank
ext_at-requires-clause-rank g c κs within = c.requires.rank

pub ext_at-requires-clause-basis : goal.ext_at-requires-clause-basis
ext_at-requires-clause-basis g c κs within = c.requires.basis

pub push_ext-requires-clause-kernel : goal.push_ext-requires-clause-kernel
push_ext-requires-clause-kernel g c = listed c.args.ring.now c.in-Ok.found.ext.kernel c.in-Ok.ensures.answer.ext.kernel.basis.vectors

pub push_ext-requires-clause-relations : goal.push_ext-requires-clause-relations
push_ext-requires-clause-relations g c = listed c.args.ring.now c.in-Ok.found.ext.relations c.in-Ok.ensures.answer.ext.relations.basis.vectors

pub returns-in-Ok-push_ext-clause-text : goal.returns-in-Ok-push_ext-clause-text
returns-in-Ok-push_ext-clause-text g c = λ list reduced kept.
    ext_told c.args.ring.now c.args.info.now list c.args.basis.now kept c.args.step c.in-Ok.found.rank c.in-Ok.found.ext c.args.out.now
    c.push_ext.new.out reduced c.in-Ok.ensures.answer
    (subst (λ n. c.push_ext.new.out ≡ c.args.out.now ++ ext_text c.args.ring.now n c.args.step c.in-Ok.found.rank c.in-Ok.found.ext)
    c.as_bytes-name.ensures.value c.in-Ok-push_ext.ensures.ok)
