use Rattle.std.proofs.Common.{refl, subst, sym}
use Rattle.std.specs.Prelude.{option_copied}
use Rattle.session_lang.proofs.Reported.{fits, refuses, states}
use Rattle.std.proofs.lemmas.Result.{IfErr-weaker}
use Rattle.session_lang.proofs.Performing.{performed_line}
use Rattle.groebner_iface.proofs.CallingRuns.{more_stops}
use Rattle.session_lang.specs.Lines.{RefusesLine}
use Rattle.session_lang.proofs.StatedRuns.{ran_line}
use Rattle.session_lang.proofs.session.Session.step.Goals as goal

pub perform-requires-clause-fit : goal.perform-requires-clause-fit
perform-requires-clause-fit g c κs within =
    fits c.args.self.now c.self.inside.ring c.self.inside.names c.self.inside.stored.items c.self.view_is c.self.invariant
    (option_copied c.as_ref.result) c.self.inside.names c.as_ref.ensures.value refl c.args.line.now c.in-Ok.stated c.in-Ok.ensures

pub returns-in-Ok-clause-steps : goal.returns-in-Ok-clause-steps
returns-in-Ok-clause-steps g c =
    let stated =
    states c.args.self.now c.self.inside.ring c.self.inside.names c.self.inside.stored.items c.self.view_is c.self.invariant
    (option_copied c.as_ref.result) c.self.inside.names c.as_ref.ensures.value refl c.args.line.now c.in-Ok.stated c.in-Ok.ensures in
    performed_line c.args.self.now c.args.line.now c.in-Ok.stated c.perform.new.self c.args.out.now c.perform.new.out c.perform.result stated
    c.perform.ensures.performed.done

pub returns-in-Ok-clause-stop : goal.returns-in-Ok-clause-stop
returns-in-Ok-clause-stop g c =
    let stated =
    states c.args.self.now c.self.inside.ring c.self.inside.names c.self.inside.stored.items c.self.view_is c.self.invariant
    (option_copied c.as_ref.result) c.self.inside.names c.as_ref.ensures.value refl c.args.line.now c.in-Ok.stated c.in-Ok.ensures in
    IfErr-weaker c.perform.result _ _
    (more_stops _ _ _ _ _ _ _ _ (λ r m l h. (c.in-Ok.stated, stated, h)) (λ t h. (c.in-Ok.stated, stated, h))) c.perform.ensures.performed.stop

pub returns-in-Ok-clause-same : goal.returns-in-Ok-clause-same
returns-in-Ok-clause-same g c = c.perform.ensures.performed.same

pub returns-in-Ok-clause-unwritten : goal.returns-in-Ok-clause-unwritten
returns-in-Ok-clause-unwritten g c = c.perform.ensures.performed.unwritten

pub returns-in-Ok-clause-engine : goal.returns-in-Ok-clause-engine
returns-in-Ok-clause-engine g c = c.perform.ensures.performed.engine

pub returns-in-Err-Refused-clause-steps : goal.returns-in-Err-Refused-clause-steps
returns-in-Err-Refused-clause-steps g c = (
  subst (λ kind. RefusesLine c.args.self.now c.args.line.now kind) (sym c.in-Err-Refused.kind-is)
      (refuses c.args.self.now c.self.inside.ring c.self.inside.names c.self.inside.stored.items c.self.view_is c.self.invariant
      (option_copied c.as_ref.result) c.self.inside.names c.as_ref.ensures.value refl c.args.line.now c.in-Err-Refused.kind
      (rw c.in-Err-Refused.field-0-is at c.in-Err-Refused.ensures)),
  refl,
  refl,
)

pub returns-in-Ok-clause-runs : goal.returns-in-Ok-clause-runs
returns-in-Ok-clause-runs g c =
    let stated =
    states c.args.self.now c.self.inside.ring c.self.inside.names c.self.inside.stored.items c.self.view_is c.self.invariant
    (option_copied c.as_ref.result) c.self.inside.names c.as_ref.ensures.value refl c.args.line.now c.in-Ok.stated c.in-Ok.ensures in
    ran_line c.args.self.now _ _ c.args.line.now c.in-Ok.stated stated c.perform.ensures.runs
