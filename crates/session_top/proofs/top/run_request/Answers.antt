use Rattle.std.proofs.Common.{ap, sym, ◌∙◌}
use Rattle.session_top.proofs.Complete.{LineLaws}
use Rattle.session_top.proofs.Told.{script_told, unbegun}
use Rattle.session_top.specs.declared.top.Ended.{Ended}
use Rattle.session_top.proofs.top.run_request.Goals as goal

pub returns-clause-told : goal.returns-clause-told
returns-clause-told g c =
    let laws : LineLaws = record { done = c.one_result.ensures.done; kind = c.one_result.ensures.kind; apart = c.one_result.ensures.apart } in
    rw (c.ending_of.ensures) (script_told laws _ _ _ _ _ c.run_script.result c.run_script.ensures.done c.run_script.ensures.stops)

pub returns-clause-begun : goal.returns-clause-begun
returns-clause-begun g c five zero =
    let told = sym c.ending_of.ensures in
    c.run_script.ensures.begun
    (unbegun c.run_script.result (ap (λ (e : Ended). e.status) told ∙ five) (ap (λ (e : Ended). e.line) told ∙ zero))
