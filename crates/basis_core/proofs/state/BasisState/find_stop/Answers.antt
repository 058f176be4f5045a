use Rattle.std.proofs.Common.{List, Some, [], ap, arith, refl, subst, sym, ◌++◌, ◌∙◌, ◌∷◌, ◌≡◌}
use Rattle.basis_steps.specs.Steps as steps
use Rattle.basis_core.proofs.TakenPairs.{MayTake, stopped_kept, stopped_step}
use Rattle.basis_core.proofs.Logging.{takes_more}
use Rattle.basis_core.specs.Inside.{shown}
use Rattle.basis_core.specs.Logs.{Adds, Take as TakeNote}
use Rattle.basis_core.specs.Shown.{Shown}
use Rattle.basis_core.specs.Views.{state_of, variables_of}
use Rattle.basis_core.specs.declared.event.Event.{Event}
use Rattle.basis_core.specs.declared.event.Event.TheVariants.{Take}
use Rattle.basis_core.specs.declared.state.BasisState.TheInside.{Inside}
use Rattle.basis_core.specs.declared.stop.StopReason.{StopReason}
use Rattle.basis_core.proofs.state.BasisState.find_stop.Goals as goal

pub invariant_of-self-2 : goal.invariant_of-self-2
invariant_of-self-2 c =
    let i : Inside = c.self.inside in
    let reason : StopReason = (c.requires.stopped).0 in
    stopped_kept i c.args.worker (c.requires.may).0 reason c.new.result c.new-2.result c.push_reserved.new.self c.self.invariant
    (subst (MayTake c.args.worker (c.requires.may).0) (sym c.self.view_is) (c.requires.may).1)
    (subst (λ (z : Shown). z.stop ≡ Some reason) (sym c.self.view_is) (c.requires.stopped).1) c.new.ensures.items c.new-2.ensures.items
    (c.push_reserved.ensures.items ∙ ap (λ (l : List Event). l ++ Take c.args.worker c.new.result c.new-2.result ∷ []) c.reserve.ensures.items)
    (omega (arith, c.in_ok-reserve.ensures.ok, c.reserve.ensures.len, c.push_reserved.ensures.capacity, i.history.ok, c.reserve.new.self.ok))

pub returns-clause-step : goal.returns-clause-step
returns-clause-step c =
    let s : Shown = shown c.self.inside in
    let reason : StopReason = (c.requires.stopped).0 in
    let es : List Event = c.push_reserved.new.self.items in
    let t : Shown = record s { history = es } in
    let finds : steps.FindsStop (state_of (variables_of s) s) c.args.worker [] [] (state_of (variables_of s) t) =
    stopped_step s c.args.worker reason c.new.result c.new-2.result es
    (subst (λ (z : Shown). z.stop ≡ Some reason) (sym c.self.view_is) (c.requires.stopped).1) c.new.ensures.items c.new-2.ensures.items c.self.invariant.read
    (c.push_reserved.ensures.items ∙ ap (λ (l : List Event). l ++ Take c.args.worker c.new.result c.new-2.result ∷ []) c.reserve.ensures.items) in
    subst (λ (z : Shown). steps.FindsStop (state_of (variables_of z) z) c.args.worker [] [] (state_of (variables_of z) t)) c.self.view_is finds

pub returns-clause-event : goal.returns-clause-event
returns-clause-event c =
    let s : Shown = shown c.self.inside in
    let es : List Event = c.push_reserved.new.self.items in
    let t : Shown = record s { history = es } in
    subst (λ (z : Shown). Adds (TakeNote c.args.worker [] []) z t) c.self.view_is
    (takes_more s t c.self.invariant.replays c.self.invariant.read
    (record { shared = refl; budget = refl; workers = refl; update = refl }) refl c.args.worker c.new.result c.new-2.result [] [] c.new.ensures.items c.new-2.ensures.items
    (c.push_reserved.ensures.items ∙ ap (λ (l : List Event). l ++ Take c.args.worker c.new.result c.new-2.result ∷ []) c.reserve.ensures.items))
