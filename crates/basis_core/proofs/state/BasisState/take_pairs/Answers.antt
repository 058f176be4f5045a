use Rattle.std.proofs.Common.{List, None, [], ap, arith, inr, length, refl, subst, sym, ◌++◌, ◌+◌, ◌∙◌, ◌∷◌, ◌≡◌}
use Rattle.basis_steps.specs.Pairs.{Pair}
use Rattle.basis_steps.specs.Steps as steps
use Rattle.basis_core.proofs.TakenPairs.{IsFound, MayTake, after_take, found_by, job_is, none_left, take_kept, take_step}
use Rattle.basis_core.proofs.Logging.{takes_more}
use Rattle.basis_core.proofs.Replaying.{replayed_holds}
use Rattle.basis_core.specs.Answers.{pairs_given}
use Rattle.basis_core.specs.Inside.{IsCoherentState, shown}
use Rattle.basis_core.specs.Jobs.{IsJobOver, pairs_of}
use Rattle.basis_core.specs.Logs.{Adds, Take as TakeNote}
use Rattle.basis_core.specs.Members.{MembersShown}
use Rattle.basis_core.specs.Shown.{Shown}
use Rattle.basis_core.specs.Views.{run_of, state_of, variables_of}
use Rattle.basis_core.specs.declared.event.Event.{Event}
use Rattle.basis_core.specs.declared.event.Event.TheVariants.{Take}
use Rattle.basis_core.specs.declared.state.BasisState.TheInside.{Inside}
use Rattle.basis_core.proofs.state.BasisState.take_pairs.Goals as goal
use Rattle.basis_core.proofs.state.BasisState.take_pairs.Goals.{After-answer}

pub take-requires-clause-taken : goal.take-requires-clause-taken
take-requires-clause-taken c =
    let s : Shown = shown c.self.inside in
    (replayed_holds (variables_of s) s c.domain.ensures c.self.invariant.some c.self.invariant.replays).within_budget

pub take-requires-clause-workers : goal.take-requires-clause-workers
take-requires-clause-workers c = c.self.invariant.some

pub keep_stop-requires : goal.keep_stop-requires
keep_stop-requires c = subst (λ (z : Shown). z.stop ≡ None) (sym c.self.view_is) c.requires.unstopped

pub answer-requires-clause-job : goal.answer-requires-clause-job
answer-requires-clause-job c = λ some.
    let i : Inside = c.self.inside in
    let g = c.in_ok-given.given in
    let found : IsFound i c.args.worker c.args.most g c.take.new.self c.keep_stop.new.stop =
    found_by i c.args.worker c.args.most g c.take.new.self c.keep_stop.new.stop
    (subst (MayTake c.args.worker c.args.most) (sym c.self.view_is) c.requires.may)
    (subst (λ (z : Shown). z.stop ≡ None) (sym c.self.view_is) c.requires.unstopped) c.self.invariant
    c.in_ok-given.ensures.ok (λ n r left a b. c.keep_stop.ensures.stop n r left a b) c.keep_stop.ensures.kind in
    subst (λ (m : MembersShown). IsJobOver (record { shared = m.shared; worker = c.args.worker; members = m.list; pairs = g.pairs.items }))
    (sym c.in_ok-members.ensures)
    (job_is i c.args.worker c.args.most g c.take.new.self c.keep_stop.new.stop found c.domain.ensures c.self.invariant some)

-- what the calls up to the event found
found_here : (c : After-answer) → IsFound c.self.inside c.args.worker c.args.most c.in_ok-given.given c.take.new.self c.keep_stop.new.stop
found_here c =
    found_by c.self.inside c.args.worker c.args.most c.in_ok-given.given c.take.new.self c.keep_stop.new.stop
    (subst (MayTake c.args.worker c.args.most) (sym c.self.view_is) c.requires.may)
    (subst (λ (z : Shown). z.stop ≡ None) (sym c.self.view_is) c.requires.unstopped) c.self.invariant
    c.in_ok-given.ensures.ok (λ n r left a b. c.keep_stop.ensures.stop n r left a b) c.keep_stop.ensures.kind

noted : (c : After-answer) → c.push_reserved.new.self.items ≡ c.self.inside.history.items ++
    (Take c.args.worker (c.in_ok-given.given).skipped (c.in_ok-given.given).given ∷ [])
noted c = c.push_reserved.ensures.items ∙ ap
    (λ (l : List Event). l ++ Take c.args.worker (c.in_ok-given.given).skipped (c.in_ok-given.given).given ∷ []) c.reserve.ensures.items

counted : (c : After-answer) → length (c.in_ok-given.given).pairs.items ≡ c.len.result
counted c = omega (arith, c.len.ensures, (c.in_ok-given.given).pairs.ok)

pub invariant_of-self-2 : goal.invariant_of-self-2
invariant_of-self-2 c =
    let i : Inside = c.self.inside in
    let g = c.in_ok-given.given in
    let kept = take_kept i c.args.worker c.args.most g c.take.new.self c.keep_stop.new.stop (found_here c) c.push_reserved.new.self c.self.invariant (noted c)
    (omega (arith, c.in_ok-reserve.ensures.ok, c.reserve.ensures.len, c.push_reserved.ensures.capacity, i.history.ok, c.reserve.new.self.ok)) in
    subst (λ k. IsCoherentState (record
    i { pairs = c.take.new.self; taken = i.taken + k; stop = c.keep_stop.new.stop; history = c.push_reserved.new.self })) (counted c) kept

pub returns-clause-step : goal.returns-clause-step
returns-clause-step c =
    let i : Inside = c.self.inside in
    let s : Shown = shown i in
    let g = c.in_ok-given.given in
    let w = c.args.worker in
    let t : Shown = record (after_take s (pairs_of c.take.new.self.queue) c.take.new.self.dropped c.take.new.self.out
    (i.taken + c.len.result) c.keep_stop.new.stop c.push_reserved.new.self.items) { update = c.take.new.self.update } in
    let takes : steps.Takes (run_of (variables_of s) s) (state_of (variables_of s) s) w c.args.most g.skipped.items (pairs_of g.pairs.items)
    (pairs_of (found_here c).left) (state_of (variables_of s) t) =
    subst (λ k. steps.Takes (run_of (variables_of s) s) (state_of (variables_of s) s) w c.args.most g.skipped.items (pairs_of g.pairs.items)
    (pairs_of (found_here c).left) (state_of (variables_of s) (record t { taken = i.taken + k }))) (counted c)
    (take_step i w c.args.most g c.take.new.self c.keep_stop.new.stop (found_here c) c.push_reserved.new.self.items c.self.invariant.read (noted c)) in
    let given : pairs_of g.pairs.items ≡ pairs_given c.answer.result = sym c.answer.ensures.given in
    let adds =
    takes_more s t c.self.invariant.replays c.self.invariant.read
    (record { shared = refl; budget = refl; workers = refl; update = (found_here c).update }) refl w g.skipped g.given g.skipped.items (pairs_given c.answer.result)
    refl ((found_here c).given ∙ given) (noted c) in (
      g.skipped.items,
      subst (λ (z : Shown). Adds (TakeNote w g.skipped.items (pairs_given c.answer.result)) z t) c.self.view_is adds,
      inr (
        pairs_of (found_here c).left,
        subst (λ (z : Shown). steps.Takes (run_of (variables_of z) z) (state_of (variables_of z) z) w c.args.most g.skipped.items
            (pairs_given c.answer.result) (pairs_of (found_here c).left) (state_of (variables_of z) t)) c.self.view_is
            (subst (λ (job : List Pair). steps.Takes (run_of (variables_of s) s) (state_of (variables_of s) s) w c.args.most g.skipped.items job
            (pairs_of (found_here c).left) (state_of (variables_of s) t)) given takes),
      ),
    )

pub returns-clause-answer : goal.returns-clause-answer
returns-clause-answer c =
    let i : Inside = c.self.inside in
    let s : Shown = shown i in
    let g = c.in_ok-given.given in
    let t : Shown = record (after_take s (pairs_of c.take.new.self.queue) c.take.new.self.dropped c.take.new.self.out
    (i.taken + c.len.result) c.keep_stop.new.stop c.push_reserved.new.self.items) { update = c.take.new.self.update } in
    c.answer.ensures.answers t refl (ap (λ (m : MembersShown). m.shared) (sym c.in_ok-members.ensures))
    (ap (λ (m : MembersShown). m.list) (sym c.in_ok-members.ensures))
    (λ unstopped empty. none_left i c.args.worker c.args.most g c.take.new.self c.keep_stop.new.stop
    (found_here c) c.push_reserved.new.self.items c.self.invariant.read (noted c) c.domain.ensures c.self.invariant unstopped empty)
