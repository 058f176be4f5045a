use Rattle.std.proofs.Common.{List, [], ap, arith, false, get_or, length, refl, subst, sym, true, ℕ, ◌++◌, ◌-◌, ◌<◌, ◌∙◌, ◌∷◌, ◌≡◌}
use Rattle.basis_steps.specs.Invariant.{HoldsInvariant}
use Rattle.basis_steps.specs.States.{with_others}
use Rattle.basis_core.specs.Answers.{IsJobOut, PutStops, PutsOutcome}
use Rattle.basis_core.specs.Inside.{shown}
use Rattle.basis_core.specs.declared.event.Event.{Event}
use Rattle.basis_core.specs.declared.event.Event.TheVariants.{Put}
use Rattle.basis_core.specs.declared.state.BasisState.TheInside.{Inside}
use Rattle.basis_core.specs.Jobs.{JobShown, pairs_of}
use Rattle.basis_core.specs.Members.{MemberShown}
use Rattle.basis_core.specs.Outcomes.{OutcomeShown}
use Rattle.basis_core.specs.Shown.{Shown}
use Rattle.basis_core.specs.Views.{run_of, state_of, variables_of}
use Rattle.basis_core.proofs.AfterPut.{HasPut, after_put, outcome_of, put_kept, put_step, put_stops}
use Rattle.basis_core.proofs.Logging.{puts_more}
use Rattle.basis_core.proofs.Unchanged.{unchanged_kept}
use Rattle.basis_core.proofs.state.BasisState.put.Goals as goal
use Rattle.basis_core.proofs.state.BasisState.put.Goals.{After-drop-outcome}

pub add_members-requires-clause-monic : goal.add_members-requires-clause-monic
add_members-requires-clause-monic c =
    (subst (λ (z : Shown). HoldsInvariant (run_of (variables_of z) z) (state_of (variables_of z) z)) (sym c.self.view_is) c.kept.ensures.holds).members

pub invariant_of-self : goal.invariant_of-self
invariant_of-self c =
    let i : Inside = c.self.inside in
    unchanged_kept i (record i { members = c.add_members.new.members; pairs = c.add_members.new.pairs; history = c.add_members.new.history })
    c.self.invariant (record {
      budget = refl;
      workers = refl;
      members = c.in-Err.ensures.err.0;
      pairs = c.in-Err.ensures.err.1;
      taken = refl;
      ended = refl;
      stop = refl;
      history = c.in-Err.ensures.history;
      room = c.in-Err.ensures.history_kept;
    })

pub returns-in-Err-clause-stop : goal.returns-in-Err-clause-stop
returns-in-Err-clause-stop c =
    let s : Shown = shown c.self.inside in
    let o : OutcomeShown = c.args.outcome in
    subst (λ (z : Shown). PutStops (variables_of z) z o c.in-Err.stop) c.self.view_is
    (put_stops s o c.in-Err.stop c.self.invariant.replays (subst (λ (z : Shown). IsJobOut z o) (sym c.self.view_is) c.requires.out) c.kept-2.ensures
    c.in-Err.ensures.stop)

-- what the calls came to
has_put :
    (c : After-drop-outcome)
    → HasPut (variables_of (shown c.self.inside)) (shown c.self.inside) c.args.outcome c.add_members.new.members.list
    (pairs_of c.give_back.new.self.queue) c.give_back.new.self.dropped c.give_back.new.self.out c.push_reserved.new.self.items
has_put c =
    let s : Shown = shown c.self.inside in
    let o : OutcomeShown = c.args.outcome in
    let job : IsJobOut s o = subst (λ (z : Shown). IsJobOut z o) (sym c.self.view_is) c.requires.out in
    let worker : c.worker-worker.result ≡ o.job.worker = c.worker-worker.ensures ∙ ap (λ (j : JobShown). j.worker) c.job.ensures in
    let added = c.in_default.ensures in
    record {
      known = subst (λ (z : Shown). o.job.worker < z.workers) (sym c.self.view_is) c.requires.known;
      works = subst (λ (z : Shown). get_or z.ended o.job.worker true ≡ false) (sym c.self.view_is) c.requires.works;
      job = job;
      outcome = outcome_of s o job.shared c.kept-2.ensures;
      made = added.made;
      first = length s.members;
      first_is = refl;
      queues = rw (ap pairs_of c.give_back.ensures.queue, c.give_back.ensures.dropped) added.queues;
      out_is = c.give_back.ensures.out ∙ (λ i. with_others (worker i) (added.out i));
      read = c.self.invariant.read;
      events = c.push_reserved.ensures.items
          ∙ ap (λ (l : List Event). l ++ (Put c.worker-worker.result c.len-first.result (c.len.result - c.len-first.result) ∷ [])) added.history
          ∙ (λ i. s.history ++ (Put (worker i) (c.len-first.ensures i) (c.len.ensures i - c.len-first.ensures i) ∷ []));
    }

pub invariant_of-self-2 : goal.invariant_of-self-2
invariant_of-self-2 c =
    put_kept c.self.inside c.args.outcome c.add_members.new.members c.give_back.new.self c.push_reserved.new.self
    c.self.invariant c.in_default.ensures.shared (has_put c) (c.give_back.ensures.leads ∙ c.in_default.ensures.leads)
    (c.give_back.ensures.update ∙ c.in_default.ensures.update)
    (omega (arith, c.in_default.ensures.history_room, c.push_reserved.ensures.capacity))

pub returns-clause-step : goal.returns-clause-step
returns-clause-step c =
    let s : Shown = shown c.self.inside in
    let n : ℕ = variables_of s in
    let put = has_put c in
    let list : List MemberShown = c.add_members.new.members.list in
    let t : Shown = record (after_put s list (pairs_of c.give_back.new.self.queue) c.give_back.new.self.dropped c.give_back.new.self.out c.push_reserved.new.self.items)
    { shared = c.add_members.new.members.shared; update = c.give_back.new.self.update } in
    subst (λ (z : Shown). (made : List MemberShown) × PutsOutcome (variables_of z) z c.args.outcome made t) c.self.view_is (
      (put.made).made,
      record {
        puts = put_step n s c.args.outcome list (pairs_of c.give_back.new.self.queue) c.give_back.new.self.dropped c.give_back.new.self.out
            c.push_reserved.new.self.items put;
        members = (put.made).same;
        adds = puts_more s t c.self.invariant.replays c.self.invariant.read (record { shared = c.in_default.ensures.shared; budget = refl; workers = refl; update = c.give_back.ensures.update ∙ c.in_default.ensures.update })
            c.args.outcome.job.worker (put.made).made (put.made).same
            (put.events ∙ ap (λ (k : ℕ). s.history ++ (Put c.args.outcome.job.worker k (length list - k) ∷ [])) put.first_is);
      },
    )
