-- What a worker may do by what its seat has seen, the core lets it do at its hold
use Rattle.std.proofs.Common.{Bool, List, Option, [], ap, append_assoc, arith, cond, false, get_or, inl, inr, length, length-append, refl, subst, suc, sym, take, true, zero, ℕ, ◌++◌, ◌+◌, ◌<◌, ◌==◌, ◌∙◌, ◌∷◌, ◌≡◌, ◌≤◌}
use Rattle.module_vectors.specs.declared.trail.KeptTrail.{KeptTrail}
use Rattle.std.specs.Prelude.{Contains}
use Rattle.basis_steps.proofs.Growing.{vectors-append}
use Rattle.basis_steps.proofs.Keeping.{trail_of_more}
use Rattle.basis_steps.specs.Histories.{HasStopped}
use Rattle.basis_steps.specs.Pairs.{Pair}
use Rattle.basis_steps.specs.States as plain
use Rattle.basis_steps.specs.States.{job_of, vectors}
use Rattle.basis_steps.specs.Steps as steps
use Rattle.basis_steps.specs.Trails.{HasGiven, IsJobTrail}
use Rattle.basis_core.specs.declared.event.Event.{Event}
use Rattle.basis_core.specs.declared.event.Event.TheVariants as events
use Rattle.basis_core.specs.declared.stop.StopReason.{StopReason}
use Rattle.basis_core.specs.declared.stop.StopReason.TheVariants as reasons
use Rattle.basis_core.specs.Answers.{IsJobOut, IsReason, IsRunTrail}
use Rattle.basis_core.specs.Members.{MemberShown, member_of, members_of}
use Rattle.basis_core.specs.Outcomes.{OutcomeShown}
use Rattle.basis_core.specs.Shown.{Shown}
use Rattle.basis_core.specs.Stops.{trail_of}
use Rattle.basis_core.specs.Views.{ending_of, history_of, run_of, state_of, variables_of}
use Rattle.ruled_lock.specs.declared.law.View.{View}
use Rattle.ruled_lock.specs.Events.{calls_by}
use Rattle.ruled_lock.specs.Plays.{Sees}
use Rattle.basis_lock.specs.Acts.{act_of, acts_of, actor, has_ended_by_acts, has_stop, held_after, took_after}
use Rattle.basis_lock.specs.Calls.{HasGivenSeen, IsReasonSeen, IsTrailSeen, MayFinish, MayHandIn, MayReport, MayTakeJob, own}
use Rattle.basis_core.specs.Logs.{Base, End, Noted, Put, Stop, Take, base, by, log, made_in, members_after, notes_from, number_at_beginning}
use Rattle.basis_lock.proofs.Acting.{acts_of_events, nobody_ended, own_acts, runs_out, runs_stop_kept, runs_stopped, runs_took, runs_works}
use Rattle.basis_core.proofs.Logging.{members_told}

-- the notes tell the same acts as the events
acts_same : (n k : ℕ) (ms : List MemberShown) (kept : Option StopReason) (es : List Event) → acts_of (notes_from k ms es) ≡ acts_of_events (history_of n ms kept es)
acts_same n k ms kept [] = refl
acts_same n k ms kept (events.Take w skipped job ∷ es) = ap (λ l. act_of (Take w skipped.items job.items) ∷ l) (acts_same n k ms kept es)
acts_same n k ms kept (events.Put w first count ∷ es) = ap (λ l. act_of (Put w []) ∷ l) (acts_same n (k + count) ms kept es)
acts_same n k ms kept (events.End w ending ∷ es) = ap (λ l. act_of (End w (ending_of ending)) ∷ l) (acts_same n k ms kept es)
acts_same n k ms kept (events.Stop w reason ∷ es) = ap (λ l. act_of (Stop w) ∷ l) (acts_same n k ms kept es)

-- the acts of one worker's notes are the one worker's acts
pub acts_by : (w : ℕ) (es : List Noted) → acts_of (calls_by by w es) ≡ calls_by actor w (acts_of es)
acts_by w [] = refl
acts_by w (Take v skipped job ∷ es) = go (w == v) (acts_by w es)
  where
    go : (b : Bool) → acts_of (calls_by by w es) ≡ calls_by actor w (acts_of es) → acts_of (cond b (Take v skipped job ∷ calls_by by w es) (calls_by by w es)) ≡ cond b (act_of (Take v skipped job) ∷ calls_by actor w (acts_of es)) (calls_by actor w (acts_of es))
    go true h = ap (λ l. act_of (Take v skipped job) ∷ l) h
    go false h = h
acts_by w (Put v made ∷ es) = go (w == v) (acts_by w es)
  where
    go : (b : Bool) → acts_of (calls_by by w es) ≡ calls_by actor w (acts_of es) → acts_of (cond b (Put v made ∷ calls_by by w es) (calls_by by w es)) ≡ cond b (act_of (Put v made) ∷ calls_by actor w (acts_of es)) (calls_by actor w (acts_of es))
    go true h = ap (λ l. act_of (Put v made) ∷ l) h
    go false h = h
acts_by w (End v ending ∷ es) = go (w == v) (acts_by w es)
  where
    go : (b : Bool) → acts_of (calls_by by w es) ≡ calls_by actor w (acts_of es) → acts_of (cond b (End v ending ∷ calls_by by w es) (calls_by by w es)) ≡ cond b (act_of (End v ending) ∷ calls_by actor w (acts_of es)) (calls_by actor w (acts_of es))
    go true h = ap (λ l. act_of (End v ending) ∷ l) h
    go false h = h
acts_by w (Stop v ∷ es) = go (w == v) (acts_by w es)
  where
    go : (b : Bool) → acts_of (calls_by by w es) ≡ calls_by actor w (acts_of es) → acts_of (cond b (Stop v ∷ calls_by by w es) (calls_by by w es)) ≡ cond b (act_of (Stop v) ∷ calls_by actor w (acts_of es)) (calls_by actor w (acts_of es))
    go true h = ap (λ l. act_of (Stop v) ∷ l) h
    go false h = h

-- so those of a state's log are those of its history
pub own_same : (n w : ℕ) (s : Shown) → acts_of (calls_by by w (log s)) ≡ own_acts w (state_of n s).history
own_same n w s = acts_by w (log s) ∙ ap (calls_by actor w) (acts_same n (number_at_beginning s) s.members s.stop s.history)

pub log_acts : (n : ℕ) (s : Shown) → acts_of (log s) ≡ acts_of_events (state_of n s).history
log_acts n s = acts_same n (number_at_beginning s) s.members s.stop s.history

-- a Take as an event, and as a note; others as no Take
abbrev as_event : (n : ℕ) → Noted → plain.Event n
as_event n (Take w skipped job) = plain.Take w skipped job
as_event n (Put w made) = plain.Put w []
as_event n (End w ending) = plain.End w ending
as_event n (Stop w) = plain.End w plain.Ended

abbrev as_note : {n : ℕ} → plain.Event n → Noted
as_note (plain.Take w skipped job) = Take w skipped job
as_note (plain.Put w made) = Put w []
as_note (plain.End w ending) = End w ending
as_note (plain.Stop w reason) = Stop w

later_there : {X : Type 0} (x : X) (xs : List X) (y : X) → Contains xs y → Contains (x ∷ xs) y
later_there x xs y (i, l, e) = (suc i, omega arith, e)

there_more : {X : Type 0} (xs ys : List X) (x : X) → Contains xs x → Contains (xs ++ ys) x
there_more [] ys x (i, l, e) = absurd (omega arith)
there_more (y ∷ xs) ys x (zero, l, e) = (zero, omega arith, e)
there_more (y ∷ xs) ys x (suc i, l, e) = later_there y (xs ++ ys) x (there_more xs ys x (i, omega arith, e))

-- and the jobs that were given
given_event : (n k : ℕ) (ms : List MemberShown) (kept : Option StopReason) (es : List Event) (w : ℕ) (skipped job : List Pair) → Contains (notes_from k ms es) (Take w skipped job) → Contains (history_of n ms kept es) (plain.Take w skipped job)
given_event n k ms kept [] w skipped job (i, l, e) = absurd (omega arith)
given_event n k ms kept (events.Take v xs ys ∷ es) w skipped job (zero, l, e) = (zero, omega arith, ap (as_event n) e)
given_event n k ms kept (events.Take v xs ys ∷ es) w skipped job (suc i, l, e) = later_there _ _ _ (given_event n k ms kept es w skipped job (i, omega arith, e))
given_event n k ms kept (events.Put v first count ∷ es) w skipped job (zero, l, e) = absurd cc
given_event n k ms kept (events.Put v first count ∷ es) w skipped job (suc i, l, e) = later_there _ _ _ (given_event n (k + count) ms kept es w skipped job (i, omega arith, e))
given_event n k ms kept (events.End v ending ∷ es) w skipped job (zero, l, e) = absurd cc
given_event n k ms kept (events.End v ending ∷ es) w skipped job (suc i, l, e) = later_there _ _ _ (given_event n k ms kept es w skipped job (i, omega arith, e))
given_event n k ms kept (events.Stop v reason ∷ es) w skipped job (zero, l, e) = absurd cc
given_event n k ms kept (events.Stop v reason ∷ es) w skipped job (suc i, l, e) = later_there _ _ _ (given_event n k ms kept es w skipped job (i, omega arith, e))

given_note : (n k : ℕ) (ms : List MemberShown) (kept : Option StopReason) (es : List Event) (w : ℕ) (skipped job : List Pair) → Contains (history_of n ms kept es) (plain.Take w skipped job) → Contains (notes_from k ms es) (Take w skipped job)
given_note n k ms kept [] w skipped job (i, l, e) = absurd (omega arith)
given_note n k ms kept (events.Take v xs ys ∷ es) w skipped job (zero, l, e) = (zero, omega arith, ap as_note e)
given_note n k ms kept (events.Take v xs ys ∷ es) w skipped job (suc i, l, e) = later_there _ _ _ (given_note n k ms kept es w skipped job (i, omega arith, e))
given_note n k ms kept (events.Put v first count ∷ es) w skipped job (zero, l, e) = absurd cc
given_note n k ms kept (events.Put v first count ∷ es) w skipped job (suc i, l, e) = later_there _ _ _ (given_note n (k + count) ms kept es w skipped job (i, omega arith, e))
given_note n k ms kept (events.End v ending ∷ es) w skipped job (zero, l, e) = absurd cc
given_note n k ms kept (events.End v ending ∷ es) w skipped job (suc i, l, e) = later_there _ _ _ (given_note n k ms kept es w skipped job (i, omega arith, e))
given_note n k ms kept (events.Stop v reason ∷ es) w skipped job (zero, l, e) = absurd cc
given_note n k ms kept (events.Stop v reason ∷ es) w skipped job (suc i, l, e) = later_there _ _ _ (given_note n k ms kept es w skipped job (i, omega arith, e))

-- what is given by the log is given by the history, and so back
pub given_here : (n : ℕ) (s : Shown) (job : List Pair) → HasGivenSeen (log s) job → HasGiven (state_of n s).history job
given_here n s job h = record { worker = h.worker; skipped = h.skipped; there = given_event n (number_at_beginning s) s.members s.stop s.history h.worker h.skipped job h.there }

pub given_seen : (n : ℕ) (s : Shown) (job : List Pair) → HasGiven (state_of n s).history job → HasGivenSeen (log s) job
given_seen n s job h = record { worker = h.worker; skipped = h.skipped; there = given_note n (number_at_beginning s) s.members s.stop s.history h.worker h.skipped job h.there }

-- what later events add
made-append : (es fs : List Noted) → made_in (es ++ fs) ≡ made_in es ++ made_in fs
made-append [] fs = refl
made-append (Take w skipped job ∷ es) fs = made-append es fs
made-append (Put w made ∷ es) fs = ap (λ l. made ++ l) (made-append es fs) ∙ sym (append_assoc made (made_in es) (made_in fs))
made-append (End w ending ∷ es) fs = made-append es fs
made-append (Stop w ∷ es) fs = made-append es fs

pub stop-append : (es fs : List Noted) → has_stop (acts_of es) ≡ true → has_stop (acts_of (es ++ fs)) ≡ true
stop-append [] fs h = absurd cc
stop-append (Take w skipped job ∷ es) fs h = stop-append es fs h
stop-append (Put w made ∷ es) fs h = stop-append es fs h
stop-append (End w ending ∷ es) fs h = stop-append es fs h
stop-append (Stop w ∷ es) fs h = refl

-- members only grow
pub members_grow : (b : Base) (es fs : List Noted) → members_after b (es ++ fs) ≡ members_after b es ++ made_in fs
members_grow b es fs = ap (λ l. b.first ++ l) (made-append es fs) ∙ sym (append_assoc b.first (made_in es) (made_in fs))

front : {A : Type 0} (k : ℕ) (xs ys : List A) → k ≤ length xs → take k (xs ++ ys) ≡ take k xs
front zero xs ys h = refl
front (suc k) [] ys h = absurd (omega arith)
front (suc k) (x ∷ xs) ys h = ap (λ l. x ∷ l) (front k xs ys (omega arith))

map-front : (n : ℕ) (xs ys : List MemberShown) → members_of n (xs ++ ys) ≡ members_of n xs ++ members_of n ys
map-front n [] ys = refl
map-front n (x ∷ xs) ys = ap (λ l. member_of n x ∷ l) (map-front n xs ys)

no_test : (b : Bool) → b ≡ true → b ≡ false → ⊥
no_test b t f = cc

module _ (s : Shown) (v : View Noted Base) (replays : steps.Replays (run_of (variables_of s) s) (state_of (variables_of s) s)) (sees : Sees by v (log s)) where
  abbrev n : ℕ
  n = variables_of s

  own_now : own v ≡ own_acts v.worker (state_of n s).history
  own_now = ap acts_of (sym sees.1) ∙ own_same n v.worker s

  members_now : s.members ≡ members_after (base s) v.seen ++ made_in sees.0.0
  members_now = sym (members_told s) ∙ ap (members_after (base s)) sees.0.1 ∙ members_grow (base s) v.seen sees.0.0

  works_now : v.worker < s.workers → has_ended_by_acts (own v) ≡ false → get_or s.ended v.worker true ≡ false
  works_now known h =
      let first = replays.0 in
      let began : get_or first.ended v.worker true ≡ false = ap (λ l. get_or l v.worker true) replays.1.ended ∙ nobody_ended s.workers v.worker known in
      runs_works (run_of n s) v.worker first (state_of n s) (state_of n s).history replays.2 (ap has_ended_by_acts (sym own_now) ∙ h) began

  out_now : job_of v.worker s.out ≡ held_after [] (own v)
  out_now =
      runs_out (run_of n s) v.worker replays.0 (state_of n s) (state_of n s).history replays.2
      ∙ ap (λ o. held_after (job_of v.worker o) (own_acts v.worker (state_of n s).history)) replays.1.out
      ∙ ap (held_after []) (sym own_now)

  take_here : (most : ℕ) → MayTakeJob (base s) v most → steps.MayTake (run_of n s) (state_of n s) v.worker most
  take_here most may = record { known = may.known; works = works_now may.known may.works; free = out_now ∙ may.free; some = may.some }

  pub may_take : (b : Base) (most : ℕ) → base s ≡ b → MayTakeJob b v most → steps.MayTake (run_of n s) (state_of n s) v.worker most
  may_take b most e may = take_here most (subst (λ z. MayTakeJob z v most) (sym e) may)

  put_here : (o : OutcomeShown) → MayHandIn (base s) v o → (o.job.worker < s.workers) × (get_or s.ended o.job.worker true ≡ false) × IsJobOut s o
  put_here o may =
      let whole : take (length o.job.members) s.members ≡ take (length o.job.members) (members_after (base s) v.seen) =
      ap (take (length o.job.members)) members_now ∙ front (length o.job.members) (members_after (base s) v.seen) (made_in sees.0.0) may.had in (
        subst (λ w. w < s.workers) (sym may.worker) may.known,
        subst (λ w. get_or s.ended w true ≡ false) (sym may.worker) (works_now may.known may.works),
        record {
          shared = may.shared;
          out = ap (λ w. job_of w s.out) may.worker ∙ out_now ∙ may.out;
          had = omega (arith, may.had, ap length members_now, length-append (members_after (base s) v.seen) (made_in sees.0.0));
          members = may.members ∙ sym whole;
        },
      )

  pub may_put : (b : Base) (o : OutcomeShown) → base s ≡ b → MayHandIn b v o → (o.job.worker < s.workers) × (get_or s.ended o.job.worker true ≡ false) × IsJobOut s o
  may_put b o e may = put_here o (subst (λ z. MayHandIn z v o) (sym e) may)

  end_here : MayFinish (base s) v → steps.MayEnd (run_of n s) (state_of n s) v.worker
  end_here may = record {
    known = may.known;
    works = works_now may.known may.works;
    done = λ none. elim may.done [
      | inl seen ↦ absurd (runs_stop_kept (run_of n s) replays.0 (state_of n s) (state_of n s).history replays.2
          (ap has_stop (sym (log_acts n s)) ∙ ap (λ l. has_stop (acts_of l)) sees.0.1 ∙ stop-append v.seen sees.0.0 seen) none)
      | inr free ↦ (out_now ∙ free.0, runs_took v.worker (state_of n s).history false ∙ ap (took_after false) (sym own_now) ∙ free.1)
    ];
  }

  pub may_end : (b : Base) → base s ≡ b → MayFinish b v → steps.MayEnd (run_of n s) (state_of n s) v.worker
  may_end b e may = end_here (subst (λ z. MayFinish z v) (sym e) may)

  trail_here : (t : KeptTrail) → IsTrailSeen (base s) v.seen t → IsRunTrail n s t
  trail_here t h = record {
    pair = h.pair;
    way = record {
      job = h.job;
      given = given_here n s h.job (subst (λ es. HasGivenSeen es h.job) (sym sees.0.1) (record { worker = h.given.worker; skipped = h.given.skipped; there = there_more v.seen sees.0.0 _ h.given.there }));
      way = subst (λ G. IsJobTrail (run_of n s) G h.job (trail_of n t)) (sym (ap (λ ms. vectors (members_of n ms)) members_now ∙ ap vectors (map-front n (members_after (base s) v.seen) (made_in sees.0.0)) ∙ vectors-append (members_of n (members_after (base s) v.seen)) (members_of n (made_in sees.0.0))))
          (trail_of_more (run_of n s) (vectors (members_of n (members_after (base s) v.seen))) (vectors (members_of n (made_in sees.0.0))) h.job (trail_of n t) h.way);
    };
  }

  reason_here : (reason : StopReason) → IsReasonSeen (base s) v.seen reason → IsReason n s reason
  reason_here reasons.Pairs h = h
  reason_here reasons.Memory h = h
  reason_here (reasons.Degree t) h = trail_here t h

  pub may_stop : (b : Base) (reason : StopReason) → base s ≡ b → MayReport b v reason → (v.worker < s.workers) × (HasStopped v.worker (state_of n s).history → ⊥) × IsReason n s reason
  may_stop b reason e may =
      let here : MayReport (base s) v reason = subst (λ z. MayReport z v reason) (sym e) may in (
        here.known,
        (λ h. no_test (has_stop (own v)) (ap has_stop own_now ∙ runs_stopped v.worker (state_of n s).history h) here.first),
        reason_here reason here.why,
      )
