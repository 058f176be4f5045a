-- What a worker's seat tells after each call of a round
use Rattle.std.proofs.Common.{Bool, List, [], ap, arith, false, get_or, inl, inr, length, length-append, refl, subst, sym, true, ℕ, ◌++◌, ◌<◌, ◌∙◌, ◌∷◌, ◌≡◌}
use Rattle.std.specs.Prelude.{MatchBool}
use Rattle.module_vectors.specs.declared.trail.WorkStop.{WorkStop}
use Rattle.module_vectors.specs.declared.trail.WorkStop.TheVariants as works
use Rattle.basis_steps.specs.Pairs.{Pair}
use Rattle.basis_steps.specs.States as plain
use Rattle.basis_core.specs.declared.ending.Ending.TheVariants as endings
use Rattle.basis_core.specs.declared.stop.StopReason.{StopReason}
use Rattle.basis_core.specs.declared.taken.Taken.{Taken}
use Rattle.basis_core.specs.declared.taken.Taken.TheVariants.{Job as TookJob}
use Rattle.basis_core.specs.Answers.{pairs_given}
use Rattle.basis_core.specs.Jobs.{JobShown, pairs_of}
use Rattle.basis_core.proofs.JobTrails.{trail_of_job}
use Rattle.basis_core.specs.Members.{Shared}
use Rattle.basis_core.specs.Outcomes.{OutcomeShown}
use Rattle.basis_core.specs.Shown.{Shown}
use Rattle.basis_core.specs.Stops.{IsTrailBy}
use Rattle.s_vectors.specs.Trails.{JobStops}
use Rattle.ruled_lock.specs.declared.law.View.{View}
use Rattle.ruled_lock.specs.Plays.{Holds}
use Rattle.basis_lock.specs.Acts.{Act, Asked, HandedIn, Stopped, Took, act_of, acts_of, has_ended_by_acts, has_stop, has_take, held_after, took_after}
use Rattle.basis_lock.specs.Calls.{Finishes, HandsIn, HasGivenSeen, IsHold, IsWorkStopSeen, MayFinish, MayHandIn, ReportsStop, TakesJob, own}
use Rattle.basis_core.specs.Logs.{Base, End, Noted, Put, Stop, Take, by, log, members_after}
use Rattle.basis_core.proofs.Logging.{members_told, take_whole}
use Rattle.f4_engine.specs.Workers.{AreDone, HasDone, HasJob, HasNone, IsFresh, IsSameWorker, IsWorking, MayGiveUp, RoundEnds}

-- the last Take gave its job
given_last : (es : List Noted) (w : ℕ) (skipped job : List Pair) → HasGivenSeen (es ++ (Take w skipped job ∷ [])) job
given_last es w skipped job = record { worker = w; skipped = skipped; there = (length es, omega (arith, length-append es (Take w skipped job ∷ [])), at es) }
  where
    at : (es : List Noted) → get_or (es ++ (Take w skipped job ∷ [])) (length es) (Take w skipped job) ≡ Take w skipped job
    at [] = refl
    at (e ∷ es) = at es

-- acts after one more
acts-append : (es : List Noted) (e : Noted) → acts_of (es ++ (e ∷ [])) ≡ acts_of es ++ (act_of e ∷ [])
acts-append [] e = refl
acts-append (f ∷ es) e = ap (λ l. act_of f ∷ l) (acts-append es e)

held-more : (out : List Pair) (xs : List Act) (a : Act) → held_after out (xs ++ (a ∷ [])) ≡ held_after (held_after out xs) (a ∷ [])
held-more out [] a = refl
held-more out (Took w job ∷ xs) a = held-more (out ++ job) xs a
held-more out (HandedIn w ∷ xs) a = held-more [] xs a
held-more out (Asked w ending ∷ xs) a = held-more out xs a
held-more out (Stopped w ∷ xs) a = held-more out xs a

ended-more : (xs : List Act) (a : Act) → has_ended_by_acts xs ≡ false → has_ended_by_acts (xs ++ (a ∷ [])) ≡ has_ended_by_acts (a ∷ [])
ended-more [] a h = refl
ended-more (Took w job ∷ xs) a h = ended-more xs a h
ended-more (HandedIn w ∷ xs) a h = ended-more xs a h
ended-more (Asked w plain.Ended ∷ xs) a h = absurd cc
ended-more (Asked w plain.MoreWork ∷ xs) a h = ended-more xs a h
ended-more (Stopped w ∷ xs) a h = ended-more xs a h

took-more : (t : Bool) (xs : List Act) (a : Act) → took_after t (xs ++ (a ∷ [])) ≡ took_after (took_after t xs) (a ∷ [])
took-more t [] a = refl
took-more t (Took w job ∷ xs) a = took-more true xs a
took-more t (HandedIn w ∷ xs) a = took-more t xs a
took-more t (Asked w ending ∷ xs) a = took-more false xs a
took-more t (Stopped w ∷ xs) a = took-more t xs a

stop-more : (xs : List Act) (a : Act) → has_stop xs ≡ false → has_stop (xs ++ (a ∷ [])) ≡ has_stop (a ∷ [])
stop-more [] a h = refl
stop-more (Took w job ∷ xs) a h = stop-more xs a h
stop-more (HandedIn w ∷ xs) a h = stop-more xs a h
stop-more (Asked w ending ∷ xs) a h = stop-more xs a h
stop-more (Stopped w ∷ xs) a h = absurd cc

stop-stays : (xs : List Act) (a : Act) → has_stop xs ≡ true → has_stop (xs ++ (a ∷ [])) ≡ true
stop-stays [] a h = absurd cc
stop-stays (Took w job ∷ xs) a h = stop-stays xs a h
stop-stays (HandedIn w ∷ xs) a h = stop-stays xs a h
stop-stays (Asked w ending ∷ xs) a h = stop-stays xs a h
stop-stays (Stopped w ∷ xs) a h = refl

take-stays : (xs : List Act) (a : Act) → has_take xs ≡ true → has_take (xs ++ (a ∷ [])) ≡ true
take-stays [] a h = absurd cc
take-stays (Took w job ∷ xs) a h = refl
take-stays (HandedIn w ∷ xs) a h = take-stays xs a h
take-stays (Asked w ending ∷ xs) a h = take-stays xs a h
take-stays (Stopped w ∷ xs) a h = take-stays xs a h

take-here : (xs : List Act) (w : ℕ) (job : List Pair) → has_take (xs ++ (Took w job ∷ [])) ≡ true
take-here [] w job = refl
take-here (Took v ys ∷ xs) w job = refl
take-here (HandedIn v ∷ xs) w job = take-here xs w job
take-here (Asked v ending ∷ xs) w job = take-here xs w job
take-here (Stopped v ∷ xs) w job = take-here xs w job

stop-last : (es : List Noted) (w : ℕ) → has_stop (acts_of (es ++ (Stop w ∷ []))) ≡ true
stop-last [] w = refl
stop-last (Take v skipped job ∷ es) w = stop-last es w
stop-last (Put v made ∷ es) w = stop-last es w
stop-last (End v ending ∷ es) w = stop-last es w
stop-last (Stop v ∷ es) w = refl

module _ (b : Base) (v : View Noted Base) (e : Noted) (w : View Noted Base) (s t : Shown) (hold : IsHold b v e w s t) where
  -- the seat after a hold
  pub own_after : own w ≡ own v ++ (act_of e ∷ [])
  own_after = ap acts_of hold.makes.2 ∙ acts-append v.mine e

  pub same_seat : IsSameWorker v w
  same_seat = (hold.makes.4.0, hold.makes.4.2)

  known_after : v.worker < b.workers → w.worker < b.workers
  known_after h = subst (λ k. k < b.workers) (sym hold.makes.4.0) h

  seen_after : w.seen ≡ log s ++ (e ∷ [])
  seen_after = hold.seen ∙ hold.history

module _ (b : Base) (v w : View Noted Base) (most : ℕ) (job : JobShown) (working : IsWorking b v) (h : TakesJob b v most (TookJob job) w) where
  abbrev e : Noted
  e = Take v.worker h.skipped (pairs_given (TookJob job))

  abbrev acts : own w ≡ own v ++ (Took v.worker (pairs_of job.pairs) ∷ [])
  acts = own_after b v e w h.before h.after h.hold

  all_members : job.members ≡ members_after b w.seen
  all_members =
      h.answers.3 ∙ sym (members_told h.after) ∙ (λ i. members_after (h.hold.after i) (sym h.hold.seen i))

  pub takes_a_job : IsSameWorker v w × HasJob b w job
  takes_a_job = (
    same_seat b v e w h.before h.after h.hold,
    record {
      known = known_after b v e w h.before h.after h.hold working.known;
      works = ap has_ended_by_acts acts ∙ ended-more (own v) (Took v.worker (pairs_of job.pairs)) working.works;
      unstopped = ap has_stop acts ∙ stop-more (own v) (Took v.worker (pairs_of job.pairs)) working.unstopped;
      took = ap has_take acts ∙ take-here (own v) v.worker (pairs_of job.pairs);
      worker = h.answers.1 ∙ sym h.hold.makes.4.0;
      shared = h.answers.2 ∙ ap (λ (z : Base). z.shared) h.hold.after;
      out = ap (held_after []) acts ∙ held-more [] (own v) (Took v.worker (pairs_of job.pairs)) ∙ ap (λ l. l ++ pairs_of job.pairs) working.free;
      had = omega (arith, ap length all_members);
      members = all_members ∙ sym (take_whole (length job.members) (members_after b w.seen) (omega (arith, ap length all_members)));
      given = subst (λ es. HasGivenSeen es (pairs_of job.pairs)) (sym (seen_after b v e w h.before h.after h.hold)) (given_last (log h.before) v.worker h.skipped (pairs_of job.pairs));
    },
  )

module _ (b : Base) (v w : View Noted Base) (most : ℕ) (answer : Taken) (working : IsWorking b v) (h : TakesJob b v most answer w) (none : pairs_given answer ≡ []) where
  abbrev e' : Noted
  e' = Take v.worker h.skipped (pairs_given answer)

  acts' : own w ≡ own v ++ (Took v.worker [] ∷ [])
  acts' = own_after b v e' w h.before h.after h.hold ∙ ap (λ l. own v ++ (Took v.worker l ∷ [])) none

  pub takes_none : IsSameWorker v w × HasNone b w
  takes_none = (
    same_seat b v e' w h.before h.after h.hold,
    record {
      working = record {
        known = known_after b v e' w h.before h.after h.hold working.known;
        works = ap has_ended_by_acts acts' ∙ ended-more (own v) (Took v.worker []) working.works;
        free = ap (held_after []) acts' ∙ held-more [] (own v) (Took v.worker []) ∙ ap (λ l. l ++ []) working.free;
        unstopped = ap has_stop acts' ∙ stop-more (own v) (Took v.worker []) working.unstopped;
      };
      took = ap (took_after false) acts' ∙ took-more false (own v) (Took v.worker []);
      has_taken = ap has_take acts' ∙ take-here (own v) v.worker [];
    },
  )

-- a worker with a job may hand in its outcome
pub may_hand_in : (b : Base) (v : View Noted Base) (job : JobShown) (o : OutcomeShown) → HasJob b v job → o.job ≡ job → MayHandIn b v o
may_hand_in b v job o h same = subst (λ (j : JobShown). MayHandIn b v (record o { job = j })) (sym same) (record {
  known = h.known;
  works = h.works;
  worker = h.worker;
  shared = h.shared;
  out = h.out;
  had = h.had;
  members = h.members;
})

pub hands_it_in : (b : Base) (v w : View Noted Base) (job : JobShown) (o : OutcomeShown) → HasJob b v job → HandsIn b v o w → IsSameWorker v w × IsWorking b w
hands_it_in b v w job o has h =
    let e : Noted = Put v.worker h.made in
    let acts : own w ≡ own v ++ (HandedIn v.worker ∷ []) = own_after b v e w h.before h.after h.hold in (
      same_seat b v e w h.before h.after h.hold,
      record {
        known = known_after b v e w h.before h.after h.hold has.known;
        works = ap has_ended_by_acts acts ∙ ended-more (own v) (HandedIn v.worker) has.works;
        free = ap (held_after []) acts ∙ held-more [] (own v) (HandedIn v.worker);
        unstopped = ap has_stop acts ∙ stop-more (own v) (HandedIn v.worker) has.unstopped;
      },
    )

-- who was told that there is no job may end
pub may_finish : (b : Base) (v : View Noted Base) → HasNone b v → MayFinish b v
may_finish b v h = record { known = h.working.known; works = h.working.works; done = inr (h.working.free, h.took) }

pub ends_done : (b : Base) (v w : View Noted Base) → HasNone b v → Finishes b v endings.Ended w → IsSameWorker v w × AreDone (own w)
ends_done b v w has h =
    let e : Noted = End v.worker plain.Ended in
    let acts : own w ≡ own v ++ (Asked v.worker plain.Ended ∷ []) = own_after b v e w h.before h.after h.hold in (
      same_seat b v e w h.before h.after h.hold,
      record {
        ended = ap has_ended_by_acts acts ∙ ended-more (own v) (Asked v.worker plain.Ended) has.working.works;
        took = inl (ap has_take acts ∙ take-stays (own v) (Asked v.worker plain.Ended) has.has_taken);
      },
    )

pub ends_with_more : (b : Base) (v w : View Noted Base) → HasNone b v → Finishes b v endings.MoreWork w → IsSameWorker v w × IsWorking b w
ends_with_more b v w has h =
    let e : Noted = End v.worker plain.MoreWork in
    let acts : own w ≡ own v ++ (Asked v.worker plain.MoreWork ∷ []) = own_after b v e w h.before h.after h.hold in (
      same_seat b v e w h.before h.after h.hold,
      record {
        known = known_after b v e w h.before h.after h.hold has.working.known;
        works = ap has_ended_by_acts acts ∙ ended-more (own v) (Asked v.worker plain.MoreWork) has.working.works;
        free = ap (held_after []) acts ∙ held-more [] (own v) (Asked v.worker plain.MoreWork) ∙ has.working.free;
        unstopped = ap has_stop acts ∙ stop-more (own v) (Asked v.worker plain.MoreWork) has.working.unstopped;
      },
    )

-- after a Stop of its own a worker may end, and then is done
pub may_finish_stopped :
    (b : Base) (v w : View Noted Base) (reason : StopReason) (stop : WorkStop) → MayGiveUp b v stop → ReportsStop b v reason w
    → MayFinish b w × (has_stop (acts_of w.seen) ≡ true) × (has_ended_by_acts (own w) ≡ false) × (has_stop (own w) ≡ true) × IsSameWorker v w
may_finish_stopped b v w reason stop may h =
    let e : Noted = Stop v.worker in
    let acts : own w ≡ own v ++ (Stopped v.worker ∷ []) = own_after b v e w h.before h.after h.hold in
    let seen : has_stop (acts_of w.seen) ≡ true = ap (λ l. has_stop (acts_of l)) (seen_after b v e w h.before h.after h.hold) ∙ stop-last (log h.before) v.worker in
    let works : has_ended_by_acts (own w) ≡ false = ap has_ended_by_acts acts ∙ ended-more (own v) (Stopped v.worker) may.works in (
      record { known = known_after b v e w h.before h.after h.hold may.known; works = works; done = inl seen },
      seen,
      works,
      ap has_stop acts ∙ stop-more (own v) (Stopped v.worker) may.unstopped,
      same_seat b v e w h.before h.after h.hold,
    )

pub stopped_done :
    (b : Base) (v w : View Noted Base) → has_ended_by_acts (own v) ≡ false → has_stop (own v) ≡ true → Finishes b v endings.Ended w
    → IsSameWorker v w × AreDone (own w)
stopped_done b v w works stopped h =
    let e : Noted = End v.worker plain.Ended in
    let acts : own w ≡ own v ++ (Asked v.worker plain.Ended ∷ []) = own_after b v e w h.before h.after h.hold in (
      same_seat b v e w h.before h.after h.hold,
      record {
        ended = ap has_ended_by_acts acts ∙ ended-more (own v) (Asked v.worker plain.Ended) works;
        took = inr (ap has_stop acts ∙ stop-stays (own v) (Asked v.worker plain.Ended) stopped);
      },
    )

-- the same worker over two calls
pub same_twice : (u v w : View Noted Base) → IsSameWorker u v → IsSameWorker v w → IsSameWorker u w
same_twice u v w h k = (k.0 ∙ h.0, k.1 ∙ h.1)

-- a call that made no event leaves what a worker may do
pub no_event : (v w : View Noted Base) → Holds by v w → IsSameWorker v w × (own w ≡ own v)
no_event v w h = ((h.3.0, h.3.2), ap acts_of h.1)

-- the trail of a job is one of what was seen
pub job_trail_seen : (b : Base) (v : View Noted Base) (job : JobShown) (stop : WorkStop) → HasJob b v job → JobStops job stop → IsWorkStopSeen b v.seen stop
job_trail_seen b v job works.Memory has h = tt
job_trail_seen b v job (works.Degree t) has h =
    let by : IsTrailBy b.shared job.members (pairs_of job.pairs) t = subst (λ (sh : Shared). IsTrailBy sh job.members (pairs_of job.pairs) t) has.shared h in
    record {
      pair = by.pair;
      job = pairs_of job.pairs;
      given = has.given;
      way = trail_of_job b.shared b.budget b.workers b.update job.members (members_after b v.seen) (pairs_of job.pairs) t has.members has.had by;
    }

pub known_same : (b : Base) (v w : View Noted Base) → IsSameWorker v w → v.worker < b.workers → w.worker < b.workers
known_same b v w h k = subst (λ n. n < b.workers) (sym h.0) k

-- a worker is done after a round that ends it
pub worker_done :
    (b : Base) (x : ℕ) (u v w : View Noted Base) (ended : Bool)
    → IsFresh x u → IsSameWorker u v → RoundEnds b v w ended → ended ≡ true → HasDone x w
worker_done b x u v w ended fresh same ends is =
    let all = same_twice u v w same ends.0 in
    record {
      number = all.0 ∙ fresh.number;
      done = subst (λ (k : Bool). MatchBool k (AreDone (own w)) (IsWorking b w)) is ends.1;
      olds = all.1 ∙ fresh.olds;
    }

-- a worker that is fresh works
pub fresh_works : (b : Base) (x : ℕ) (v : View Noted Base) → IsFresh x v → x < b.workers → IsWorking b v
fresh_works b x v fresh known = record {
  known = subst (λ k. k < b.workers) (sym fresh.number) known;
  works = ap (λ (es : List Noted). has_ended_by_acts (acts_of es)) fresh.mine;
  free = ap (λ (es : List Noted). held_after [] (acts_of es)) fresh.mine;
  unstopped = ap (λ (es : List Noted). has_stop (acts_of es)) fresh.mine;
}

-- a worker works on after a round that does not end it
pub worker_goes_on :
    (b : Base) (u v w : View Noted Base) (ended : Bool)
    → IsSameWorker u v → RoundEnds b v w ended → ended ≡ false → IsSameWorker u w × IsWorking b w
worker_goes_on b u v w ended same ends is =
    (same_twice u v w same ends.0, subst (λ (k : Bool). MatchBool k (AreDone (own w)) (IsWorking b w)) is ends.1)
