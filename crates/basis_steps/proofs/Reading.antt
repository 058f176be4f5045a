-- What a history says of each worker and of the members is so in the state that it leads to
use Rattle.std.proofs.Common.{Bool, List, [], None, Option, Some, ap, append-nil, append_assoc, arith, cond, eq-eqb, eqb-true, false, filter, get_or, inl, inr, length, map, nat_eq, not, refl, set, subst, suc, sym, true, zero, ℕ, ◌++◌, ◌<◌, ◌==◌, ◌∙◌, ◌∷◌, ◌≡◌, ◌⊎◌}
use Rattle.std.proofs.lemmas.List.{get_or-set_other}
use Rattle.basis_steps.proofs.Starting.{step_history, step_stop}
use Rattle.basis_steps.specs.Histories.{HasStopped, after, ended_by, has_ended, job_after, job_by, made_by, members_made, own_events, took_by, worker_of}
use Rattle.basis_steps.specs.Pairs.{Pair}
use Rattle.basis_steps.specs.States.{End, Ended, Event, Member, MoreWork, Put, Run, State, Stop, StopReason, Take, job_of, with_others}
use Rattle.basis_steps.specs.Trails.{HasGiven}
use Rattle.basis_steps.specs.Steps.{Reaches, Replays, ReplaysFrom, Step, first_stop, none_ended, out_with}

-- ---- own events
module _ {n : ℕ} where
  pub own-append : (w : ℕ) (xs ys : List (Event n)) → own_events w (xs ++ ys) ≡ own_events w xs ++ own_events w ys
  own-append w [] ys = refl
  own-append w (e ∷ xs) ys = go (worker_of e == w) (own-append w xs ys)
    where
      go :
          (b : Bool) → own_events w (xs ++ ys) ≡ own_events w xs ++ own_events w ys
          → cond b (e ∷ own_events w (xs ++ ys)) (own_events w (xs ++ ys)) ≡ cond b (e ∷ own_events w xs) (own_events w xs) ++ own_events w ys
      go true q = ap (λ l. e ∷ l) q
      go false q = q

  pub own_none : (w : ℕ) (e : Event n) (es : List (Event n)) → own_events w (e ∷ es) ≡ [] → ((worker_of e == w) ≡ false) × (own_events w es ≡ [])
  own_none w e es h = go (worker_of e == w) refl h
    where
      go : (b : Bool) → (worker_of e == w) ≡ b → cond b (e ∷ own_events w es) (own_events w es) ≡ [] → ((worker_of e == w) ≡ false) × (own_events w es ≡ [])
      go true d q = absurd cc
      go false d q = (d, q)

  pub made-append : (xs ys : List (Event n)) → members_made (xs ++ ys) ≡ members_made xs ++ members_made ys
  made-append [] ys = refl
  made-append (e ∷ xs) ys = ap (λ l. made_by e ++ l) (made-append xs ys) ∙ sym (append_assoc (made_by e) (members_made xs) (members_made ys))

  pub after-append : {X : Type 0} (f : Event n → X → X) (xs ys : List (Event n)) (x : X) → after f (xs ++ ys) x ≡ after f ys (after f xs x)
  after-append f [] ys x = refl
  after-append f (e ∷ xs) ys x = after-append f xs ys (f e x)

  -- what only own events change is told by them alone
  pub after_own :
      {X : Type 0} (w : ℕ) (f : Event n → X → X) → ((e : Event n) (x : X) → (worker_of e == w) ≡ false → f e x ≡ x)
      → (es : List (Event n)) (x : X) → after f (own_events w es) x ≡ after f es x
  after_own w f others [] x = refl
  after_own {X} w f others (e ∷ es) x = go (worker_of e == w) refl (after_own w f others es)
    where
      go :
          (b : Bool) → (worker_of e == w) ≡ b → ((y : X) → after f (own_events w es) y ≡ after f es y)
          → after f (cond b (e ∷ own_events w es) (own_events w es)) x ≡ after f es (f e x)
      go true d q = q (f e x)
      go false d q = q x ∙ ap (after f es) (sym (others e x d))

  pub after_none :
      {X : Type 0} (w : ℕ) (f : Event n → X → X) → ((e : Event n) (x : X) → (worker_of e == w) ≡ false → f e x ≡ x)
      → (es : List (Event n)) (x : X) → own_events w es ≡ [] → after f es x ≡ x
  after_none w f others es x h = sym (after_own w f others es x) ∙ ap (λ l. after f l x) h

  pub job_others : (w : ℕ) (e : Event n) (job : List Pair) → (worker_of e == w) ≡ false → job_by w e job ≡ job
  job_others w (Take v skipped given) job d = ap (λ b. cond b given job) d
  job_others w (Put v made) job d = ap (λ b. cond b [] job) d
  job_others w (End v ending) job d = refl
  job_others w (Stop v reason) job d = refl

  pub ended_others : (w : ℕ) (e : Event n) (b : Bool) → (worker_of e == w) ≡ false → ended_by w e b ≡ b
  ended_others w (Take v skipped given) b d = refl
  ended_others w (Put v made) b d = refl
  ended_others w (End v Ended) b d = ap (λ c. cond c true b) d
  ended_others w (End v MoreWork) b d = refl
  ended_others w (Stop v reason) b d = refl

  pub took_others : (w : ℕ) (e : Event n) (b : Bool) → (worker_of e == w) ≡ false → took_by w e b ≡ b
  took_others w (Take v skipped given) b d = ap (λ c. cond c true b) d
  took_others w (Put v made) b d = refl
  took_others w (End v ending) b d = ap (λ c. cond c false b) d
  took_others w (Stop v reason) b d = refl

  pub stopped-append : (w : ℕ) (xs ys : List (Event n)) → HasStopped w (xs ++ ys) → HasStopped w xs ⊎ HasStopped w ys
  stopped-append w [] ys h = inr h
  stopped-append w (Take v skipped job ∷ xs) ys h = stopped-append w xs ys h
  stopped-append w (Put v made ∷ xs) ys h = stopped-append w xs ys h
  stopped-append w (End v ending ∷ xs) ys h = stopped-append w xs ys h
  stopped-append w (Stop v reason ∷ xs) ys (inl e) = inl (inl e)
  stopped-append w (Stop v reason ∷ xs) ys (inr h) = elim (stopped-append w xs ys h) [ inl q ↦ inl (inr q) | inr q ↦ inr q ]

  pub stopped_front : (w : ℕ) (xs ys : List (Event n)) → HasStopped w xs → HasStopped w (xs ++ ys)
  stopped_front w [] ys h = absurd h
  stopped_front w (Take v skipped job ∷ xs) ys h = stopped_front w xs ys h
  stopped_front w (Put v made ∷ xs) ys h = stopped_front w xs ys h
  stopped_front w (End v ending ∷ xs) ys h = stopped_front w xs ys h
  stopped_front w (Stop v reason ∷ xs) ys (inl e) = inl e
  stopped_front w (Stop v reason ∷ xs) ys (inr h) = inr (stopped_front w xs ys h)

  pub stopped_own : (w : ℕ) (es : List (Event n)) → HasStopped w es → HasStopped w (own_events w es)
  stopped_own w [] h = absurd h
  stopped_own w (e ∷ es) h = go e (worker_of e == w) refl (stopped_own w es) h
    where
      go :
          (e : Event n) (b : Bool) → (worker_of e == w) ≡ b → (HasStopped w es → HasStopped w (own_events w es))
          → HasStopped w (e ∷ es) → HasStopped w (cond b (e ∷ own_events w es) (own_events w es))
      go (Take v skipped job) true d q h = q h
      go (Take v skipped job) false d q h = q h
      go (Put v made) true d q h = q h
      go (Put v made) false d q h = q h
      go (End v ending) true d q h = q h
      go (End v ending) false d q h = q h
      go (Stop v reason) true d q (inl e) = inl e
      go (Stop v reason) true d q (inr h) = inr (q h)
      go (Stop v reason) false d q (inl e) = absurd (let z : (v == w) ≡ true = eq-eqb v w e in cc)
      go (Stop v reason) false d q (inr h) = q h

-- ---- jobs
job-append : (w : ℕ) (xs ys : List (Pair × ℕ)) → job_of w (xs ++ ys) ≡ job_of w xs ++ job_of w ys
job-append w [] ys = refl
job-append w (x ∷ xs) ys = go (x.1 == w) (job-append w xs ys)
  where
    go : (b : Bool) → job_of w (xs ++ ys) ≡ job_of w xs ++ job_of w ys → map (λ e. e.0) (cond b (x ∷ filter (λ e. e.1 == w) (xs ++ ys)) (filter (λ e. e.1 == w) (xs ++ ys))) ≡ map (λ e. e.0) (cond b (x ∷ filter (λ e. e.1 == w) xs) (filter (λ e. e.1 == w) xs)) ++ job_of w ys
    go true q = ap (λ l. x.0 ∷ l) q
    go false q = q

job_given_to : (v w : ℕ) (b : Bool) → (v == w) ≡ b → (xs : List Pair) → job_of w (out_with v xs) ≡ cond b xs []
job_given_to v w true d [] = refl
job_given_to v w false d [] = refl
job_given_to v w true d (x ∷ xs) = ap (λ b. map (λ (e : Pair × ℕ). e.0) (cond b ((x, v) ∷ filter (λ e. e.1 == w) (out_with v xs)) (filter (λ e. e.1 == w) (out_with v xs)))) d ∙ ap (λ l. x ∷ l) (job_given_to v w true d xs)
job_given_to v w false d (x ∷ xs) = ap (λ b. map (λ (e : Pair × ℕ). e.0) (cond b ((x, v) ∷ filter (λ e. e.1 == w) (out_with v xs)) (filter (λ e. e.1 == w) (out_with v xs)))) d ∙ job_given_to v w false d xs

job_back : (w : ℕ) (out : List (Pair × ℕ)) → job_of w (with_others w out) ≡ []
job_back w [] = refl
job_back w (x ∷ out) = go (x.1 == w) refl (job_back w out)
  where
    go : (b : Bool) → (x.1 == w) ≡ b → job_of w (with_others w out) ≡ [] → job_of w (cond (not b) (x ∷ with_others w out) (with_others w out)) ≡ []
    go true d q = q
    go false d q = ap (λ b. map (λ (e : Pair × ℕ). e.0) (cond b (x ∷ filter (λ e. e.1 == w) (with_others w out)) (filter (λ e. e.1 == w) (with_others w out)))) d ∙ q

job_kept : (v w : ℕ) → (v == w) ≡ false → (out : List (Pair × ℕ)) → job_of w (with_others v out) ≡ job_of w out
job_kept v w d [] = refl
job_kept v w d (x ∷ out) = go (x.1 == v) (x.1 == w) refl refl (job_kept v w d out)
  where
    both : (x.1 == v) ≡ true → (x.1 == w) ≡ true → ⊥
    both p q = let e : (v == w) ≡ true = eq-eqb v w (sym (eqb-true x.1 v p) ∙ eqb-true x.1 w q) in cc

    one : (b : Bool) → (x.1 == w) ≡ b → (l : List (Pair × ℕ)) → job_of w (x ∷ l) ≡ map (λ e. e.0) (cond b (x ∷ filter (λ e. e.1 == w) l) (filter (λ e. e.1 == w) l))
    one b q l = ap (λ c. map (λ (e : Pair × ℕ). e.0) (cond c (x ∷ filter (λ e. e.1 == w) l) (filter (λ e. e.1 == w) l))) q

    go :
        (a b : Bool) → (x.1 == v) ≡ a → (x.1 == w) ≡ b → job_of w (with_others v out) ≡ job_of w out
        → job_of w (cond (not a) (x ∷ with_others v out) (with_others v out)) ≡ map (λ e. e.0) (cond b (x ∷ filter (λ e. e.1 == w) out) (filter (λ e. e.1 == w) out))
    go true true p q h = absurd (both p q)
    go true false p q h = h
    go false true p q h = one true q (with_others v out) ∙ ap (λ l. x.0 ∷ l) h
    go false false p q h = one false q (with_others v out) ∙ h

-- the job behind some events is the one before them, or given by one of them
later_given : {n : ℕ} (e : Event n) (es : List (Event n)) (job : List Pair) → HasGiven es job → HasGiven (e ∷ es) job
later_given e es job h = record { worker = h.worker; skipped = h.skipped; there = (suc h.there.0, omega (arith, h.there.1), h.there.2) }

given_by :
    {n : ℕ} (w : ℕ) (es : List (Event n)) (job : List Pair)
    → 0 < length (job_after w es job) → (job_after w es job ≡ job) ⊎ HasGiven es (job_after w es job)
given_by w [] job some = inl refl
given_by {n} w (e ∷ es) job some = go (given_by w es (job_by w e job) some)
  where
    here : (e : Event n) (after : List Pair) → 0 < length after → after ≡ job_by w e job → (after ≡ job) ⊎ HasGiven (e ∷ es) after
    here (Take v skipped given) after some q = by (nat_eq v w) q
      where
        by : (b : Bool) → after ≡ cond b given job → (after ≡ job) ⊎ HasGiven (Take v skipped given ∷ es) after
        by true p = inr (record { worker = v; skipped = skipped; there = (zero, omega arith, ap (λ l. Take v skipped l) (sym p)) })
        by false p = inl p
    here (Put v made) after some q = by (nat_eq v w) q
      where
        by : (b : Bool) → after ≡ cond b [] job → (after ≡ job) ⊎ HasGiven (Put v made ∷ es) after
        by true p = absurd (let z : length after ≡ 0 = ap length p in omega (arith, z, some))
        by false p = inl p
    here (End v ending) after some q = inl q
    here (Stop v reason) after some q = inl q

    go :
        (job_after w es (job_by w e job) ≡ job_by w e job) ⊎ HasGiven es (job_after w es (job_by w e job))
        → (job_after w (e ∷ es) job ≡ job) ⊎ HasGiven (e ∷ es) (job_after w (e ∷ es) job)
    go (inl q) = here e (job_after w es (job_by w e job)) some q
    go (inr h) = inr (later_given e es (job_after w es (job_by w e job)) h)

-- ---- one step
module _ {n : ℕ} (r : Run n) (w : ℕ) where
  pub step_job : (s t : State n) (e : Event n) → Step r s e t → job_of w t.out ≡ job_by w e (job_of w s.out)
  step_job s t (Take v skipped job) (most, may, inl f) = ap (λ u. job_of w u.out) f.after ∙ go (v == w) refl
    where
      go : (b : Bool) → (v == w) ≡ b → job_of w s.out ≡ cond b job (job_of w s.out)
      go true d = ap (λ u. job_of u s.out) (sym (eqb-true v w d)) ∙ may.free ∙ sym f.gives_none
      go false d = refl
  step_job s t (Take v skipped job) (most, may, inr (left, h)) =
      ap (λ u. job_of w u.out) h.after ∙ job-append w s.out (out_with v job) ∙ go (v == w) refl
    where
      go : (b : Bool) → (v == w) ≡ b → job_of w s.out ++ job_of w (out_with v job) ≡ cond b job (job_of w s.out)
      go true d = ap (λ l. l ++ job_of w (out_with v job)) (ap (λ u. job_of u s.out) (sym (eqb-true v w d)) ∙ may.free) ∙ job_given_to v w true d job
      go false d = ap (λ l. job_of w s.out ++ l) (job_given_to v w false d job) ∙ append-nil (job_of w s.out)
  step_job s t (Put v made) (base, rows, products, h) = ap (λ u. job_of w u.out) h.after ∙ go (v == w) refl
    where
      go : (b : Bool) → (v == w) ≡ b → job_of w (with_others v s.out) ≡ cond b [] (job_of w s.out)
      go true d = ap (λ u. job_of w (with_others u s.out)) (eqb-true v w d) ∙ job_back w s.out
      go false d = job_kept v w d s.out
  step_job s t (End v ending) h = ap (λ u. job_of w u.out) h.after
  step_job s t (Stop v reason) h = ap (λ u. job_of w u.out) h.after

  set_same : (es : List Bool) (v : ℕ) → get_or (set es v true) v true ≡ true
  set_same [] v = refl
  set_same (e ∷ es) zero = refl
  set_same (e ∷ es) (suc v) = set_same es v

  pub step_has_ended : (s t : State n) (e : Event n) → Step r s e t → get_or t.ended w true ≡ ended_by w e (get_or s.ended w true)
  step_has_ended s t (Take v skipped job) (most, may, inl f) = ap (λ u. get_or u.ended w true) f.after
  step_has_ended s t (Take v skipped job) (most, may, inr (left, h)) = ap (λ u. get_or u.ended w true) h.after
  step_has_ended s t (Put v made) (base, rows, products, h) = ap (λ u. get_or u.ended w true) h.after
  step_has_ended s t (End v MoreWork) h = ap (λ u. get_or u.ended w true) h.after
  step_has_ended s t (End v Ended) h = ap (λ u. get_or u.ended w true) h.after ∙ go (v == w) refl
    where
      go : (b : Bool) → (v == w) ≡ b → get_or (set s.ended v true) w true ≡ cond b true (get_or s.ended w true)
      go true d = ap (λ u. get_or (set s.ended v true) u true) (sym (eqb-true v w d)) ∙ set_same s.ended v
      go false d = get_or-set_other s.ended v w true true (λ q. let z : (v == w) ≡ true = eq-eqb v w (sym q) in cc)
  step_has_ended s t (Stop v reason) h = ap (λ u. get_or u.ended w true) h.after

module _ {n : ℕ} (r : Run n) where
  pub step_made : (s t : State n) (e : Event n) → Step r s e t → t.members ≡ s.members ++ made_by e
  step_made s t (Take v skipped job) (most, may, inl f) = ap (λ u. u.members) f.after ∙ sym (append-nil s.members)
  step_made s t (Take v skipped job) (most, may, inr (left, h)) = ap (λ u. u.members) h.after ∙ sym (append-nil s.members)
  step_made s t (Put v made) (base, rows, products, h) = ap (λ u. u.members) h.after
  step_made s t (End v ending) h = ap (λ u. u.members) h.after ∙ sym (append-nil s.members)
  step_made s t (Stop v reason) h = ap (λ u. u.members) h.after ∙ sym (append-nil s.members)

  -- ---- lists of events
  pub reaches_history : (s t : State n) (es : List (Event n)) → Reaches r s es t → t.history ≡ s.history ++ es
  reaches_history s t [] q = ap (λ u. u.history) q ∙ sym (append-nil s.history)
  reaches_history s t (e ∷ es) (mid, step, rest) =
      reaches_history mid t es rest ∙ ap (λ l. l ++ es) (step_history r s mid e step) ∙ append_assoc s.history (e ∷ []) es

  pub reaches_made : (s t : State n) (es : List (Event n)) → Reaches r s es t → t.members ≡ s.members ++ members_made es
  reaches_made s t [] q = ap (λ u. u.members) q ∙ sym (append-nil s.members)
  reaches_made s t (e ∷ es) (mid, step, rest) =
      reaches_made mid t es rest ∙ ap (λ l. l ++ members_made es) (step_made s mid e step) ∙ append_assoc s.members (made_by e) (members_made es)

  pub reaches_job : (w : ℕ) (s t : State n) (es : List (Event n)) → Reaches r s es t → job_of w t.out ≡ job_after w es (job_of w s.out)
  reaches_job w s t [] q = ap (λ u. job_of w u.out) q
  reaches_job w s t (e ∷ es) (mid, step, rest) = reaches_job w mid t es rest ∙ ap (job_after w es) (step_job r w s mid e step)

  pub reaches_ended : (w : ℕ) (s t : State n) (es : List (Event n)) → Reaches r s es t → get_or t.ended w true ≡ has_ended w es (get_or s.ended w true)
  reaches_ended w s t [] q = ap (λ u. get_or u.ended w true) q
  reaches_ended w s t (e ∷ es) (mid, step, rest) = reaches_ended w mid t es rest ∙ ap (has_ended w es) (step_has_ended r w s mid e step)

  pub reaches_stop :
      (s t : State n) (es : List (Event n)) (reason : StopReason n)
      → Reaches r s es t → s.stop ≡ Some reason → t.stop ≡ Some reason
  reaches_stop s t [] reason q k = ap (λ u. u.stop) q ∙ k
  reaches_stop s t (e ∷ es) reason (mid, step, rest) k = reaches_stop mid t es reason rest (step_stop r s mid e reason step k)

  -- a stop that is not there in the end was never there
  pub reaches_unstopped : (s t : State n) (es : List (Event n)) → Reaches r s es t → t.stop ≡ None → s.stop ≡ None
  reaches_unstopped s t es q none = go s.stop refl
    where
      go : (o : Option (StopReason n)) → s.stop ≡ o → s.stop ≡ None
      go None d = d
      go (Some reason) d = absurd (let k = reaches_stop s t es reason q d in cc)

  -- a stop is kept behind each Stop
  pub reaches_stopped : (w : ℕ) (s t : State n) (es : List (Event n)) → Reaches r s es t → HasStopped w es → t.stop ≡ None → ⊥
  reaches_stopped w s t [] q h none = absurd h
  reaches_stopped w s t (e ∷ es) (mid, step, rest) h none = go e step (λ q. reaches_stopped w mid t es rest q none) h
    where
      kept : (o : Option (StopReason n)) (reason : StopReason n) → first_stop o reason ≡ None → ⊥
      kept None reason d = cc
      kept (Some k) reason d = cc

      go : (e : Event n) → Step r s e mid → (HasStopped w es → ⊥) → HasStopped w (e ∷ es) → ⊥
      go (Take v skipped job) step q h = q h
      go (Put v made) step q h = q h
      go (End v ending) step q h = q h
      go (Stop v reason) step q (inr h) = q h
      go (Stop v reason) step q (inl d) = kept s.stop reason (sym (ap (λ u. u.stop) step.after) ∙ reaches_unstopped mid t es rest none)

  -- ---- replayed states
  pub first_works : (k w : ℕ) → w < k → get_or (none_ended k) w true ≡ false
  first_works zero w h = absurd (omega arith)
  first_works (suc k) zero h = refl
  first_works (suc k) (suc w) h = first_works k w (omega arith)

  pub replays_job : (s : State n) (w : ℕ) → Replays r s → job_of w s.out ≡ job_after w s.history []
  replays_job s w (first, begins, runs) = reaches_job w first s s.history runs ∙ ap (λ o. job_after w s.history (job_of w o)) begins.out

  pub replays_ended : (s : State n) (w : ℕ) → Replays r s → w < r.workers → get_or s.ended w true ≡ has_ended w s.history false
  replays_ended s w (first, begins, runs) known =
      reaches_ended w first s s.history runs ∙ ap (has_ended w s.history) (ap (λ l. get_or l w true) begins.ended ∙ first_works r.workers w known)

  pub replays_stopped : (s : State n) (w : ℕ) → Replays r s → HasStopped w s.history → s.stop ≡ None → ⊥
  replays_stopped s w (first, begins, runs) h none = reaches_stopped w first s s.history runs h none

  pub from_members : (begun : List (Member n)) (s : State n) → ReplaysFrom r begun s → s.members ≡ begun ++ members_made s.history
  from_members begun s (first, begins, same, runs) = reaches_made first s s.history runs ∙ ap (λ l. l ++ members_made s.history) same

  -- a job that is out is one that a Take gave
  pub replays_given : (s : State n) (w : ℕ) → Replays r s → 0 < length (job_of w s.out) → HasGiven s.history (job_of w s.out)
  replays_given s w h some =
      let e : job_of w s.out ≡ job_after w s.history [] = replays_job s w h in
      subst (HasGiven s.history) (sym e) (out_of (given_by w s.history [] (omega (arith, ap length e, some))))
    where
      out_of : (job_after w s.history [] ≡ []) ⊎ HasGiven s.history (job_after w s.history []) → HasGiven s.history (job_after w s.history [])
      out_of (inl none) = absurd (let z : length (job_of w s.out) ≡ 0 = ap length (replays_job s w h ∙ none) in omega (arith, z, some))
      out_of (inr g) = g
