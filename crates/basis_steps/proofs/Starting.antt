-- The state at the beginning, and each state that events lead to
use Rattle.std.proofs.Common.{Bool, List, None, Some, [], ap, append-nil, arith, false, get_or, inl, inr, length, refl, set, subst, suc, sym, true, zero, ℕ, ◌++◌, ◌<◌, ◌∙◌, ◌∷◌, ◌≡◌}
use Rattle.formal_sums.specs.FormalSums.{FormalSum}
use Rattle.bases.proofs.Leading.{positive}
use Rattle.basis_steps.proofs.Carrying.{carried}
use Rattle.basis_steps.proofs.Dividing.{rows_standard}
use Rattle.basis_steps.proofs.Keeping.{kept_step}
use Rattle.basis_steps.proofs.Joining.{IsJoined, begin_joined}
use Rattle.basis_steps.proofs.Making.{generators_inside, generators_made, makes_made, makes_members, makes_new_leads}
use Rattle.basis_steps.specs.Cofactors.{AreMade}
use Rattle.basis_steps.specs.Invariant.{HoldsInvariant}
use Rattle.basis_steps.specs.States.{End, Ended, Ending, Event, IsLawfulRun, Member, MoreWork, Put, Run, State, Stop, StopReason, Take, vectors}
use Rattle.basis_steps.specs.Steps.{Begins, Reaches, Replays, Step, ended_after, first_stop, generator_rows, none_ended}

none_length : (k : ℕ) → length (none_ended k) ≡ k
none_length zero = refl
none_length (suc k) = ap suc (none_length k)

first_works : (k : ℕ) → 0 < k → get_or (none_ended k) 0 true ≡ false
first_works zero h = absurd (omega arith)
first_works (suc k) h = refl

module _ {n : ℕ} (r : Run n) (ok : IsLawfulRun r) where
  pub kept_begin : (s : State n) → Begins r s → HoldsInvariant r s
  kept_begin s h = subst (HoldsInvariant r) (sym whole) (record {
    members = makes_members r.setting ok.setting [] (generator_rows 0 r.generators) s.members h.makes tt;
    combined = carried r.setting.modulus (positive r.setting ok.setting) r.generators s.members all;
    made = all;
    generators = λ i l. generators_inside r.setting ok.setting (vectors s.members) r.generators 0 i (rows_standard r.setting ok.setting [] (generator_rows 0 r.generators) s.members h.makes) l;
    new_leads = makes_new_leads r.setting ok.setting [] (generator_rows 0 r.generators) s.members h.makes tt (λ i j l m d. absurd (omega arith));
    covered = joined.covered;
    real = λ x p. joined.queue.real x (omega (arith, p));
    sorted = joined.sorted;
    once = λ x. let q = joined.queue.later x (omega arith) in omega (arith, q);
    out_taken = λ x. omega arith;
    counted = refl;
    within_budget = omega arith;
    workers = none_length r.workers;
    at_work = λ e. tt;
    somebody = λ e p. (0, ok.some, first_works r.workers ok.some);
    trail = λ way e. absurd cc;
  })
    where
      G : List (FormalSum n)
      G = vectors s.members

      all : AreMade r.setting.modulus r.generators [] s.members
      all = makes_made r.setting ok.setting r.generators [] (generator_rows 0 r.generators) s.members h.makes (generators_made r.setting ok.setting r.generators r.generators 0 (omega arith) (λ i. ap (λ j. get_or r.generators j []) (omega arith)))

      whole : s ≡ record { members = s.members; queue = s.queue; dropped = s.dropped; out = []; taken = 0; ended = none_ended r.workers; stop = None; history = [] }
      whole = λ i. record { members = s.members; queue = s.queue; dropped = s.dropped; out = h.out i; taken = h.taken i; ended = h.ended i; stop = h.stop i; history = h.history i }

      joined : IsJoined r.setting r.update 0 G [] s.queue [] s.dropped
      joined = begin_joined r.setting ok.setting G (makes_members r.setting ok.setting [] (generator_rows 0 r.generators) s.members h.makes tt) s.queue s.dropped r.update h.queues

  pub kept_runs : (s t : State n) (es : List (Event n)) → HoldsInvariant r s → Reaches r s es t → HoldsInvariant r t
  kept_runs s t [] h q = subst (HoldsInvariant r) (sym q) h
  kept_runs s t (e ∷ es) h (mid, step, rest) = kept_runs mid t es (kept_step r ok s h e mid step) rest

  -- what replays its history holds the invariant
  pub kept_replays : (s : State n) → Replays r s → HoldsInvariant r s
  kept_replays s (first, begins, runs) = kept_runs first s s.history (kept_begin first begins) runs

module _ {n : ℕ} (r : Run n) where
  -- each step appends its event
  pub step_history : (s t : State n) (e : Event n) → Step r s e t → t.history ≡ s.history ++ (e ∷ [])
  step_history s t (Take w skipped job) (most, may, inl f) = ap (λ u. u.history) f.after
  step_history s t (Take w skipped job) (most, may, inr (left, h)) = ap (λ u. u.history) h.after
  step_history s t (Put w made) (base, rows, products, h) = ap (λ u. u.history) h.after
  step_history s t (End w ending) h = ap (λ u. u.history) h.after
  step_history s t (Stop w reason) h = ap (λ u. u.history) h.after

  -- members only grow
  pub step_members : (s t : State n) (e : Event n) → Step r s e t → (made : List (Member n)) × (t.members ≡ s.members ++ made)
  step_members s t (Take w skipped job) (most, may, inl f) = ([], subst (λ m. t.members ≡ m) (sym (append-nil s.members)) (ap (λ u. u.members) f.after))
  step_members s t (Take w skipped job) (most, may, inr (left, h)) = ([], subst (λ m. t.members ≡ m) (sym (append-nil s.members)) (ap (λ u. u.members) h.after))
  step_members s t (Put w made) (base, rows, products, h) = (made, ap (λ u. u.members) h.after)
  step_members s t (End w ending) h = ([], subst (λ m. t.members ≡ m) (sym (append-nil s.members)) (ap (λ u. u.members) h.after))
  step_members s t (Stop w reason) h = ([], subst (λ m. t.members ≡ m) (sym (append-nil s.members)) (ap (λ u. u.members) h.after))

  -- the first stop stays
  pub step_stop :
      (s t : State n) (e : Event n) (reason : StopReason n)
      → Step r s e t → s.stop ≡ Some reason → t.stop ≡ Some reason
  step_stop s t (Take w skipped job) reason (most, may, inl f) k = ap (λ u. u.stop) f.after ∙ k
  step_stop s t (Take w skipped job) reason (most, may, inr (left, h)) k = absurd (let a = h.unstopped in cc)
  step_stop s t (Put w made) reason (base, rows, products, h) k = ap (λ u. u.stop) h.after ∙ k
  step_stop s t (End w ending) reason h k = ap (λ u. u.stop) h.after ∙ k
  step_stop s t (Stop w new) reason h k = ap (λ u. u.stop) h.after ∙ ap (λ o. first_stop o new) k

  -- who has ended has ended
  set_ended : (es : List Bool) (v w : ℕ) → get_or es w true ≡ true → get_or (set es v true) w true ≡ true
  set_ended [] v w h = h
  set_ended (e ∷ es) zero zero h = refl
  set_ended (e ∷ es) zero (suc w) h = h
  set_ended (e ∷ es) (suc v) zero h = h
  set_ended (e ∷ es) (suc v) (suc w) h = set_ended es v w h

  ended_more : (s : State n) (v w : ℕ) (ending : Ending) → get_or s.ended w true ≡ true → get_or (ended_after s v ending) w true ≡ true
  ended_more s v w Ended h = set_ended s.ended v w h
  ended_more s v w MoreWork h = h

  pub step_ended :
      (s t : State n) (e : Event n) (w : ℕ)
      → Step r s e t → get_or s.ended w true ≡ true → get_or t.ended w true ≡ true
  step_ended s t (Take v skipped job) w (most, may, inl f) k = ap (λ u. get_or u.ended w true) f.after ∙ k
  step_ended s t (Take v skipped job) w (most, may, inr (left, h)) k = ap (λ u. get_or u.ended w true) h.after ∙ k
  step_ended s t (Put v made) w (base, rows, products, h) k = ap (λ u. get_or u.ended w true) h.after ∙ k
  step_ended s t (End v ending) w h k = ap (λ u. get_or u.ended w true) h.after ∙ ended_more s v w ending k
  step_ended s t (Stop v reason) w h k = ap (λ u. get_or u.ended w true) h.after ∙ k

  -- one more event
  runs_more : (s t u : State n) (es : List (Event n)) (e : Event n) → Reaches r s es t → Step r t e u → Reaches r s (es ++ (e ∷ [])) u
  runs_more s t u [] e q step = (u, subst (λ v. Step r v e u) q step, refl)
  runs_more s t u (f ∷ es) e (mid, one, rest) step = (mid, one, runs_more mid t u es e rest step)

  pub replays_more : (s t : State n) (e : Event n) → Replays r s → Step r s e t → Replays r t
  replays_more s t e (first, begins, runs) step = (first, begins, subst (λ es. Reaches r first es t) (sym (step_history s t e step)) (runs_more first s t s.history e runs step))
