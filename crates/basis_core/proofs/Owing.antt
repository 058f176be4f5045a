-- An outcome that waits to be handed in, over the events of others
use Rattle.std.proofs.Common.{Bool, List, [], ap, cond, eq-eqb, eqb-true, false, filter, get_or, get_or-set_other, length, map, not, refl, subst, sym}
use Rattle.std.proofs.Common.{take, true, ℕ, ◌++◌, ◌<◌, ◌==◌, ◌∙◌, ◌∷◌, ◌≡◌, ◌≤◌, inl, inr}
use Rattle.std.proofs.lemmas.List.{take-append-le, length-append}
use Rattle.std.proofs.Common.{arith, append-nil}
use Rattle.basis_steps.specs.Pairs.{Pair}
use Rattle.basis_steps.specs.States as plain
use Rattle.basis_steps.specs.States.{job_of, with_others}
use Rattle.basis_steps.specs.Steps.{Ends, MayTake, Stops, ended_after, out_with}
use Rattle.basis_core.specs.declared.taken.Taken.{Taken}
use Rattle.basis_core.specs.declared.taken.Taken.TheVariants as taken
use Rattle.basis_core.specs.Answers.{AnswersTake, IsTaken, PutsOutcome, pairs_given}
use Rattle.basis_core.specs.Jobs.{pairs_of}
use Rattle.basis_core.specs.Members.{MemberShown}
use Rattle.basis_core.specs.Outcomes.{OutcomeShown}
use Rattle.basis_core.specs.Pending.{HaveGrown, MayPutOutcome}
use Rattle.basis_core.specs.Shown.{Shown}
use Rattle.basis_core.specs.Views.{IsSameRun, run_of, state_of, variables_of}

-- two numbers that differ, by their test
pub differ : (v w : ℕ) → (v ≡ w → ⊥) → (v == w) ≡ false
differ v w h = go (v == w) refl
  where
    go : (b : Bool) → (v == w) ≡ b → b ≡ false
    go true e = absurd (h (eqb-true v w e))
    go false e = refl

pub job_append : (w : ℕ) (xs ys : List (Pair × ℕ)) → job_of w (xs ++ ys) ≡ job_of w xs ++ job_of w ys
job_append w [] ys = refl
job_append w (x ∷ xs) ys = go (x.1 == w) (job_append w xs ys)
  where
    go : (b : Bool) → job_of w (xs ++ ys) ≡ job_of w xs ++ job_of w ys
        → map (λ e. e.0) (cond b (x ∷ filter (λ e. e.1 == w) (xs ++ ys)) (filter (λ e. e.1 == w) (xs ++ ys)))
        ≡ map (λ e. e.0) (cond b (x ∷ filter (λ e. e.1 == w) xs) (filter (λ e. e.1 == w) xs)) ++ job_of w ys
    go true h = ap (λ l. x.0 ∷ l) h
    go false h = h

-- the worker has all that goes out with it
pub job_with : (w : ℕ) (xs : List Pair) → job_of w (out_with w xs) ≡ xs
job_with w [] = refl
job_with w (x ∷ xs) =
    ap (λ b. map (λ e. e.0) (cond b ((x, w) ∷ filter (λ e. e.1 == w) (out_with w xs)) (filter (λ e. e.1 == w) (out_with w xs)))) (eq-eqb w w refl)
    ∙ ap (λ l. x ∷ l) (job_with w xs)

-- and nothing of what goes out with another
pub job_without : (v w : ℕ) → (v ≡ w → ⊥) → (xs : List Pair) → job_of w (out_with v xs) ≡ []
job_without v w h [] = refl
job_without v w h (x ∷ xs) =
    ap (λ b. map (λ e. e.0) (cond b ((x, v) ∷ filter (λ e. e.1 == w) (out_with v xs)) (filter (λ e. e.1 == w) (out_with v xs)))) (differ v w h)
    ∙ job_without v w h xs

-- what others have out stays as one worker's job comes back
pub job_others : (v w : ℕ) → (v ≡ w → ⊥) → (out : List (Pair × ℕ)) → job_of w (with_others v out) ≡ job_of w out
job_others v w h [] = refl
job_others v w h (e ∷ out) = go (e.1 == v) refl (e.1 == w) refl (job_others v w h out)
  where
    go : (b : Bool) → (e.1 == v) ≡ b → (c : Bool) → (e.1 == w) ≡ c → job_of w (with_others v out) ≡ job_of w out
        → job_of w (cond (not b) (e ∷ with_others v out) (with_others v out))
        ≡ map (λ e. e.0) (cond c (e ∷ filter (λ e. e.1 == w) out) (filter (λ e. e.1 == w) out))
    go true p true q t = absurd (h (sym (eqb-true e.1 v p) ∙ eqb-true e.1 w q))
    go true p false q t = t
    go false p c q t = ap (λ d. map (λ e. e.0)
        (cond d (e ∷ filter (λ e. e.1 == w) (with_others v out)) (filter (λ e. e.1 == w) (with_others v out)))) q ∙ more c t
      where
        more : (c : Bool) → job_of w (with_others v out) ≡ job_of w out
            → map (λ e. e.0) (cond c (e ∷ filter (λ e. e.1 == w) (with_others v out)) (filter (λ e. e.1 == w) (with_others v out)))
            ≡ map (λ e. e.0) (cond c (e ∷ filter (λ e. e.1 == w) out) (filter (λ e. e.1 == w) out))
        more true t = ap (λ l. e.0 ∷ l) t
        more false t = t

-- the outcome still may be handed in where its worker has the same out and works, and members were only added
pub still_owed :
    (s t : Shown) (o : OutcomeShown) → IsSameRun s t → HaveGrown s.members t.members
    → job_of o.job.worker t.out ≡ job_of o.job.worker s.out
    → get_or t.ended o.job.worker true ≡ get_or s.ended o.job.worker true
    → MayPutOutcome s o → MayPutOutcome t o
still_owed s t o same (made, grown) out works may = record {
  known = subst (λ k. o.job.worker < k) (sym same.workers) may.known;
  works = works ∙ may.works;
  out = record {
    shared = may.out.shared ∙ sym same.shared;
    out = out ∙ may.out.out;
    had = subst (λ ms. length o.job.members ≤ length ms) (sym grown) (omega (arith, may.out.had, length-append s.members made));
    members = may.out.members ∙ sym (take-append-le (length o.job.members) s.members made may.out.had) ∙ ap (λ ms. take (length o.job.members) ms) (sym grown);
  };
}

-- the same members
no_more : (old new : List MemberShown) → new ≡ old → HaveGrown old new
no_more old new e = ([], e ∙ sym (append-nil old))

pub owed_over_take :
    (s t : Shown) (w most : ℕ) (answer : Taken) (o : OutcomeShown)
    → IsTaken (variables_of s) s w most answer t → IsSameRun s t → t.members ≡ s.members
    → (w ≡ o.job.worker → ⊥) → MayPutOutcome s o → MayPutOutcome t o
owed_over_take s t w most answer o (skipped, added, inl found) same grown other may =
    still_owed s t o same (no_more s.members t.members grown) (ap (λ z. job_of o.job.worker z.out) found.after)
    (ap (λ z. get_or z.ended o.job.worker true) found.after) may
owed_over_take s t w most answer o (skipped, added, inr (left, takes)) same grown other may =
    still_owed s t o same (no_more s.members t.members grown) out (ap (λ z. get_or z.ended o.job.worker true) takes.after) may
  where
    out : job_of o.job.worker t.out ≡ job_of o.job.worker s.out
    out =
        ap (λ z. job_of o.job.worker z.out) takes.after
        ∙ job_append o.job.worker s.out (out_with w (pairs_given answer))
        ∙ ap (λ l. job_of o.job.worker s.out ++ l) (job_without w o.job.worker other (pairs_given answer))
        ∙ append-nil (job_of o.job.worker s.out)

pub owed_over_put :
    (s t : Shown) (given o : OutcomeShown) (made : List MemberShown)
    → PutsOutcome (variables_of s) s given made t → IsSameRun s t
    → (given.job.worker ≡ o.job.worker → ⊥) → MayPutOutcome s o → MayPutOutcome t o
owed_over_put s t given o made put same other may =
    still_owed s t o same (made, put.members) (ap (λ z. job_of o.job.worker z.out) (put.puts).after ∙ job_others given.job.worker o.job.worker other s.out)
    (ap (λ z. get_or z.ended o.job.worker true) (put.puts).after) may

pub owed_over_end :
    (s t : Shown) (w : ℕ) (ending : plain.Ending) (o : OutcomeShown)
    → Ends (run_of (variables_of s) s) (state_of (variables_of s) s) w ending (state_of (variables_of s) t) → IsSameRun s t → t.members ≡ s.members
    → (w ≡ o.job.worker → ⊥) → MayPutOutcome s o → MayPutOutcome t o
owed_over_end s t w ending o ends same grown other may =
    still_owed s t o same (no_more s.members t.members grown) (ap (λ z. job_of o.job.worker z.out) ends.after)
    (ap (λ z. get_or z.ended o.job.worker true) ends.after ∙ works ending) may
  where
    works : (e : plain.Ending) → get_or (ended_after (state_of (variables_of s) s) w e) o.job.worker true ≡ get_or s.ended o.job.worker true
    works plain.Ended = get_or-set_other s.ended w o.job.worker true true (λ e. other (sym e))
    works plain.MoreWork = refl

pub owed_over_stop :
    (s t : Shown) (w : ℕ) (reason : plain.StopReason (variables_of s)) (o : OutcomeShown)
    → Stops (run_of (variables_of s) s) (state_of (variables_of s) s) w reason (state_of (variables_of s) t) → IsSameRun s t → t.members ≡ s.members
    → MayPutOutcome s o → MayPutOutcome t o
owed_over_stop s t w reason o stops same grown may =
    still_owed s t o same (no_more s.members t.members grown) (ap (λ z. job_of o.job.worker z.out) stops.after)
    (ap (λ z. get_or z.ended o.job.worker true) stops.after) may

all_of : {A : Type 0} (xs : List A) → take (length xs) xs ≡ xs
all_of [] = refl
all_of (x ∷ xs) = ap (λ l. x ∷ l) (all_of xs)

-- a job that was given may come back
pub owed_by_take :
    (s t : Shown) (w most : ℕ) (answer : Taken) (o : OutcomeShown)
    → MayTake (run_of (variables_of s) s) (state_of (variables_of s) s) w most → IsTaken (variables_of s) s w most answer t → IsSameRun s t
    → AnswersTake w t answer → answer ≡ taken.Job o.job → MayPutOutcome t o
owed_by_take s t w most answer o may took same answers given = go took (subst (AnswersTake w t) given answers)
  where
    pairs : pairs_given answer ≡ pairs_of o.job.pairs
    pairs = ap pairs_given given

    owed : (o.job.worker ≡ w) → (o.job.shared ≡ t.shared) → (o.job.members ≡ t.members) → job_of w t.out ≡ pairs_of o.job.pairs
        → get_or t.ended w true ≡ get_or s.ended w true → MayPutOutcome t o
    owed mine shared members out ended = record {
      known = subst (λ v. v < t.workers) (sym mine) (subst (λ k. w < k) (sym same.workers) may.known);
      works = ap (λ v. get_or t.ended v true) mine ∙ ended ∙ may.works;
      out = record {
        shared = shared;
        out = ap (λ v. job_of v t.out) mine ∙ out;
        had = subst (λ ms. length o.job.members ≤ length ms) members (omega arith);
        members = sym (all_of o.job.members) ∙ ap (λ ms. take (length o.job.members) ms) members;
      };
    }

    go : IsTaken (variables_of s) s w most answer t → AnswersTake w t (taken.Job o.job) → MayPutOutcome t o
    go (skipped, added, inl found) (stop, mine, shared, members) =
        owed mine shared members (ap (λ z. job_of w z.out) found.after ∙ may.free ∙ sym found.gives_none ∙ pairs) (ap (λ z. get_or z.ended w true) found.after)
    go (skipped, added, inr (left, takes)) (stop, mine, shared, members) =
        owed mine shared members
        (ap (λ z. job_of w z.out) takes.after ∙ job_append w s.out (out_with w (pairs_given answer))
        ∙ ap (λ l. l ++ job_of w (out_with w (pairs_given answer))) may.free ∙ job_with w (pairs_given answer) ∙ pairs)
        (ap (λ z. get_or z.ended w true) takes.after)
