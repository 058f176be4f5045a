-- What is asked of the pairs that are out and of the events so far, one after another
use Rattle.std.proofs.Common.{Bool, List, Option, [], ap, arith, cond, eq-eqb, false, true, filter, get_or, inl, inr, length, map, subst, suc, sym}
use Rattle.std.proofs.Common.{take, zero, ℕ, ◌+◌, ◌++◌, ◌<◌, ◌==◌, ◌∙◌, ◌∷◌, ◌≡◌, ◌⊎◌}
use Rattle.std.proofs.lemmas.List.{take_more}
use Rattle.basis_steps.specs.States as plain
use Rattle.basis_steps.specs.States.{job_of}
use Rattle.basis_steps.specs.Histories.{HasStopped, took_since}
use Rattle.basis_core.specs.declared.event.Event.{Event}
use Rattle.pair_queue.specs.declared.out.Out.{Out}
use Rattle.basis_core.specs.declared.stop.StopReason.{StopReason}
use Rattle.basis_core.specs.Members.{MemberShown}
use Rattle.basis_core.specs.Views.{event_of, history_of, outs_of}
use Rattle.basis_core.proofs.Growing.{history_append}
use Rattle.basis_core.proofs.Room.{took_append}

-- a pair that is out with the worker
pub not_free : (w : ℕ) (out : List Out) (i : ℕ) (d : Out) → i < length out → (get_or out i d).worker ≡ w → job_of w (outs_of out) ≡ [] → ⊥
not_free w [] i d l e h = omega arith
not_free w (o ∷ out) zero d l e h = nothing some
  where
    nothing : ((o.i, o.j) ∷ job_of w (outs_of out)) ≡ [] → ⊥
    nothing e = absurd cc

    some : ((o.i, o.j) ∷ job_of w (outs_of out)) ≡ []
    some = sym (ap (λ b. map (λ (e : (ℕ × ℕ) × ℕ). e.0)
        (cond b (((o.i, o.j), o.worker) ∷ filter (λ e. e.1 == w) (outs_of out)) (filter (λ e. e.1 == w) (outs_of out)))) (eq-eqb o.worker w e)) ∙ h
not_free w (o ∷ out) (suc i) d l e h = not_free w out i d (omega arith) e (rest (o.worker == w) h)
  where
    rest : (b : Bool) → map (λ (e : (ℕ × ℕ) × ℕ). e.0)
        (cond b (((o.i, o.j), o.worker) ∷ filter (λ e. e.1 == w) (outs_of out)) (filter (λ e. e.1 == w) (outs_of out))) ≡ [] → job_of w (outs_of out) ≡ []
    rest true h = absurd cc
    rest false h = h

module _ (n : ℕ) (ms : List MemberShown) (kept : Option StopReason) (w : ℕ) where
  -- a Take or an End, or neither
  pub took_more :
      (es : List Event) (i : ℕ) (d : Event) (took after : Bool) → i < length es
      → took ≡ took_since w (history_of n ms kept (take i es)) false
      → after ≡ took_since w (history_of n ms kept (get_or es i d ∷ [])) took
      → after ≡ took_since w (history_of n ms kept (take (i + 1) es)) false
  took_more es i d took after l h e =
      e ∙ ap (took_since w (history_of n ms kept (get_or es i d ∷ []))) h
      ∙ sym (took_append w (history_of n ms kept (take i es)) (event_of n ms kept (get_or es i d)) false)
      ∙ sym (ap (λ xs. took_since w xs false) (ap (history_of n ms kept) (take_more es i d l) ∙ history_append n ms kept (take i es) (get_or es i d)))

  stopped_append : (es fs : List (plain.Event n)) → HasStopped w (es ++ fs) → HasStopped w es ⊎ HasStopped w fs
  stopped_append [] fs h = inr h
  stopped_append (plain.Take v skipped job ∷ es) fs h = stopped_append es fs h
  stopped_append (plain.Put v made ∷ es) fs h = stopped_append es fs h
  stopped_append (plain.End v ending ∷ es) fs h = stopped_append es fs h
  stopped_append (plain.Stop v reason ∷ es) fs (inl e) = inl (inl e)
  stopped_append (plain.Stop v reason ∷ es) fs (inr h) = elim (stopped_append es fs h) [ inl a ↦ inl (inr a) | inr b ↦ inr b ]

  -- no Stop among the events before, nor here
  pub not_stopped_more :
      (es : List Event) (i : ℕ) (d : Event) → i < length es
      → (HasStopped w (history_of n ms kept (take i es)) → ⊥) → (HasStopped w (history_of n ms kept (get_or es i d ∷ [])) → ⊥)
      → HasStopped w (history_of n ms kept (take (i + 1) es)) → ⊥
  not_stopped_more es i d l before here h =
      elim (stopped_append (history_of n ms kept (take i es)) (history_of n ms kept (get_or es i d ∷ []))
      (subst (HasStopped w) (ap (history_of n ms kept) (take_more es i d l) ∙ history_append n ms kept (take i es) (get_or es i d)) h))
      [ inl a ↦ before a | inr b ↦ here b ]

  more_stopped : (e : plain.Event n) (es : List (plain.Event n)) → HasStopped w es → HasStopped w (e ∷ es)
  more_stopped (plain.Take v skipped job) es h = h
  more_stopped (plain.Put v made) es h = h
  more_stopped (plain.End v ending) es h = h
  more_stopped (plain.Stop v reason) es h = inr h

  first_stopped : (e : plain.Event n) (es : List (plain.Event n)) → HasStopped w (e ∷ []) → HasStopped w (e ∷ es)
  first_stopped (plain.Take v skipped job) es h = absurd h
  first_stopped (plain.Put v made) es h = absurd h
  first_stopped (plain.End v ending) es h = absurd h
  first_stopped (plain.Stop v reason) es (inl e) = inl e
  first_stopped (plain.Stop v reason) es (inr h) = absurd h

  -- a Stop here
  pub stopped_at : (es : List Event) (i : ℕ) (d : Event) → i < length es → HasStopped w (history_of n ms kept (get_or es i d ∷ []))
      → HasStopped w (history_of n ms kept es)
  stopped_at [] i d l h = absurd (omega arith)
  stopped_at (e ∷ es) zero d l h = first_stopped (event_of n ms kept e) (history_of n ms kept es) h
  stopped_at (e ∷ es) (suc i) d l h = more_stopped (event_of n ms kept e) (history_of n ms kept es) (stopped_at es i d (omega arith) h)
