-- The room of the history: how many Ends and Stops may still come, before and after each event
use Rattle.std.proofs.Common.{Bool, List, None, Option, Some, [], ap, ap₂, arith, cond, eq-eqb, eqb-true, false, get_or, get_or-set_other, inl, inr}
use Rattle.std.proofs.Common.{nat_eq, not, refl, set, suc, sym, true, zero, ℕ, ◌&&◌, ◌*◌, ◌++◌, ◌+◌, ◌<◌, ◌∙◌, ◌∷◌, ◌≡◌, ◌≤◌}
use Rattle.std.proofs.lemmas.Bool.{eqb-false}
use Rattle.basis_steps.specs.States.{End, Ended, Ending, Event, Member, MoreWork, Product, Put, Run, State, Stop, StopReason, Take}
use Rattle.basis_steps.specs.Histories.{HasStopped, took_since}
use Rattle.basis_steps.specs.Steps.{Ends, Puts, Stops, end_answer_of, is_empty, ended_after, is_stopped}
use Rattle.basis_core.specs.Inside.{all_left, events_left, has_stopped}

pub took_append : {n : ℕ} (w : ℕ) (es : List (Event n)) (e : Event n) (b : Bool) → took_since w (es ++ (e ∷ [])) b ≡ took_since w (e ∷ []) (took_since w es b)
took_append w [] e b = refl
took_append w (Take v skipped job ∷ es) e b = took_append w es e (cond (nat_eq v w) true b)
took_append w (Put v made ∷ es) e b = took_append w es e b
took_append w (End v ending ∷ es) e b = took_append w es e (cond (nat_eq v w) false b)
took_append w (Stop v reason ∷ es) e b = took_append w es e b

-- an event that is no Stop of worker w
stopped_other : {n : ℕ} (w : ℕ) (es : List (Event n)) (e : Event n) → has_stopped w (e ∷ []) ≡ false → has_stopped w (es ++ (e ∷ [])) ≡ has_stopped w es
stopped_other w [] e h = h
stopped_other w (Take v skipped job ∷ es) e h = stopped_other w es e h
stopped_other w (Put v made ∷ es) e h = stopped_other w es e h
stopped_other w (End v ending ∷ es) e h = stopped_other w es e h
stopped_other w (Stop v reason ∷ es) e h = ap (λ b. cond (nat_eq v w) true b) (stopped_other w es e h)

cond_true : (b : Bool) → cond b true true ≡ true
cond_true true = refl
cond_true false = refl

-- a Stop of worker w
stopped_here : {n : ℕ} (w : ℕ) (es : List (Event n)) (reason : StopReason n) → has_stopped w (es ++ (Stop w reason ∷ [])) ≡ true
stopped_here w [] reason = ap (λ b. cond b true false) (eq-eqb w w refl)
stopped_here w (Take v skipped job ∷ es) reason = stopped_here w es reason
stopped_here w (Put v made ∷ es) reason = stopped_here w es reason
stopped_here w (End v ending ∷ es) reason = stopped_here w es reason
stopped_here w (Stop v other ∷ es) reason = ap (λ b. cond (nat_eq v w) true b) (stopped_here w es reason) ∙ cond_true (nat_eq v w)

-- the test says no where worker w has not stopped
not_stopped : {n : ℕ} (w : ℕ) (es : List (Event n)) → (HasStopped w es → ⊥) → has_stopped w es ≡ false
not_stopped w [] h = refl
not_stopped w (Take v skipped job ∷ es) h = not_stopped w es h
not_stopped w (Put v made ∷ es) h = not_stopped w es h
not_stopped w (End v ending ∷ es) h = not_stopped w es h
not_stopped {n} w (Stop v reason ∷ es) h = go (nat_eq v w) refl (not_stopped w es (λ k. h (inr k)))
  where
    go : (b : Bool) → nat_eq v w ≡ b → has_stopped w es ≡ false → cond b true (has_stopped w es) ≡ false
    go true d rest = absurd (h (inl (eqb-true v w d)))
    go false d rest = rest

-- the events that may come, by who has ended, who took and who has stopped
abbrev left_by : Bool → Bool → Bool → ℕ
left_by ended took stopped = cond ended 0 1 + (cond (not ended && took) 1 0 + cond stopped 0 1)

few_left : (a b c : Bool) → left_by a b c ≤ 3
few_left true true true = omega arith
few_left true true false = omega arith
few_left true false true = omega arith
few_left true false false = omega arith
few_left false true true = omega arith
few_left false true false = omega arith
few_left false false true = omega arith
few_left false false false = omega arith

ended_fewer : (b now c : Bool) → suc (left_by true now c) ≤ left_by false b c
ended_fewer true now true = omega arith
ended_fewer true now false = omega arith
ended_fewer false now true = omega arith
ended_fewer false now false = omega arith

told_fewer : (c : Bool) → suc (left_by false false c) ≤ left_by false true c
told_fewer true = omega arith
told_fewer false = omega arith

stopped_fewer : (a b : Bool) → suc (left_by a b true) ≤ left_by a b false
stopped_fewer true true = omega arith
stopped_fewer true false = omega arith
stopped_fewer false true = omega arith
stopped_fewer false false = omega arith

ended_set : (es : List Bool) (w : ℕ) → get_or (set es w true) w true ≡ true
ended_set [] w = refl
ended_set (e ∷ es) zero = refl
ended_set (e ∷ es) (suc w) = ended_set es w

not_same : (v w : ℕ) → (v ≡ w → ⊥) → nat_eq w v ≡ false
not_same v w h = go (nat_eq w v) refl
  where
    go : (b : Bool) → nat_eq w v ≡ b → nat_eq w v ≡ false
    go true d = absurd (h (sym (eqb-true w v d)))
    go false d = d

module _ {n : ℕ} where
  left_is :
      (s : State n) (w : ℕ) (a b c : Bool)
      → get_or s.ended w true ≡ a → took_since w s.history false ≡ b → has_stopped w s.history ≡ c → events_left s w ≡ left_by a b c
  left_is s w a b c ea eb ec = λ i. left_by (ea i) (eb i) (ec i)

  same_left :
      (s t : State n) (w : ℕ)
      → get_or t.ended w true ≡ get_or s.ended w true → took_since w t.history false ≡ took_since w s.history false
      → has_stopped w t.history ≡ has_stopped w s.history → events_left t w ≡ events_left s w
  same_left s t w ea eb ec = λ i. left_by (ea i) (eb i) (ec i)

  all_same : (s t : State n) (k : ℕ) → ((v : ℕ) → events_left t v ≡ events_left s v) → all_left t k ≡ all_left s k
  all_same s t zero h = refl
  all_same s t (suc k) h = ap₂ ◌+◌ (h k) (all_same s t k h)

  all_same_below : (s t : State n) (k w : ℕ) → k ≤ w → ((v : ℕ) → (v ≡ w → ⊥) → events_left t v ≡ events_left s v) → all_left t k ≡ all_left s k
  all_same_below s t zero w l h = refl
  all_same_below s t (suc k) w l h = ap₂ ◌+◌ (h k (λ e. omega arith)) (all_same_below s t k w (omega arith) h)

  all_fewer :
      (s t : State n) (k w : ℕ)
      → w < k → suc (events_left t w) ≤ events_left s w → ((v : ℕ) → (v ≡ w → ⊥) → events_left t v ≡ events_left s v)
      → suc (all_left t k) ≤ all_left s k
  all_fewer s t zero w l h same = absurd (omega arith)
  all_fewer s t (suc k) w l h same = go (nat_eq k w) refl (λ below. all_fewer s t k w below h same)
    where
      go : (b : Bool) → nat_eq k w ≡ b → (w < k → suc (all_left t k) ≤ all_left s k) → suc (all_left t (suc k)) ≤ all_left s (suc k)
      go true d rest =
          let e : k ≡ w = eqb-true k w d in
          let now : events_left t k ≡ events_left t w = ap (events_left t) e in
          let before : events_left s k ≡ events_left s w = ap (events_left s) e in
          let others : all_left t k ≡ all_left s k = all_same_below s t k w (omega arith) same in
          omega (arith, now, before, others, h)
      go false d rest =
          let other : k ≡ w → ⊥ = eqb-false k w d in
          let one : events_left t k ≡ events_left s k = same k other in
          let below : w < k = grind (arith, other) in
          omega (arith, one, rest below)

  -- at most three events of each worker
  pub room_bound : (s : State n) (k : ℕ) → all_left s k ≤ 3 * k
  room_bound s zero = omega arith
  room_bound s (suc k) = omega (arith, few_left (get_or s.ended k true) (took_since k s.history false) (has_stopped k s.history), room_bound s k)

  all_some : (s : State n) (k w : ℕ) → w < k → 0 < events_left s w → 0 < all_left s k
  all_some s zero w l h = absurd (omega arith)
  all_some s (suc k) w l h = go (nat_eq k w) refl (all_some s k w)
    where
      go : (b : Bool) → nat_eq k w ≡ b → (w < k → 0 < events_left s w → 0 < all_left s k) → 0 < all_left s (suc k)
      go true d rest = let one : events_left s k ≡ events_left s w = ap (events_left s) (eqb-true k w d) in omega (arith, one, h)
      go false d rest = let other : k ≡ w → ⊥ = eqb-false k w d in let below : w < k = grind (arith, other) in omega (arith, rest below h)

  -- there is a place for who has not ended
  pub room_to_end : (s : State n) (k w : ℕ) → w < k → get_or s.ended w true ≡ false → 0 < all_left s k
  room_to_end s k w l works =
      let one : events_left s w ≡ left_by false (took_since w s.history false) (has_stopped w s.history) =
      left_is s w false (took_since w s.history false) (has_stopped w s.history) works refl refl in
      all_some s k w l (omega (arith, one))

  -- and for who has not stopped
  pub room_to_stop : (s : State n) (k w : ℕ) → w < k → (HasStopped w s.history → ⊥) → 0 < all_left s k
  room_to_stop s k w l first =
      let one : events_left s w ≡ left_by (get_or s.ended w true) (took_since w s.history false) false =
      left_is s w (get_or s.ended w true) (took_since w s.history false) false refl refl (not_stopped w s.history first) in
      all_some s k w l (omega (arith, one, stopped_fewer (get_or s.ended w true) (took_since w s.history false)))

  -- no stop is kept where there is more work
  more_unstopped : (s : State n) → MoreWork ≡ end_answer_of s → s.stop ≡ None
  more_unstopped s e = go s.stop refl e
    where
      go : (o : Option (StopReason n)) → s.stop ≡ o → MoreWork ≡ cond (is_stopped o) Ended (cond (is_empty s.queue) Ended MoreWork) → s.stop ≡ None
      go None d e = d
      go (Some reason) d e = absurd cc

  -- what another event of w leaves to the others
  other_left :
      (s t : State n) (v w : ℕ) (e : Event n)
      → get_or t.ended v true ≡ get_or s.ended v true → t.history ≡ s.history ++ (e ∷ [])
      → took_since v (e ∷ []) (took_since v s.history false) ≡ took_since v s.history false → has_stopped v (e ∷ []) ≡ false
      → events_left t v ≡ events_left s v
  other_left s t v w e ended history took stopped = same_left s t v ended
      (ap (λ es. took_since v es false) history ∙ took_append v s.history e false ∙ took)
      (ap (has_stopped v) history ∙ stopped_other v s.history e stopped)

  -- an End takes one of them
  pub room_after_end : (r : Run n) (s t : State n) (w : ℕ) (ending : Ending) → Ends r s w ending t → suc (all_left t r.workers) ≤ all_left s r.workers
  room_after_end r s t w ending h = all_fewer s t r.workers w h.may.known (here ending h.answers h.after) others
    where
      history : t.history ≡ s.history ++ (End w ending ∷ [])
      history = ap (λ u. u.history) h.after

      ended_other : (v : ℕ) (answer : Ending) → (v ≡ w → ⊥) → t.ended ≡ ended_after s w answer → get_or t.ended v true ≡ get_or s.ended v true
      ended_other v Ended ne e = ap (λ es. get_or es v true) e ∙ get_or-set_other s.ended w v true true ne
      ended_other v MoreWork ne e = ap (λ es. get_or es v true) e

      others : (v : ℕ) → (v ≡ w → ⊥) → events_left t v ≡ events_left s v
      others v ne = other_left s t v w (End w ending) (ended_other v ending ne (ap (λ u. u.ended) h.after)) history
          (ap (λ b. cond b false (took_since v s.history false)) (not_same v w ne)) refl

      here : (answer : Ending) → answer ≡ end_answer_of s → t ≡ record s { ended = ended_after s w answer; history = s.history ++ (End w answer ∷ []) }
          → suc (events_left t w) ≤ events_left s w
      here Ended a e =
          let now : events_left t w ≡ left_by true (took_since w t.history false) (has_stopped w s.history) =
          left_is t w true (took_since w t.history false) (has_stopped w s.history) (ap (λ u. get_or u.ended w true) e ∙ ended_set s.ended w) refl
          (ap (λ u. has_stopped w u.history) e ∙ stopped_other w s.history (End w Ended) refl) in
          let before : events_left s w ≡ left_by false (took_since w s.history false) (has_stopped w s.history) =
          left_is s w false (took_since w s.history false) (has_stopped w s.history) h.may.works refl refl in
          omega (arith, now, before, ended_fewer (took_since w s.history false) (took_since w t.history false) (has_stopped w s.history))
      here MoreWork a e =
          let took : took_since w t.history false ≡ false =
          ap (λ u. took_since w u.history false) e ∙ took_append w s.history (End w MoreWork) false
          ∙ ap (λ b. cond b false (took_since w s.history false)) (eq-eqb w w refl) in
          let now : events_left t w ≡ left_by false false (has_stopped w s.history) =
          left_is t w false false (has_stopped w s.history) (ap (λ u. get_or u.ended w true) e ∙ h.may.works) took
          (ap (λ u. has_stopped w u.history) e ∙ stopped_other w s.history (End w MoreWork) refl) in
          let before : events_left s w ≡ left_by false true (has_stopped w s.history) =
          left_is s w false true (has_stopped w s.history) h.may.works ((h.may.done (more_unstopped s a)).1) refl in
          omega (arith, now, before, told_fewer (has_stopped w s.history))

  -- and so does a Stop
  pub room_after_stop : (r : Run n) (s t : State n) (w : ℕ) (reason : StopReason n) → Stops r s w reason t → suc (all_left t r.workers) ≤ all_left s r.workers
  room_after_stop r s t w reason h = all_fewer s t r.workers w h.may.known here others
    where
      history : t.history ≡ s.history ++ (Stop w reason ∷ [])
      history = ap (λ u. u.history) h.after

      ended : t.ended ≡ s.ended
      ended = ap (λ u. u.ended) h.after

      others : (v : ℕ) → (v ≡ w → ⊥) → events_left t v ≡ events_left s v
      others v ne = other_left s t v w (Stop w reason) (ap (λ es. get_or es v true) ended) history refl (ap (λ b. cond b true false) (not_same v w ne))

      here : suc (events_left t w) ≤ events_left s w
      here =
          let now : events_left t w ≡ left_by (get_or s.ended w true) (took_since w s.history false) true =
          left_is t w (get_or s.ended w true) (took_since w s.history false) true (ap (λ es. get_or es w true) ended)
          (ap (λ es. took_since w es false) history ∙ took_append w s.history (Stop w reason) false)
          (ap (has_stopped w) history ∙ stopped_here w s.history reason) in
          let before : events_left s w ≡ left_by (get_or s.ended w true) (took_since w s.history false) false =
          left_is s w (get_or s.ended w true) (took_since w s.history false) false refl refl (not_stopped w s.history h.may.first) in
          omega (arith, now, before, stopped_fewer (get_or s.ended w true) (took_since w s.history false))

  -- a Put takes none
  pub room_after_put :
      (r : Run n) (s t : State n) (w base : ℕ) (rows : List (Member n)) (products : List (Product n)) (made : List (Member n))
      → Puts r s w base rows products made t → all_left t r.workers ≡ all_left s r.workers
  room_after_put r s t w base rows products made h = all_same s t r.workers
      (λ v. other_left s t v w (Put w made) (ap (λ u. get_or u.ended v true) h.after) (ap (λ u. u.history) h.after) refl refl)
