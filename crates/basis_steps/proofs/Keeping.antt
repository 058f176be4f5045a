-- Each event keeps the invariant
use Rattle.std.proofs.Common.{Bool, Contains, List, [], None, Option, Some, ap, append-nil, append_assoc, arith, cond, drop, eq-eqb, false, filter, get_or, inl, inr, length, length-append, map, nat_eq, not, refl, set, subst, suc, sym, take, true, zero, ℕ, ◌++◌, ◌+◌, ◌<◌, ◌==◌, ◌∙◌, ◌∷◌, ◌≡◌, ◌≤◌, ◌⊎◌}
use Rattle.std.proofs.Common.{Less}
use Rattle.std.proofs.lemmas.Bool.{cases_lt}
use Rattle.std.proofs.lemmas.List.{get_or-set_other, length-set, length-take, take-append-drop}
use Rattle.monomials.specs.Exponents.{unit}
use Rattle.formal_sums.proofs.WeightedSums.{Each_append}
use Rattle.formal_sums.specs.Combinations.{IsMember}
use Rattle.formal_sums.specs.FormalSums.{Each, FormalSum}
use Rattle.bases.proofs.Leading.{positive}
use Rattle.bases.specs.Leads.{leads}
use Rattle.bases.specs.Settings.{Setting}
use Rattle.basis_steps.proofs.Carrying.{carried, made_append}
use Rattle.basis_steps.proofs.Counting.{count-append, count-split, count_out_with, count_workers, pairs_out-append}
use Rattle.basis_steps.proofs.Joining.{IsJoined, put_joined, take_covered}
use Rattle.basis_steps.proofs.Growing.{leads_front, length-vectors, vectors-append}
use Rattle.basis_steps.proofs.Making.{makes_made, makes_members, makes_new_leads, module_more, rows_made}
use Rattle.basis_steps.specs.Cofactors.{AreMade, IsMade}
use Rattle.basis_steps.specs.Criteria.{IsPair, Skips}
use Rattle.basis_steps.specs.Divisions.{IsMonicMember, MakesMembers}
use Rattle.basis_steps.specs.Invariant.{HasNewLeads, HoldsInvariant}
use Rattle.basis_steps.proofs.JobProducts.{job_product_at}
use Rattle.basis_steps.specs.Outcomes.{AreJobProducts, IsOutcome}
use Rattle.basis_steps.specs.Pairs.{Pair, count}
use Rattle.basis_steps.specs.Queues.{IsSorted, compare_pairs, share}
use Rattle.basis_steps.specs.States.{Degree, End, Ended, Ending, Event, IsLawfulRun, Member, MoreWork, Pairs, Product, Put, Run, State, Stop, StopReason, Take, Trail, job_given, job_of, pairs_out, pairs_taken, vectors, with_others}
use Rattle.basis_steps.specs.Steps.{Ends, FindsStop, MayTake, Puts, Step, Stops, Takes, ended_after, end_answer_of, first_stop, is_empty, is_stopped, out_with, stop_of_take}
use Rattle.basis_steps.specs.Trails.{HasGiven, IsInJob, IsInPut, IsHistoryTrail, IsJobTrail}

taken-append : {n : ℕ} (es : List (Event n)) (e : Event n) → pairs_taken (es ++ (e ∷ [])) ≡ pairs_taken es ++ job_given e
taken-append [] e = append-nil (job_given e)
taken-append (f ∷ es) e = ap (λ x. job_given f ++ x) (taken-append es e) ∙ sym (append_assoc (job_given f) (pairs_taken es) (job_given e))

-- an event without a job
taken_same : {n : ℕ} (es : List (Event n)) (e : Event n) → job_given e ≡ [] → pairs_taken (es ++ (e ∷ [])) ≡ pairs_taken es
taken_same es e h = taken-append es e ∙ ap (λ x. pairs_taken es ++ x) h ∙ append-nil (pairs_taken es)

-- what is left after the skips was queued
skips_less :
    {n : ℕ} (S : Setting n) (G : List (FormalSum n)) (out : List (Pair × ℕ)) (queue skipped left : List Pair)
    → Skips S G out queue skipped left → (x : Pair) → count x left ≤ count x queue
skips_less S G out queue [] left d x = omega (arith, ap (count x) d)
skips_less S G out queue (y ∷ skipped) left (front, back, e, none, applies, rest) x =
    omega (arith, skips_less S G out (front ++ back) skipped left rest x, ap (count x) e, count-append x front (y ∷ back), count-append x front back)

-- a part of a sorted queue
each_without : (P : Pair → Type 0) (front back : List Pair) (x : Pair) → Each P (front ++ (x ∷ back)) → Each P (front ++ back)
each_without P [] back x h = h.1
each_without P (y ∷ front) back x h = (h.0, each_without P front back x h.1)

sorted_without :
    {n : ℕ} (S : Setting n) (G : List (FormalSum n)) (front back : List Pair) (x : Pair)
    → IsSorted S G (front ++ (x ∷ back)) → IsSorted S G (front ++ back)
sorted_without S G [] back x h = h.1
sorted_without S G (y ∷ front) back x h = (each_without (λ z. compare_pairs S G y z ≡ Less) front back x h.0, sorted_without S G front back x h.1)

sorted_skips :
    {n : ℕ} (S : Setting n) (G : List (FormalSum n)) (out : List (Pair × ℕ)) (queue skipped left : List Pair)
    → Skips S G out queue skipped left → IsSorted S G queue → IsSorted S G left
sorted_skips S G out queue [] left d h = subst (IsSorted S G) (sym d) h
sorted_skips S G out queue (y ∷ skipped) left (front, back, e, none, applies, rest) h = sorted_skips S G out (front ++ back) skipped left rest (sorted_without S G front back y (subst (IsSorted S G) e h))

sorted_drop : {n : ℕ} (S : Setting n) (G : List (FormalSum n)) (k : ℕ) (xs : List Pair) → IsSorted S G xs → IsSorted S G (drop k xs)
sorted_drop S G zero xs h = h
sorted_drop S G (suc k) [] h = tt
sorted_drop S G (suc k) (x ∷ xs) h = sorted_drop S G k xs h.1

out_with_each : (P : Pair × ℕ → Type 0) (w : ℕ) → ((x : Pair) → P (x, w)) → (xs : List Pair) → Each P (out_with w xs)
out_with_each P w h [] = tt
out_with_each P w h (x ∷ xs) = (h x, out_with_each P w h xs)

others_each : (P : Pair × ℕ → Type 0) (w : ℕ) (out : List (Pair × ℕ)) → Each P out → Each P (with_others w out)
others_each P w [] h = tt
others_each P w (e ∷ out) h = go (e.1 == w) (others_each P w out h.1)
  where
    go : (c : Bool) → Each P (with_others w out) → Each P (cond (not c) (e ∷ with_others w out) (with_others w out))
    go true r = r
    go false r = (h.0, r)

-- a worker with nothing out
none_of : (w : ℕ) (out : List (Pair × ℕ)) → job_of w out ≡ [] → Each (λ e. e.1 ≡ w → ⊥) out
none_of w [] h = tt
none_of w (e ∷ out) h = go (e.1 == w) refl h (none_of w out)
  where
    go : (c : Bool) → (e.1 == w) ≡ c → map (λ (e : Pair × ℕ). e.0) (cond c (e ∷ filter (λ e. e.1 == w) out) (filter (λ e. e.1 == w) out)) ≡ [] → (job_of w out ≡ [] → Each (λ e. e.1 ≡ w → ⊥) out) → Each (λ e. e.1 ≡ w → ⊥) (e ∷ out)
    go true d q f = absurd (cc)
    go false d q f = (λ s. absurd (let z : (e.1 == w) ≡ true = eq-eqb e.1 w s in cc), f q)

out_keeps :
    (w : ℕ) (ended : List Bool) (out : List (Pair × ℕ)) → Each (λ e. e.1 ≡ w → ⊥) out
    → Each (λ e. get_or ended e.1 true ≡ false) out → Each (λ e. get_or (set ended w true) e.1 true ≡ false) out
out_keeps w ended [] h g = tt
out_keeps w ended (e ∷ out) h g = (get_or-set_other ended w e.1 true true h.0 ∙ g.0, out_keeps w ended out h.1 g.1)

-- the first k stay the first k
pub take_front : {A : Type 0} (k : ℕ) (xs ys : List A) → k ≤ length xs → take k (xs ++ ys) ≡ take k xs
take_front zero xs ys h = refl
take_front (suc k) [] ys h = absurd (omega arith)
take_front (suc k) (x ∷ xs) ys h = ap (λ l. x ∷ l) (take_front k xs ys (omega arith))

-- what is there is there with more
contains_more : {X : Type 0} (xs ys : List X) (x : X) → Contains xs x → Contains (xs ++ ys) x
contains_more [] ys x (i, lt, e) = absurd (omega arith)
contains_more (y ∷ xs) ys x (zero, lt, e) = (zero, omega arith, e)
contains_more (y ∷ xs) ys x (suc i, lt, e) = let r = contains_more xs ys x (i, omega arith, e) in (suc r.0, omega (arith, r.1), r.2)

-- an item that is there has an index
pub contained_at : {X : Type 0} (xs : List X) (x d : X) → Contains xs x → (i : ℕ) × (i < length xs) × (get_or xs i d ≡ x)
contained_at [] x d (i, lt, e) = absurd (omega arith)
contained_at (y ∷ xs) x d (zero, lt, e) = (zero, omega arith, e)
contained_at (y ∷ xs) x d (suc i, lt, e) = let r = contained_at xs x d (i, omega arith, e) in (suc r.0, omega (arith, r.1), r.2)

-- a job of some events is one of more
pub given_more : {n : ℕ} (es more : List (Event n)) (job : List Pair) → HasGiven es job → HasGiven (es ++ more) job
given_more es more job h = record { worker = h.worker; skipped = h.skipped; there = contains_more es more (Take h.worker h.skipped job) h.there }

-- a trail of a job stays one as members are added
pub trail_of_more :
    {n : ℕ} (r : Run n) (G N : List (FormalSum n)) (job : List Pair) (way : Trail n)
    → IsJobTrail r G job way → IsJobTrail r (G ++ N) job way
trail_of_more {n} r G N job way h = record {
  start = h.start;
  place = elim h.place [ inl q ↦ inl (in_job q) | inr q ↦ inr (in_put q) ];
  pair = h.pair;
  products = h.products;
  monomial = h.monomial;
  above = h.above;
}
  where
    in_job : IsInJob G way → IsInJob (G ++ N) way
    in_job q = record {
      base = q.base;
      had = omega (arith, q.had, length-append G N);
      members = q.members ∙ sym (take_front q.base G N q.had);
    }

    in_put : IsInPut r G job way → IsInPut r (G ++ N) job way
    in_put q =
        let same : take q.first (G ++ N) ≡ take q.first G = take_front q.first G N q.had in
        record {
          base = q.base;
          rows = q.rows;
          products = q.products;
          outcome = subst (λ l. IsOutcome r.setting l job q.rows q.products) (sym (take_front q.base G N (omega (arith, q.after, q.had)))) q.outcome;
          first = q.first;
          after = q.after;
          had = omega (arith, q.had, length-append G N);
          failed = q.failed;
          within = q.within;
          made = q.made;
          makes = subst (λ l. MakesMembers r.setting l (take q.failed q.rows) q.made) (sym same) q.makes;
          members = q.members ∙ ap (λ l. l ++ vectors q.made) (sym same);
          division = q.division;
          reached = q.reached;
        }

-- a trail stays one as members and events are added
pub trail_more :
    {n : ℕ} (r : Run n) (G N : List (FormalSum n)) (es more : List (Event n)) (way : Trail n)
    → IsHistoryTrail r G es way → IsHistoryTrail r (G ++ N) (es ++ more) way
trail_more r G N es more way h = record { job = h.job; given = given_more es more h.job h.given; way = trail_of_more r G N h.job way h.way }

-- the same with more events alone
pub trail_events :
    {n : ℕ} (r : Run n) (G : List (FormalSum n)) (es more : List (Event n)) (way : Trail n)
    → IsHistoryTrail r G es way → IsHistoryTrail r G (es ++ more) way
trail_events r G es more way h = subst (λ l. IsHistoryTrail r l (es ++ more) way) (append-nil G) (trail_more r G [] es more way h)

-- each product of a job is of a member
pub known_products :
    {n : ℕ} (p : ℕ) (G : List (FormalSum n)) (job : List Pair) (products : List (Product n))
    → AreJobProducts p G job products → (t : Product n) → Contains products t → t.0 < length G
known_products {n} p G job products h t c =
    let e = contained_at products t (0, unit n) c in
    subst (λ u. u.0 < length G) e.2 (job_product_at p G job products h e.0 e.1).0

module _ {n : ℕ} (r : Run n) (ok : IsLawfulRun r) (s : State n) (inv : HoldsInvariant r s) where
  -- an event that only the history shows
  kept_note : (e : Event n) → job_given e ≡ [] → HoldsInvariant r (record s { history = s.history ++ (e ∷ []) })
  kept_note e h =
      let same = taken_same s.history e h in
      record {
        members = inv.members;
        combined = inv.combined;
        made = inv.made;
        generators = inv.generators;
        new_leads = inv.new_leads;
        covered = inv.covered;
        real = λ x p. inv.real x (subst (λ l. 0 < count x s.queue + count x l) same p);
        sorted = inv.sorted;
        once = λ x. omega (arith, inv.once x, ap (count x) same);
        out_taken = λ x. omega (arith, inv.out_taken x, ap (count x) same);
        counted = inv.counted ∙ ap length (sym same);
        within_budget = inv.within_budget;
        workers = inv.workers;
        at_work = inv.at_work;
        somebody = inv.somebody;
        trail = λ way q. trail_events r (vectors s.members) s.history (e ∷ []) way (inv.trail way q);
      }

  pub kept_stopped : (w : ℕ) (skipped job : List Pair) (t : State n) → FindsStop s w skipped job t → HoldsInvariant r t
  kept_stopped w skipped job t f = subst (HoldsInvariant r) (sym f.after) (kept_note (Take w skipped job) f.gives_none)

  pub kept_take :
      (w most : ℕ) (skipped job left : List Pair) (t : State n)
      → MayTake r s w most → Takes r s w most skipped job left t → HoldsInvariant r t
  kept_take w most skipped job left t may h =
      let S = r.setting in
      let G = vectors s.members in
      let k = share r G s.taken most left in
      let same = taken-append s.history (Take w skipped job) in
      let less : (x : Pair) → count x left ≤ count x s.queue = skips_less S G s.out s.queue skipped left h.skips in
      let split : (x : Pair) → count x job + count x (drop k left) ≡ count x left = λ x. ap (λ j. count x j + count x (drop k left)) h.gives ∙ count-split x k left in
      let given : (x : Pair) → count x (pairs_taken (s.history ++ (Take w skipped job ∷ []))) ≡ count x (pairs_taken s.history) + count x job = λ x. ap (count x) same ∙ count-append x (pairs_taken s.history) job in
      let outside : (x : Pair) → count x (pairs_out (s.out ++ out_with w job)) ≡ count x (pairs_out s.out) + count x job =
      λ x. ap (count x) (pairs_out-append s.out (out_with w job)) ∙ count-append x (pairs_out s.out) (pairs_out (out_with w job)) ∙ ap (λ z. count x (pairs_out s.out) + z) (count_out_with x w job) in
      let long : length job ≡ length (take k left) = ap length h.gives in
      subst (HoldsInvariant r) (sym h.after) (record {
        members = inv.members;
        combined = inv.combined;
        made = inv.made;
        generators = inv.generators;
        new_leads = inv.new_leads;
        covered = take_covered S ok.setting G inv.members s.out s.queue skipped left s.dropped w k job h.gives h.skips (λ x p. inv.real x (omega arith)) r.update h.skips_none inv.covered;
        real = λ x p. inv.real x (omega (arith, less x, split x, given x));
        sorted = sorted_drop S G k left (sorted_skips S G s.out s.queue skipped left h.skips inv.sorted);
        once = λ x. omega (arith, inv.once x, less x, split x, given x);
        out_taken = λ x. omega (arith, inv.out_taken x, outside x, given x);
        counted = omega (arith, inv.counted, ap length same, length-append (pairs_taken s.history) job);
        within_budget = omega (arith, inv.within_budget, length-take k left);
        workers = inv.workers;
        at_work = λ e. Each_append (λ e. get_or s.ended e.1 true ≡ false) s.out (out_with w job) (inv.at_work h.unstopped) (out_with_each (λ e. get_or s.ended e.1 true ≡ false) w (λ x. may.works) job);
        somebody = λ e p. (w, may.known, may.works);
        trail = λ way e. absurd (no_degree left s.taken way e);
      })
    where
      no_degree : (left : List Pair) (taken : ℕ) (way : Trail n) → stop_of_take r taken left ≡ Some (Degree way) → ⊥
      no_degree [] taken way e = cc
      no_degree (x ∷ left) taken way e = go (nat_eq taken r.budget) e
        where
          go : (b : Bool) → ◌≡◌ {A = Option (StopReason n)} (cond b (Some Pairs) None) (Some (Degree way)) → ⊥
          go true e = cc
          go false e = cc

  pub kept_put :
      (w base : ℕ) (rows : List (Member n)) (products : List (Product n)) (made : List (Member n)) (t : State n)
      → Puts r s w base rows products made t → HoldsInvariant r t
  kept_put w base rows products made t h =
      let S = r.setting in
      let G = s.members in
      let V = vectors s.members in
      let o = h.may.outcome in
      let vs = vectors-append G made in
      let same = taken_same s.history (Put w made) refl in
      let all : AreMade S.modulus r.generators [] (G ++ made) =
      made_append S.modulus r.generators [] G made inv.made
      (makes_made S ok.setting r.generators V rows made h.makes
      (subst (λ l. Each (IsMade S.modulus r.generators l) rows) (take-append-drop base V)
      (rows_made S ok.setting r.generators (take base V) (drop base V) rows products (known_products S.modulus (take base V) (job_of w s.out) products o.job_products) o.sums))) in
      subst (HoldsInvariant r) (sym h.after) (record {
        members = subst (Each (IsMonicMember S)) (sym vs) (makes_members S ok.setting V rows made h.makes inv.members);
        combined = carried S.modulus (positive S ok.setting) r.generators (G ++ made) all;
        made = all;
        generators = λ i l. subst (λ v. IsMember S.modulus v (get_or r.generators i [])) (sym vs) (module_more S ok.setting V (vectors made) (get_or r.generators i []) (inv.generators i l));
        new_leads = subst HasNewLeads (sym vs) (makes_new_leads S ok.setting V rows made h.makes inv.members inv.new_leads);
        covered = joined.covered;
        real = λ x p. real x (cases_lt 0 (count x h.queue)) (subst (λ l. 0 < count x h.queue + count x l) same p);
        sorted = joined.sorted;
        once = λ x. once x (cases_lt x.1 (length s.members));
        out_taken = λ x. omega (arith, inv.out_taken x, ap (count x) same, count_workers x w s.out);
        counted = inv.counted ∙ ap length (sym same);
        within_budget = inv.within_budget;
        workers = inv.workers;
        at_work = λ e. others_each (λ e. get_or s.ended e.1 true ≡ false) w s.out (inv.at_work e);
        somebody = λ e p. (w, h.may.known, h.may.works);
        trail = λ way e. subst (λ l. IsHistoryTrail r l (s.history ++ (Put w made ∷ [])) way) (sym vs) (trail_more r V (vectors made) s.history (Put w made ∷ []) way (inv.trail way e));
      })
    where
      H : List (FormalSum n)
      H = vectors (s.members ++ made)

      longer : length H ≡ length s.members + length made
      longer = length-vectors (s.members ++ made) ∙ length-append s.members made

      grown : (x : Pair) → IsPair (vectors s.members) x → IsPair H x
      grown x p =
          let front : (i : ℕ) → i < length s.members → leads H i ≡ leads (vectors s.members) i = λ i q. ap (λ v. leads v i) (vectors-append s.members made) ∙ leads_front (vectors s.members) (vectors made) i (omega (arith, length-vectors s.members)) in
          let old = length-vectors s.members in
          record {
            ordered = p.ordered;
            within = omega (arith, p.within, longer);
            position = ap (λ k. k.0) (front x.0 (omega (arith, p.ordered, p.within))) ∙ p.position ∙ ap (λ k. k.0) (sym (front x.1 (omega (arith, p.within))));
          }

      before : (x : Pair) → 0 < count x s.queue → IsPair H x × (x.1 < length s.members)
      before x p = let q = inv.real x (omega (arith, p)) in (grown x q, let l = q.within in omega (arith, l, length-vectors s.members))

      joined : IsJoined r.setting r.update (length s.members) H s.queue h.queue (with_others w s.out) h.dropped
      joined = put_joined r.setting ok.setting s.members rows made base h.makes s.queue h.queue s.out w h.may.outcome.pairs h.may.outcome.represented s.dropped h.dropped
          (subst (Each (IsMonicMember r.setting)) (sym (vectors-append s.members made)) (makes_members r.setting ok.setting (vectors s.members) rows made h.makes inv.members))
          before r.update h.queues inv.covered

      real : (x : Pair) → (0 < count x h.queue) ⊎ (count x h.queue ≤ 0) → 0 < count x h.queue + count x (pairs_taken s.history) → IsPair H x
      real x (inl q) p = joined.queue.real x q
      real x (inr z) p = grown x (inv.real x (omega (arith, z, p)))

      -- a new pair was not taken
      fresh : (x : Pair) → length s.members ≤ x.1 → count x (pairs_taken s.history) ≡ 0
      fresh x l = elim (cases_lt 0 (count x (pairs_taken s.history))) [
        | inl p ↦ absurd (let q = inv.real x (omega (arith, p)) in omega (arith, q.within, l, length-vectors s.members))
        | inr z ↦ omega arith
      ]

      once : (x : Pair) → (x.1 < length s.members) ⊎ (length s.members ≤ x.1) → count x h.queue + count x (pairs_taken (s.history ++ (Put w made ∷ []))) ≤ 1
      once x (inl l) = omega (arith, joined.queue.earlier x l, inv.once x, ap (count x) (taken_same s.history (Put w made) refl))
      once x (inr l) = omega (arith, joined.queue.later x l, fresh x l, ap (count x) (taken_same s.history (Put w made) refl))

  pub kept_end : (w : ℕ) (ending : Ending) (t : State n) → Ends r s w ending t → HoldsInvariant r t
  kept_end w ending t h = subst (HoldsInvariant r) (sym h.after) (go ending h.answers)
    where
      go : (e : Ending) → e ≡ end_answer_of s → HoldsInvariant r (record s { ended = ended_after s w e; history = s.history ++ (End w e ∷ []) })
      go MoreWork a = kept_note (End w MoreWork) refl
      go Ended a =
          let k = kept_note (End w Ended) refl in
          record {
            members = k.members;
            combined = k.combined;
            made = k.made;
            generators = k.generators;
            new_leads = k.new_leads;
            covered = k.covered;
            real = k.real;
            sorted = k.sorted;
            once = k.once;
            out_taken = k.out_taken;
            counted = k.counted;
            within_budget = k.within_budget;
            workers = length-set s.ended w true ∙ inv.workers;
            at_work = λ e. out_keeps w s.ended s.out (none_of w s.out (h.may.done e).0) (inv.at_work e);
            somebody = λ e p. absurd (nothing s.queue s.stop e a p);
            trail = k.trail;
          }
        where
          nothing : (q : List Pair) (o : Option (StopReason n)) → o ≡ None → Ended ≡ cond (is_stopped o) Ended (cond (is_empty q) Ended MoreWork) → 0 < length q → ⊥
          nothing q (Some r) e a p = cc
          nothing [] None e a p = omega arith
          nothing (x ∷ q) None e a p = cc

  pub kept_stop : (w : ℕ) (reason : StopReason n) (t : State n) → Stops r s w reason t → HoldsInvariant r t
  kept_stop w reason t h =
      let k = kept_note (Stop w reason) refl in
      subst (HoldsInvariant r) (sym h.after) (record {
        members = k.members;
        combined = k.combined;
        made = k.made;
        generators = k.generators;
        new_leads = k.new_leads;
        covered = k.covered;
        real = k.real;
        sorted = k.sorted;
        once = k.once;
        out_taken = k.out_taken;
        counted = k.counted;
        within_budget = k.within_budget;
        workers = k.workers;
        at_work = λ e. absurd (never s.stop e);
        somebody = λ e p. absurd (never s.stop e);
        trail = λ way e. kept s.stop refl way e;
      })
    where
      never : (o : Option (StopReason n)) → first_stop o reason ≡ None → ⊥
      never None e = cc
      never (Some q) e = cc

      some : (p q : StopReason n) → ◌≡◌ {A = Option (StopReason n)} (Some p) (Some q) → p ≡ q
      some p q e = cc

      kept :
          (o : Option (StopReason n)) → s.stop ≡ o → (way : Trail n) → first_stop o reason ≡ Some (Degree way)
          → IsHistoryTrail r (vectors s.members) (s.history ++ (Stop w reason ∷ [])) way
      kept None d way e = trail_events r (vectors s.members) s.history (Stop w reason ∷ []) way (h.may.trail way (some reason (Degree way) e))
      kept (Some q) d way e = trail_events r (vectors s.members) s.history (Stop w reason ∷ []) way (inv.trail way (d ∙ e))

  pub kept_step : (e : Event n) (t : State n) → Step r s e t → HoldsInvariant r t
  kept_step (Take w skipped job) t (most, may, inl f) = kept_stopped w skipped job t f
  kept_step (Take w skipped job) t (most, may, inr (left, h)) = kept_take w most skipped job left t may h
  kept_step (Put w made) t (base, rows, products, h) = kept_put w base rows products made t h
  kept_step (End w ending) t h = kept_end w ending t h
  kept_step (Stop w reason) t h = kept_stop w reason t h
