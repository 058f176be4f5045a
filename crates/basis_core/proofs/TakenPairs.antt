-- A state after a Take
use Rattle.std.proofs.Common.{Global, List, None, Option, Some, Vec, [], ap, arith, drop, false, inl, inr, length, length-append, refl, subst, suc}
use Rattle.std.proofs.Common.{sym, take, true, vec_capacity, zero, ℕ, ◌*◌, ◌++◌, ◌+◌, ◌<◌, ◌∙◌, ◌∷◌, ◌≡◌, ◌≤◌}
use Rattle.std.specs.Option.{is_some}
use Rattle.std.specs.Prelude.{MatchOption, ⊤}
use Rattle.formal_sums.specs.FormalSums.{Each, FormalSum}
use Rattle.residues.specs.Residues.{IsDomain}
use Rattle.term_lists.proofs.Parts.{Each_take}
use Rattle.pair_criteria.specs.declared.pair.Pair.{Pair as CodePair}
use Rattle.queue_updates.specs.declared.Update.TheVariants.{Gebauer, Plain}
use Rattle.basis_steps.proofs.Taking.{job_given_out}
use Rattle.basis_steps.specs.Criteria.{IsPair, NoCriterionApplies, Skips, waiting}
use Rattle.basis_steps.specs.Pairs.{Drop, Pair}
use Rattle.basis_steps.specs.Queues.{share}
use Rattle.basis_steps.specs.States as plain
use Rattle.basis_steps.specs.States.{vectors}
use Rattle.basis_steps.specs.Steps as steps
use Rattle.pair_updates.proofs.PairLists.{pairs_drop, pairs_length, pairs_take}
use Rattle.pair_updates.specs.Leads.{LeadsShown, setting_of_leads as setting_by, sums_shown}
use Rattle.pair_updates.specs.Pairs.{IsRealPair}
use Rattle.pair_queue.specs.Shown.{IsJobGiven, PairsShown}
use Rattle.pair_queue.specs.declared.given.Given.{Given}
use Rattle.basis_core.specs.declared.event.Event.{Event}
use Rattle.basis_core.specs.declared.event.Event.TheVariants.{Take}
use Rattle.basis_core.specs.declared.state.BasisState.TheInside.{Inside}
use Rattle.basis_core.specs.declared.stop.StopReason.{StopReason}
use Rattle.basis_core.specs.declared.stop.StopReason.TheVariants as reasons
use Rattle.basis_core.specs.Inside.{IsCoherentState, IsEventRead, IsStopOver, shown}
use Rattle.basis_core.specs.Jobs.{HasLcmOfMembers, IsJobOver, pairs_of}
use Rattle.basis_core.specs.Leads.{leads_shown_of}
use Rattle.basis_core.specs.Members.{members_of, setting_of}
use Rattle.basis_core.specs.Shown.{Shown}
use Rattle.basis_core.specs.Stops.{reason_of, stop_of}
use Rattle.basis_core.specs.Views.{history_of, run_of, state_of, variables_of}
use Rattle.basis_core.proofs.Growing.{StaysKept, first_kept, history_same_members, read_more, stays}
use Rattle.basis_core.proofs.KnownByLeads.{lcms_known, none_known, pairs_known, share_known, skips_known}
use Rattle.basis_core.proofs.Replaying.{lawful_run, replayed_holds, replays_after}
use Rattle.basis_core.proofs.Room.{room_bound}

-- worker w may take
abbrev pub MayTake : ℕ → ℕ → Shown → Type 0
MayTake w most s = steps.MayTake (run_of (variables_of s) s) (state_of (variables_of s) s) w most

-- the members' vectors
abbrev pub vectors_inside : (i : Inside) → List (FormalSum (variables_of (shown i)))
vectors_inside i = vectors (members_of (variables_of (shown i)) i.members.list)

-- what a Take found: the pairs that it skipped and those left, of which the first go out
pub record IsFound (i : Inside) (w most : ℕ) (g : Given) (q : PairsShown) (stop : Option StopReason) : Type 0 where
  pub may : MayTake w most (shown i)
  pub none : i.stop ≡ None
  pub left : List CodePair
  pub skips : Skips (setting_of (variables_of (shown i)) i.members.shared) (vectors_inside i) i.pairs.out (pairs_of i.pairs.queue) g.skipped.items
      (pairs_of left)
  pub spared : i.pairs.update ≡ Plain → NoCriterionApplies (setting_of (variables_of (shown i)) i.members.shared) (vectors_inside i) (waiting (pairs_of left) i.pairs.out)
      (pairs_of left)
  pub skips_none : i.pairs.update ≡ Gebauer → g.skipped.items ≡ []
  pub reals : Each (IsPair (vectors_inside i)) (pairs_of left)
  pub lcms : Each (HasLcmOfMembers (variables_of (shown i)) i.members.shared.ring.weights i.members.list) left
  pub shared : length g.pairs.items ≡ share (run_of (variables_of (shown i)) (shown i)) (vectors_inside i) i.taken most (pairs_of left)
  pub first : g.pairs.items ≡ take (length g.pairs.items) left
  pub given : g.given.items ≡ pairs_of g.pairs.items
  pub rest : q.queue ≡ drop (length g.pairs.items) left
  pub out : q.out ≡ i.pairs.out ++ steps.out_with w (pairs_of g.pairs.items)
  pub leads : q.leads ≡ i.pairs.leads
  pub update : q.update ≡ i.pairs.update
  pub dropped : q.dropped ≡ i.pairs.dropped
  pub stop_is : stop_of (variables_of (shown i)) stop ≡ steps.stop_of_take (run_of (variables_of (shown i)) (shown i)) i.taken (pairs_of left)
  pub kind : MatchOption stop ⊤ (λ reason. (reason ≡ reasons.Pairs) × (i.taken ≡ i.budget))

-- what the pairs gave out, and the stop that was kept
pub found_by :
    (i : Inside) (w most : ℕ) (g : Given) (q : PairsShown) (stop : Option StopReason)
    → MayTake w most (shown i) → i.stop ≡ None → IsCoherentState i → IsJobGiven i.pairs w i.budget i.workers i.taken most g q
    → ((n : ℕ) (r : plain.Run n) (left : List Pair) → r.budget ≡ i.budget → g.none_left ≡ steps.is_empty left
    → stop_of n stop ≡ steps.stop_of_take r i.taken left)
    → MatchOption stop ⊤ (λ reason. (reason ≡ reasons.Pairs) × (i.taken ≡ i.budget))
    → IsFound i w most g q stop
found_by i w most g q stop may none kept h stops kind =
    let sh = i.members.shared in
    let ms = i.members.list in
    let n : ℕ = variables_of (shown i) in
    let left : List Pair = pairs_of h.left in
    let reals : Each (IsRealPair (leads_shown_of sh ms)) h.left = subst (λ (l : LeadsShown). Each (IsRealPair l) h.left) kept.leads h.real in
    record {
      may = may;
      none = none;
      left = h.left;
      skips = skips_known sh ms i.pairs.out (pairs_of i.pairs.queue) g.skipped.items left
          (subst (λ (l : LeadsShown). Skips (setting_by l.variables l) (sums_shown l) i.pairs.out (pairs_of i.pairs.queue) g.skipped.items left)
          kept.leads h.skips);
      spared = λ e. none_known sh ms (waiting left i.pairs.out) left
          (subst (λ (l : LeadsShown). NoCriterionApplies (setting_by l.variables l) (sums_shown l) (waiting left i.pairs.out) left) kept.leads (h.none e));
      skips_none = h.skips_none;
      reals = pairs_known sh ms h.left reals;
      lcms = lcms_known sh ms h.left reals;
      shared =
          subst (λ (l : LeadsShown). (r : plain.Run l.variables)
          → r.budget ≡ i.budget → r.workers ≡ i.workers → r.setting.weights ≡ l.weights
          → length g.pairs.items ≡ share r (sums_shown l) i.taken most left)
          kept.leads h.shared (run_of n (shown i)) refl refl refl
          ∙ share_known sh ms (run_of n (shown i)) i.taken most left;
      first = h.first;
      given = h.given;
      rest = h.rest;
      out = h.out;
      leads = h.leads;
      update = h.update;
      dropped = h.dropped;
      stop_is = stops n (run_of n (shown i)) left refl h.none_left;
      kind = kind;
    }

-- the state after it
abbrev pub after_take : Shown → List Pair → List Drop → List (Pair × ℕ) → ℕ → Option StopReason → List Event → Shown
after_take s queue dropped out taken stop es = record s { queue = queue; dropped = dropped; out = out; taken = taken; stop = stop; history = es }

module _ (i : Inside) (w most : ℕ) (g : Given) (q : PairsShown) (stop : Option StopReason) (found : IsFound i w most g q stop) where
  abbrev s : Shown
  s = shown i

  abbrev n : ℕ
  n = variables_of s

  abbrev k : ℕ
  k = length g.pairs.items

  abbrev left : List CodePair
  left = found.left

  stays_kept : StaysKept i.stop stop
  stays_kept = subst (λ (o : Option StopReason). StaysKept o stop) (sym found.none) (first_kept stop)

  gives : pairs_of g.pairs.items ≡ take (share (run_of n s) (vectors_inside i) i.taken most (pairs_of left)) (pairs_of left)
  gives = ap pairs_of found.first ∙ pairs_take k left ∙ ap (λ j. take j (pairs_of left)) found.shared

  module _ (es : List Event) (read : Each (IsEventRead (length i.members.list) i.stop) i.history.items)
      (noted : es ≡ i.history.items ++ (Take w g.skipped g.given ∷ [])) where
    abbrev t : Shown
    t = record (after_take s (pairs_of q.queue) q.dropped q.out (i.taken + k) stop es) { update = q.update }

    history_given : history_of n i.members.list stop es ≡ history_of n i.members.list i.stop i.history.items ++
        (plain.Take w g.skipped.items (pairs_of g.pairs.items) ∷ [])
    history_given =
        ap (history_of n i.members.list stop) noted
        ∙ history_same_members n i.members.list i.stop stop i.history.items (Take w g.skipped g.given) stays_kept read
        ∙ ap (λ l. history_of n i.members.list i.stop i.history.items ++ (plain.Take w g.skipped.items l ∷ [])) found.given

    counted : k ≡ length (pairs_of g.pairs.items)
    counted = sym (pairs_length g.pairs.items)

    pub take_step : steps.Takes (run_of n s) (state_of n s) w most g.skipped.items (pairs_of g.pairs.items) (pairs_of left) (state_of n t)
    take_step = record {
      unstopped = ap (stop_of n) found.none;
      skips = found.skips;
      none_applies = found.spared;
      skips_none = found.skips_none;
      gives = gives;
      after = λ j. record (state_of n s) {
        queue = (ap pairs_of found.rest ∙ pairs_drop k left ∙ ap (λ j. drop j (pairs_of left)) found.shared) j;
        dropped = found.dropped j;
        out = found.out j;
        taken = i.taken + counted j;
        stop = found.stop_is j;
        history = history_given j;
      };
    }

    pub took : steps.Step (run_of n s) (state_of n s) (plain.Take w g.skipped.items (pairs_of g.pairs.items)) (state_of n t)
    took = (most, found.may, inr (pairs_of left, take_step))

    -- where it keeps no stop and gives no pair, none is left
    pub none_left : IsDomain i.members.shared.ring.modulus.value → IsCoherentState i → stop ≡ None → g.pairs.items ≡ [] → pairs_of q.queue ≡ []
    none_left domain kept unstopped empty = go left refl
      where
        nothing : (m : ℕ) → ◌≡◌ {A = List CodePair} (drop m []) []
        nothing zero = refl
        nothing (suc m) = refl

        go : (l : List CodePair) → left ≡ l → pairs_of q.queue ≡ []
        go [] e = ap pairs_of (found.rest ∙ ap (drop k) e ∙ nothing k)
        go (x ∷ l) e =
            let some : 0 < length (pairs_of left) = omega (arith, pairs_length left, ap length e) in
            let given : 0 < length (pairs_of g.pairs.items) =
            job_given_out (run_of n s) (state_of n s) (state_of n t) w most g.skipped.items (pairs_of g.pairs.items) (pairs_of left) take_step
            (lawful_run n s domain kept.some) (replayed_holds n s domain kept.some kept.replays) found.may (ap (stop_of n) unstopped) some in
            absurd (omega (arith, given, ap (λ (z : List CodePair). length (pairs_of z)) empty))

  stop_over : (o : Option StopReason) → MatchOption o ⊤ (λ reason. (reason ≡ reasons.Pairs) × (i.taken ≡ i.budget)) → (t : Shown) → IsStopOver t o
  stop_over None h t = tt
  stop_over (Some reason) h t = subst (λ (r : StopReason). IsStopOver t (Some r)) (sym h.0) tt

  -- what is kept of a state is kept
  pub take_kept :
      (history : Vec Event Global) → IsCoherentState i → history.items ≡ i.history.items ++ (Take w g.skipped g.given ∷ [])
      → length i.history.items + (3 * i.workers + 1) ≤ vec_capacity history
      → IsCoherentState (record i { pairs = q; taken = i.taken + k; stop = stop; history = history })
  take_kept history kept noted room =
      let many : ℕ = length i.members.list in
      let after_state : Shown = t history.items kept.read noted in
      let long : length history.items ≡ length i.history.items + 1 = ap length noted ∙ length-append i.history.items (Take w g.skipped g.given ∷ []) in
      record {
        some = kept.some;
        replays = replays_after s after_state (plain.Take w g.skipped.items (pairs_of g.pairs.items))
            (record { shared = refl; budget = refl; workers = refl; update = found.update }) kept.replays (took history.items kept.read noted);
        leads = found.leads ∙ kept.leads;
        stop = stop_over stop found.kind after_state;
        read = subst (Each (IsEventRead many stop)) (sym noted)
            (read_more many many i.stop stop i.history.items (Take w g.skipped g.given) (omega arith) stays_kept kept.read tt);
        room = omega (arith, long, room, room_bound (state_of n after_state) i.workers);
      }

  -- the pairs that go out are a job's
  pub job_is : IsDomain i.members.shared.ring.modulus.value → IsCoherentState i → 0 < k
      → IsJobOver (record { shared = i.members.shared; worker = w; members = i.members.list; pairs = g.pairs.items })
  job_is domain kept some = record {
    some = some;
    monic = (replayed_holds n s domain kept.some kept.replays).members;
    real = subst (Each (IsPair (vectors_inside i))) (sym gives) (Each_take (IsPair (vectors_inside i)) (share (run_of n s) (vectors_inside i) i.taken most (pairs_of left)) (pairs_of left) found.reals);
    lcms = subst (Each (HasLcmOfMembers n i.members.shared.ring.weights i.members.list)) (sym found.first)
        (Each_take (HasLcmOfMembers n i.members.shared.ring.weights i.members.list) k left found.lcms);
  }

  -- a stop is kept where the budget is met, and then no pair goes out
  pub unstopped_given : i.taken + k ≤ i.budget → 0 < k → stop ≡ None
  unstopped_given within some = go stop found.kind
    where
      go : (o : Option StopReason) → MatchOption o ⊤ (λ reason. (reason ≡ reasons.Pairs) × (i.taken ≡ i.budget)) → o ≡ None
      go None h = refl
      go (Some reason) h = absurd (omega (arith, h.1, within, some))

-- a Take that finds a stop
pub stopped_step :
    (s : Shown) (w : ℕ) (reason : StopReason) (skipped given : Vec Pair Global) (es : List Event)
    → s.stop ≡ Some reason → skipped.items ≡ [] → given.items ≡ []
    → Each (IsEventRead (length s.members) s.stop) s.history
    → es ≡ s.history ++ (Take w skipped given ∷ [])
    → steps.FindsStop (state_of (variables_of s) s) w [] [] (state_of (variables_of s) (record s { history = es }))
stopped_step s w reason skipped given es stop none no_job read more = record {
  kept = (reason_of (variables_of s) reason, ap (stop_of (variables_of s)) stop);
  skips_none = refl;
  gives_none = refl;
  after = λ j. record (state_of (variables_of s) s) { history = noted j };
}
  where
    noted : history_of (variables_of s) s.members s.stop es ≡ history_of (variables_of s) s.members s.stop s.history ++ (plain.Take w [] [] ∷ [])
    noted =
        ap (history_of (variables_of s) s.members s.stop) more
        ∙ history_same_members (variables_of s) s.members s.stop s.stop s.history (Take w skipped given) (stays s.stop s.stop refl) read
        ∙ (λ j. history_of (variables_of s) s.members s.stop s.history ++ (plain.Take w (none j) (no_job j) ∷ []))

pub stopped_kept :
    (i : Inside) (w most : ℕ) (reason : StopReason) (skipped given : Vec Pair Global) (history : Vec Event Global)
    → IsCoherentState i → MayTake w most (shown i) → i.stop ≡ Some reason → skipped.items ≡ [] → given.items ≡ []
    → history.items ≡ i.history.items ++ (Take w skipped given ∷ [])
    → length i.history.items + (3 * i.workers + 1) ≤ vec_capacity history
    → IsCoherentState (record i { history = history })
stopped_kept i w most reason skipped given history kept may stop none no_job more room =
    let s : Shown = shown i in
    let n : ℕ = variables_of s in
    let t : Shown = record s { history = history.items } in
    let many : ℕ = length i.members.list in
    let long : length history.items ≡ length i.history.items + 1 = ap length more ∙ length-append i.history.items (Take w skipped given ∷ []) in
    let step : steps.Step (run_of n s) (state_of n s) (plain.Take w [] []) (state_of n t) =
    (most, may, inl (stopped_step s w reason skipped given history.items stop none no_job kept.read more)) in
    record {
      some = kept.some;
      replays = replays_after s t (plain.Take w [] []) (record { shared = refl; budget = refl; workers = refl; update = refl }) kept.replays step;
      leads = kept.leads;
      stop = kept.stop;
      read = subst (Each (IsEventRead many i.stop)) (sym more)
          (read_more many many i.stop i.stop i.history.items (Take w skipped given) (omega arith) (stays i.stop i.stop refl) kept.read tt);
      room = omega (arith, long, room, room_bound (state_of n t) i.workers);
    }

pub kept_stop : (o : Option StopReason) → is_some o ≡ true → (reason : StopReason) × (o ≡ Some reason)
kept_stop None e = absurd cc
kept_stop (Some reason) e = (reason, refl)

pub no_stop : (o : Option StopReason) → is_some o ≡ false → o ≡ None
no_stop None e = refl
no_stop (Some reason) e = absurd cc
