-- A state in which nothing changed but the places that its lists have
use Rattle.std.proofs.Common.{Bool, List, Option, arith, length, subst, sym, vec_capacity, ℕ, ◌+◌, ◌<◌, ◌≡◌, ◌≤◌}
use Rattle.formal_sums.specs.FormalSums.{Each}
use Rattle.basis_steps.specs.Steps.{Replays}
use Rattle.pair_queue.specs.Shown.{PairsShown}
use Rattle.basis_core.specs.declared.event.Event.{Event}
use Rattle.basis_core.specs.declared.state.BasisState.TheInside.{Inside}
use Rattle.basis_core.specs.declared.stop.StopReason.{StopReason}
use Rattle.basis_core.specs.Inside.{IsCoherentState, IsEventRead, IsStopOver, all_left, shown}
use Rattle.basis_core.specs.Jobs.{pairs_of}
use Rattle.basis_core.specs.Leads.{leads_shown_of}
use Rattle.basis_core.specs.Members.{MembersShown}
use Rattle.basis_core.specs.Shown.{Shown}
use Rattle.basis_core.specs.Views.{run_of, state_of, variables_of}

-- the same items, and at least as many places for events
pub record IsUnchanged (i j : Inside) : Type 0 where
  pub budget : j.budget ≡ i.budget
  pub workers : j.workers ≡ i.workers
  pub members : j.members ≡ i.members
  pub pairs : j.pairs ≡ i.pairs
  pub taken : j.taken ≡ i.taken
  pub ended : j.ended.items ≡ i.ended.items
  pub stop : j.stop ≡ i.stop
  pub history : j.history.items ≡ i.history.items
  pub room : vec_capacity i.history ≤ vec_capacity j.history

-- the items of a state
record Items : Type 0 where
  budget : ℕ
  workers : ℕ
  members : MembersShown
  pairs : PairsShown
  taken : ℕ
  ended : List Bool
  stop : Option StopReason
  history : List Event

abbrev items_of : Inside → Items
items_of i = record {
  budget = i.budget;
  workers = i.workers;
  members = i.members;
  pairs = i.pairs;
  taken = i.taken;
  ended = i.ended.items;
  stop = i.stop;
  history = i.history.items;
}

abbrev shown_by : Items → Shown
shown_by p = record {
  shared = p.members.shared;
  budget = p.budget;
  workers = p.workers;
  update = p.pairs.update;
  members = p.members.list;
  queue = pairs_of p.pairs.queue;
  dropped = p.pairs.dropped;
  out = p.pairs.out;
  taken = p.taken;
  ended = p.ended;
  stop = p.stop;
  history = p.history;
}

-- what is kept of them, with so many places for events
record AreKept (places : ℕ) (p : Items) : Type 0 where
  some : 0 < p.workers
  replays : Replays (run_of (variables_of (shown_by p)) (shown_by p)) (state_of (variables_of (shown_by p)) (shown_by p))
  leads_are : p.pairs.leads ≡ leads_shown_of p.members.shared p.members.list
  stop_over : IsStopOver (shown_by p) p.stop
  read : Each (IsEventRead (length p.members.list) p.stop) p.history
  room : length p.history + all_left (state_of (variables_of (shown_by p)) (shown_by p)) p.workers ≤ places

-- what contracts see is the same
pub same_shown : (i j : Inside) → IsUnchanged i j → shown j ≡ shown i
same_shown i j h = λ t. record {
  shared = (h.members t).shared;
  budget = h.budget t;
  workers = h.workers t;
  update = (h.pairs t).update;
  members = (h.members t).list;
  queue = pairs_of (h.pairs t).queue;
  dropped = (h.pairs t).dropped;
  out = (h.pairs t).out;
  taken = h.taken t;
  ended = h.ended t;
  stop = h.stop t;
  history = h.history t;
}

-- and what is kept is kept
pub unchanged_kept : (i j : Inside) → IsCoherentState i → IsUnchanged i j → IsCoherentState j
unchanged_kept i j k h =
    let there : AreKept (vec_capacity i.history) (items_of i) = record {
      some = k.some;
      replays = k.replays;
      leads_are = k.leads;
      stop_over = k.stop;
      read = k.read;
      room = k.room;
    } in
    let same : items_of j ≡ items_of i = λ t. record {
      budget = h.budget t;
      workers = h.workers t;
      members = h.members t;
      pairs = h.pairs t;
      taken = h.taken t;
      ended = h.ended t;
      stop = h.stop t;
      history = h.history t;
    } in
    let here : AreKept (vec_capacity i.history) (items_of j) = subst (AreKept (vec_capacity i.history)) (sym same) there in
    record {
      some = here.some;
      replays = here.replays;
      leads = here.leads_are;
      stop = here.stop_over;
      read = here.read;
      room = omega (arith, here.room, h.room);
    }
