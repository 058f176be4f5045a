-- What each step on the lock's table tells: of the step, the seat before, the number found and the seat after.
use Rattle.std.specs.Prelude.{◌≡◌, ◌≢◌, ℕ, true, false, List, [], ◌∷◌, ◌++◌, length, drop, map, ◌+◌, ◌<◌, ◌⊎◌, Option, Some, None, All}
use Rattle.std.specs.List.{Contains}
use Rattle.atomic_table.specs.Table.{Me, Step, rest}
use Rattle.atomic_table.specs.Seated.{TableId}
use Rattle.atomic_table.specs.declared.shared.Seat.{Seat}
use Rattle.ruled_lock.specs.declared.law.Old.{Old}
use Rattle.ruled_lock.specs.declared.law.View.{View}
use Rattle.ruled_lock.specs.Events.{calls_by, StartsWith}

-- what a seat knows, and what it has in its hand
abbrev pub LockSeat : Type 0 → Type 0 → Type 0 → Type 0
LockSeat C N B = Me (Option C) (View N B)

module _ {N B : Type 0} where
  -- the view with the turn, which has seen this history
  abbrev pub held : View N B → List N → View N B
  held v log = record v { turn = true; seen = log; holds = v.holds + 1 }

  -- the view without the turn
  abbrev pub freed : View N B → View N B
  freed v = record v { turn = false }

  -- the view that has seen this history
  abbrev pub seeing : View N B → List N → View N B
  seeing v log = record v { seen = log }

  -- the view after the event e of its own, which ends the history
  abbrev pub added : View N B → List N → View N B
  added v log = record v { seen = log; mine = v.mine ++ drop (length v.seen) log }

  -- the seat has the same number, gives the same ones, and took in the same seats
  abbrev pub IsSameSeat : View N B → View N B → Type 0
  IsSameSeat v w = (w.worker ≡ v.worker) × (w.give ≡ v.give) × (w.olds ≡ v.olds)

module _ {C N : Type 0} where
  -- the history of the core in a slot, or else this one
  abbrev pub history_in : (C → List N) → List N → Option C → List N
  history_in log_of log (Some b) = log_of b
  history_in log_of log None = log

  -- the history of the core in the hand, or else this one
  abbrev pub carried : (C → List N) → List N → List (ℕ × Option C) → List N
  carried log_of log [] = log
  carried log_of log (x ∷ xs) = history_in log_of log x.1

module _ {C N B : Type 0} where
  -- after the number of events was set: the seat has added the event of the core in its hand
  abbrev pub appended : (C → List N) → Step (Option C) → LockSeat C N B → ℕ → LockSeat C N B → Type 0
  appended log_of st m r m' = m' ≡ (added m.0 (carried log_of m.0.seen m.1), m.1)

  -- after the turn was given back, with the core
  abbrev pub released : Step (Option C) → LockSeat C N B → ℕ → LockSeat C N B → Type 0
  released st m r m' = m' ≡ (freed m.0, rest m.1)

  -- a seat of this table that has no turn
  abbrev pub IsIdle : TableId → B → Seat (Option C) (View N B) → Type 0
  IsIdle table base p = (p.table_id ≡ table) × (p.me.1 ≡ []) × (p.me.0.live ≡ true) × (p.me.0.turn ≡ false) × (p.me.0.base ≡ Some base)

  -- a seat of this table that has the turn, with this in its hand
  abbrev pub IsHolding : TableId → B → Seat (Option C) (View N B) → Option C → Type 0
  IsHolding table base p x = (p.table_id ≡ table) × (p.me.1 ≡ (0, x) ∷ []) × (p.me.0.live ≡ true) × (p.me.0.turn ≡ true) × (p.me.0.base ≡ Some base)

-- an old seat's view, against this history
abbrev pub OldSees : {N : Type 0} → (N → ℕ) → List N → Old N → Type 0
OldSees by log o = StartsWith log o.seen × (calls_by by o.worker log ≡ o.mine)

module _ {N B : Type 0} (by : N → ℕ) where
  -- the history begins with all that the seat had seen, and of its worker it has just the seat's own events
  abbrev pub Sees : View N B → List N → Type 0
  Sees v log = StartsWith log v.seen × (calls_by by v.worker log ≡ v.mine)

  -- one hold and one event: the history begins with all that the seat had seen, and ends with the event e, which is one
  -- more of the worker's. It has no other of the worker's than the seat's own
  abbrev pub AddsEvent : View N B → N → View N B → Type 0
  AddsEvent v e w =
      (between : List N) × (w.seen ≡ (v.seen ++ between) ++ e ∷ []) × (w.mine ≡ v.mine ++ e ∷ [])
      × (calls_by by w.worker w.seen ≡ w.mine) × IsSameSeat v w × (w.holds ≡ v.holds + 1)

  -- one hold, and no event was made
  abbrev pub Holds : View N B → View N B → Type 0
  Holds v w = StartsWith w.seen v.seen × (w.mine ≡ v.mine) × (calls_by by w.worker w.seen ≡ w.mine) × IsSameSeat v w × (w.holds ≡ v.holds + 1)

  -- the history so far was seen
  abbrev pub Looks : View N B → View N B → Type 0
  Looks v w = StartsWith w.seen v.seen × (w.mine ≡ v.mine) × (calls_by by w.worker w.seen ≡ w.mine) × IsSameSeat v w × (w.holds ≡ v.holds)

  -- the history begins with all that the seats had seen, and of each worker it has just the events that its seat made
  pub record Tallied (workers : ℕ) (v : View N B) (log : List N) : Type 0 where
    pub own : Sees v log
    pub olds : All (OldSees by log) v.olds
    pub unused : All (λ x. calls_by by x log ≡ []) v.give
    pub bounded : All (λ e. by e < workers) log

module _ {C N B : Type 0} (base_of : C → B) (log_of : C → List N) (by : N → ℕ) where
  -- the turn was won: the core is in the hand, with the whole history, which begins with all that the seat had seen
  abbrev pub Won : LockSeat C N B → LockSeat C N B → Type 0
  Won m m' = (b : C) × (m'.1 ≡ (0, Some b) ∷ []) × (m'.0 ≡ held m.0 (log_of b)) × Sees by m.0 (log_of b) × (Some (base_of b) ≡ m.0.base)

  -- after a try for the turn
  abbrev pub tried : Step (Option C) → LockSeat C N B → ℕ → LockSeat C N B → Type 0
  tried st m r m' = (r ≡ 0 → Won m m') × (r ≢ 0 → m' ≡ m)

-- after a look at the number of events
abbrev pub looked : {C N B : Type 0} (by : N → ℕ) → Step (Option C) → LockSeat C N B → ℕ → LockSeat C N B → Type 0
looked by st m r m' = (m' ≡ (seeing m.0 m'.0.seen, m.1)) × (length m'.0.seen ≡ r) × Sees by m.0 m'.0.seen × All (OldSees by m'.0.seen) m.0.olds

-- each worker's number is with this seat
abbrev pub AllBack : {N B : Type 0} → ℕ → View N B → Type 0
AllBack workers v = (x : ℕ) → x < workers → (x ≡ v.worker) ⊎ (Contains v.give x ⊎ Contains (map (λ o. o.worker) v.olds) x)
