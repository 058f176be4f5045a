-- The rule of the lock's table. Word 0 is the turn, word 1 the number of events, and slot 0 has the core
use Rattle.std.specs.Prelude.{◌≡◌, ◌≢◌, ℕ, ◌-◌, ◌<◌, ◌==◌, true, false, not, List, [], ◌∷◌, ◌++◌, length, slice_index, filter, Option, Some, None, All}
use Rattle.std.specs.List.{range_with_len}
use mathlib.Core.Option as maybe
use lib.ListN.{get_elem?}
use Rattle.atomic_table.specs.Table.{State}
use Rattle.ruled_lock.specs.declared.law.Old.{Old}
use Rattle.ruled_lock.specs.declared.law.View.{View}
use Rattle.ruled_lock.specs.Events.{calls_by, StartsWith}

-- Each number has one seat, seat x, and is there as kind x: 0 the worker's own, 1 still to give, 2 of a seat that was joined
module _ {N : Type 0} (by : N → ℕ) (log : List N) (workers : ℕ) (seat kind : ℕ → ℕ) (j : ℕ) where
  -- the number is this seat's, as kind k, and these are all its events
  abbrev pub Owns : ℕ → ℕ → List N → Type 0
  Owns k x es = (x < workers) × (seat x ≡ j) × (kind x ≡ k) × (calls_by by x log ≡ es)

  -- the same of a seat that was joined into this one
  abbrev pub OwnsOld : Old N → Type 0
  OwnsOld o = Owns 2 o.worker o.mine × StartsWith log o.seen

  -- what a seat knows: `turn` is the word, and `holder` the seat that has the turn while it is not 0
  pub record Knows {B : Type 0} (turn holder : ℕ) (v : View N B) : Type 0 where
    pub seen : StartsWith log v.seen
    pub own : Owns 0 v.worker v.mine
    pub gives : All (λ x. Owns 1 x []) v.give
    pub olds : All OwnsOld v.olds
    pub has_turn : v.turn ≡ true → (j ≡ holder) × (turn ≢ 0) × (v.seen ≡ log)

module _ {C N B : Type 0} (base_of : C → B) (log_of : C → List N) (by : N → ℕ) (workers : B → ℕ) (base : B) where
  -- the core at home has the whole history
  abbrev pub IsHome : List N → List (maybe.Option (Option C)) → Type 0
  IsHome log homes = (b : C) × (get_elem? homes 0 ≡ maybe.some (maybe.some (Some b))) × (log_of b ≡ log) × (base_of b ≡ base)

  -- seat j has the turn
  abbrev pub HasTurn : List (View N B) → ℕ → Type 0
  HasTurn views j = (v : View N B) × (get_elem? views j ≡ maybe.some v) × (v.live ≡ true) × (v.turn ≡ true)

  -- what holds between any two steps: the history; the seat and the kind of each number; who has the turn while the word is not 0
  pub record LockKept (s : State (Option C) (View N B)) : Type 0 where
    pub log : List N
    pub seat : ℕ → ℕ
    pub kind : ℕ → ℕ
    pub holder : ℕ
    pub wide : length s.words ≡ 2
    pub count : slice_index s.words 1 ≡ length log
    pub bounded : All (λ e. by e < workers base) log
    pub free : slice_index s.words 0 ≡ 0 → IsHome log s.homes
    pub taken : slice_index s.words 0 ≢ 0 → HasTurn s.views holder
    pub each_seat : (j : ℕ) (v : View N B) → get_elem? s.views j ≡ maybe.some v → v.live ≡ true → Knows by log (workers base) seat kind j (slice_index s.words 0) holder v

-- the numbers but x
abbrev pub without : ℕ → List ℕ → List ℕ
without x xs = filter (λ y. not (y == x)) xs

module _ {N B : Type 0} where
  -- the first seat: that of worker 0, which can give all other numbers
  abbrev pub opener : (B → ℕ) → B → View N B
  opener workers base = record {
    live = true;
    turn = false;
    base = Some base;
    worker = 0;
    give = range_with_len 1 (workers base - 1);
    olds = [];
    seen = [];
    mine = [];
    holds = 0;
  }

  -- a seat that is no longer there
  abbrev pub spent : View N B
  spent = record { live = false; turn = false; base = None; worker = 0; give = []; olds = []; seen = []; mine = []; holds = 0 }

  -- the seat after it gave the number x away
  abbrev pub parted : ℕ → View N B → View N B
  parted x v = record v { give = without x v.give }

  -- the seat that got the number x
  abbrev pub newcomer : ℕ → View N B → View N B
  newcomer x v = record { live = true; turn = false; base = v.base; worker = x; give = []; olds = []; seen = v.seen; mine = []; holds = 0 }

  -- what stays of a seat that was joined into another
  abbrev pub old_of : View N B → Old N
  old_of v = record { worker = v.worker; seen = v.seen; mine = v.mine }

  -- the first, with the numbers of the second
  abbrev pub joined_views : View N B → View N B → View N B
  joined_views v w = record v { give = v.give ++ w.give; olds = v.olds ++ (old_of w ∷ w.olds) }
