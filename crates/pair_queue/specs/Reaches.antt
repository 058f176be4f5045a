-- Which leads reach an exponent: a word for 64 members, each exponent up to the fifteenth and each variable
use Rattle.std.specs.Int.{bit_at}
use Rattle.std.specs.Prelude.{List, get_or, length, min, ℕ, ◌%◌, ◌*◌, ◌+◌, ◌-◌, ◌/◌, ◌<◌, ◌≡◌, ◌≤◌}
use Rattle.bases.specs.Leads.{leads}
use Rattle.pair_updates.specs.Leads.{LeadsShown, sums_shown}
use Rattle.pair_updates.specs.Rows.{row}
use Rattle.pair_queue.specs.declared.reach.Reach.{Reach}

-- the exponent of variable v in the lead of member c
abbrev pub exponent_of_lead : LeadsShown → (c v : ℕ) → ℕ
exponent_of_lead m c v = get_or (row m.variables (leads (sums_shown m) c).1) v 0

-- where the word stands for the 64 members with this index and exponent e + 1 of variable v, of n
abbrev pub place_of_word : (n index v e : ℕ) → ℕ
place_of_word n index v e = (index * n + v) * 15 + e

-- the bit of member c for exponent e + 1 of variable v, of n
abbrev pub bit_of_member : ℕ → List ℕ → (c v e : ℕ) → ℕ
bit_of_member n words c v e = bit_at (get_or words (place_of_word n (c / 64) v e) 0) (c % 64)

-- there are words for so many members
abbrev pub HasRoomFor : (n count : ℕ) → List ℕ → Type 0
HasRoomFor n count words = (c v : ℕ) → c < count → v < n → place_of_word n (c / 64) v 15 ≤ length words

-- each bit that was set is set
abbrev pub BitsStay : List ℕ → List ℕ → Type 0
BitsStay old new = (i r : ℕ) → r < 64 → bit_at (get_or old i 0) r ≡ 1 → bit_at (get_or new i 0) r ≡ 1

-- a lead that exceeds e has its member's bit for exponent e + 1
pub record IsReach (m : LeadsShown) (t : Reach) : Type 0 where
  pub room : HasRoomFor m.variables (length m.keys) t.words.items
  pub reached : (c v e : ℕ) → c < length m.keys → v < m.variables → e < 15 → e < exponent_of_lead m c v
      → bit_of_member m.variables t.words.items c v e ≡ 1

-- in some variable the first monomial is above the second, and the member has no bit for the first one's exponent there, or the fifteenth
abbrev pub FallsShort : List ℕ → (first second : List ℕ) → (index r : ℕ) → Type 0
FallsShort words first second index r = (v : ℕ) × (v < length first) × (get_or second v 0 < get_or first v 0)
    × (bit_at (get_or words (place_of_word (length first) index v (min (get_or first v 0) 15 - 1)) 0) r ≡ 0)
