-- What contracts see of a row of flags, and the words that keep them
use Rattle.std.specs.Int.{bit_at}
use Rattle.std.specs.List.{range_with_len}
use Rattle.std.specs.Prelude.{Bool, List, false, get_or, length, map, not, true, ℕ, ◌%◌, ◌&&◌, ◌*◌, ◌+◌, ◌/◌, ◌<◌, ◌==◌, ◌≡◌, ◌≤◌}

-- the flag of each member, and of some more
pub record FlagRowShown : Type 0 where
  pub flags : List Bool

-- the flag with this index, of 64 in each word, from its lowest bit on
abbrev pub flag_of : List ℕ → ℕ → Bool
flag_of words i = bit_at (get_or words (i / 64) 0) (i % 64) == 1

-- all flags of the words
unfoldable pub flags_of : List ℕ → List Bool
flags_of words = map (flag_of words) (range_with_len 0 (64 * length words))

-- the bits of the word say which of the 64 flags with this index in their rows' words stand in the one row and not in the other
abbrev pub IsWithout : List Bool → List Bool → ℕ → ℕ → Type 0
IsWithout mine theirs index word = (r : ℕ) → r < 64
    → (bit_at word r == 1) ≡ (get_or mine (64 * index + r) false && not (get_or theirs (64 * index + r) false))

-- none of the flags from word `from` on, and before word `end`, stands in the one row and not in the other
abbrev pub NoneWithout : (mine theirs : ℕ → Bool) → (from end : ℕ) → Type 0
NoneWithout mine theirs from end = (c : ℕ) → 64 * from ≤ c → c < 64 * end → (mine c && not (theirs c)) ≡ false

-- one of the flags of this word stands in the one row and not in the other
abbrev pub HasWithout : (mine theirs : ℕ → Bool) → (index : ℕ) → Type 0
HasWithout mine theirs index = (c : ℕ) × (64 * index ≤ c) × (c < 64 * (index + 1)) × ((mine c && not (theirs c)) ≡ true)
