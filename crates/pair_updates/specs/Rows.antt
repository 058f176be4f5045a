-- The first exponents of monomials, side by side
use Rattle.std.specs.Prelude.{Bool, List, [], bit_and, length, ltb, map, replicate, slice_index, suc, zero, ℕ, ◌++◌, ◌-◌, ◌<◌, ◌∷◌, ◌≡◌, ◌≤◌}
use Rattle.std.specs.Int.{bit_at}
use Rattle.std.specs.Simd.Lanes.{mask_l, zip2}
use Rattle.monomials.specs.Exponents.{Exponents, cons, exponents_of, nil}
use Rattle.bases.specs.Leads.{leads}
use Rattle.term_lists.specs.declared.key.Key.{Key as CodeKey}
use Rattle.pair_updates.specs.Leads.{LeadsShown, sums_shown}

-- the first k exponents, with zeros behind the last
abbrev pub row : {n : ℕ} → (k : ℕ) → Exponents n → List ℕ
row zero v = []
row (suc k) nil = 0 ∷ row k nil
row (suc k) (cons a v) = a ∷ row k v

-- the first sixteen of a key
abbrev pub key_row : CodeKey → List ℕ
key_row k = row 16 (exponents_of (length k.monomial.exponents) k.monomial.exponents)

-- those of each key
abbrev pub key_rows : List CodeKey → List (List ℕ)
key_rows ks = map (λ k. key_row k) ks

-- those of the lead of member i
abbrev pub lead_row : LeadsShown → ℕ → List ℕ
lead_row m i = row 16 (leads (sums_shown m) i).1

-- at each of the first k places, is the one greater than the other by more than t? (tests)
abbrev pub exceeds_by : (k t : ℕ) → List ℕ → List ℕ → List Bool
exceeds_by k t xs ys = zip2 (λ u e. ltb u e) (replicate k t) (zip2 ◌-◌ xs ys)

-- the same by more than 0, 1, 2 and 3 at sixteen places, one list behind the other
abbrev pub exceeding : List ℕ → List ℕ → List Bool
exceeding xs ys = ((exceeds_by 16 0 xs ys ++ exceeds_by 16 1 xs ys) ++ exceeds_by 16 2 xs ys) ++ exceeds_by 16 3 xs ys

-- the number whose bits say in which of the first sixteen variables lead i exceeds lead h so
abbrev pub bits_above : LeadsShown → (i h : ℕ) → ℕ
bits_above m i h = mask_l (exceeding (lead_row m i) (lead_row m h))

-- the word has no bit from 48 on, which say where an excess is above 3
abbrev pub TellsAll : ℕ → Type 0
TellsAll word = (i : ℕ) → 48 ≤ i → bit_at word i ≡ 0

-- from this place on, and before `end`, each word has one of the missing bits
abbrev pub EachHasMissing : List ℕ → ℕ → ℕ → ℕ → Type 0
EachHasMissing words missing from end = (i : ℕ) → from ≤ i → i < end → bit_and (slice_index words i) missing ≡ 0 → ⊥

-- the one has no bit but the other's, and not all of them
abbrev pub IsBelow : ℕ → ℕ → Type 0
IsBelow a b = (bit_and a b ≡ a) × (a ≡ b → ⊥)

-- from this place on, and before `end`, no word is below this one
abbrev pub EachNotBelow : List ℕ → ℕ → ℕ → ℕ → Type 0
EachNotBelow words word from end = (i : ℕ) → from ≤ i → i < end → IsBelow (slice_index words i) word → ⊥
