-- Names of variables
use Rattle.std.specs.Prelude.{List, [], ⊤, ℕ, ◌∷◌, ◌≡◌, ◌≢◌, ◌≤◌, ◌⊎◌}
use Rattle.formal_sums.specs.FormalSums.{Each}

-- a letter, A to Z or a to z
abbrev pub IsLetter : ℕ → Type 0
IsLetter b = ((65 ≤ b) × (b ≤ 90)) ⊎ ((97 ≤ b) × (b ≤ 122))

-- a letter, a digit or _
abbrev pub IsNameByte : ℕ → Type 0
IsNameByte b = IsLetter b ⊎ (((48 ≤ b) × (b ≤ 57)) ⊎ (b ≡ 95))

-- a letter, then letters, digits and _
abbrev pub IsName : List ℕ → Type 0
IsName [] = ⊥
IsName (b ∷ bs) = IsLetter b × Each IsNameByte bs

-- no two are the same
abbrev pub AreAllDistinct : List (List ℕ) → Type 0
AreAllDistinct [] = ⊤
AreAllDistinct (x ∷ xs) = Each (λ y. x ≢ y) xs × AreAllDistinct xs

-- distinct names
abbrev pub AreDistinctNames : List (List ℕ) → Type 0
AreDistinctNames names = Each IsName names × AreAllDistinct names
