-- A text of which long runs of entries 0 are kept by their lengths
use Rattle.std.specs.Prelude.{List, [], drop, length, suc, take, zero, ℕ, ◌+◌, ◌-◌, ◌++◌, ◌∷◌, ◌<◌, ◌≡◌, ◌≤◌}
use Rattle.line_text.specs.declared.text.Run.{Run}

-- so many bytes of entries 0, each behind a comma
abbrev pub zero_bytes : ℕ → List ℕ
zero_bytes zero = []
zero_bytes (suc zero) = 44 ∷ []
zero_bytes (suc (suc n)) = 44 ∷ 48 ∷ zero_bytes n

-- so many entries 0, each behind a comma
abbrev pub zero_entries : ℕ → List ℕ
zero_entries zero = []
zero_entries (suc n) = 44 ∷ 48 ∷ zero_entries n

-- the kept bytes from this one on, and behind those before its end each run
abbrev pub spread : List ℕ → (start : ℕ) → List Run → List ℕ
spread bytes start [] = drop start bytes
spread bytes start (r ∷ runs) = take (r.end - start) (drop start bytes) ++ (zero_bytes r.length ++ spread bytes r.end runs)

-- the runs have bytes, and stand one behind another from here on and within so many
abbrev pub AreInOrder : (start : ℕ) → List Run → (size : ℕ) → Type 0
AreInOrder start [] size = start ≤ size
AreInOrder start (r ∷ runs) size = (start ≤ r.end) × (0 < r.length) × AreInOrder r.end runs size

-- how many bytes the runs have
abbrev pub bytes_of_runs : List Run → ℕ
bytes_of_runs [] = 0
bytes_of_runs (r ∷ runs) = r.length + bytes_of_runs runs

-- some bytes, but not more than this many, were taken away at the end
pub record IsCutOff (old new : List ℕ) (most : ℕ) : Type 0 where
  pub cut : List ℕ
  pub parts : old ≡ new ++ cut
  pub some : 0 < length cut
  pub within : length cut ≤ most
