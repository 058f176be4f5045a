-- The first maps of a canonical resolution (Eisenbud, section 15.5)
use Rattle.std.proofs.Common.{List, [], arith, length, refl, suc, take, zero, ℕ, ◌<◌, ◌∷◌, ◌≡◌, ◌≤◌}
use Rattle.formal_sums.specs.FormalSums.{FormalSum}
use Rattle.bases.specs.Settings.{Setting}
use Rattle.syzygy_laws.specs.Syzygies.{induced_setting}
use Rattle.resolution_laws.specs.Resolutions.{IsCanonical, IsCanonicalFrom, IsCanonicalStart, IsCanonicalStartFrom}

-- ---- the whole is a start of as many maps or more
start_whole_from :
    {n : ℕ} (count : ℕ) (maps : List (List (FormalSum n))) (S : Setting n) (F : List (FormalSum n))
    → IsCanonicalFrom S F maps → length maps ≤ count → IsCanonicalStartFrom S F count maps
start_whole_from zero [] S F h few = refl
start_whole_from zero (H ∷ maps) S F h few = absurd (omega arith)
start_whole_from (suc count) [] S F h few = h
start_whole_from (suc count) (H ∷ maps) S F h few = (h.0, h.1, start_whole_from count maps (induced_setting S F) H h.2 (omega arith))

pub start_whole :
    {n : ℕ} (S : Setting n) (A : List (FormalSum n)) (count : ℕ) (maps : List (List (FormalSum n)))
    → IsCanonical S A maps → length maps ≤ count → IsCanonicalStart S A count maps
start_whole S A zero [] h few = refl
start_whole S A zero (H ∷ maps) h few = absurd (omega arith)
start_whole S A (suc count) [] h few = h
start_whole S A (suc count) (H ∷ maps) h few = (h.0, start_whole_from count maps S H h.1 (omega arith))

-- ---- and so are its first maps
start_taken_from :
    {n : ℕ} (count : ℕ) (maps : List (List (FormalSum n))) (S : Setting n) (F : List (FormalSum n))
    → IsCanonicalFrom S F maps → IsCanonicalStartFrom S F count (take count maps)
start_taken_from zero maps S F h = refl
start_taken_from (suc count) [] S F h = h
start_taken_from (suc count) (H ∷ maps) S F h = (h.0, h.1, start_taken_from count maps (induced_setting S F) H h.2)

pub start_taken :
    {n : ℕ} (S : Setting n) (A : List (FormalSum n)) (maps : List (List (FormalSum n))) (count : ℕ)
    → IsCanonical S A maps → IsCanonicalStart S A count (take count maps)
start_taken S A maps zero h = refl
start_taken S A [] (suc count) h = h
start_taken S A (H ∷ maps) (suc count) h = (h.0, start_taken_from count maps S H h.1)

-- ---- a start has at most so many maps
start_count_from :
    {n : ℕ} (count : ℕ) (maps : List (List (FormalSum n))) (S : Setting n) (F : List (FormalSum n))
    → IsCanonicalStartFrom S F count maps → length maps ≤ count
start_count_from zero [] S F h = omega arith
start_count_from zero (H ∷ maps) S F h = absurd (let e : H ∷ maps ≡ [] = h in cc)
start_count_from (suc count) [] S F h = omega arith
start_count_from (suc count) (H ∷ maps) S F h = let few = start_count_from count maps (induced_setting S F) H h.2 in omega (arith, few)

pub start_count :
    {n : ℕ} (S : Setting n) (A : List (FormalSum n)) (count : ℕ) (maps : List (List (FormalSum n)))
    → IsCanonicalStart S A count maps → length maps ≤ count
start_count S A zero [] h = omega arith
start_count S A zero (H ∷ maps) h = absurd (let e : H ∷ maps ≡ [] = h in cc)
start_count S A (suc count) [] h = omega arith
start_count S A (suc count) (H ∷ maps) h = let few = start_count_from count maps S H h.1 in omega (arith, few)

-- ---- one with fewer is the whole
start_fewer_from :
    {n : ℕ} (count : ℕ) (maps : List (List (FormalSum n))) (S : Setting n) (F : List (FormalSum n))
    → IsCanonicalStartFrom S F count maps → length maps < count → IsCanonicalFrom S F maps
start_fewer_from zero maps S F h fewer = absurd (omega arith)
start_fewer_from (suc count) [] S F h fewer = h
start_fewer_from (suc count) (H ∷ maps) S F h fewer = (h.0, h.1, start_fewer_from count maps (induced_setting S F) H h.2 (omega arith))

pub start_fewer :
    {n : ℕ} (S : Setting n) (A : List (FormalSum n)) (count : ℕ) (maps : List (List (FormalSum n)))
    → IsCanonicalStart S A count maps → length maps < count → IsCanonical S A maps
start_fewer S A zero maps h fewer = absurd (omega arith)
start_fewer S A (suc count) [] h fewer = h
start_fewer S A (suc count) (H ∷ maps) h fewer = (h.0, start_fewer_from count maps S H h.1 (omega arith))
