-- Rows of which the first places are done
use Rattle.std.proofs.Common.{List, arith, get_or, length, refl, subst, sym, ap, ℕ, ◌+◌, ◌-◌, ◌<◌, ◌∙◌, ◌≡◌, ◌≤◌, inl, inr}
use Rattle.std.proofs.lemmas.Bool.{cases_lt}
use Rattle.std.proofs.lemmas.Simd.{Each1-from_get_or, get_or-chunk, get_or-put_chunk_above, get_or-put_chunk_at, get_or-put_chunk_below, length-chunk, length-put_chunk}
use Rattle.std.specs.Simd.Lanes.{Each1, chunk, put_chunk}

-- the places below `end` are done, by what is done with the number of a place; the others are as they were
pub record IsDoneBelow (end : ℕ) (f : ℕ → ℕ → ℕ) (old new : List ℕ) : Type 0 where
  pub count : length new ≡ length old
  pub done : (i : ℕ) → i < end → get_or new i 0 ≡ f i (get_or old i 0)
  pub left : (i : ℕ) → end ≤ i → get_or new i 0 ≡ get_or old i 0

pub none_done : (f : ℕ → ℕ → ℕ) (old : List ℕ) → IsDoneBelow 0 f old old
none_done f old = record { count = refl; done = λ i h. absurd (omega arith); left = λ i h. refl }

-- eight places more
pub eight_done : (f : ℕ → ℕ → ℕ) (at next : ℕ) (old now ys : List ℕ) → next ≡ at + 8 → next ≤ length old → length ys ≡ 8
    → ((j : ℕ) → j < 8 → get_or ys j 0 ≡ f (at + j) (get_or now (at + j) 0))
    → IsDoneBelow at f old now → IsDoneBelow next f old (put_chunk at now ys)
eight_done f at next old now ys e room long each d = record {
  count = length-put_chunk at now ys ∙ d.count;
  done = λ i lt. elim (cases_lt i at) [
    | inl before ↦ get_or-put_chunk_below at now ys i 0 before ∙ d.done i before
    | inr behind ↦
        let j : ℕ = i - at in
        let is : at + j ≡ i = omega arith in
        let small : j < 8 = omega arith in
        let here : get_or (put_chunk at now ys) (at + j) 0 ≡ f (at + j) (get_or old (at + j) 0) =
        get_or-put_chunk_at at now ys j 0 (omega arith) (omega (arith, d.count)) ∙ each j small ∙ ap (λ a. f (at + j) a) (d.left (at + j) (omega arith)) in
        subst (λ k. get_or (put_chunk at now ys) k 0 ≡ f k (get_or old k 0)) is here
  ];
  left = λ i le. get_or-put_chunk_above at now ys i 0 (omega arith) ∙ d.left i (omega arith);
}

-- the numbers of eight places are below the limit where those from the first on are
pub below_in_chunk : (limit at : ℕ) (row : List ℕ) → at + 8 ≤ length row → ((i : ℕ) → at ≤ i → i < length row → get_or row i 0 < limit)
    → Each1 (λ a. a < limit) (chunk at 8 row)
below_in_chunk limit at row room below = Each1-from_get_or (λ a. a < limit) (chunk at 8 row) 0 (λ k lt.
    let small : k < 8 = omega (arith, length-chunk at 8 row room) in
    subst (λ a. a < limit) (sym (get_or-chunk at 8 row k 0 small)) (below (at + k) (omega arith) (omega arith)))
