-- The bits of a mask that has one for each place at which two lists differ
use Rattle.std.proofs.Common.{Bool, List, [], ap, ap₂, arith, cond, false, get_or, inl, inr, length, nat_eq, not, pow-suc, pow_mono, refl, subst, suc, sym, take, true, zero, ℕ, ◌*◌, ◌+◌, ◌-◌, ◌/◌, ◌%◌, ◌<◌, ◌^◌, ◌∙◌, ◌∷◌, ◌≡◌, ◌≤◌}
use Rattle.std.proofs.lemmas.Bool.{cases_lt, eqb-false, eqb-true, not-false, not-true}
use Rattle.std.proofs.lemmas.List.{get_or-take, length-take-le}
use Rattle.std.proofs.lemmas.Nat.{leading_length, mod-pow-add, pow_pos}
use Rattle.std.proofs.lemmas.Simd.{get_or-zip2, length-zip2, mask_l-lt}
use Rattle.std.specs.Simd.Lanes.{mask_l, zip2}
use Rattle.monomial_orders.specs.Differences.{EndsDifferences}
use lib.Count.{count_leading_zeros}

bit_le : (b : Bool) → cond b 1 0 ≤ 1
bit_le true = omega arith
bit_le false = omega arith

-- the lower bits are the mask of the first places
mask_take : (m : ℕ) (ms : List Bool) → mask_l ms % 2 ^ m ≡ mask_l (take m ms)
mask_take zero ms = omega arith
mask_take (suc m) [] = omega arith
mask_take (suc m) (b ∷ bs) =
    let n = cond b 1 0 + 2 * mask_l bs in
    let s : suc m ≡ m + 1 = omega arith in
    let d : n / 2 ^ 1 ≡ mask_l bs = omega (arith, bit_le b) in
    let c : n % 2 ^ 1 ≡ cond b 1 0 = omega (arith, bit_le b) in
    let e : mask_l (take m bs) * 2 ^ 1 + cond b 1 0 ≡ cond b 1 0 + 2 * mask_l (take m bs) = omega arith in
    ap (λ j. n % 2 ^ j) s ∙ mod-pow-add n m 1 ∙ ap₂ (λ x y. x * 2 ^ 1 + y) (ap (λ z. z % 2 ^ m) d ∙ mask_take m bs) c ∙ e

-- below 2 ^ r no bit from r on is set
none_from : (r : ℕ) (ms : List Bool) (k : ℕ) → mask_l ms < 2 ^ r → r ≤ k → get_or ms k false ≡ false
none_from r [] k lt le = refl
none_from zero (true ∷ ms) k lt le = absurd (omega arith)
none_from zero (false ∷ ms) zero lt le = refl
none_from zero (false ∷ ms) (suc k) lt le = none_from zero ms k (omega arith) (omega arith)
none_from (suc r) (b ∷ ms) zero lt le = absurd (omega arith)
none_from (suc r) (b ∷ ms) (suc k) lt le = none_from r ms k (omega (arith, lt, pow-suc 2 r)) (omega arith)

-- from 2 ^ j up to 2 ^ (j + 1) the bit j is set
top_bit : (j : ℕ) (ms : List Bool) → 2 ^ j ≤ mask_l ms → mask_l ms < 2 ^ suc j → get_or ms j false ≡ true
top_bit j [] le lt = absurd (omega (arith, le, pow_pos j))
top_bit zero (true ∷ ms) le lt = refl
top_bit zero (false ∷ ms) le lt = absurd (omega (arith, le, lt))
top_bit (suc j) (b ∷ ms) le lt =
    top_bit j ms (omega (arith, le, bit_le b, pow-suc 2 j)) (omega (arith, lt, pow-suc 2 (suc j)))

-- a bit for each place at which they differ
abbrev pub differ_bits : List ℕ → List ℕ → List Bool
differ_bits xs ys = zip2 (λ x y. not (nat_eq x y)) xs ys

bit_tells :
    (xs ys : List ℕ) (m k : ℕ) → length xs ≡ length ys → m ≤ length xs → k < m
    → get_or (take m (differ_bits xs ys)) k false ≡ not (nat_eq (get_or xs k 0) (get_or ys k 0))
bit_tells xs ys m k h le lt =
    get_or-take m (differ_bits xs ys) k false lt
    ∙ get_or-zip2 (λ x y. not (nat_eq x y)) xs ys k 0 0 false (omega arith) (omega arith)

-- so the length of the mask's number ends the differences
length_ends :
    (xs ys : List ℕ) (m r : ℕ) → length xs ≡ length ys → m ≤ length xs → mask_l (take m (differ_bits xs ys)) < 2 ^ m
    → mask_l (take m (differ_bits xs ys)) < 2 ^ r → 2 ^ r ≤ 2 * mask_l (take m (differ_bits xs ys)) + 1 → EndsDifferences m xs ys r
length_ends xs ys m r h le below high low =
    let n = mask_l (take m (differ_bits xs ys)) in
    let inside : r ≤ m = elim (cases_lt m r) [
      | inl lt ↦ let more : suc m ≤ r = omega arith in absurd (omega (arith, pow_mono more, pow-suc 2 m, below, low))
      | inr ge ↦ ge
    ] in record {
      inside = inside;
      same = λ k a b.
          eqb-true (get_or xs k 0) (get_or ys k 0)
          (not-false (nat_eq (get_or xs k 0) (get_or ys k 0))
          (sym (bit_tells xs ys m k h le b) ∙ none_from r (take m (differ_bits xs ys)) k high a));
      differ = λ pos.
          let last : suc (r - 1) ≡ r = omega arith in
          let at : r - 1 < m = omega (arith, inside) in
          let up : n < 2 ^ suc (r - 1) = subst (λ j. n < 2 ^ j) (sym last) high in
          let down : 2 ^ suc (r - 1) ≤ 2 * n + 1 = subst (λ j. 2 ^ j ≤ 2 * n + 1) (sym last) low in
          eqb-false (get_or xs (r - 1) 0) (get_or ys (r - 1) 0)
          (not-true (nat_eq (get_or xs (r - 1) 0) (get_or ys (r - 1) 0))
          (sym (bit_tells xs ys m (r - 1) h le at)
          ∙ top_bit (r - 1) (take m (differ_bits xs ys)) (omega (arith, down, pow-suc 2 (r - 1))) up));
    }

pub mask_ends :
    (xs ys : List ℕ) (m first r : ℕ) → length xs ≡ 16 → length ys ≡ 16 → m ≤ 16
    → first ≡ mask_l (differ_bits xs ys) % 2 ^ m → r ≡ 64 - count_leading_zeros 64 first → EndsDifferences m xs ys r
mask_ends xs ys m first r lx ly le e q =
    let ms = differ_bits xs ys in
    let long : length ms ≡ 16 = length-zip2 (λ x y. not (nat_eq x y)) xs ys (lx ∙ sym ly) ∙ lx in
    let many : length (take m ms) ≡ m = length-take-le m ms (omega arith) in
    let is : first ≡ mask_l (take m ms) = e ∙ mask_take m ms in
    let below : mask_l (take m ms) < 2 ^ m = subst (λ j. mask_l (take m ms) < 2 ^ j) many (mask_l-lt (take m ms)) in
    let fits : first < 2 ^ 64 = omega (arith, is, below, pow_mono le) in
    let t = leading_length 64 first fits in
    let same : t.0 ≡ r = omega (arith, q, t.1) in
    subst (EndsDifferences m xs ys) same
    (length_ends xs ys m t.0 (lx ∙ sym ly) (omega arith) below
    (subst (λ n. n < 2 ^ t.0) is t.2) (subst (λ n. 2 ^ t.0 ≤ 2 * n + 1) is t.3))
