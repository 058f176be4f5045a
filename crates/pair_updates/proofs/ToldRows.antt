-- What words tell of rows: where no excess is above 3, they count each
use Rattle.std.proofs.Common.{Bool, List, ap, ap₂, arith, cond, false, get_or, inl, inr, length, ltb, max, min, refl, suc, sym, true, zero, ℕ, ◌%◌, ◌*◌, ◌+◌, ◌-◌, ◌/◌, ◌^◌, ◌++◌, ◌<◌, ◌∙◌, ◌≡◌, ◌≤◌, ◌⊎◌}
use Rattle.std.proofs.lemmas.Bool.{cases_lt, false≢true, lt-ltb, ltb-true}
use Rattle.std.proofs.lemmas.List.{get_or-append_right, get_or-replicate, get_or_append_left, length-append, length-replicate}
use Rattle.std.proofs.lemmas.Nat.{shr-shr}
use Rattle.std.proofs.lemmas.Nat.Bits.{bit_at-zero, bit_at_and, same_from_bits}
use Rattle.std.proofs.lemmas.Simd.{bit_mask_l, get_or-zip2, length-zip2}
use Rattle.std.specs.Int.{bit_at}
use Rattle.std.specs.Prelude.{bit_and, replicate}
use Rattle.std.specs.Simd.Lanes.{mask_l, zip2}
use Rattle.pair_updates.proofs.RowMasks.{long_flags}
use Rattle.pair_updates.specs.Rows.{TellsAll, exceeding, exceeds_by}

-- ---- flags of one of four lists one behind the other
module _ (ps qs rs us : List Bool) (lp : length ps ≡ 16) (lq : length qs ≡ 16) (lr : length rs ≡ 16) (v : ℕ) (lt : v < 16) where
  two : length (ps ++ qs) ≡ 32
  two = let e = length-append ps qs in omega (arith, e, lp, lq)

  three : length ((ps ++ qs) ++ rs) ≡ 48
  three = let e = length-append (ps ++ qs) rs in omega (arith, e, two, lr)

  before_last : (i : ℕ) → i < 48 → get_or (((ps ++ qs) ++ rs) ++ us) i false ≡ get_or ((ps ++ qs) ++ rs) i false
  before_last i l = get_or_append_left ((ps ++ qs) ++ rs) us false i (let e = three in omega (arith, e, l))

  in_half : (i : ℕ) → i < 32 → get_or (((ps ++ qs) ++ rs) ++ us) i false ≡ get_or (ps ++ qs) i false
  in_half i l = before_last i (omega (arith, l)) ∙ get_or_append_left (ps ++ qs) rs false i (let e = two in omega (arith, e, l))

  in_first : (i : ℕ) → i ≡ v → get_or (((ps ++ qs) ++ rs) ++ us) i false ≡ get_or ps v false
  in_first i e =
      in_half i (omega (arith, e, lt)) ∙ get_or_append_left ps qs false i (omega (arith, e, lt, lp)) ∙ ap (λ k. get_or ps k false) e

  in_second : (i : ℕ) → i ≡ 16 + v → get_or (((ps ++ qs) ++ rs) ++ us) i false ≡ get_or qs v false
  in_second i e =
      in_half i (omega (arith, e, lt)) ∙ get_or-append_right ps qs 16 i false lp (omega (arith, e)) ∙ ap (λ k. get_or qs k false) (omega (arith, e))

  in_third : (i : ℕ) → i ≡ 32 + v → get_or (((ps ++ qs) ++ rs) ++ us) i false ≡ get_or rs v false
  in_third i e =
      before_last i (omega (arith, e, lt)) ∙ get_or-append_right (ps ++ qs) rs 32 i false two (omega (arith, e))
      ∙ ap (λ k. get_or rs k false) (omega (arith, e))

  in_fourth : (i : ℕ) → i ≡ 48 + v → get_or (((ps ++ qs) ++ rs) ++ us) i false ≡ get_or us v false
  in_fourth i e =
      get_or-append_right ((ps ++ qs) ++ rs) us 48 i false three (omega (arith, e)) ∙ ap (λ k. get_or us k false) (omega (arith, e))

quarter :
    (f : ℕ → List Bool) → ((t : ℕ) → length (f t) ≡ 16) → (t v : ℕ) → t < 4 → v < 16
    → get_or (((f 0 ++ f 1) ++ f 2) ++ f 3) (t * 16 + v) false ≡ get_or (f t) v false
quarter f long zero v l lt = in_first (f 0) (f 1) (f 2) (f 3) (long 0) (long 1) (long 2) v lt (0 * 16 + v) (omega arith)
quarter f long (suc zero) v l lt = in_second (f 0) (f 1) (f 2) (f 3) (long 0) (long 1) (long 2) v lt (1 * 16 + v) (omega arith)
quarter f long (suc (suc zero)) v l lt = in_third (f 0) (f 1) (f 2) (f 3) (long 0) (long 1) (long 2) v lt (2 * 16 + v) (omega arith)
quarter f long (suc (suc (suc zero))) v l lt = in_fourth (f 0) (f 1) (f 2) (f 3) (long 0) (long 1) (long 2) v lt (3 * 16 + v) (omega arith)
quarter f long (suc (suc (suc (suc t)))) v l lt = absurd (omega (arith, l))

-- ---- bits of a word
flag_at :
    (t : ℕ) (xs ys : List ℕ) → length xs ≡ 16 → length ys ≡ 16 → (v : ℕ) → v < 16
    → get_or (exceeds_by 16 t xs ys) v false ≡ ltb t (get_or xs v 0 - get_or ys v 0)
flag_at t xs ys lx ly v lt =
    get_or-zip2 (λ (u e : ℕ). ltb u e) (replicate 16 t) (zip2 ◌-◌ xs ys) v 0 0 false
    (let e = length-replicate 16 t in omega (arith, e, lt)) (let e = length-zip2 ◌-◌ xs ys in omega (arith, e, lx, ly, lt))
    ∙ ap₂ ltb (get_or-replicate 16 v t 0 lt) (get_or-zip2 ◌-◌ xs ys v 0 0 0 (omega (arith, lx, lt)) (omega (arith, ly, lt)))

bit_told :
    (xs ys : List ℕ) → length xs ≡ 16 → length ys ≡ 16 → (t v : ℕ) → t < 4 → v < 16
    → bit_at (mask_l (exceeding xs ys)) (t * 16 + v) ≡ cond (ltb t (get_or xs v 0 - get_or ys v 0)) 1 0
bit_told xs ys lx ly t v l lt =
    bit_mask_l (exceeding xs ys) (t * 16 + v)
    ∙ ap (λ b. cond b 1 0) (quarter (λ k. exceeds_by 16 k xs ys) (λ k. long_flags 16 k xs ys lx ly) t v l lt ∙ flag_at t xs ys lx ly v lt)

set_too : (p q : Bool) → min (cond p 1 0) (cond q 1 0) ≡ cond p 1 0 → p ≡ true → q ≡ true
set_too p true h e = refl
set_too true false h e = absurd (omega (arith, h))
set_too false false h e = absurd (false≢true e)

-- what exceeds a number by at most 3, and by no more than another wherever that is told, is at most the greater of the two others
excess_told : (k h x : ℕ) → k - h ≤ 3 → ((t : ℕ) → t < 4 → ltb t (k - h) ≡ true → ltb t (x - h) ≡ true) → k ≤ max x h
excess_told k h x le more = go (cases_lt 0 (k - h))
  where
    go : (0 < k - h) ⊎ (k - h ≤ 0) → k ≤ max x h
    go (inl l) =
        let a : (k - h) - 1 < x - h =
        ltb-true ((k - h) - 1) (x - h) (more ((k - h) - 1) (omega (arith, le)) (lt-ltb ((k - h) - 1) (k - h) (omega (arith, l)))) in
        omega (arith, a, l)
    go (inr r) = omega (arith, r)

module _ (ks hs xs : List ℕ) (lk : length ks ≡ 16) (lh : length hs ≡ 16) (lx : length xs ≡ 16)
    (within : bit_and (mask_l (exceeding ks hs)) (mask_l (exceeding xs hs)) ≡ mask_l (exceeding ks hs)) (all : TellsAll (mask_l (exceeding ks hs))) where
  exceeds_so : (t v : ℕ) → t < 4 → v < 16 → ltb t (get_or ks v 0 - get_or hs v 0) ≡ true → ltb t (get_or xs v 0 - get_or hs v 0) ≡ true
  exceeds_so t v l lt =
      set_too (ltb t (get_or ks v 0 - get_or hs v 0)) (ltb t (get_or xs v 0 - get_or hs v 0))
      (ap₂ min (sym (bit_told ks hs lk lh t v l lt)) (sym (bit_told xs hs lx lh t v l lt))
      ∙ sym (bit_at_and (mask_l (exceeding ks hs)) (mask_l (exceeding xs hs)) (t * 16 + v))
      ∙ ap (λ z. bit_at z (t * 16 + v)) within ∙ bit_told ks hs lk lh t v l lt)

  few : (v : ℕ) → v < 16 → get_or ks v 0 - get_or hs v 0 ≤ 3
  few v lt = go (cases_lt 3 (get_or ks v 0 - get_or hs v 0))
    where
      go : (3 < get_or ks v 0 - get_or hs v 0) ⊎ (get_or ks v 0 - get_or hs v 0 ≤ 3) → get_or ks v 0 - get_or hs v 0 ≤ 3
      go (inl l) =
          let one : ◌≡◌ {A = ℕ} (cond (ltb 3 (get_or ks v 0 - get_or hs v 0)) 1 0) 1 = ap (λ b. cond b 1 0) (lt-ltb 3 (get_or ks v 0 - get_or hs v 0) l) in
          let none : ◌≡◌ {A = ℕ} (cond (ltb 3 (get_or ks v 0 - get_or hs v 0)) 1 0) 0 =
          sym (bit_told ks hs lk lh 3 v (omega arith) lt) ∙ all (3 * 16 + v) (omega arith) in
          absurd (omega (arith, one, none))
      go (inr r) = r

  -- a row whose word tells all is at most the greater of the two others, where its word is within that of the one
  pub told_below : (v : ℕ) → v < 16 → get_or ks v 0 ≤ max (get_or xs v 0) (get_or hs v 0)
  told_below v lt = excess_told (get_or ks v 0) (get_or hs v 0) (get_or xs v 0) (few v lt) (λ t l. exceeds_so t v l lt)

-- ---- numbers without high bits
high_bit : (n k i : ℕ) → k ≤ i → bit_at n i ≡ bit_at (n / 2 ^ k) (i - k)
high_bit n k i le =
    let e : i ≡ k + (i - k) = omega (arith, le) in
    ap (bit_at n) e ∙ ap (λ x. x % 2) (sym (shr-shr n k (i - k)))

pub none_high : (n k : ℕ) → n / 2 ^ k ≡ 0 → (i : ℕ) → k ≤ i → bit_at n i ≡ 0
none_high n k e i le = high_bit n k i le ∙ ap (λ z. bit_at z (i - k)) e ∙ bit_at-zero (i - k)

pub none_left : (n k : ℕ) → ((i : ℕ) → k ≤ i → bit_at n i ≡ 0) → n / 2 ^ k ≡ 0
none_left n k h = same_from_bits (n / 2 ^ k) 0 (λ i.
    ap (λ x. x % 2) (shr-shr n k i) ∙ h (k + i) (omega arith) ∙ sym (bit_at-zero i))
