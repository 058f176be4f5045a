-- The bits of exponents that are compared side by side
use Rattle.std.proofs.Common.{Bool, List, ap, arith, cond, eqb, false, get_or, inl, inr, length, lt_of_lt_of_le, map, max, mod-eq_of_lt, mul-lt-mul_of_pos_right, not, pow_mono, refl, subst, suc, sym, w16, zero, ℕ, ◌%◌, ◌*◌, ◌+◌, ◌-◌, ◌^◌, ◌<◌, ◌∙◌, ◌≡◌, ◌≤◌, ◌⊎◌}
use Rattle.std.proofs.lemmas.Bool.{cases_lt, ne_eqb}
use Rattle.std.proofs.lemmas.List.{get_or-drop, get_or-map, length-map}
use Rattle.std.proofs.lemmas.Nat.{pow-add, pow_pos}
use Rattle.std.proofs.lemmas.Nat.Bits.{bit_at_above, bit_at_cat_high, bit_at_cat_low, bit_at_or, bit_at-zero}
use Rattle.std.proofs.lemmas.Simd.{bit_mask_l, bitmask_splat, get_or-chunk, length-chunk, mask_l-lt}
use Rattle.std.specs.Int.{bit_at}
use Rattle.std.specs.Prelude.{bit_or, drop, replicate}
use Rattle.std.specs.Simd.Lanes.{chunk, mask_l, top, zip2}
use Rattle.vector_division.proofs.Masking.{beyond}
use Rattle.vector_division.specs.Marks.{HasBits, HasBitsTo, occurs_bit}

-- ---- the bits of one load
abbrev differs : ℕ → ℕ → Bool
differs a b = not (eqb a b)

above_zero : (e : ℕ) → cond (differs e 0) 1 0 ≡ occurs_bit e
above_zero zero = refl
above_zero (suc e) = ap (λ b. cond (not b) 1 0) (ne_eqb (suc e) 0 (λ q. omega arith))

abbrev pub mask_at : ℕ → ℕ → List ℕ → ℕ
mask_at at n m = mask_l (map (top 15) (zip2 (λ a b. cond (differs a b) 65535 0) (chunk at n m) (replicate n 0))) % 2 ^ 64

module _ (m : List ℕ) (at n : ℕ) (lanes : n ≤ 64) (within : at + n ≤ length m) where
  flags : List Bool
  flags = map (λ e. differs e 0) (chunk at n m)

  long : length flags ≡ n
  unfolding flags
  long = length-map (chunk at n m) (λ e. differs e 0) ∙ length-chunk at n m within

  is_mask : mask_at at n m ≡ mask_l flags
  unfolding flags
  is_mask = bitmask_splat w16 differs (chunk at n m) n 0 (length-chunk at n m within) lanes

  flag : (i : ℕ) → i < n → get_or flags i false ≡ differs (get_or (drop at m) i 0) 0
  unfolding flags
  flag i lt =
      get_or-map (λ e. differs e 0) (chunk at n m) i 0 false (subst (λ z. i < z) (sym (length-chunk at n m within)) lt)
      ∙ ap (λ e. differs e 0) (get_or-chunk at n m i 0 lt ∙ sym (get_or-drop at m i 0))

  pub small_mask : mask_at at n m < 2 ^ n
  small_mask = subst (λ z. z < 2 ^ n) (sym is_mask) (subst (λ z. mask_l flags < 2 ^ z) long (mask_l-lt flags))

  pub bits_of_mask : HasBitsTo (drop at m) (mask_at at n m) n
  bits_of_mask = record {
    low = λ i lt. ap (λ z. bit_at z i) is_mask ∙ bit_mask_l flags i ∙ ap (λ b. cond b 1 0) (flag i lt) ∙ above_zero (get_or (drop at m) i 0);
    high = λ i le. bit_at_above (mask_at at n m) n i small_mask le;
  }

-- ---- the bits of the first n exponents and of the last n
module _ (m : List ℕ) (n a b last : ℕ) (lanes : n ≤ 32) (is : last ≡ length m - n) (least : n ≤ length m) (most : length m ≤ 2 * n)
    (first : HasBitsTo m a n) (behind : HasBitsTo (drop last m) b n) (small : b < 2 ^ n) where
  fits : b * 2 ^ last < 2 ^ 64
  fits =
      let product : b * 2 ^ last < 2 ^ n * 2 ^ last = mul-lt-mul_of_pos_right small (pow_pos last) in
      let sum : 2 ^ (n + last) ≤ 2 ^ 64 = pow_mono {i = n + last} {j = 64} (omega arith) in
      lt_of_lt_of_le product (subst (λ z. z ≤ 2 ^ 64) (pow-add 2 n last) sum)

  -- the bits of the last n, at their places
  raised : (i : ℕ) → bit_at (b * 2 ^ last % 2 ^ 64) i ≡ bit_at (b * 2 ^ last + 0) i
  raised i = ap (λ z. bit_at z i) (mod-eq_of_lt fits ∙ omega arith)

  raised_low : (i : ℕ) → i < last → bit_at (b * 2 ^ last % 2 ^ 64) i ≡ 0
  raised_low i lt = raised i ∙ bit_at_cat_low b last 0 i lt ∙ bit_at-zero i

  raised_high : (i : ℕ) → last ≤ i → bit_at (b * 2 ^ last % 2 ^ 64) i ≡ occurs_bit (get_or m i 0)
  raised_high i le = raised i ∙ bit_at_cat_high b last 0 i (pow_pos last) le ∙ at (cases_lt i (length m))
    where
      at : (i < length m) ⊎ (length m ≤ i) → bit_at b (i - last) ≡ occurs_bit (get_or m i 0)
      at (inl lt) =
          behind.low (i - last) (omega arith)
          ∙ ap occurs_bit (get_or-drop last m (i - last) 0 ∙ ap (λ z. get_or m z 0) (omega arith))
      at (inr ge) = behind.high (i - last) (omega arith) ∙ sym (ap occurs_bit (beyond m i ge))

  joined : (i : ℕ) → max (bit_at a i) (bit_at (b * 2 ^ last % 2 ^ 64) i) ≡ occurs_bit (get_or m i 0)
  joined i = at (cases_lt i n) (cases_lt i last)
    where
      at : (i < n) ⊎ (n ≤ i) → (i < last) ⊎ (last ≤ i) → max (bit_at a i) (bit_at (b * 2 ^ last % 2 ^ 64) i) ≡ occurs_bit (get_or m i 0)
      at (inl lt) (inl below) = let x = first.low i lt in let y = raised_low i below in omega arith
      at (inl lt) (inr from) = let x = first.low i lt in let y = raised_high i from in omega arith
      at (inr ge) (inl below) = absurd (omega arith)
      at (inr ge) (inr from) = let x = first.high i ge in let y = raised_high i from in omega arith

  pub bits_of_halves : HasBits m (bit_or a (b * 2 ^ last % 2 ^ 64))
  bits_of_halves = record {
    low = λ i lt. bit_at_or a (b * 2 ^ last % 2 ^ 64) i ∙ joined i;
    high = λ i le. bit_at_or a (b * 2 ^ last % 2 ^ 64) i ∙ joined i ∙ ap occurs_bit (beyond m i (omega arith));
  }
