-- Flags in words of 64 bits
use Rattle.std.proofs.Common.{Bool, List, [], ap, arith, cond, eq-eqb, false, get_or, inl, inr, length, ne_eqb, refl, replicate, set, sym}
use Rattle.std.proofs.Common.{take, true, w64, zero, suc, ℕ, ◌%◌, ◌*◌, ◌++◌, ◌+◌, ◌-◌, ◌/◌, ◌<◌, ◌==◌, ◌^◌, ◌∙◌, ◌∷◌, ◌≡◌, ◌≤◌, ◌⊎◌, get_or-set_same}
use Rattle.std.proofs.Common.{get_or-set_other, nat_eq}
use Rattle.std.specs.Prelude.{bit_and, bit_or, min, not, ◌&&◌}
use Rattle.std.specs.Int.{bit_at, bit_not}
use Rattle.std.proofs.lemmas.Bool.{cases_eq, cases_lt, false≢true}
use Rattle.std.proofs.lemmas.List.{get_or-replicate, get_or_past, length-replicate, take_all}
use Rattle.std.proofs.lemmas.List.FromFn.{get_or-map-range_with_len, length-map-range_with_len}
use Rattle.std.proofs.Math.Nat.{div-le_self}
use Rattle.std.proofs.lemmas.Nat.{shr-shr}
use Rattle.std.proofs.lemmas.Nat.Bits.{bit_at-lt, bit_at-zero, bit_at_and, bit_at_clear_other, bit_at_clear_same, bit_at_not, bit_at_set_other, bit_at_set_same}
use Rattle.pair_queue.specs.Rows.{HasWithout, NoneWithout, flag_of, flags_of}

pub length-flags_of : (words : List ℕ) → length (flags_of words) ≡ 64 * length words
unfolding flags_of
length-flags_of words = length-map-range_with_len (flag_of words) 0 (64 * length words)

pub no_words : flags_of [] ≡ []
unfolding flags_of
no_words = refl

flag_past : (words : List ℕ) (i : ℕ) → 64 * length words ≤ i → flag_of words i ≡ false
flag_past words i h =
    let past : length words ≤ i / 64 = omega (arith, h) in
    ap (λ w. bit_at w (i % 64) == 1) (get_or_past words (i / 64) 0 past) ∙ ap (λ b. b == 1) (bit_at-zero (i % 64))

-- the flags of a row by its words
pub flag_is : (words : List ℕ) (i : ℕ) → get_or (flags_of words) i false ≡ flag_of words i
unfolding flags_of
flag_is words i = go (cases_lt i (64 * length words))
  where
    go : (i < 64 * length words) ⊎ (64 * length words ≤ i) → get_or (flags_of words) i false ≡ flag_of words i
    go (inl l) = get_or-map-range_with_len (flag_of words) 0 (64 * length words) i i false l (omega arith)
    go (inr l) = get_or_past (flags_of words) i false (omega (arith, l, length-flags_of words)) ∙ sym (flag_past words i l)

-- behind the words there is no flag
pub flags_end : (words : List ℕ) (i : ℕ) → flag_of words i ≡ true → i < 64 * length words
flags_end words i h = go (cases_lt i (64 * length words))
  where
    go : (i < 64 * length words) ⊎ (64 * length words ≤ i) → i < 64 * length words
    go (inl l) = l
    go (inr l) = absurd (false≢true (sym (flag_past words i l) ∙ h))

-- ---- words of zeros behind the others
zeros : (k i : ℕ) → ◌≡◌ {A = ℕ} (get_or (replicate k 0) i 0) 0
zeros k i = go (cases_lt i k)
  where
    go : (i < k) ⊎ (k ≤ i) → ◌≡◌ {A = ℕ} (get_or (replicate k 0) i 0) 0
    go (inl l) = get_or-replicate k i 0 0 l
    go (inr l) = get_or_past (replicate k 0) i 0 (omega (arith, l, length-replicate {A = ℕ} k 0))

pub words_more : (words : List ℕ) (k i : ℕ) → get_or (words ++ replicate k 0) i 0 ≡ get_or words i 0
words_more [] k i = zeros k i ∙ sym (get_or_past [] i 0 (omega arith))
words_more (w ∷ words) k zero = refl
words_more (w ∷ words) k (suc i) = words_more words k i

pub flags_more : (words new : List ℕ) (n k : ℕ) → length words ≤ n → new ≡ take n words ++ replicate k 0 → (i : ℕ)
    → get_or (flags_of new) i false ≡ get_or (flags_of words) i false
flags_more words new n k few is i =
    let all : new ≡ words ++ replicate k 0 = is ∙ ap (λ l. l ++ replicate k 0) (take_all n words few) in
    flag_is new i ∙ ap (λ l. flag_of l i) all ∙ ap (λ w. bit_at w (i % 64) == 1) (words_more words k (i / 64)) ∙ sym (flag_is words i)

-- ---- one flag changed
pub flag_put :
    (words : List ℕ) (n v : ℕ) (b : Bool) → n / 64 < length words
    → ((r : ℕ) → r < 64 → (bit_at v r == 1) ≡ cond (nat_eq r (n % 64)) b (bit_at (get_or words (n / 64) 0) r == 1))
    → (i : ℕ) → get_or (flags_of (set words (n / 64) v)) i false ≡ cond (nat_eq i n) b (get_or (flags_of words) i false)
flag_put words n v b within h i = flag_is (set words (n / 64) v) i ∙ go (cases_eq (i / 64) (n / 64)) ∙ ap (λ z. cond (nat_eq i n) b z) (sym (flag_is words i))
  where
    low : i % 64 < 64
    low = omega arith

    place : i / 64 ≡ n / 64 → nat_eq (i % 64) (n % 64) ≡ nat_eq i n
    place e = elim (cases_eq i n) [
      | inl s ↦ eq-eqb (i % 64) (n % 64) (ap (λ k. k % 64) s) ∙ sym (eq-eqb i n s)
      | inr d ↦ ne_eqb (i % 64) (n % 64) (λ r. d (omega (arith, e, r))) ∙ sym (ne_eqb i n d)
    ]

    go : (i / 64 ≡ n / 64) ⊎ (i / 64 ≡ n / 64 → ⊥) → flag_of (set words (n / 64) v) i ≡ cond (nat_eq i n) b (flag_of words i)
    go (inl e) =
        ap (λ k. bit_at (get_or (set words (n / 64) v) k 0) (i % 64) == 1) e
        ∙ ap (λ w. bit_at w (i % 64) == 1) (get_or-set_same words (n / 64) v 0 within)
        ∙ h (i % 64) low
        ∙ ap (λ p. cond p b (bit_at (get_or words (n / 64) 0) (i % 64) == 1)) (place e)
        ∙ ap (λ k. cond (nat_eq i n) b (bit_at (get_or words k 0) (i % 64) == 1)) (sym e)
    go (inr d) =
        ap (λ w. bit_at w (i % 64) == 1) (get_or-set_other words (n / 64) (i / 64) v 0 d)
        ∙ sym (ap (λ p. cond p b (flag_of words i)) (ne_eqb i n (λ e. d (ap (λ k. k / 64) e))))

-- ---- one word
pub bit_set : (word place r : ℕ) → place < 64 → (bit_at (bit_or word (1 * 2 ^ place % 2 ^ 64)) r == 1) ≡ cond (nat_eq r place) true (bit_at word r == 1)
bit_set word place r h = go (cases_eq r place)
  where
    go : (r ≡ place) ⊎ (r ≡ place → ⊥) → (bit_at (bit_or word (1 * 2 ^ place % 2 ^ 64)) r == 1) ≡ cond (nat_eq r place) true (bit_at word r == 1)
    go (inl e) =
        eq-eqb (bit_at (bit_or word (1 * 2 ^ place % 2 ^ 64)) r) 1 (ap (bit_at (bit_or word (1 * 2 ^ place % 2 ^ 64))) e ∙ bit_at_set_same w64 word place h)
        ∙ sym (ap (λ s. cond s true (bit_at word r == 1)) (eq-eqb r place e))
    go (inr d) = ap (λ b. b == 1) (bit_at_set_other w64 word place h r d) ∙ sym (ap (λ s. cond s true (bit_at word r == 1)) (ne_eqb r place d))

pub bit_cleared : (word place r : ℕ) → place < 64 → r < 64
    → (bit_at (bit_and word (bit_not w64 (1 * 2 ^ place % 2 ^ 64))) r == 1) ≡ cond (nat_eq r place) false (bit_at word r == 1)
bit_cleared word place r h l = go (cases_eq r place)
  where
    new : ℕ
    new = bit_and word (bit_not w64 (1 * 2 ^ place % 2 ^ 64))

    go : (r ≡ place) ⊎ (r ≡ place → ⊥) → (bit_at new r == 1) ≡ cond (nat_eq r place) false (bit_at word r == 1)
    go (inl e) = ap (λ b. b == 1) (ap (bit_at new) e ∙ bit_at_clear_same w64 word place h)
        ∙ sym (ap (λ s. cond s false (bit_at word r == 1)) (eq-eqb r place e))
    go (inr d) = ap (λ b. b == 1) (bit_at_clear_other w64 word place h r l d) ∙ sym (ap (λ s. cond s false (bit_at word r == 1)) (ne_eqb r place d))

-- the bits of the one word that the other has not
both : (j k : ℕ) → j < 2 → k < 2 → (min j (1 - k) == 1) ≡ ((j == 1) && not (k == 1))
both zero k l m = ap (λ z. z == 1) (none k)
  where
    none : (k : ℕ) → min 0 (1 - k) ≡ 0
    none k = omega arith
both (suc zero) zero l m = refl
both (suc zero) (suc zero) l m = refl
both (suc zero) (suc (suc k)) l m = absurd (omega (arith, m))
both (suc (suc j)) k l m = absurd (omega (arith, l))

pub bits_without : (mine theirs : ℕ) → theirs < 2 ^ 64 → (r : ℕ) → r < 64
    → (bit_at (bit_and mine (bit_not w64 theirs)) r == 1) ≡ ((bit_at mine r == 1) && not (bit_at theirs r == 1))
bits_without mine theirs fits r l =
    ap (λ b. b == 1) (bit_at_and mine (bit_not w64 theirs) r ∙ ap (min (bit_at mine r)) (bit_at_not w64 theirs r fits l))
    ∙ both (bit_at mine r) (bit_at theirs r) (bit_at-lt mine r) (bit_at-lt theirs r)

-- a flag by its word and its place there
pub flag_at : (words : List ℕ) (index r : ℕ) → r < 64 → get_or (flags_of words) (64 * index + r) false ≡ (bit_at (get_or words index 0) r == 1)
flag_at words index r l =
    let quotient : (64 * index + r) / 64 ≡ index = omega (arith, l) in
    let rest : (64 * index + r) % 64 ≡ r = omega (arith, l) in
    flag_is words (64 * index + r)
    ∙ ap (λ q. bit_at (get_or words q 0) ((64 * index + r) % 64) == 1) quotient
    ∙ ap (λ z. bit_at (get_or words index 0) z == 1) rest

-- the bits behind a place
pub bits_behind : (word place r : ℕ) → bit_at (word / 2 ^ place / 2 ^ 1) r ≡ bit_at word (place + 1 + r)
bits_behind word place r = ap (λ z. z % 2) (shr-shr (word / 2 ^ place) 1 r ∙ shr-shr word place (1 + r)
    ∙ ap (λ k. word / 2 ^ k) same)
  where
    same : place + (1 + r) ≡ place + 1 + r
    same = omega arith

pub less_behind : (word place : ℕ) → 0 < word → word / 2 ^ place / 2 ^ 1 < word
less_behind word place some = omega (arith, some, div-le_self word (2 ^ place))

-- ---- words that are passed over
pub none_by : (f g p q : ℕ → Bool) (i j : ℕ) → ((c : ℕ) → f c ≡ p c) → ((c : ℕ) → g c ≡ q c) → NoneWithout f g i j → NoneWithout p q i j
none_by f g p q i j mine theirs h = λ c l m. sym (λ t. mine c t && not (theirs c t)) ∙ h c l m

pub has_by : (f g p q : ℕ → Bool) (i : ℕ) → ((c : ℕ) → f c ≡ p c) → ((c : ℕ) → g c ≡ q c) → HasWithout f g i → HasWithout p q i
has_by f g p q i mine theirs (c, l, m, h) = (c, l, m, sym (λ t. mine c t && not (theirs c t)) ∙ h)

-- a bit of a word is a flag
pub has_in_word :
    (mine theirs : List ℕ) (index word r : ℕ) → r < 64 → bit_at word r ≡ 1
    → ((r : ℕ) → r < 64 → (bit_at word r == 1) ≡ ((bit_at (get_or mine index 0) r == 1) && not (bit_at (get_or theirs index 0) r == 1)))
    → HasWithout (flag_of mine) (flag_of theirs) index
has_in_word mine theirs index word r low one bits =
    let quotient : (64 * index + r) / 64 ≡ index = omega (arith, low) in
    let rest : (64 * index + r) % 64 ≡ r = omega (arith, low) in (
      64 * index + r,
      omega arith,
      omega (arith, low),
      (λ i. (bit_at (get_or mine (quotient i) 0) (rest i) == 1) && not (bit_at (get_or theirs (quotient i) 0) (rest i) == 1))
          ∙ sym (bits r low)
          ∙ eq-eqb (bit_at word r) 1 one,
    )
