-- A term's text says its residue and its exponents
use Rattle.std.proofs.Common.{◌≡◌, ◌≢◌, ◌++◌, ◌^◌, ◌<◌, ◌≤◌, ◌==◌, ◌∙◌, inl, inr, Bool, true, false, cond, List, [], ◌∷◌, ℕ, zero, suc, length, refl, sym, ap, arith}
use Rattle.std.specs.Fmt.{decimal}
use Rattle.std.proofs.lemmas.List.{append-nil}
use Rattle.std.proofs.lemmas.Fmt.{decimal_injective}
use Rattle.std.proofs.lemmas.Bool.Decides.{nat_tests}
use Rattle.formal_sums.specs.FormalSums.{Each}
use Rattle.poly_text.specs.Names.{AreAllDistinct, IsLetter, IsName, IsNameByte}
use Rattle.poly_text.specs.Texts.{factor_texts, joined, power_texts, powers_texts}
use Rattle.poly_text.specs.Writing.{power_text}
use Rattle.poly_text.proofs.Decimals.{AreDigits, IsDigit, decimal_digits}
use Rattle.poly_text.proofs.Splitting.{Free, Stops, cut, each_append, each_joined, each_map, joined_same}

-- the byte of a factor: none of + * , and the newline
abbrev pub IsFactorByte : ℕ → Type 0
IsFactorByte c = 48 ≤ c

name_byte : (c : ℕ) → IsNameByte c → (48 ≤ c) × (c ≢ 94)
name_byte c (inl (inl h)) = (omega arith, λ e. absurd (omega arith))
name_byte c (inl (inr h)) = (omega arith, λ e. absurd (omega arith))
name_byte c (inr (inl h)) = (omega arith, λ e. absurd (omega arith))
name_byte c (inr (inr h)) = (omega arith, λ e. absurd (omega arith))

name_free : (x : List ℕ) → IsName x → Free 94 x
name_free [] h = absurd h
name_free (c ∷ cs) h = ((name_byte c (inl h.0)).1, each_map IsNameByte (λ d. d ≢ 94) cs (λ d k. (name_byte d k).1) h.1)

name_bytes : (x : List ℕ) → IsName x → Each IsFactorByte x
name_bytes [] h = absurd h
name_bytes (c ∷ cs) h = ((name_byte c (inl h.0)).0, each_map IsNameByte IsFactorByte cs (λ d k. (name_byte d k).0) h.1)

digit_bytes : (x : List ℕ) → AreDigits x → Each IsFactorByte x
digit_bytes [] h = absurd h
digit_bytes (c ∷ cs) h = (h.0.0, each_map IsDigit IsFactorByte cs (λ d k. k.0) h.1)

-- what stands behind the name in a power
abbrev exponent_text : ℕ → List ℕ
exponent_text e = cond (e == 1) [] (94 ∷ decimal e)

power_text_is : (name : List ℕ) (e : ℕ) → power_text name e ≡ name ++ exponent_text e
power_text_is name e = go (e == 1) where
  go : (b : Bool) → cond b name (name ++ 94 ∷ decimal e) ≡ name ++ cond b [] (94 ∷ decimal e)
  go true = sym (append-nil name)
  go false = refl

exponent_stops : (e : ℕ) → Stops 94 (exponent_text e)
exponent_stops e = go (e == 1) where
  go : (b : Bool) → Stops 94 (cond b [] (94 ∷ decimal e))
  go true = tt
  go false = refl

exponent_injective : (e f : ℕ) → e < 2 ^ 64 → f < 2 ^ 64 → exponent_text e ≡ exponent_text f → e ≡ f
exponent_injective e f he hf h = go (e == 1) (f == 1) refl refl h where
  go : (b c : Bool) → (e == 1) ≡ b → (f == 1) ≡ c → cond b [] (94 ∷ decimal e) ≡ cond c [] (94 ∷ decimal f) → e ≡ f
  go true true hb hc k = grind (arith, nat_tests)
  go true false hb hc k = absurd cc
  go false true hb hc k = absurd cc
  go false false hb hc k = let same : decimal e ≡ decimal f = cc in decimal_injective e f he hf same

power_injective : (m n : List ℕ) (e f : ℕ) → IsName m → IsName n → e < 2 ^ 64 → f < 2 ^ 64 → power_text m e ≡ power_text n f → (m ≡ n) × (e ≡ f)
power_injective m n e f hm hn he hf h =
    let split = cut 94 m n (exponent_text e) (exponent_text f) (name_free m hm) (name_free n hn) (exponent_stops e) (exponent_stops f)
    (sym (power_text_is m e) ∙ h ∙ power_text_is n f) in
    (split.0, exponent_injective e f he hf split.1)

power_texts_some : (name : List ℕ) (e : ℕ) → 0 < e → power_texts name e ≡ power_text name e ∷ []
power_texts_some name zero h = absurd (omega arith)
power_texts_some name (suc zero) h = refl
power_texts_some name (suc (suc k)) h =
    let other : (suc (suc k) == 1) ≡ false = grind (arith, nat_tests) in
    rw other refl

-- a power of a name that is not among the others is the first of no list of theirs
other_head : (n : List ℕ) (e : ℕ) (rest : List (List ℕ)) (ms : List (List ℕ)) (fs : List ℕ) → IsName n → e < 2 ^ 64 → Each (λ m. n ≢ m) ms → Each IsName ms
    → Each (λ f. f < 2 ^ 64) fs → powers_texts ms fs ≡ power_text n e ∷ rest → ⊥
other_head n e rest [] fs hn he other hms hfs h = cc
other_head n e rest (m ∷ ms) [] hn he other hms hfs h = cc
other_head n e rest (m ∷ ms) (zero ∷ fs) hn he other hms hfs h = other_head n e rest ms fs hn he other.1 hms.1 hfs.1 h
other_head n e rest (m ∷ ms) (suc k ∷ fs) hn he other hms hfs h =
    let first : power_text m (suc k) ∷ powers_texts ms fs ≡ power_text n e ∷ rest = ap (λ ps. ps ++ powers_texts ms fs) (sym (power_texts_some m (suc k) (omega arith))) ∙ h in
    let head : power_text m (suc k) ≡ power_text n e = cc in
    other.0 (sym (power_injective m n (suc k) e hms.0 hn hfs.0 he head).0)

-- the powers say the exponents
pub powers_injective : (names : List (List ℕ)) (es fs : List ℕ) → Each IsName names → AreAllDistinct names → length es ≡ length names → length fs ≡ length names
    → Each (λ e. e < 2 ^ 64) es → Each (λ f. f < 2 ^ 64) fs → powers_texts names es ≡ powers_texts names fs → es ≡ fs
powers_injective [] [] [] hn dn le lf he hf h = refl
powers_injective [] (e ∷ es) fs hn dn le lf he hf h = absurd (omega arith)
powers_injective [] [] (f ∷ fs) hn dn le lf he hf h = absurd (omega arith)
powers_injective (n ∷ ns) [] fs hn dn le lf he hf h = absurd (omega arith)
powers_injective (n ∷ ns) (e ∷ es) [] hn dn le lf he hf h = absurd (omega arith)
powers_injective (n ∷ ns) (zero ∷ es) (zero ∷ fs) hn dn le lf he hf h =
    ap (λ r. 0 ∷ r) (powers_injective ns es fs hn.1 dn.1 (omega arith) (omega arith) he.1 hf.1 h)
powers_injective (n ∷ ns) (zero ∷ es) (suc k ∷ fs) hn dn le lf he hf h =
    absurd (other_head n (suc k) (powers_texts ns fs) ns es hn.0 hf.0 dn.0 hn.1 he.1 (h ∙ ap (λ ps. ps ++ powers_texts ns fs) (power_texts_some n (suc k) (omega arith))))
powers_injective (n ∷ ns) (suc k ∷ es) (zero ∷ fs) hn dn le lf he hf h =
    absurd (other_head n (suc k) (powers_texts ns es) ns fs hn.0 he.0 dn.0 hn.1 hf.1 (sym h ∙ ap (λ ps. ps ++ powers_texts ns es) (power_texts_some n (suc k) (omega arith))))
powers_injective (n ∷ ns) (suc j ∷ es) (suc k ∷ fs) hn dn le lf he hf h =
    let both : power_text n (suc j) ∷ powers_texts ns es ≡ power_text n (suc k) ∷ powers_texts ns fs
    = ap (λ ps. ps ++ powers_texts ns es) (sym (power_texts_some n (suc j) (omega arith))) ∙ h ∙ ap (λ ps. ps ++ powers_texts ns fs) (power_texts_some n (suc k) (omega arith)) in
    let head : power_text n (suc j) ≡ power_text n (suc k) = cc in
    let rest : powers_texts ns es ≡ powers_texts ns fs = cc in
    let first = (power_injective n n (suc j) (suc k) hn.0 hn.0 he.0 hf.0 head).1 in
    let more = powers_injective ns es fs hn.1 dn.1 (omega arith) (omega arith) he.1 hf.1 rest in
    cc

-- a factor that begins with a letter
abbrev pub IsPower : List ℕ → Type 0
IsPower [] = ⊥
IsPower (c ∷ cs) = (65 ≤ c) × Each IsFactorByte cs

letter_byte : (c : ℕ) → IsLetter c → 65 ≤ c
letter_byte c (inl h) = h.0
letter_byte c (inr h) = omega arith

power_is : (name : List ℕ) (e : ℕ) → IsName name → e < 2 ^ 64 → IsPower (power_text name e)
power_is [] e hn he = absurd hn
power_is (c ∷ cs) e hn he = rw power_text_is (letter_byte c hn.0, each_append IsFactorByte cs (exponent_text e) (name_bytes (c ∷ cs) hn).1 (go (e == 1))) where
  go : (b : Bool) → Each IsFactorByte (cond b [] (94 ∷ decimal e))
  go true = tt
  go false = (omega arith, digit_bytes (decimal e) (decimal_digits e he))

pub powers_are : (names : List (List ℕ)) (es : List ℕ) → Each IsName names → Each (λ e. e < 2 ^ 64) es → Each IsPower (powers_texts names es)
powers_are [] es hn he = tt
powers_are (n ∷ ns) [] hn he = tt
powers_are (n ∷ ns) (zero ∷ es) hn he = powers_are ns es hn.1 he.1
powers_are (n ∷ ns) (suc k ∷ es) hn he =
    rw (power_texts_some n (suc k) (omega arith)) (power_is n (suc k) hn.0 he.0, powers_are ns es hn.1 he.1)

-- a number is no power
apart : (x y : List ℕ) → AreDigits x → IsPower y → x ≡ y → ⊥
apart [] y hx hy e = hx
apart (c ∷ cs) [] hx hy e = hy
apart (c ∷ cs) (d ∷ ds) hx hy e = let same : c ≡ d = cc in absurd (omega (arith, hx.0.1, hy.0))

-- the factors say the residue and the powers
factors_injective : (c d : ℕ) (ps qs : List (List ℕ)) → c < 2 ^ 64 → d < 2 ^ 64 → Each IsPower ps → Each IsPower qs
    → factor_texts c ps ≡ factor_texts d qs → (c ≡ d) × (ps ≡ qs)
factors_injective c d [] [] hc hd hp hq h = let same : decimal c ≡ decimal d = cc in (decimal_injective c d hc hd same, refl)
factors_injective c d [] (q ∷ qs) hc hd hp hq h = absurd (go (d == 1) h) where
  go : (b : Bool) → decimal c ∷ [] ≡ cond b (q ∷ qs) (decimal d ∷ q ∷ qs) → ⊥
  go true k = let same : decimal c ≡ q = cc in apart (decimal c) q (decimal_digits c hc) hq.0 same
  go false k = cc
factors_injective c d (p ∷ ps) [] hc hd hp hq h = absurd (go (c == 1) h) where
  go : (b : Bool) → cond b (p ∷ ps) (decimal c ∷ p ∷ ps) ≡ decimal d ∷ [] → ⊥
  go true k = let same : decimal d ≡ p = cc in apart (decimal d) p (decimal_digits d hd) hp.0 same
  go false k = cc
factors_injective c d (p ∷ ps) (q ∷ qs) hc hd hp hq h = go (c == 1) (d == 1) refl refl h where
  go : (b e : Bool) → (c == 1) ≡ b → (d == 1) ≡ e → cond b (p ∷ ps) (decimal c ∷ p ∷ ps) ≡ cond e (q ∷ qs) (decimal d ∷ q ∷ qs) → (c ≡ d) × (p ∷ ps ≡ q ∷ qs)
  go true true hb he k = (grind (arith, nat_tests), k)
  go true false hb he k = let same : decimal d ≡ p = cc in absurd (apart (decimal d) p (decimal_digits d hd) hp.0 same)
  go false true hb he k = let same : decimal c ≡ q = cc in absurd (apart (decimal c) q (decimal_digits c hc) hq.0 same)
  go false false hb he k =
      let same : decimal c ≡ decimal d = cc in
      let rest : p ∷ ps ≡ q ∷ qs = cc in
      (decimal_injective c d hc hd same, rest)

power_bytes : (x : List ℕ) → IsPower x → Each IsFactorByte x
power_bytes [] h = absurd h
power_bytes (c ∷ cs) h = (omega arith, h.1)

factors_bytes : (c : ℕ) (ps : List (List ℕ)) → c < 2 ^ 64 → Each IsPower ps → Each (Each IsFactorByte) (factor_texts c ps)
factors_bytes c [] hc hp = (digit_bytes (decimal c) (decimal_digits c hc), tt)
factors_bytes c (p ∷ ps) hc hp = go (c == 1) where
  go : (b : Bool) → Each (Each IsFactorByte) (cond b (p ∷ ps) (decimal c ∷ p ∷ ps))
  go true = each_map IsPower (Each IsFactorByte) (p ∷ ps) power_bytes hp
  go false = (digit_bytes (decimal c) (decimal_digits c hc), each_map IsPower (Each IsFactorByte) (p ∷ ps) power_bytes hp)

factors_some : (c : ℕ) (ps : List (List ℕ)) → 0 < length (factor_texts c ps)
factors_some c [] = omega arith
factors_some c (p ∷ ps) = go (c == 1) where
  go : (b : Bool) → 0 < length (cond b (p ∷ ps) (decimal c ∷ p ∷ ps))
  go true = omega arith
  go false = omega arith

factors_free : (xs : List (List ℕ)) → Each (Each IsFactorByte) xs → Each (Free 42) xs
factors_free xs h = each_map (Each IsFactorByte) (Free 42) xs (λ x k. each_map IsFactorByte (λ c. c ≢ 42) x (λ c l e. absurd (omega arith)) k) h

-- the text of a residue and powers says both
pub product_injective : (c d : ℕ) (ps qs : List (List ℕ)) → c < 2 ^ 64 → d < 2 ^ 64 → Each IsPower ps → Each IsPower qs
    → joined 42 (factor_texts c ps) ≡ joined 42 (factor_texts d qs) → (c ≡ d) × (ps ≡ qs)
product_injective c d ps qs hc hd hp hq h =
    factors_injective c d ps qs hc hd hp hq
    (joined_same 42 _ _ (factors_some c ps) (factors_some d qs) (factors_free _ (factors_bytes c ps hc hp)) (factors_free _ (factors_bytes d qs hd hq)) h)

-- the byte of a term: none of + , and the newline
abbrev pub IsTermByte : ℕ → Type 0
IsTermByte c = (42 ≤ c) × (c ≢ 43) × (c ≢ 44)

pub product_bytes : (c : ℕ) (ps : List (List ℕ)) → c < 2 ^ 64 → Each IsPower ps → Each IsTermByte (joined 42 (factor_texts c ps))
product_bytes c ps hc hp =
    let far : (d : ℕ) → IsFactorByte d → IsTermByte d = λ d k. (omega arith, (λ e. absurd (omega arith)), (λ e. absurd (omega arith))) in
    each_joined IsTermByte 42 _ (omega arith, (λ e. absurd (omega arith)), (λ e. absurd (omega arith)))
    (each_map (Each IsFactorByte) (Each IsTermByte) _ (λ x k. each_map IsFactorByte IsTermByte x far k) (factors_bytes c ps hc hp))
