-- Digits of numbers, of sums of two, and of a number with one digit more
use Rattle.std.proofs.Common.{Bool, List, [], ap, ap₂, arith, cond, false, get_or, length, refl, subst, subst₂, suc, sym, take, true, zero, ℕ, ◌%◌, ◌*◌, ◌++◌, ◌+◌, ◌/◌, ◌<◌, ◌∙◌, ◌∷◌, ◌≡◌, ◌≤◌}
use Rattle.std.proofs.lemmas.List.{map-append, take_more}
use Rattle.std.proofs.lemmas.Nat.{div-add-mod', div-mul-add, mod-mul-add}
use Rattle.monomials.specs.Exponents.{Exponents, cons, exponents_of, times}
use Rattle.formal_sums.proofs.Combining.{Each_map}
use Rattle.formal_sums.proofs.WeightedSums.{Each_append}
use Rattle.formal_sums.specs.FormalSums.{Each, Key, Term}
use Rattle.term_lists.proofs.Scaling.{Each_at}
use Rattle.term_lists.specs.Vectors.{key_of, sum_of}
use Rattle.term_lists.specs.declared.key.Key.{Key as CodeKey}
use Rattle.term_tables.specs.Digits.{ArePacked, EachPair, HasDigitsWithin, HaveNoCarry, IsPackedTerm, base_of, digits, limit_of, monomial_at, packed_sum}

joined : (r x y s t a b : ℕ) → x * r + s ≡ a → y * r + t ≡ b → (x + y) * r + (s + t) ≡ a + b
joined r x y s t a b e f =
    let g : (x + y) * r ≡ x * r + y * r = omega arith in
    omega arith

sum_whole : (r a b : ℕ) → (a / r + b / r) * r + (a % r + b % r) ≡ a + b
sum_whole r a b = joined r (a / r) (b / r) (a % r) (b % r) a b (div-add-mod' a r) (div-add-mod' b r)

-- without a carry, the lowest digit of a sum is the sum of the lowest digits
sum_digit : (r a b : ℕ) → a % r + b % r < r → (a + b) % r ≡ a % r + b % r
sum_digit r a b lt = ap (λ x. x % r) (sym (sum_whole r a b)) ∙ mod-mul-add (a / r + b / r) r (a % r + b % r) lt

sum_rest : (r a b : ℕ) → a % r + b % r < r → (a + b) / r ≡ a / r + b / r
sum_rest r a b lt = ap (λ x. x / r) (sym (sum_whole r a b)) ∙ div-mul-add (a / r + b / r) r (a % r + b % r) lt

-- the number of a product of two monomials is the sum of their numbers
pub monomial_at-sum :
    (n : ℕ) (bs : List (ℕ × ℕ)) (a b : ℕ) → HaveNoCarry bs a b
    → monomial_at n bs (a + b) ≡ times (monomial_at n bs a) (monomial_at n bs b)
monomial_at-sum zero bs a b h = refl
monomial_at-sum (suc n) [] a b h = ap (λ v. cons 0 v) (monomial_at-sum n [] a b h)
monomial_at-sum (suc n) (c ∷ bs) a b h =
    ap₂ (λ x v. cons x v) (sum_digit (base_of c) a b h.0)
    (ap (monomial_at n bs) (sum_rest (base_of c) a b h.0) ∙ monomial_at-sum n bs (a / base_of c) (b / base_of c) h.1)

below_base : (l m x y : ℕ) → x ≤ l → y ≤ m → x + y < l + m + 1
below_base l m x y h k = omega arith

pub no_carry :
    (bs : List (ℕ × ℕ)) (a b : ℕ) → HasDigitsWithin (limit_of true) bs a → HasDigitsWithin (limit_of false) bs b
    → HaveNoCarry bs a b
no_carry [] a b h k = tt
no_carry (c ∷ bs) a b h k = (below_base c.0 c.1 (a % base_of c) (b % base_of c) h.0 k.0, no_carry bs (a / base_of c) (b / base_of c) h.1 k.1)

-- what holds of any two terms with a property each holds of each pair
pub each_pair :
    (P Q : ℕ × ℕ → Type 0) (R : ℕ × ℕ → ℕ × ℕ → Type 0) → ((s t : ℕ × ℕ) → P s → Q t → R s t)
    → (a b : List (ℕ × ℕ)) → Each P a → Each Q b → EachPair R a b
each_pair P Q R f a b h k = Each_map P (λ s. Each (λ t. R s t) b) a (λ s p. Each_map Q (λ t. R s t) b (λ t q. f s t p q) k) h

-- one digit more
digit_below : (l m e : ℕ) (is_left : Bool) → e ≤ cond is_left l m → e < l + m + 1
digit_below l m e true h = omega arith
digit_below l m e false h = omega arith

pub digits_more :
    (is_left : Bool) (b : ℕ × ℕ) (bs : List (ℕ × ℕ)) (k e : ℕ) → e ≤ limit_of is_left b
    → digits (b ∷ bs) (k * base_of b + e) ≡ e ∷ digits bs k
digits_more is_left b bs k e h =
    let lt : e < base_of b = digit_below b.0 b.1 e is_left h in
    ap₂ ◌∷◌ (mod-mul-add k (base_of b) e lt) (ap (digits bs) (div-mul-add k (base_of b) e lt))

pub within_more :
    (is_left : Bool) (b : ℕ × ℕ) (bs : List (ℕ × ℕ)) (k e : ℕ) → e ≤ limit_of is_left b → HasDigitsWithin (limit_of is_left) bs k
    → HasDigitsWithin (limit_of is_left) (b ∷ bs) (k * base_of b + e)
within_more is_left b bs k e h w =
    let lt : e < base_of b = digit_below b.0 b.1 e is_left h in (
      subst (λ x. x ≤ limit_of is_left b) (sym (mod-mul-add k (base_of b) e lt)) h,
      subst (HasDigitsWithin (limit_of is_left) bs) (sym (div-mul-add k (base_of b) e lt)) w,
    )

-- one packed term more
pub packed_more :
    (n : ℕ) (is_left : Bool) (bs : List (ℕ × ℕ)) (terms : List (CodeKey × ℕ)) (packed : List (ℕ × ℕ)) (i : ℕ) (t : CodeKey × ℕ) (s : ℕ × ℕ)
    → i < length terms → t ≡ get_or terms i t → IsPackedTerm is_left bs t s → packed_sum n bs packed ≡ sum_of n (take i terms)
    → packed_sum n bs (packed ++ s ∷ []) ≡ sum_of n (take (i + 1) terms)
packed_more n is_left bs terms packed i t s lt is h e =
    map-append (λ x. ((0, monomial_at n bs x.0), x.1)) packed (s ∷ [])
    ∙ ap₂ (λ u x. u ++ x ∷ []) e same
    ∙ sym (map-append (λ x. (key_of n x.0, x.1)) (take i terms) (t ∷ []))
    ∙ ap (sum_of n) (sym (take_more terms i t lt ∙ ap (λ x. take i terms ++ x ∷ []) (sym is)))
  where
    same : ◌≡◌ {A = Term n} ((0, monomial_at n bs s.0), s.1) (key_of n t.0, t.1)
    same = ap₂ (λ (k : Key n) (c : ℕ). (k, c)) (ap₂ (λ (j : ℕ) (v : Exponents n). (j, v)) (sym h.position) (ap (exponents_of n) h.exponents)) h.residue

pub packed_each :
    (p : ℕ) (is_left : Bool) (bs : List (ℕ × ℕ)) (terms : List (CodeKey × ℕ)) (packed : List (ℕ × ℕ)) (i : ℕ) (t : CodeKey × ℕ) (s : ℕ × ℕ)
    → i < length terms → t ≡ get_or terms i t → IsPackedTerm is_left bs t s → Each (λ u. u.1 < p) terms → ArePacked is_left bs p packed
    → ArePacked is_left bs p (packed ++ s ∷ [])
packed_each p is_left bs terms packed i t s lt is h each e =
    Each_append (λ x. HasDigitsWithin (limit_of is_left) bs x.0 × (x.1 < p)) packed (s ∷ []) e
    ((h.within, subst (λ c. c < p) (sym h.residue) (Each_at (λ u. u.1 < p) terms i t each lt is)), tt)

pub length-digits : (bs : List (ℕ × ℕ)) (k : ℕ) → length (digits bs k) ≡ length bs
length-digits [] k = refl
length-digits (b ∷ bs) k = ap suc (length-digits bs (k / base_of b))

-- a number with one digit more, packed
pub packed_digits :
    (is_left : Bool) (bases : List (ℕ × ℕ)) (exponents : List ℕ) (b : ℕ × ℕ) (bs : List (ℕ × ℕ)) (e : ℕ) (es : List ℕ) (k size limit sum : ℕ)
    → bases ≡ b ∷ bs → exponents ≡ e ∷ es → limit ≡ limit_of is_left b → e ≤ limit → size ≡ base_of b → sum ≡ k * size + e
    → digits bs k ≡ es → digits bases sum ≡ exponents
packed_digits is_left bases exponents b bs e es k size limit sum eb ee el le sz q ds =
    ap (λ x. digits x sum) eb ∙ ap (digits (b ∷ bs)) (q ∙ ap (λ x. k * x + e) sz)
    ∙ digits_more is_left b bs k e (subst (λ x. e ≤ x) el le) ∙ ap (λ x. e ∷ x) ds ∙ sym ee

pub packed_within :
    (is_left : Bool) (bases : List (ℕ × ℕ)) (b : ℕ × ℕ) (bs : List (ℕ × ℕ)) (e k size limit sum : ℕ)
    → bases ≡ b ∷ bs → limit ≡ limit_of is_left b → e ≤ limit → size ≡ base_of b → sum ≡ k * size + e
    → HasDigitsWithin (limit_of is_left) bs k → HasDigitsWithin (limit_of is_left) bases sum
packed_within is_left bases b bs e k size limit sum eb el le sz q h =
    subst₂ (HasDigitsWithin (limit_of is_left)) (sym eb) (sym (q ∙ ap (λ x. k * x + e) sz)) (within_more is_left b bs k e (subst (λ x. e ≤ x) el le) h)

-- as many digits as there are variables
pub digits_long : (bs : List (ℕ × ℕ)) (ws xs : List ℕ) (k : ℕ) → length bs ≡ length ws → xs ≡ digits bs k → length ws ≡ length xs
digits_long bs ws xs k e f = sym e ∙ sym (length-digits bs k) ∙ ap length (sym f)

-- packed terms of a left and a right factor
pub no_carries :
    (p : ℕ) (bs : List (ℕ × ℕ)) (a b : List (ℕ × ℕ)) → ArePacked true bs p a → ArePacked false bs p b
    → EachPair (λ s t. HaveNoCarry bs s.0 t.0) a b
no_carries p bs a b h k =
    each_pair (λ s. HasDigitsWithin (limit_of true) bs s.0 × (s.1 < p)) (λ t. HasDigitsWithin (limit_of false) bs t.0 × (t.1 < p)) (λ s t. HaveNoCarry bs s.0 t.0)
    (λ s t x y. no_carry bs s.0 t.0 x.0 y.0) a b h k
