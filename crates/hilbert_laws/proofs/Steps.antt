-- Steps of a series: what dividing by 1 - t^w does to coefficients
use Rattle.std.proofs.Common.{Bool, List, [], add-zero, ap, ap₂, arith, cond, false, inl, inr, le-leb, refl, suc, sym, true, zero, ℕ, ◌*◌, ◌+◌, ◌-◌, ◌<◌, ◌∙◌, ◌∷◌, ◌≡◌, ◌≤◌, ◌⊎◌}
use Rattle.std.proofs.lemmas.Bool.{cases_lt}
use Rattle.std.proofs.lemmas.Bool.Decides.{nat_tests}
use Rattle.std.proofs.lemmas.Int.{ints}
use Rattle.std.specs.Prelude.{nat_le, pos, ℤ, ◌+ℤ◌, ◌-ℤ◌}
use Rattle.monomials.proofs.Weighing.{mul_least}
use Rattle.monomials.specs.Sums.{sum_to}
use Rattle.monomials.specs.Weights.{first_weight, other_weights}
use Rattle.hilbert_laws.specs.Numerators.{partial_sums, series, step_sums}

-- ---- partial sums
pub partial_sums_ext : (f g : ℕ → ℤ) → ((d : ℕ) → f d ≡ g d) → (d : ℕ) → partial_sums f d ≡ partial_sums g d
partial_sums_ext f g h zero = h 0
partial_sums_ext f g h (suc d) = ap₂ ◌+ℤ◌ (partial_sums_ext f g h d) (h (suc d))

pub partial_sums-add : (f g : ℕ → ℤ) (d : ℕ) → partial_sums (λ e. f e +ℤ g e) d ≡ partial_sums f d +ℤ partial_sums g d
partial_sums-add f g zero = refl
partial_sums-add f g (suc d) = let r = partial_sums-add f g d in omega (arith, ints, r)

partial_sums-turned : (f : ℕ → ℤ) (d : ℕ) → partial_sums (λ e. pos 0 -ℤ f e) d ≡ pos 0 -ℤ partial_sums f d
partial_sums-turned f zero = refl
partial_sums-turned f (suc d) = let r = partial_sums-turned f d in omega (arith, ints, r)

pub partial_sums_nothing : (d : ℕ) → partial_sums (λ e. pos 0) d ≡ pos 0
partial_sums_nothing zero = refl
partial_sums_nothing (suc d) = let e = partial_sums_nothing d in omega (arith, ints, e)

partial_sums_pos : (f : ℕ → ℕ) (d : ℕ) → partial_sums (λ e. pos (f e)) d ≡ pos (sum_to d f)
partial_sums_pos f zero = refl
partial_sums_pos f (suc d) = let a = partial_sums_pos f d in omega (arith, ints, a)

-- the first one apart
partial_sums-split : (f : ℕ → ℤ) (d : ℕ) → partial_sums f (suc d) ≡ f 0 +ℤ partial_sums (λ e. f (suc e)) d
partial_sums-split f zero = refl
partial_sums-split f (suc d) = let e = partial_sums-split f d in omega (arith, ints, e)

-- zeros at the end
partial_sums_stay : (f : ℕ → ℤ) (d k : ℕ) → ((e : ℕ) → d < e → f e ≡ pos 0) → partial_sums f (d + k) ≡ partial_sums f d
partial_sums_stay f d zero h = ap (partial_sums f) (add-zero d)
partial_sums_stay f d (suc k) h =
    let next : d + suc k ≡ suc (d + k) = omega arith in
    let z = h (suc (d + k)) (omega arith) in
    let r = partial_sums_stay f d k h in
    ap (partial_sums f) next ∙ omega (arith, ints, z, r)

-- ---- the entries of a step
-- the entry a of a step at d
abbrev entry : ℕ → (ℕ → ℤ) → ℕ → ℕ → ℤ
entry w f d a = cond (nat_le (w * a) d) (f (d - w * a)) (pos 0)

cond-add : (b : Bool) (x y : ℤ) → cond b (x +ℤ y) (pos 0) ≡ cond b x (pos 0) +ℤ cond b y (pos 0)
cond-add true x y = refl
cond-add false x y = refl

cond-turned : (b : Bool) (x : ℤ) → cond b (pos 0 -ℤ x) (pos 0) ≡ pos 0 -ℤ cond b x (pos 0)
cond-turned true x = refl
cond-turned false x = refl

cond-pos : (b : Bool) (x : ℕ) → cond b (pos x) (pos 0) ≡ pos (cond b x 0)
cond-pos true x = refl
cond-pos false x = refl

cond_none : (b : Bool) (x : ℤ) → x ≡ pos 0 → cond b x (pos 0) ≡ pos 0
cond_none true x e = e
cond_none false x e = refl

not_le : (a b : ℕ) → b < a → nat_le a b ≡ false
not_le a b lt = grind (arith, nat_tests)

pub step_sums_ext : (w : ℕ) (f g : ℕ → ℤ) → ((d : ℕ) → f d ≡ g d) → (d : ℕ) → step_sums w f d ≡ step_sums w g d
step_sums_ext w f g h d = partial_sums_ext _ _ (λ a. ap (λ x. cond (nat_le (w * a) d) x (pos 0)) (h (d - w * a))) d

pub step_sums-add : (w : ℕ) (f g : ℕ → ℤ) (d : ℕ) → step_sums w (λ e. f e +ℤ g e) d ≡ step_sums w f d +ℤ step_sums w g d
step_sums-add w f g d =
    partial_sums_ext _ _ (λ a. cond-add (nat_le (w * a) d) (f (d - w * a)) (g (d - w * a))) d ∙ partial_sums-add (entry w f d) (entry w g d) d

pub step_sums-turned : (w : ℕ) (f : ℕ → ℤ) (d : ℕ) → step_sums w (λ e. pos 0 -ℤ f e) d ≡ pos 0 -ℤ step_sums w f d
step_sums-turned w f d = partial_sums_ext _ _ (λ a. cond-turned (nat_le (w * a) d) (f (d - w * a))) d ∙ partial_sums-turned (entry w f d) d

pub step_sums_nothing : (w d : ℕ) → step_sums w (λ e. pos 0) d ≡ pos 0
step_sums_nothing w d = partial_sums_ext _ _ (λ a. cond_none (nat_le (w * a) d) (pos 0) refl) d ∙ partial_sums_nothing d

pub step_sums_pos :
    (w d : ℕ) (f : ℕ → ℕ)
    → step_sums w (λ e. pos (f e)) d ≡ pos (sum_to d (λ a. cond (nat_le (w * a) d) (f (d - w * a)) 0))
step_sums_pos w d f =
    partial_sums_ext _ _ (λ a. cond-pos (nat_le (w * a) d) (f (d - w * a))) d
    ∙ partial_sums_pos (λ a. cond (nat_le (w * a) d) (f (d - w * a)) 0) d

-- no step goes past d
past : (w d a : ℕ) (f : ℕ → ℤ) → 0 < w → d < a → cond (nat_le (w * a) d) (f (d - w * a)) (pos 0) ≡ pos 0
past w d a f positive lt =
    ap (λ b. cond b (f (d - w * a)) (pos 0)) (not_le (w * a) d (let m = mul_least w a positive in omega (arith, m, lt)))

-- below w there is no step
pub step_sums_below : (w d : ℕ) (f : ℕ → ℤ) → d < w → step_sums w f d ≡ f d
step_sums_below w d f lt =
    let h : (a : ℕ) → 0 < a → entry w f d a ≡ pos 0 = λ a some.
    ap (λ b. cond b (f (d - w * a)) (pos 0)) (not_le (w * a) d (let m = mul_least a w some in omega (arith, m, lt))) in
    ap (partial_sums (entry w f d)) (let q : d ≡ 0 + d = omega arith in q) ∙ partial_sums_stay (entry w f d) 0 d h
    ∙ ap₂ (λ b x. cond b (f x) (pos 0)) (le-leb (w * 0) d (omega arith)) (let q : d - w * 0 ≡ d = omega arith in q)

-- one step: what F has at w + d, and what the quotient has at d
pub step_sums-more : (w d : ℕ) (f : ℕ → ℤ) → 0 < w → step_sums w f (w + d) ≡ f (w + d) +ℤ step_sums w f d
step_sums-more w d f positive =
    ap (partial_sums (entry w f (w + d))) (let q : w + d ≡ suc (d + (w - 1)) = omega (arith, positive) in q)
    ∙ partial_sums-split (entry w f (w + d)) (d + (w - 1))
    ∙ ap₂ ◌+ℤ◌ first (partial_sums_ext _ _ later (d + (w - 1)) ∙ partial_sums_stay (entry w f d) d (w - 1) (λ a lt. past w d a f positive lt))
  where
    first : entry w f (w + d) 0 ≡ f (w + d)
    first = ap₂ (λ b x. cond b (f x) (pos 0)) (le-leb (w * 0) (w + d) (omega arith)) (let q : (w + d) - w * 0 ≡ w + d = omega arith in q)

    same_test : (x y : ℕ) → x ≡ w + y → nat_le x (w + d) ≡ nat_le y d
    same_test x y e = grind (arith, nat_tests)

    later : (a : ℕ) → entry w f (w + d) (suc a) ≡ entry w f d a
    later a =
        let e : w * suc a ≡ w + w * a = omega arith in
        ap₂ (λ b x. cond b (f x) (pos 0)) (same_test (w * suc a) (w * a) e) (let q : (w + d) - w * suc a ≡ d - w * a = omega (arith, e) in q)

-- by steps of 1 these are the partial sums
pub step_sums_one : (d : ℕ) (f : ℕ → ℤ) → step_sums 1 f d ≡ partial_sums f d
step_sums_one zero f = step_sums_below 1 0 f (omega arith)
step_sums_one (suc d) f =
    let next : suc d ≡ 1 + d = omega arith in
    let m = step_sums-more 1 d f (omega arith) in
    let r = step_sums_one d f in
    let e : f (1 + d) ≡ f (suc d) = ap f (sym next) in
    ap (step_sums 1 f) next ∙ omega (arith, ints, m, r, e)

-- times t
pub step_sums-shift_zero : (w : ℕ) (f : ℕ → ℤ) → f 0 ≡ pos 0 → step_sums w f 0 ≡ pos 0
step_sums-shift_zero w f z = cond_none (nat_le (w * 0) 0) (f (0 - w * 0)) (ap f (let q : 0 - w * 0 ≡ 0 = omega arith in q) ∙ z)

pub step_sums-shift :
    (w : ℕ) (f g : ℕ → ℤ) → 0 < w → g 0 ≡ pos 0 → ((d : ℕ) → g (suc d) ≡ f d) → (d : ℕ)
    → step_sums w g (suc d) ≡ step_sums w f d
step_sums-shift w f g positive z h d =
    let z = past w d (suc d) f positive (omega arith) in
    partial_sums_ext _ _ (λ a. at a (cases_lt d (w * a))) (suc d)
    ∙ (let q : partial_sums (entry w f d) d +ℤ entry w f d (suc d) ≡ partial_sums (entry w f d) d = omega (arith, ints, z) in q)
  where
    one_past : (x : ℕ) → d < x → (x ≡ suc d) ⊎ (suc d < x)
    one_past x lt = grind arith

    at :
        (a : ℕ) → (d < w * a) ⊎ (w * a ≤ d)
        → cond (nat_le (w * a) (suc d)) (g (suc d - w * a)) (pos 0) ≡ cond (nat_le (w * a) d) (f (d - w * a)) (pos 0)
    at a (inr le) =
        ap₂ (λ b x. cond b x (pos 0)) (le-leb (w * a) (suc d) (omega (arith, le)) ∙ sym (le-leb (w * a) d le))
        (ap g (let q : suc d - w * a ≡ suc (d - w * a) = omega (arith, le) in q) ∙ h (d - w * a))
    at a (inl lt) = go (one_past (w * a) lt) ∙ sym (ap (λ b. cond b (f (d - w * a)) (pos 0)) (not_le (w * a) d lt))
      where
        go : (w * a ≡ suc d) ⊎ (suc d < w * a) → cond (nat_le (w * a) (suc d)) (g (suc d - w * a)) (pos 0) ≡ pos 0
        go (inl e) = cond_none (nat_le (w * a) (suc d)) (g (suc d - w * a)) (ap g (let q : suc d - w * a ≡ 0 = omega (arith, e) in q) ∙ z)
        go (inr far) = ap (λ b. cond b (g (suc d - w * a)) (pos 0)) (not_le (w * a) (suc d) far)

-- a step can be undone
pub step_sums_cancel :
    (w : ℕ) (f g : ℕ → ℤ) → 0 < w → ((d : ℕ) → step_sums w f d ≡ step_sums w g d) → (d : ℕ) → f d ≡ g d
step_sums_cancel w f g positive h d = go (cases_lt d w)
  where
    go : (d < w) ⊎ (w ≤ d) → f d ≡ g d
    go (inl lt) = sym (step_sums_below w d f lt) ∙ h d ∙ step_sums_below w d g lt
    go (inr le) =
        let e : w + (d - w) ≡ d = omega (arith, le) in
        let a = step_sums-more w (d - w) f positive in
        let b = step_sums-more w (d - w) g positive in
        let x = h (w + (d - w)) in
        let y = h (d - w) in
        let q : f (w + (d - w)) ≡ g (w + (d - w)) = omega (arith, ints, a, b, x, y) in
        ap f (sym e) ∙ q ∙ ap g e

pub first_positive : (ws : List ℕ) → 0 < first_weight ws
first_positive [] = omega arith
first_positive (w ∷ ws) = omega arith

-- one weight more is one step more
pub series-step :
    (ws : List ℕ) (K : List ℤ) (j d : ℕ) → series ws K (suc j) d ≡ step_sums (first_weight ws) (series (other_weights ws) K j) d
series-step [] K j d = sym (step_sums_one d (series [] K j))
series-step (w ∷ ws) K j d = refl
