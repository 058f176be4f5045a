-- Degrees of lcms, counting by them, and a worker's share
use Rattle.std.proofs.Common.{Bool, List, [], ap, ap₂, arith, cond, eq-eqb, eqb-true, false, get_or, inl, inr, length, min, nat_eq, refl, suc, sym}
use Rattle.std.proofs.Common.{take, true, zero, ℕ, ◌%◌, ◌*◌, ◌+◌, ◌-◌, ◌/◌, ◌<◌, ◌∙◌, ◌∷◌, ◌≡◌, ◌≤◌, ◌⊎◌}
use Rattle.std.proofs.Math.Nat.{div-add-mod', mul-le-mul_left, mul-le-mul_right}
use Rattle.std.proofs.lemmas.Bool.{cases_lt}
use Rattle.std.proofs.lemmas.Grind.{div_ceil_times}
use Rattle.std.proofs.lemmas.Nat.{mod_below}
use Rattle.formal_sums.specs.FormalSums.{Each, FormalSum}
use Rattle.monomials.specs.Weights.{weighted_degree}
use Rattle.bases.specs.Settings.{Setting}
use Rattle.pair_criteria.specs.declared.pair.Pair.{Pair as CodePair}
use Rattle.basis_steps.specs.Criteria.{lcm_of}
use Rattle.basis_steps.specs.Pairs.{Pair}
use Rattle.basis_steps.specs.Queues.{degree_of, number_of_degree, number_of_least_degree}
use Rattle.pair_updates.proofs.PairOrder.{degree_is}
use Rattle.pair_updates.specs.Pairs.{HasLcm, index_pair_of, pairs_of}
use Rattle.pair_updates.specs.Leads.{LeadsShown, setting_of_leads, sums_shown}

-- one more pair is counted where it has the degree
pub number_more :
    {n : ℕ} (S : Setting n) (G : List (FormalSum n)) (d : ℕ) (xs : List CodePair) (k : ℕ) (x : CodePair)
    → k < length xs → x ≡ get_or xs k x
    → number_of_degree S G d (take (k + 1) (pairs_of xs)) ≡ number_of_degree S G d (take k (pairs_of xs)) + cond (nat_eq (degree_of S G (index_pair_of x)) d) 1 0
number_more S G d [] k x l e = absurd (omega arith)
number_more S G d (y ∷ xs) zero x l e =
    let at : ◌≡◌ {A = ℕ} (cond (nat_eq (degree_of S G (index_pair_of x)) d) 1 0) (cond (nat_eq (degree_of S G (index_pair_of y)) d) 1 0) =
    ap (λ (z : CodePair). cond (nat_eq (degree_of S G (index_pair_of z)) d) 1 0) e in
    let one : 0 + 1 ≡ 1 = omega arith in
    ap (λ m. number_of_degree S G d (take m (pairs_of (y ∷ xs)))) one ∙ omega (arith, at)
number_more S G d (y ∷ xs) (suc k) x l e =
    let one : suc k + 1 ≡ suc (k + 1) = omega arith in
    ap (λ m. number_of_degree S G d (take m (pairs_of (y ∷ xs)))) one ∙ omega (arith, number_more S G d xs k x (omega arith) e)

pub same_degree : (a b c d : ℕ) → a ≡ c → c ≡ d → d ≡ b → ◌≡◌ {A = ℕ} (cond (nat_eq a b) 1 0) 1
same_degree a b c d x y z = ap (λ (t : Bool). cond t 1 0) (eq-eqb a b (x ∙ y ∙ z))

pub other_degree : (a b : ℕ) → (a ≡ b → ⊥) → ◌≡◌ {A = ℕ} (cond (nat_eq a b) 1 0) 0
other_degree a b ne = go (nat_eq a b) refl
  where
    go : (c : Bool) → nat_eq a b ≡ c → ◌≡◌ {A = ℕ} (cond (nat_eq a b) 1 0) 0
    go true e = absurd (ne (eqb-true a b e))
    go false e = ap (λ (t : Bool). cond t 1 0) e

-- a quotient between two multiples
quotient_is : (a w q : ℕ) → 0 < w → q * w ≤ a → a < q * w + w → a / w ≡ q
quotient_is a w q h l m =
    let e = div-add-mod' a w in
    let b = mod_below a w h in
    go (cases_lt (a / w) q) (cases_lt q (a / w)) e b
  where
    go : ((a / w) < q) ⊎ (q ≤ (a / w)) → (q < (a / w)) ⊎ ((a / w) ≤ q) → (a / w) * w + a % w ≡ a → a % w < w → a / w ≡ q
    go (inl x) y e b = let k = mul-le-mul_right w x in absurd (omega (arith, k, e, b, l))
    go (inr x) (inl y) e b = let k = mul-le-mul_right w y in absurd (omega (arith, k, e, b, m))
    go (inr x) (inr y) e b = omega arith

-- rounded up
pub rounded_up : (d w : ℕ) → 0 < w → d / w + min 1 (d % w) ≡ (d + w - 1) / w
rounded_up d w h =
    let b = div_ceil_times d w h in
    sym (quotient_is (d + w - 1) w (d / w + min 1 (d % w)) h (omega (arith, b.1)) (omega (arith, b.0)))

pub rounded_few : (d w : ℕ) → 0 < w → d / w + min 1 (d % w) ≤ d
rounded_few d w h = go (cases_lt d (d / w + min 1 (d % w))) (div_ceil_times d w h)
  where
    go : (d < d / w + min 1 (d % w)) ⊎ (d / w + min 1 (d % w) ≤ d) → (d ≤ (d / w + min 1 (d % w)) * w) × ((d / w + min 1 (d % w)) * w < d + w)
        → d / w + min 1 (d % w) ≤ d
    go (inl l) b = few (d / w + min 1 (d % w)) l b.1
      where
        few : (q : ℕ) → d < q → q * w < d + w → q ≤ d
        few q l m = let k = mul-le-mul_right w l in let j = mul-le-mul_left d h in absurd (omega (arith, k, j, m))
    go (inr l) b = l

-- those of the first pair's degree
pub least_is :
    (m : LeadsShown) (xs : List CodePair) (x : CodePair) (least : ℕ)
    → 0 < length xs → x ≡ get_or xs 0 x → Each (HasLcm m) xs → least ≡ x.lcm.monomial.degree
    → number_of_degree (setting_of_leads m.variables m) (sums_shown m) least (pairs_of xs)
    ≡ number_of_least_degree (setting_of_leads m.variables m) (sums_shown m) (pairs_of xs)
least_is m [] x least l e h d = absurd (omega arith)
least_is m (y ∷ xs) x least l e h d =
    ap (λ k. number_of_degree (setting_of_leads m.variables m) (sums_shown m) k (pairs_of (y ∷ xs)))
    (d ∙ ap (λ (z : CodePair). z.lcm.monomial.degree) e ∙ sym (degree_is m y h.0))

-- settings of the same weights count the same
module _ {n : ℕ} (S T : Setting n) (weights : S.weights ≡ T.weights) (G : List (FormalSum n)) where
  degree_same : (x : Pair) → degree_of S G x ≡ degree_of T G x
  degree_same x = ap (λ (ws : List ℕ). weighted_degree ws (lcm_of G x).1) weights

  number_same : (d : ℕ) (xs : List Pair) → number_of_degree S G d xs ≡ number_of_degree T G d xs
  number_same d [] = refl
  number_same d (x ∷ xs) = ap₂ (λ e k. cond (nat_eq e d) 1 0 + k) (degree_same x) (number_same d xs)

  pub least_same : (xs : List Pair) → number_of_least_degree S G xs ≡ number_of_least_degree T G xs
  least_same [] = refl
  least_same (x ∷ xs) = number_same (degree_of S G x) (x ∷ xs) ∙ ap (λ d. number_of_degree T G d (x ∷ xs)) (degree_same x)
