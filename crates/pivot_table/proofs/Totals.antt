-- Totals over a list, and shares that are halved.
use Rattle.std.proofs.Common.{◌≡◌, ℕ, zero, suc, ◌+◌, ◌-◌, ◌*◌, ◌^◌, ◌<◌, ◌≤◌, List, [], ◌∷◌, ◌++◌, set, sym, refl, ap, ◌∙◌, arith}
use Rattle.std.proofs.Math.Nat.{pow-suc}
use Rattle.std.proofs.lemmas.Nat.{pow_pos}
use mathlib.Core.Option as maybe
use lib.ListN.{get_elem?}
use Rattle.pivot_table.specs.Law.{total_by, parts, halvings, kept_half, given_half}

module _ {A : Type 0} where
  pub total-append : (f : A → ℕ) (xs ys : List A) → total_by f (xs ++ ys) ≡ total_by f xs + total_by f ys
  total-append f [] ys = omega arith
  total-append f (x ∷ xs) ys = omega (arith, total-append f xs ys)

  -- the total after a change of one
  pub total_set : (f : A → ℕ) (xs : List A) (i : ℕ) (v w : A) → get_elem? xs i ≡ maybe.some v → total_by f (set xs i w) + f v ≡ total_by f xs + f w
  total_set f [] i v w e = absurd (maybe.some-ne-none v (sym e))
  total_set f (x ∷ xs) zero v w e = let same : f x ≡ f v = ap f (maybe.some-injective x v e) in omega arith
  total_set f (x ∷ xs) (suc i) v w e = omega (arith, total_set f xs i v w e)

  -- each is at most the total
  pub total_at : (f : A → ℕ) (xs : List A) (i : ℕ) (v : A) → get_elem? xs i ≡ maybe.some v → f v ≤ total_by f xs
  total_at f [] i v e = absurd (maybe.some-ne-none v (sym e))
  total_at f (x ∷ xs) zero v e = let same : f x ≡ f v = ap f (maybe.some-injective x v e) in omega arith
  total_at f (x ∷ xs) (suc i) v e = omega (arith, total_at f xs i v e)

  nothing : (f g : A → ℕ) (xs : List A) → total_by f xs ≡ 0 → ((j : ℕ) (u : A) → get_elem? xs j ≡ maybe.some u → f u ≡ 0 → g u ≡ 0) → total_by g xs ≡ 0
  nothing f g [] z h = refl
  nothing f g (x ∷ xs) z h = let here = h 0 x refl (omega arith) in omega (arith, nothing f g xs (omega arith) (λ j u e. h (suc j) u e))

  -- where f is 0 at all others, so is g, which is 0 where f is
  pub alone : (f g : A → ℕ) (xs : List A) (i : ℕ) (v : A) → get_elem? xs i ≡ maybe.some v → total_by f xs ≡ f v
      → ((j : ℕ) (u : A) → get_elem? xs j ≡ maybe.some u → f u ≡ 0 → g u ≡ 0) → total_by g xs ≡ g v
  alone f g [] i v e all h = absurd (maybe.some-ne-none v (sym e))
  alone f g (x ∷ xs) zero v e all h =
      let f_same : f x ≡ f v = ap f (maybe.some-injective x v e) in
      let g_same : g x ≡ g v = ap g (maybe.some-injective x v e) in
      omega (arith, nothing f g xs (omega arith) (λ j u e. h (suc j) u e))
  alone f g (x ∷ xs) (suc i) v e all h =
      let below = total_at f xs i v e in
      let here = h 0 x refl (omega arith) in
      omega (arith, alone f g xs i v e (omega arith) (λ j u e. h (suc j) u e))

pub halves : (d : ℕ) (shares : List ℕ) → halvings (given_half shares) ≤ d → parts d (kept_half shares) + parts d (given_half shares) ≡ parts d shares
halves d [] h = refl
halves d (e ∷ shares) h =
    let one : d - e ≡ suc (d - (e + 1)) = omega arith in
    let two : 2 ^ (d - e) ≡ 2 ^ (d - (e + 1)) * 2 = ap (λ n. 2 ^ n) one ∙ pow-suc 2 (d - (e + 1)) in
    omega arith

pub more_halvings : (shares : List ℕ) → halvings shares ≤ halvings (kept_half shares)
more_halvings [] = omega arith
more_halvings (e ∷ shares) = omega arith

pub kept_none : (shares : List ℕ) → kept_half shares ≡ [] → shares ≡ []
kept_none [] h = refl
kept_none (e ∷ shares) h = absurd (cc)

pub given_none : (shares : List ℕ) → given_half shares ≡ [] → shares ≡ []
given_none [] h = refl
given_none (e ∷ shares) h = absurd (cc)

pub first_none : (xs ys : List ℕ) → xs ++ ys ≡ [] → xs ≡ []
first_none [] ys h = refl
first_none (x ∷ xs) ys h = absurd (cc)

pub second_none : (xs ys : List ℕ) → xs ++ ys ≡ [] → ys ≡ []
second_none [] ys h = h
second_none (x ∷ xs) ys h = absurd (cc)

pub no_parts : (d : ℕ) (shares : List ℕ) → parts d shares ≡ 0 → shares ≡ []
no_parts d [] z = refl
no_parts d (e ∷ shares) z = let some = pow_pos (d - e) in absurd (omega arith)

pub whole_parts : (d : ℕ) → parts d (0 ∷ []) ≡ 2 ^ d
whole_parts d = let e : d - 0 ≡ d = omega arith in let p : 2 ^ (d - 0) ≡ 2 ^ d = ap (λ n. 2 ^ n) e in omega arith
