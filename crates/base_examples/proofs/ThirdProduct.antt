-- The update on (x^2 z, y^2 z, xyz) as xyz comes: the queued pair (0, 1) leaves for it
use Rattle.std.proofs.Common.{Bool, List, false, subst, true, [], arith, inl, inr, refl, suc, sym, zero, ℕ, ◌+◌, ◌<◌, ◌∷◌, ◌≡◌, ◌≤◌, ◌⊎◌, ap, cond}
use Rattle.monomials.specs.Exponents.{Exponents, cons, head, nil, tail, times}
use Rattle.formal_sums.specs.FormalSums.{Key}
use Rattle.base_examples.specs.Products.{products, space}
use Rattle.basis_steps.proofs.Counting.{is_same_pair-true}
use Rattle.basis_steps.specs.Criteria.{IsPair, ProductApplies}
use Rattle.basis_steps.specs.Drops.{LeavesFor, YieldsTo}
use Rattle.basis_steps.specs.Pairs.{Drop, Pair, count, is_same_pair}
use Rattle.basis_steps.specs.Updates.{BecomesNew, BecomesOld, IsFirstLive, IsOfGroup, Remains, UpdatesWith}

abbrev old : List Pair
old = (0, 1) ∷ []

abbrev new : List Pair
new = (1, 2) ∷ ((0, 2) ∷ [])

abbrev drops : List Drop
drops = ((0, 1), 2) ∷ []

-- xyz divides x^2 y^2 z, which is the lcm of neither new pair
leaves : LeavesFor products 2 (0, 1)
leaves = record {
  divides = (cons 1 (cons 1 (cons 0 nil)), refl);
  left = λ e. let z : ◌≡◌ {A = ℕ} 1 2 = ap (λ (k : Key 3). head (tail k.1)) e in omega (arith, z);
  right = λ e. let z : ◌≡◌ {A = ℕ} 1 2 = ap (λ (k : Key 3). head k.1) e in omega (arith, z);
}

itself : (i : ℕ) → YieldsTo products 2 i i → ⊥
itself i y = y.divides.other refl

-- x y^2 z does not divide x^2 y z
remains_0 : Remains products 2 0
remains_0 zero y = itself 0 y
remains_0 (suc zero) y = go y.divides.divides.0 (ap (λ (k : Key 3). head (tail k.1)) y.divides.divides.1)
  where
    go : (m : Exponents 3) → head (tail (times m (cons 1 (cons 2 (cons 1 nil))))) ≡ 1 → ⊥
    go (cons a (cons b (cons c nil))) e = omega (arith, e)
remains_0 (suc (suc j)) y = let l = y.pair.ordered in omega (arith, l)

-- nor the other way round
remains_1 : Remains products 2 1
remains_1 zero y = go y.divides.divides.0 (ap (λ (k : Key 3). head k.1) y.divides.divides.1)
  where
    go : (m : Exponents 3) → head (times m (cons 2 (cons 1 (cons 1 nil)))) ≡ 1 → ⊥
    go (cons a (cons b (cons c nil))) e = omega (arith, e)
remains_1 (suc zero) y = itself 1 y
remains_1 (suc (suc j)) y = let l = y.pair.ordered in omega (arith, l)

group_1 : (l : ℕ) → IsOfGroup products 2 1 l → l ≡ 1
group_1 zero g = absurd (let z : ◌≡◌ {A = ℕ} 2 1 = ap (λ (k : Key 3). head k.1) g.same in omega (arith, z))
group_1 (suc zero) g = refl
group_1 (suc (suc l)) g = absurd (let o = g.pair.ordered in omega (arith, o))

-- z stands in each lead, so the product criterion applies to none
none_spared : (l : ℕ) → IsPair products (l, 2) → ProductApplies space products (l, 2) → ⊥
none_spared zero p a = let z : ◌≡◌ {A = ℕ} 2 1 = ap (λ (v : Exponents 3). head (tail (tail v))) a.1 in omega (arith, z)
none_spared (suc zero) p a = let z : ◌≡◌ {A = ℕ} 2 1 = ap (λ (v : Exponents 3). head (tail (tail v))) a.1 in omega (arith, z)
none_spared (suc (suc l)) p a = let o = p.ordered in omega (arith, o)

queued_0 : IsFirstLive space products 2 0 0
queued_0 = record {
  member = record { pair = record { ordered = omega arith; within = omega arith; position = refl }; same = refl };
  live = λ l g a. none_spared l g.pair a;
  first = λ l lt g. omega (arith, lt);
}

queued_1 : IsFirstLive space products 2 1 1
queued_1 = record {
  member = record { pair = record { ordered = omega arith; within = omega arith; position = refl }; same = refl };
  live = λ l g a. none_spared l g.pair a;
  first = λ l lt g. let e = group_1 l g in omega (arith, e, lt);
}

-- (0, 1) is queued before, and no other pair
only : (x : Pair) → 0 < count x old → x ≡ (0, 1)
only x h = go (is_same_pair x (0, 1)) refl h
  where
    go : (b : Bool) → is_same_pair x (0, 1) ≡ b → 0 < cond b 1 0 + 0 → x ≡ (0, 1)
    go true e q = is_same_pair-true x (0, 1) e
    go false e q = absurd (omega (arith, q))

pub third_product : UpdatesWith space products 2 old [] new drops
third_product = record {
  added = drops;
  appended = refl;
  by_rule = (inl (omega arith, leaves, refl), tt);
  once = λ x. once x (is_same_pair x (0, 1));
  earlier = λ x h. earlier x (only x h);
  new_pairs = λ i p. new_pair i p;
  no_others = λ x h. others x (is_same_pair x (1, 2)) refl (is_same_pair x (0, 2)) refl h;
}
  where
    once : (x : Pair) (b : Bool) → cond b 1 0 + 0 ≤ 1
    once x true = omega arith
    once x false = omega arith

    earlier : (x : Pair) → x ≡ (0, 1) → BecomesOld products 2 drops (count x old) (count x new) x
    earlier x e = subst (λ y. BecomesOld products 2 drops (count y old) (count y new) y) (sym e) (inl (leaves, (0, omega arith, refl), refl))

    new_pair : (i : ℕ) → IsPair products (i, 2) → BecomesNew space products 2 drops (count (i, 2) new) i
    new_pair zero p = inr (remains_0, inr (queued_0, refl))
    new_pair (suc zero) p = inr (remains_1, inr (queued_1, refl))
    new_pair (suc (suc i)) p = absurd (let l = p.ordered in omega (arith, l))

    others :
        (x : Pair) (b : Bool) → is_same_pair x (1, 2) ≡ b → (c : Bool) → is_same_pair x (0, 2) ≡ c → 0 < cond b 1 0 + (cond c 1 0 + 0)
        → (0 < count x old) ⊎ ((x.1 ≡ 2) × IsPair products x)
    others x true e c f h = inr (subst (λ y. (y.1 ≡ 2) × IsPair products y) (sym (is_same_pair-true x (1, 2) e)) (refl, record { ordered = omega arith; within = omega arith; position = refl }))
    others x false e true f h = inr (subst (λ y. (y.1 ≡ 2) × IsPair products y) (sym (is_same_pair-true x (0, 2) f)) (refl, record { ordered = omega arith; within = omega arith; position = refl }))
    others x false e false f h = absurd (omega (arith, h))
