-- The update on (x^2, xy, y^2) as y^2 comes: the pair (1, 2) is queued, and (0, 2) is dropped for 1
use Rattle.std.proofs.Common.{Bool, List, false, subst, true, [], arith, inl, inr, refl, suc, sym, zero, ℕ, ◌+◌, ◌<◌, ◌∷◌, ◌≡◌, ◌≤◌, ◌⊎◌, ap, cond}
use Rattle.monomials.specs.Exponents.{Exponents, cons, head, nil, tail, times}
use Rattle.formal_sums.specs.FormalSums.{FormalSum, Key}
use Rattle.base_examples.specs.Examples.{at, plane_setting}
use Rattle.base_examples.specs.Sharing.{monomial_members}
use Rattle.basis_steps.proofs.Counting.{is_same_pair-true}
use Rattle.basis_steps.specs.Criteria.{IsPair, ProductApplies}
use Rattle.basis_steps.specs.Drops.{LeavesFor, YieldsTo}
use Rattle.basis_steps.specs.Pairs.{Drop, Pair, count, is_same_pair}
use Rattle.basis_steps.specs.States.{vectors}
use Rattle.basis_steps.specs.Updates.{BecomesNew, BecomesOld, IsFirstLive, IsOfGroup, Remains, UpdatesWith, YieldsFirstTo}

-- the members' vectors
abbrev G : List (FormalSum 2)
G = vectors monomial_members

-- the pair (0, 1) is queued before
abbrev old : List Pair
old = (0, 1) ∷ []

abbrev new : List Pair
new = (1, 2) ∷ ((0, 1) ∷ [])

abbrev drops : List Drop
drops = ((0, 2), 1) ∷ []

-- y^2 does not divide x^2 y
stays : LeavesFor G 2 (0, 1) → ⊥
stays l = go l.divides.0 (ap (λ (k : Key 2). head (tail k.1)) l.divides.1)
  where
    go : (m : Exponents 2) → head (tail (times m (at 0 0 2).1)) ≡ 1 → ⊥
    go (cons a (cons b nil)) e = omega (arith, e)

yields : YieldsTo G 2 0 1
yields = record {
  pair = record { ordered = omega arith; within = omega arith; position = refl };
  divides = record { divides = ((at 0 1 0).1, refl); other = λ e. let z : ◌≡◌ {A = ℕ} 1 2 = ap (λ (k : Key 2). head k.1) e in omega (arith, z) };
}

itself : (i : ℕ) → YieldsTo G 2 i i → ⊥
itself i y = y.divides.other refl

-- x^2 y^2 does not divide x y^2
remains : Remains G 2 1
remains zero y = go y.divides.divides.0 (ap (λ (k : Key 2). head k.1) y.divides.divides.1)
  where
    go : (m : Exponents 2) → head (times m (at 0 2 2).1) ≡ 1 → ⊥
    go (cons a (cons b nil)) e = omega (arith, e)
remains (suc zero) y = itself 1 y
remains (suc (suc j)) y = let l = y.pair.ordered in omega (arith, l)

one_group : (l : ℕ) → IsOfGroup G 2 1 l → l ≡ 1
one_group zero g = absurd (let z : ◌≡◌ {A = ℕ} 2 1 = ap (λ (k : Key 2). head k.1) g.same in omega (arith, z))
one_group (suc zero) g = refl
one_group (suc (suc l)) g = absurd (let o = g.pair.ordered in omega (arith, o))

queued : IsFirstLive plane_setting G 2 1 1
queued = record {
  member = record { pair = record { ordered = omega arith; within = omega arith; position = refl }; same = refl };
  live = λ l g a. live l (one_group l g) g a;
  first = λ l lt g. let e = one_group l g in omega (arith, e, lt);
}
  where
    live : (l : ℕ) → l ≡ 1 → IsOfGroup G 2 1 l → ProductApplies plane_setting G (l, 2) → ⊥
    live zero e g a = omega (arith, e)
    live (suc zero) e g a = let z : ◌≡◌ {A = ℕ} 3 2 = ap (λ (v : Exponents 2). head (tail v)) a.1 in omega (arith, z)
    live (suc (suc l)) e g a = omega (arith, e)

-- (0,1) is queued, and no other pair
only : (x : Pair) → 0 < count x old → x ≡ (0, 1)
only x h = go (is_same_pair x (0, 1)) refl h
  where
    go : (b : Bool) → is_same_pair x (0, 1) ≡ b → 0 < cond b 1 0 + 0 → x ≡ (0, 1)
    go true e q = is_same_pair-true x (0, 1) e
    go false e q = absurd (omega (arith, q))

pub third_member : UpdatesWith plane_setting G 2 old [] new drops
third_member = record {
  added = drops;
  appended = refl;
  by_rule = (inr (0, refl, record { ordered = omega arith; within = omega arith; position = refl }, inl first_yield), tt);
  once = λ x. once x (is_same_pair x (0, 2));
  earlier = λ x h. earlier x (only x h);
  new_pairs = λ i p. new_pair i p;
  no_others = λ x h. others x (is_same_pair x (1, 2)) refl h;
}
  where
    first_yield : YieldsFirstTo G 2 0 1
    first_yield = record { yields = yields; first = λ l lt y. none l lt y }
      where
        none : (l : ℕ) → l < 1 → YieldsTo G 2 0 l → ⊥
        none zero lt y = itself 0 y
        none (suc l) lt y = omega (arith, lt)

    once : (x : Pair) (b : Bool) → cond b 1 0 + 0 ≤ 1
    once x true = omega arith
    once x false = omega arith

    earlier : (x : Pair) → x ≡ (0, 1) → BecomesOld G 2 drops (count x old) (count x new) x
    earlier x e = subst (λ y. BecomesOld G 2 drops (count y old) (count y new) y) (sym e) (inr (stays, refl))

    new_pair : (i : ℕ) → IsPair G (i, 2) → BecomesNew plane_setting G 2 drops (count (i, 2) new) i
    new_pair zero p = inl (1, inl first_yield, (0, omega arith, refl), refl)
    new_pair (suc zero) p = inr (remains, inr (queued, refl))
    new_pair (suc (suc i)) p = absurd (let l = p.ordered in omega (arith, l))

    others : (x : Pair) (b : Bool) → is_same_pair x (1, 2) ≡ b → 0 < cond b 1 0 + count x old → (0 < count x old) ⊎ ((x.1 ≡ 2) × IsPair G x)
    others x true e h = inr (subst (λ y. (y.1 ≡ 2) × IsPair G y) (sym (is_same_pair-true x (1, 2) e)) (refl, record { ordered = omega arith; within = omega arith; position = refl }))
    others x false e h = inl (omega (arith, h))
