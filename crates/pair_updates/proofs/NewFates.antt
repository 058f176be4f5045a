-- What becomes of a new pair, by tests on the lcms of its new member's pairs
use Rattle.std.proofs.Common.{List, None, Option, arith, get_or, inl, inr, length, subst, sym, ℕ, ◌+◌, ◌<◌, ◌≡◌, ◌≤◌, ◌⊎◌}
use Rattle.std.proofs.lemmas.Bool.{cases_lt}
use Rattle.formal_sums.specs.FormalSums.{FormalSum}
use Rattle.basis_steps.specs.Criteria.{lcm_of}
use Rattle.basis_steps.specs.Drops.{YieldsTo}
use Rattle.basis_steps.specs.Updates.{IsFirstLive, IsFirstSpared, IsOfGroup, Remains, YieldsFirstTo}
use Rattle.pair_updates.specs.Dropping.{AreNewPairs, IsFate, IsNewIn, IsNewPair}
use Rattle.pair_updates.specs.declared.dropping.Fate.{Fate}
use Rattle.pair_updates.specs.declared.dropping.Fate.TheVariants as fates
use Rattle.pair_updates.specs.Leads.{LeadsShown, setting_of_leads, sums_shown}
use Rattle.pair_updates.specs.declared.meeting.NewPair.{NewPair}
use Rattle.pair_updates.specs.LeadCriteria.{ProductSpares}

-- what holds at each place so far holds with the next
pub below_next : (P : ℕ → Type 0) (k : ℕ) → ((j : ℕ) → j < k → P j → ⊥) → (P k → ⊥) → (j : ℕ) → j < k + 1 → P j → ⊥
below_next P k none not j l p = go (cases_lt j k)
  where
    go : (j < k) ⊎ (k ≤ j) → ⊥
    go (inl m) = none j m p
    go (inr m) = let e : j ≡ k = omega (arith, l, m) in not (subst P e p)

module _ (m : LeadsShown) (news : List (Option ℕ)) (x : NewPair) (h : IsNewIn m news x) where
  abbrev n : ℕ
  n = m.variables

  abbrev G : List (FormalSum n)
  G = sums_shown m

  -- the pair of j and the new member
  pub new_at : (j : ℕ) (o : Option ℕ) → j < length news → get_or news j None ≡ o → IsNewPair m x.j j o
  new_at j o l e = subst (IsNewPair m x.j j) e (h.pairs.each j (omega (arith, l, h.pairs.len)))

  -- a new pair yields to none where it does to none of the earlier members
  pub remains_of : (k : ℕ) → length news ≤ k → ((j : ℕ) → j < k → YieldsTo G x.j x.i j → ⊥) → Remains G x.j x.i
  remains_of k l none j y = let o = y.pair.ordered in none j (omega (arith, o, l, h.pairs.len)) y

  -- none of its group is spared
  pub none_spared :
      (k : ℕ) → length news ≤ k → ((j : ℕ) → j < k → IsOfGroup G x.j x.i j × ProductSpares m (j, x.j) → ⊥)
      → (j : ℕ) → IsOfGroup G x.j x.i j → ProductSpares m (j, x.j) → ⊥
  none_spared k l none j g p = let o = g.pair.ordered in none j (omega (arith, o, l, h.pairs.len)) (g, p)

  -- it is of its own group
  pub own_group : IsOfGroup G x.j x.i x.i
  own_group = record { pair = h.met.pair; same = λ i. lcm_of G (x.i, x.j) }

  -- ---- its fate
  module _ (remains : Remains G x.j x.i) where
    abbrev Is : Fate → Type 0
    Is f = IsFate (setting_of_leads n m) G x.j x.i f

    pub spared_fate :
        (c : ℕ) (f : Fate) → IsFirstSpared (setting_of_leads n m) G x.j x.i c
        → (c ≡ x.i → f ≡ fates.Spared) → ((c ≡ x.i → ⊥) → f ≡ fates.Dropped c) → Is f
    spared_fate c f first same other = go (cases_lt c x.i) (cases_lt x.i c)
      where
        dropped : (c ≡ x.i → ⊥) → Is f
        dropped ne = subst Is (sym (other ne)) (h.met.pair, inr (remains, ne, inl first))

        go : (c < x.i) ⊎ (x.i ≤ c) → (x.i < c) ⊎ (c ≤ x.i) → Is f
        go (inl l) q = dropped (λ e. omega (arith, e, l))
        go (inr l) (inl q) = dropped (λ e. omega (arith, e, q))
        go (inr l) (inr q) =
            let e : c ≡ x.i = omega (arith, l, q) in
            subst Is (sym (same e)) (h.met.pair, remains, subst (λ z. IsFirstSpared (setting_of_leads n m) G x.j x.i z) e first)

    pub live_fate :
        (c : ℕ) (f : Fate) → IsOfGroup G x.j x.i c → ((l : ℕ) → l < c → IsOfGroup G x.j x.i l → ⊥)
        → ((l : ℕ) → IsOfGroup G x.j x.i l → ProductSpares m (l, x.j) → ⊥)
        → (c ≡ x.i → f ≡ fates.Queued) → ((c ≡ x.i → ⊥) → f ≡ fates.Dropped c) → Is f
    live_fate c f member first live same other = go (cases_lt c x.i) (cases_lt x.i c)
      where
        is : IsFirstLive (setting_of_leads n m) G x.j x.i c
        is = record { member = member; live = live; first = first }

        dropped : (c ≡ x.i → ⊥) → Is f
        dropped ne = subst Is (sym (other ne)) (h.met.pair, inr (remains, ne, inr is))

        go : (c < x.i) ⊎ (x.i ≤ c) → (x.i < c) ⊎ (c ≤ x.i) → Is f
        go (inl l) q = dropped (λ e. omega (arith, e, l))
        go (inr l) (inl q) = dropped (λ e. omega (arith, e, q))
        go (inr l) (inr q) =
            let e : c ≡ x.i = omega (arith, l, q) in
            subst Is (sym (same e)) (h.met.pair, remains, subst (λ z. IsFirstLive (setting_of_leads n m) G x.j x.i z) e is)

  pub yield_fate : (k : ℕ) → YieldsFirstTo G x.j x.i k → IsFate (setting_of_leads n m) G x.j x.i (fates.Dropped k)
  yield_fate k y = (h.met.pair, inl y)

-- what the list has for i
pub news_at :
    (m : LeadsShown) (news : List (Option ℕ)) (h i : ℕ) (o : Option ℕ)
    → AreNewPairs m h news → i < h → get_or news i None ≡ o → IsNewPair m h i o
news_at m news h i o all l e = subst (IsNewPair m h i) e (all.each i l)
