-- The choice of the members that are needed
use Rattle.std.proofs.Common.{Equal, Greater, Less, List, Ordering, [], IsTrue, arith, false, get_or, inl, inr, length, refl, subst, suc, take, true, zero, ℕ, ◌++◌, ◌+◌, ◌<◌, ◌↔◌, ◌∷◌, ◌≡◌, ◌≤◌, ◌⊎◌}
use Rattle.std.proofs.lemmas.Bool.{cases_lt}
use Rattle.std.proofs.lemmas.List.{get_or_default, take_all}
use Rattle.std.proofs.lemmas.List.Elements.{Contains-append_left, Contains-push}
use Rattle.std.specs.Prelude.{Contains}
use Rattle.formal_sums.proofs.Combining.{Each_map}
use Rattle.formal_sums.proofs.WeightedSums.{Each_append}
use Rattle.formal_sums.specs.FormalSums.{Each, Key}
use Rattle.orders.specs.KeyOrders.{IsKeyOrder, KeyDivides}
use Rattle.reduced_bases.proofs.Dropping.{KeyDivides_refl}
use Rattle.module_vectors.specs.Trails.{lead_at}
use Rattle.vector_division.proofs.Occurring.{Contains_here, Contains_later}
use Rattle.vector_division.specs.Divisors.{AreEnough, IsDividedAt}
use Rattle.interreduce.specs.Leads.{HaveApartLeads, AreNeeded, AreNeededSoFar, IsCoveredBy, LeadsRise}
use Rattle.interreduce.proofs.Leading.{Terms}

-- what holds of each number below i that has the property, and the number i at the end
pub pushed_all :
    (P : ℕ → Type 0) (xs : List ℕ) (i : ℕ) → ((k : ℕ) → k < i → P k → Contains xs k) → (k : ℕ) → k < i + 1 → P k
    → Contains (xs ++ i ∷ []) k
pushed_all P xs i all k lt p = go (cases_lt k i)
  where
    go : (k < i) ⊎ (i ≤ k) → Contains (xs ++ i ∷ []) k
    go (inl l) = Contains-append_left xs (i ∷ []) k (all k l p)
    go (inr le) = let e : i ≡ k = omega arith in subst (Contains (xs ++ i ∷ [])) e (Contains-push xs i)

-- the number i is left out, which has it not
pub passed_all :
    (P : ℕ → Type 0) (xs : List ℕ) (i : ℕ) → (P i → ⊥) → ((k : ℕ) → k < i → P k → Contains xs k) → (k : ℕ) → k < i + 1
    → P k → Contains xs k
passed_all P xs i none all k lt p = go (cases_lt k i)
  where
    go : (k < i) ⊎ (i ≤ k) → Contains xs k
    go (inl l) = all k l p
    go (inr le) = let e : k ≡ i = omega arith in absurd (none (subst P e p))

-- what holds of each holds of one that stands in the list
pub each_contained : {X : Type 0} (P : X → Type 0) (xs : List X) (x : X) → Each P xs → Contains xs x → P x
each_contained P [] x h (k, lt, e) = absurd (omega arith)
each_contained P (y ∷ xs) x h (zero, lt, e) = subst P e h.0
each_contained P (y ∷ xs) x h (suc k, lt, e) = each_contained P xs x h.1 (k, omega arith, e)

-- a divisor was found
pub found :
    (n : ℕ) (list : List Terms) (kept : List ℕ) (j k : ℕ)
    → k < length kept → KeyDivides (lead_at n list (get_or kept k 0)) (lead_at n list j)
    → IsTrue true ↔ IsCoveredBy n list kept j
found n list kept j k lt d = (λ t. (get_or kept k 0, (k, lt, get_or_default kept k (get_or kept k 0) 0 lt), d), λ c. refl)

-- each was tried
pub none_found :
    (n : ℕ) (list : List Terms) (kept : List ℕ) (j i : ℕ)
    → length kept ≤ i → Each (λ k. KeyDivides (lead_at n list k) (lead_at n list j) → ⊥) (take i kept)
    → IsTrue false ↔ IsCoveredBy n list kept j
none_found n list kept j i le h =
    let all : Each (λ k. KeyDivides (lead_at n list k) (lead_at n list j) → ⊥) kept = subst (Each (λ k. KeyDivides (lead_at n list k) (lead_at n list j) → ⊥)) (take_all i kept le) h in
    (λ t. absurd (cc), λ c. absurd (each_contained (λ k. KeyDivides (lead_at n list k) (lead_at n list j) → ⊥) kept c.0 all c.1 c.2))

module _ (n : ℕ) (compare : Key n → Key n → Ordering) (list : List Terms) where
  pub covered_more : (kept : List ℕ) (x i : ℕ) → IsCoveredBy n list kept i → IsCoveredBy n list (kept ++ x ∷ []) i
  covered_more kept x i (j, c, d) = (j, Contains-append_left kept (x ∷ []) j c, d)

  apart_push :
      (kept : List ℕ) (x : ℕ)
      → HaveApartLeads n compare list kept
      → Each (λ k. (compare (lead_at n list k) (lead_at n list x) ≡ Less) × (KeyDivides (lead_at n list k) (lead_at n list x) → ⊥)) kept
      → HaveApartLeads n compare list (kept ++ x ∷ [])
  apart_push [] x h e = (tt, tt)
  apart_push (k ∷ kept) x h e = (Each_append _ kept (x ∷ []) h.0 (e.0, tt), apart_push kept x h.1 e.1)

  -- of two members of the choice the earlier has the lower lead, which does not divide the other
  pub apart_at :
      (kept : List ℕ) (i j : ℕ)
      → HaveApartLeads n compare list kept → i < j → j < length kept
      → (compare (lead_at n list (get_or kept i 0)) (lead_at n list (get_or kept j 0)) ≡ Less)
      × (KeyDivides (lead_at n list (get_or kept i 0)) (lead_at n list (get_or kept j 0)) → ⊥)
  apart_at [] i j h lt le = absurd (omega arith)
  apart_at (k ∷ kept) i zero h lt le = absurd (omega arith)
  apart_at (k ∷ kept) zero (suc j) h lt le = each_at kept j h.0 (omega arith)
    where
      each_at :
          (ks : List ℕ) (j : ℕ)
          → Each (λ j. (compare (lead_at n list k) (lead_at n list j) ≡ Less) × (KeyDivides (lead_at n list k) (lead_at n list j) → ⊥)) ks
          → j < length ks
          → (compare (lead_at n list k) (lead_at n list (get_or ks j 0)) ≡ Less)
          × (KeyDivides (lead_at n list k) (lead_at n list (get_or ks j 0)) → ⊥)
      each_at [] j h lt = absurd (omega arith)
      each_at (m ∷ ks) zero h lt = h.0
      each_at (m ∷ ks) (suc j) h lt = each_at ks j h.1 (omega arith)
  apart_at (k ∷ kept) (suc i) (suc j) h lt le = apart_at kept i j h.1 (omega arith) (omega arith)

  pub needed_start : (order : List ℕ) → LeadsRise n compare list order → AreNeededSoFar n compare list [] order []
  needed_start order h = record { within = tt; leads = tt; apart = tt; covers = tt; up_to = tt; rises = h }

  pub needed_skip :
      (done rest kept : List ℕ) (x : ℕ)
      → AreNeededSoFar n compare list done (x ∷ rest) kept → IsCoveredBy n list kept x
      → AreNeededSoFar n compare list (done ++ x ∷ []) rest kept
  needed_skip done rest kept x h c = record {
    within = h.within;
    leads = h.leads;
    apart = h.apart;
    covers = Each_append _ done (x ∷ []) h.covers (c, tt);
    up_to = Each_map _ _ kept (λ k q. q.1) h.up_to;
    rises = h.rises.1;
  }

  pub needed_push :
      IsKeyOrder 0 compare → (done rest kept : List ℕ) (x : ℕ)
      → AreNeededSoFar n compare list done (x ∷ rest) kept → x < length list → 0 < length (get_or list x []) → (IsCoveredBy n list kept x → ⊥)
      → AreNeededSoFar n compare list (done ++ x ∷ []) rest (kept ++ x ∷ [])
  needed_push order done rest kept x h lt some free = record {
    within = Each_append _ kept (x ∷ []) h.within (lt, tt);
    leads = Each_append _ kept (x ∷ []) h.leads (some, tt);
    apart = apart_push kept x h.apart (below kept (λ k c d. free (k, c, d)) h.up_to);
    covers =
        Each_append _ done (x ∷ []) (Each_map _ _ done (λ i c. covered_more kept x i c) h.covers)
        ((x, Contains-push kept x, KeyDivides_refl (lead_at n list x)), tt);
    up_to = Each_append _ kept (x ∷ []) (Each_map _ _ kept (λ k q. q.1) h.up_to) (h.rises.0, tt);
    rises = h.rises.1;
  }
    where
      less :
          (k : ℕ)
          → (KeyDivides (lead_at n list k) (lead_at n list x) → ⊥)
          → (compare (lead_at n list k) (lead_at n list x) ≡ Greater → ⊥)
          → compare (lead_at n list k) (lead_at n list x) ≡ Less
      less k never up = go (compare (lead_at n list k) (lead_at n list x)) refl
        where
          go :
              (o : Ordering) → compare (lead_at n list k) (lead_at n list x) ≡ o
              → compare (lead_at n list k) (lead_at n list x) ≡ Less
          go Less e = e
          go Equal e = absurd (never (subst (KeyDivides (lead_at n list k)) (order.exact _ _ e) (KeyDivides_refl (lead_at n list k))))
          go Greater e = absurd (up e)

      below :
          (ks : List ℕ)
          → ((k : ℕ) → Contains ks k → KeyDivides (lead_at n list k) (lead_at n list x) → ⊥)
          → Each (λ k. Each (λ j. compare (lead_at n list k) (lead_at n list j) ≡ Greater → ⊥) (x ∷ rest)) ks
          → Each (λ k. (compare (lead_at n list k) (lead_at n list x) ≡ Less) × (KeyDivides (lead_at n list k) (lead_at n list x) → ⊥)) ks
      below [] never u = tt
      below (k ∷ ks) never u =
          let here = never k (Contains_here k ks) in
          ((less k here u.0.0, here), below ks (λ j c. never j (Contains_later k j ks c)) u.1)

  pub needed_all :
      (done kept : List ℕ)
      → AreNeededSoFar n compare list done [] kept → ((i : ℕ) → i < length list → 0 < length (get_or list i []) → Contains done i)
      → AreNeeded n compare list kept
  needed_all done kept h all = record {
    within = h.within;
    leads = h.leads;
    apart = h.apart;
    covers = λ i lt some. each_contained (λ j. IsCoveredBy n list kept j) done i h.covers (all i lt some);
  }

  -- those that are needed are enough divisors
  pub needed_are_enough : (kept : List ℕ) → AreNeeded n compare list kept → AreEnough n list kept
  needed_are_enough kept h j lt some = go (h.covers j lt some)
    where
      go : IsCoveredBy n list kept j → (i : ℕ) × Contains kept i × IsDividedAt n list j i
      go (i, c, d) = (i, c, record { some = each_contained (λ k. 0 < length (get_or list k [])) kept i h.leads c; divides = d })
