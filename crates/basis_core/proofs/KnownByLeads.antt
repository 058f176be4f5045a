-- What the pairs know of the leads of members, as keys, holds of the members' vectors
use Rattle.std.proofs.Common.{Less, List, [], ap, arith, cond, drop, get_or, inl, inr, leb, length, ltb, map, min, nat_eq, refl, subst, suc, sym}
use Rattle.std.proofs.Common.{take, zero, ℕ, ◌&&◌, ◌+◌, ◌++◌, ◌-◌, ◌/◌, ◌<◌, ◌∙◌, ◌∷◌, ◌≡◌, ◌≤◌}
use Rattle.std.proofs.lemmas.List.{length-map, length-take, length-take-le, map-append, take-append-drop, take-map}
use Rattle.std.specs.Ordering.{nat_cmp, ordering_then}
use Rattle.monomials.specs.Exponents.{cons, exponents_of, lcm, times, unit}
use Rattle.monomials.specs.Weights.{weighted_degree}
use Rattle.formal_sums.specs.FormalSums.{Each, FormalSum, Key}
use Rattle.orders.specs.KeyOrders.{KeyDivides}
use Rattle.bases.specs.Leads.{head_key, leads}
use Rattle.bases.specs.Representations.{key_lcm}
use Rattle.bases.specs.Settings.{Setting}
use Rattle.term_lists.proofs.Scaling.{take_item}
use Rattle.term_lists.specs.Rings.{variables}
use Rattle.term_lists.specs.Vectors.{IsMonomialOver, key_of, sum_of}
use Rattle.term_lists.specs.declared.key.Key.{Key as CodeKey}
use Rattle.member_products.specs.Generators.{IsRanked}
use Rattle.pair_criteria.specs.declared.pair.Pair.{Pair as CodePair}
use Rattle.basis_steps.specs.Criteria.{ChainApplies, CriterionApplies, IsPair, NoCriterionApplies, Skips, lcm_of, waiting}
use Rattle.queue_updates.specs.declared.Update.{Update}
use Rattle.queue_updates.specs.declared.Update.TheVariants.{Gebauer, Plain}
use Rattle.basis_steps.proofs.Matching.{updates_same}
use Rattle.basis_steps.specs.Pairs.{Drop, Pair, count}
use Rattle.basis_steps.specs.Queues.{IsSorted, QueuesNewPairs, compare_pairs, degree_of, is_new_pair, number_of_degree, number_of_least_degree, share}
use Rattle.basis_steps.specs.States.{Run, vectors}
use Rattle.basis_steps.specs.Updates.{QueuesPairs}
use Rattle.pair_updates.specs.Leads.{LeadsShown, lead_sums, setting_of_leads as setting_by, sums_shown}
use Rattle.pair_updates.specs.Pairs.{HasLcm as HasLcmOfLeads, IsRealPair}
use Rattle.basis_core.specs.Jobs.{HasLcmOfMembers, index_pair_of, pairs_of}
use Rattle.basis_core.specs.Leads.{first_key, leads_shown_of}
use Rattle.basis_core.specs.Members.{Shared, MemberShown, members_of, setting_of}

-- ---- lists with the same leads
module _ {n : ℕ} (G H : List (FormalSum n)) (same : (i : ℕ) → leads G i ≡ leads H i) where
  lcm_same : (x : Pair) → lcm_of G x ≡ lcm_of H x
  lcm_same x = λ t. key_lcm (same x.0 t) (same x.1 t)

  share_same : (r : Run n) (taken most : ℕ) (xs : List Pair) → share r G taken most xs ≡ share r H taken most xs
  share_same r taken most xs = ap (λ k. min (min most (r.budget - taken)) ((k + r.workers - 1) / r.workers)) (least xs)
    where
      degree_same : (x : Pair) → degree_of r.setting G x ≡ degree_of r.setting H x
      degree_same x = ap (λ k. weighted_degree r.setting.weights k.1) (lcm_same x)

      number : (d : ℕ) (xs : List Pair) → number_of_degree r.setting G d xs ≡ number_of_degree r.setting H d xs
      number d [] = refl
      number d (x ∷ xs) = λ t. cond (nat_eq (degree_same x t) d) 1 0 + number d xs t

      least : (xs : List Pair) → number_of_least_degree r.setting G xs ≡ number_of_least_degree r.setting H xs
      least [] = refl
      least (x ∷ xs) = ap (λ d. number_of_degree r.setting G d (x ∷ xs)) (degree_same x) ∙ number (degree_of r.setting H x) (x ∷ xs)

  new_same : length G ≡ length H → (k : ℕ) (x : Pair) → is_new_pair k G x ≡ is_new_pair k H x
  new_same long k x = λ t. leb k x.1 && (ltb x.1 (long t) && (ltb x.0 x.1 && nat_eq (same x.0 t).0 (same x.1 t).0))

  pair_same : length G ≡ length H → (x : Pair) → IsPair G x → IsPair H x
  pair_same long x h = record {
    ordered = h.ordered;
    within = subst (λ k. x.1 < k) long h.within;
    position = ap (λ k. k.0) (sym (same x.0)) ∙ h.position ∙ ap (λ k. k.0) (same x.1);
  }

  chain_same : length G ≡ length H → (f : Pair → ℕ) (x : Pair) (k : ℕ) → ChainApplies G f x k → ChainApplies H f x k
  chain_same long f x k h = record {
    within = subst (λ m. k < m) long h.within;
    left = h.left;
    right = h.right;
    divides = subst (λ (z : Key n × Key n). KeyDivides z.0 z.1) (λ t. (same k t, lcm_same x t)) h.divides;
    with_left = h.with_left;
    with_right = h.with_right;
  }

-- the same by settings of one rank
criterion_same :
    {n : ℕ} (S T : Setting n) (G H : List (FormalSum n)) → T.rank ≡ S.rank → length G ≡ length H → ((i : ℕ) → leads G i ≡ leads H i)
    → (f : Pair → ℕ) (x : Pair) → CriterionApplies S G f x → CriterionApplies T H f x
criterion_same S T G H rank long same f x (inl h) =
    inl (rank ∙ h.0, sym (λ t. times (same x.0 t).1 (same x.1 t).1) ∙ h.1 ∙ (λ t. lcm (same x.0 t).1 (same x.1 t).1))
criterion_same S T G H rank long same f x (inr h) = inr (h.0, chain_same G H same long f x h.0 h.1)

none_same :
    {n : ℕ} (S T : Setting n) (G H : List (FormalSum n)) → T.rank ≡ S.rank → length G ≡ length H → ((i : ℕ) → leads G i ≡ leads H i)
    → (f : Pair → ℕ) (xs : List Pair) → NoCriterionApplies S G f xs → NoCriterionApplies T H f xs
none_same S T G H rank long same f [] h = tt
none_same S T G H rank long same f (x ∷ xs) h = (
  λ c. h.0 (criterion_same T S H G (sym rank) (sym long) (λ i. sym (same i)) f x c),
  none_same S T G H rank long same f xs h.1,
)

skips_same :
    {n : ℕ} (S T : Setting n) (G H : List (FormalSum n)) → T.rank ≡ S.rank → length G ≡ length H → ((i : ℕ) → leads G i ≡ leads H i)
    → (out : List (Pair × ℕ)) (queue skipped left : List Pair) → Skips S G out queue skipped left → Skips T H out queue skipped left
skips_same S T G H rank long same out queue [] left h = h
skips_same S T G H rank long same out queue (x ∷ skipped) left (front, back, e, none, applies, rest) = (
  front,
  back,
  e,
  none_same S T G H rank long same (waiting queue out) front none,
  criterion_same S T G H rank long same (waiting queue out) x applies,
  skips_same S T G H rank long same out (front ++ back) skipped left rest,
)

-- and by settings of one order and the same weights
module _
    {n : ℕ} (S T : Setting n) (compare : S.compare ≡ T.compare) (weights : S.weights ≡ T.weights)
    (G H : List (FormalSum n)) (same : (i : ℕ) → leads G i ≡ leads H i) where
  compare_same : (x y : Pair) → compare_pairs S G x y ≡ compare_pairs T H x y
  compare_same x y =
      λ t. ordering_then (nat_cmp (weighted_degree (weights t) (lcm_same G H same x t).1) (weighted_degree (weights t) (lcm_same G H same y t).1))
      (ordering_then (compare t (0, (lcm_same G H same x t).1) (0, (lcm_same G H same y t).1)) (ordering_then (nat_cmp x.1 y.1) (nat_cmp x.0 y.0)))

  sorted_same : (xs : List Pair) → IsSorted S G xs → IsSorted T H xs
  sorted_same [] h = tt
  sorted_same (x ∷ xs) h = (first xs h.0, sorted_same xs h.1)
    where
      first : (ys : List Pair) → Each (λ y. compare_pairs S G x y ≡ Less) ys → Each (λ y. compare_pairs T H x y ≡ Less) ys
      first [] g = tt
      first (y ∷ ys) g = (sym (compare_same x y) ∙ g.0, first ys g.1)

  queues_same : length G ≡ length H → (k : ℕ) (old new : List Pair) → QueuesNewPairs S k G old new → QueuesNewPairs T k H old new
  queues_same long k old new h = record {
    sorted = sorted_same new h.sorted;
    same = λ x. h.same x ∙ ap (λ b. count x old + cond b 1 0) (new_same G H same long k x);
  }

-- ---- the leads of members
none_exponents : (n : ℕ) → exponents_of n [] ≡ unit n
none_exponents zero = refl
none_exponents (suc n) = ap (cons 0) (none_exponents n)

head_same : (n : ℕ) (v : List (CodeKey × ℕ)) → key_of n (first_key v) ≡ head_key (sum_of n v)
head_same n [] = ap (λ m. (0, m)) (none_exponents n)
head_same n (t ∷ v) = refl

keys_same : (n : ℕ) (ms : List MemberShown) (i : ℕ) → leads (lead_sums n (map (λ m. first_key m.vector) ms)) i ≡ leads (vectors (members_of n ms)) i
keys_same n [] i = refl
keys_same n (m ∷ ms) zero = head_same n m.vector
keys_same n (m ∷ ms) (suc i) = keys_same n ms i

keys_length : (n : ℕ) (ms : List MemberShown) → length (lead_sums n (map (λ m. first_key m.vector) ms)) ≡ length (vectors (members_of n ms))
keys_length n [] = refl
keys_length n (m ∷ ms) = ap suc (keys_length n ms)

module _ (shared : Shared) (ms : List MemberShown) where
  abbrev n : ℕ
  n = variables shared.ring

  abbrev l : LeadsShown
  l = leads_shown_of shared ms

  abbrev G : List (FormalSum n)
  G = vectors (members_of n ms)

  abbrev S : Setting n
  S = setting_of n shared

  pub none_known : (f : Pair → ℕ) (xs : List Pair) → NoCriterionApplies (setting_by n l) (sums_shown l) f xs → NoCriterionApplies S G f xs
  none_known f xs h = none_same (setting_by n l) S (sums_shown l) G refl (keys_length n ms) (keys_same n ms) f xs h

  pub skips_known : (out : List (Pair × ℕ)) (queue skipped left : List Pair) → Skips (setting_by n l) (sums_shown l) out queue skipped left
      → Skips S G out queue skipped left
  skips_known out queue skipped left h = skips_same (setting_by n l) S (sums_shown l) G refl (keys_length n ms) (keys_same n ms) out queue skipped left h

  pub share_known : (r : Run n) (taken most : ℕ) (xs : List Pair) → share r (sums_shown l) taken most xs ≡ share r G taken most xs
  share_known r taken most xs = share_same (sums_shown l) G (keys_same n ms) r taken most xs

  pub queues_known :
      (u : Update) (k : ℕ) (old : List Pair) (drops : List Drop) (new : List Pair) (later : List Drop)
      → QueuesPairs u (setting_by n l) k (sums_shown l) old drops new later → QueuesPairs u S k G old drops new later
  queues_known Plain k old drops new later (h, e) = (queues_same (setting_by n l) S refl refl (sums_shown l) G (keys_same n ms) (keys_length n ms) k old new h, e)
  queues_known Gebauer k old drops new later h =
      updates_same (setting_by n l) S refl (sums_shown l) G (keys_length n ms) (keys_same n ms) k old new drops later
      (sorted_same (setting_by n l) S refl refl (sums_shown l) G (keys_same n ms) new) h

  lcm_known : (x : CodePair) → HasLcmOfLeads l x → HasLcmOfMembers n shared.ring.weights ms x
  lcm_known x h = record { weighed = h.weighed; lcm = h.lcm ∙ lcm_same (sums_shown l) G (keys_same n ms) (index_pair_of x) }

  pub lcms_known : (xs : List CodePair) → Each (IsRealPair l) xs → Each (HasLcmOfMembers n shared.ring.weights ms) xs
  lcms_known [] h = tt
  lcms_known (x ∷ xs) h = (lcm_known x h.0.lcm, lcms_known xs h.1)

  pub pairs_known : (xs : List CodePair) → Each (IsRealPair l) xs → Each (IsPair G) (pairs_of xs)
  pairs_known [] h = tt
  pairs_known (x ∷ xs) h = (pair_same (sums_shown l) G (keys_same n ms) (keys_length n ms) (index_pair_of x) h.0.pair, pairs_known xs h.1)

-- ---- the keys of the leads, one after another
pub drop_front : {X : Type 0} (k : ℕ) (xs ys : List X) → k ≤ length xs → drop k (xs ++ ys) ≡ drop k xs ++ ys
drop_front zero [] ys h = refl
drop_front zero (x ∷ xs) ys h = refl
drop_front (suc k) [] ys h = absurd (omega arith)
drop_front (suc k) (x ∷ xs) ys h = drop_front k xs ys (omega arith)

drop_none : {X : Type 0} (k : ℕ) (xs : List X) → length xs ≤ k → drop k xs ≡ []
drop_none zero [] h = refl
drop_none zero (x ∷ xs) h = absurd (omega arith)
drop_none (suc k) [] h = refl
drop_none (suc k) (x ∷ xs) h = drop_none k xs (omega arith)

-- the keys of the members from number `first` on, of the first i
abbrev pub keys_to : List MemberShown → ℕ → ℕ → List CodeKey
keys_to ms first i = drop first (map (λ m. first_key m.vector) (take i ms))

pub no_keys : (ms : List MemberShown) (first : ℕ) → keys_to ms first first ≡ []
no_keys ms first = drop_none first _ (omega (arith, length-map (take first ms) (λ m. first_key m.vector), length-take first ms))

pub next_key :
    (ms : List MemberShown) (first i : ℕ) (m : MemberShown)
    → first ≤ i → i < length ms → m ≡ get_or ms i m → keys_to ms first (i + 1) ≡ keys_to ms first i ++ (first_key m.vector ∷ [])
next_key ms first i m le lt is =
    ap (λ l. drop first (map (λ m. first_key m.vector) l)) (take_item ms i m lt is)
    ∙ ap (drop first) (map-append (λ m. first_key m.vector) (take i ms) (m ∷ []))
    ∙ drop_front first (map (λ m. first_key m.vector) (take i ms)) (first_key m.vector ∷ [])
    (omega (arith, le, lt, length-map (take i ms) (λ m. first_key m.vector), length-take i ms))

-- the key of a lead is one of the ring
pub key_weighed :
    (shared : Shared) (v : List (CodeKey × ℕ)) → IsRanked shared.ring shared.rank v → 0 < length v → IsMonomialOver shared.ring (first_key v).monomial
key_weighed shared [] h some = absurd (omega arith)
key_weighed shared (t ∷ v) h some = h.vector.each.0.weighed

-- the leads of the first members, and those of the others behind them
pub leads_joined :
    (shared : Shared) (ms : List MemberShown) (first : ℕ) (new old : LeadsShown) (keys : List CodeKey)
    → new ≡ record old { keys = old.keys ++ keys } → old ≡ leads_shown_of shared (take first ms) → keys ≡ drop first (leads_shown_of shared ms).keys
    → new ≡ leads_shown_of shared ms
leads_joined shared ms first new old keys e o k =
    let all : List CodeKey = map (λ m. first_key m.vector) ms in
    e
    ∙ (λ i. record (o i) { keys = (o i).keys ++ k i })
    ∙ ap (λ (l : List CodeKey). record (leads_shown_of shared ms) { keys = l })
    (ap (λ l. l ++ drop first all) (sym (take-map (λ m. first_key m.vector) first ms)) ∙ take-append-drop first all)

pub leads_count : (shared : Shared) (ms : List MemberShown) (first : ℕ) (old : LeadsShown) → first ≤ length ms → old ≡ leads_shown_of shared (take first ms)
    → length old.keys ≡ first
leads_count shared ms first old le o =
    ap (λ (l : LeadsShown). length l.keys) o ∙ length-map (take first ms) (λ m. first_key m.vector) ∙ length-take-le first ms le
