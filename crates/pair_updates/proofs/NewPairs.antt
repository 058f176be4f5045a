-- The pairs that new members bring to the queue
use Rattle.std.proofs.Common.{Bool, List, Option, Some, [], ap, ap₂, arith, cond, eq-eqb, false, inl, inr, length, ne_eqb, refl, subst, sym, true, ℕ}
use Rattle.std.proofs.Common.{◌&&◌, ◌++◌, ◌+◌, ◌<◌, ◌∙◌, ◌∷◌, ◌≡◌, ◌≤◌}
use Rattle.std.proofs.lemmas.Bool.{cases_lt, cases_order, le-leb, le-ltb, lt-leb, lt-ltb}
use Rattle.std.proofs.lemmas.List.{get_or_default, map-append}
use Rattle.std.specs.Prelude.{IfSome, leb, ltb, nat_eq}
use Rattle.formal_sums.specs.FormalSums.{Each, FormalSum}
use Rattle.bases.specs.Leads.{leads}
use Rattle.bases.specs.Representations.{key_lcm}
use Rattle.monomial_orders.specs.Kept.{IsWeighed}
use Rattle.term_lists.specs.Vectors.{key_of}
use Rattle.term_lists.specs.declared.key.Key.{Key as CodeKey}
use Rattle.basis_steps.proofs.Counting.{count-append}
use Rattle.basis_steps.proofs.Growing.{each_at}
use Rattle.basis_steps.specs.Criteria.{lcm_of}
use Rattle.basis_steps.specs.Pairs.{Pair, count, is_same_pair}
use Rattle.basis_steps.specs.Queues.{is_new_pair}
use Rattle.pair_criteria.specs.Pairs.{IsPairOfLeads, IsPairOf, lead_with_index, key_variables}
use Rattle.pair_criteria.specs.declared.pair.Pair.{Pair as CodePair}
use Rattle.pair_updates.proofs.Leading.{lead_at as lead_is}
use Rattle.pair_updates.specs.Leads.{LeadsShown, lead_sums}
use Rattle.pair_updates.specs.Pairs.{HasLcm, index_pair_of, pairs_of}
use Rattle.pair_updates.specs.Queueing.{are_together}

and_true : (b : Bool) → (b && true) ≡ b
and_true true = refl
and_true false = refl

and_false : (b : Bool) → (b && false) ≡ false
and_false true = refl
and_false false = refl

-- ---- the pair of two leads, as it is made
pub some_pair : (ks ls : List CodeKey) (i j : ℕ) (o : Option CodePair) (p : CodePair) → ks ≡ ls → o ≡ Some p → IsPairOf ks i j o → IsPairOfLeads ls i j p
some_pair ks ls i j o p e f h = subst (λ (l : List CodeKey). IsPairOfLeads l i j p) e (subst (IsPairOf ks i j) f h)

pub some_weighed :
    (ks ls : List CodeKey) (us ws : List ℕ) (i : ℕ) (o : Option CodePair) (p : CodePair)
    → ks ≡ ls → us ≡ ws → o ≡ Some p → IfSome o (λ q. IsWeighed (key_variables (lead_with_index ks i)) us q.lcm.monomial)
    → IsWeighed (key_variables (lead_with_index ls i)) ws p.lcm.monomial
some_weighed ks ls us ws i o p e w f h =
    subst (λ (z : List CodeKey × List ℕ). IsWeighed (key_variables (lead_with_index z.0 i)) z.1 p.lcm.monomial) (λ t. (e t, w t))
    (subst (λ (r : Option CodePair). IfSome r (λ q. IsWeighed (key_variables (lead_with_index ks i)) us q.lcm.monomial)) f h)

module _ (m : LeadsShown) (i j : ℕ) (order : i < j) (known : j < length m.keys)
    (weighed : Each (λ k. IsWeighed m.variables m.weights k.monomial) m.keys) where
  abbrev n : ℕ
  n = m.variables

  abbrev ks : List CodeKey
  ks = m.keys

  there : i < length ks
  there = omega (arith, order, known)

  pub variables_at : (k : ℕ) → k < length ks → key_variables (lead_with_index ks k) ≡ n
  variables_at k l = (each_at (λ (z : CodeKey). IsWeighed n m.weights z.monomial) ks k _ weighed l).variables

  at : (k : ℕ) → k < length ks → key_of n (lead_with_index ks k) ≡ leads (lead_sums n ks) k
  at k l = lead_is n ks k (lead_with_index ks k) l (get_or_default ks k _ _ l)

  pub together_is : nat_eq (lead_with_index ks i).position (lead_with_index ks j).position ≡ are_together (lead_sums n ks) i j
  together_is = ap₂ nat_eq (ap (λ k. k.0) (at i there)) (ap (λ k. k.0) (at j known))

  pub positions_back : (leads (lead_sums n ks) i).0 ≡ (leads (lead_sums n ks) j).0 → (lead_with_index ks i).position ≡ (lead_with_index ks j).position
  positions_back e = ap (λ k. k.0) (at i there) ∙ e ∙ sym (ap (λ k. k.0) (at j known))

  -- the leads of a pair stand at one position
  pub positions_of : (p : CodePair) → IsPairOfLeads ks i j p → (leads (lead_sums n ks) p.i).0 ≡ (leads (lead_sums n ks) p.j).0
  positions_of p h =
      ap (λ z. (leads (lead_sums n ks) z).0) h.left ∙ sym (ap (λ k. k.0) (at i there)) ∙ h.together ∙ ap (λ k. k.0) (at j known)
      ∙ sym (ap (λ z. (leads (lead_sums n ks) z).0) h.right)

  pub lcm_made : (p : CodePair) → IsPairOfLeads ks i j p → IsWeighed (key_variables (lead_with_index ks i)) m.weights p.lcm.monomial → HasLcm m p
  lcm_made p h w = record {
    weighed = subst (λ z. IsWeighed z m.weights p.lcm.monomial) (variables_at i there) w;
    lcm = subst (λ z. key_of z p.lcm ≡ key_lcm (key_of z (lead_with_index ks i)) (key_of z (lead_with_index ks j))) (variables_at i there) h.lcm
        ∙ ap₂ key_lcm (at i there) (at j known)
        ∙ sym (ap (lcm_of (lead_sums n ks)) (ap₂ (λ a b. (a, b)) h.left h.right));
  }

  pub pair_pushed :
      (old new : List CodePair) (p : CodePair)
      → IsPairOfLeads ks i j p → new ≡ old ++ (p ∷ []) → (x : Pair)
      → count x (pairs_of new) ≡ count x (pairs_of old) + cond (is_same_pair x (i, j) && are_together (lead_sums n ks) i j) 1 0
  pair_pushed old new p h e x =
      let a : count x (pairs_of new) ≡ count x (pairs_of old ++ (index_pair_of p ∷ [])) = ap (λ l. count x (pairs_of l)) e
      ∙ ap (count x) (map-append index_pair_of old (p ∷ [])) in
      let b = count-append x (pairs_of old) (index_pair_of p ∷ []) in
      let d : ◌≡◌ {A = ℕ} (cond (is_same_pair x (index_pair_of p)) 1 0) (cond (is_same_pair x (i, j)) 1 0) =
      ap (λ y. cond (is_same_pair x y) 1 0) (ap₂ (λ a b. (a, b)) h.left h.right) in
      let t : are_together (lead_sums n ks) i j ≡ true = sym together_is ∙ eq-eqb _ _ h.together in
      let f : ◌≡◌ {A = ℕ} (cond (is_same_pair x (i, j) && are_together (lead_sums n ks) i j) 1 0) (cond (is_same_pair x (i, j)) 1 0) =
      ap (λ y. cond y 1 0) (ap (λ y. is_same_pair x (i, j) && y) t ∙ and_true (is_same_pair x (i, j))) in
      omega (arith, a, b, d, f)

-- ---- new pairs
-- no pair is new whose later member is an old one, or none
pub old_is_not_new : {n : ℕ} (G : List (FormalSum n)) (first : ℕ) (x : Pair) → x.1 < first → is_new_pair first G x ≡ false
old_is_not_new G first x l = rw (lt-leb first x.1 l) refl

past_is_not_new : {n : ℕ} (G : List (FormalSum n)) (first : ℕ) (x : Pair) → length G ≤ x.1 → is_new_pair first G x ≡ false
past_is_not_new G first x l = rw (le-ltb x.1 (length G) l) (and_false (leb first x.1))

one_of : (q d : Bool) → ◌≡◌ {A = ℕ} (cond (q && d) 1 0) (cond (q && false) 1 0 + cond (q && d) 1 0)
one_of true d = omega arith
one_of false d = omega arith

-- ---- the pairs of member j, one earlier member after another
pub one_more :
    (f : ℕ → Bool) (i j : ℕ) (x : Pair)
    → ◌≡◌ {A = ℕ} (cond (nat_eq x.1 j && (ltb x.0 (i + 1) && f x.0)) 1 0)
    (cond (nat_eq x.1 j && (ltb x.0 i && f x.0)) 1 0 + cond (is_same_pair x (i, j) && f i) 1 0)
one_more f i j x = elim (cases_order x.0 i) [
  | inl e ↦ (let u : f x.0 ≡ f i = ap f e in
      rw (lt-ltb x.0 (i + 1) (omega arith), le-ltb x.0 i (omega arith), eq-eqb x.0 i e, u) (one_of (nat_eq x.1 j) (f i)))
  | inr (inl l) ↦ rw (lt-ltb x.0 (i + 1) (omega arith), lt-ltb x.0 i l, ne_eqb x.0 i (λ e. omega arith)) (omega arith)
  | inr (inr l) ↦ rw (le-ltb x.0 (i + 1) (omega arith), le-ltb x.0 i (omega arith), ne_eqb x.0 i (λ e. omega arith)) (omega arith)
]

-- ---- the new pairs, member by member
at_member : (a b q m f : Bool) → a ≡ true → b ≡ false → q ≡ true → m ≡ f → ◌≡◌ {A = ℕ} (cond (a && m) 1 0) (cond (b && m) 1 0 + cond (q && f) 1 0)
at_member a b q m f ea eb eq em = rw (ea, eb, eq, em) (omega arith)

at_earlier : (a b q m f : Bool) → a ≡ true → b ≡ true → q ≡ false → ◌≡◌ {A = ℕ} (cond (a && m) 1 0) (cond (b && m) 1 0 + cond (q && f) 1 0)
at_earlier a b q m f ea eb eq = rw (ea, eb, eq) (omega arith)

at_later : (a b q m f : Bool) → a ≡ false → b ≡ false → q ≡ false → ◌≡◌ {A = ℕ} (cond (a && m) 1 0) (cond (b && m) 1 0 + cond (q && f) 1 0)
at_later a b q m f ea eb eq = rw (ea, eb, eq) refl

module _ {n : ℕ} (G : List (FormalSum n)) (first : ℕ) where
  member_is_new : (j i : ℕ) → first ≤ j → j < length G → is_new_pair first G (i, j) ≡ (ltb i j && are_together G i j)
  member_is_new j i lo hi = rw (le-leb first j lo, lt-ltb j (length G) hi) refl

  pub new_more :
      (j : ℕ) (x : Pair) → first ≤ j → j < length G
      → ◌≡◌ {A = ℕ} (cond (ltb x.1 (j + 1) && is_new_pair first G x) 1 0)
      (cond (ltb x.1 j && is_new_pair first G x) 1 0 + cond (nat_eq x.1 j && (ltb x.0 j && are_together G x.0 j)) 1 0)
  new_more j x lo hi = elim (cases_order x.1 j) [
    | inl e ↦ at_member _ _ _ _ _ (lt-ltb x.1 (j + 1) (omega arith)) (le-ltb x.1 j (omega arith)) (eq-eqb x.1 j e)
        (ap (λ z. is_new_pair first G (x.0, z)) e ∙ member_is_new j x.0 lo hi)
    | inr (inl l) ↦ at_earlier _ _ _ _ _ (lt-ltb x.1 (j + 1) (omega arith)) (lt-ltb x.1 j l) (ne_eqb x.1 j (λ e. omega arith))
    | inr (inr l) ↦ at_later _ _ _ _ _ (le-ltb x.1 (j + 1) (omega arith)) (le-ltb x.1 j (omega arith)) (ne_eqb x.1 j (λ e. omega arith))
  ]

  pub all_new :
      (end : ℕ) (x : Pair) → length G ≡ end
      → ◌≡◌ {A = ℕ} (cond (ltb x.1 end && is_new_pair first G x) 1 0) (cond (is_new_pair first G x) 1 0)
  all_new end x e = elim (cases_lt x.1 end) [
    | inl l ↦ ap (λ b. cond (b && is_new_pair first G x) 1 0) (lt-ltb x.1 end l)
    | inr l ↦ ap (λ b. cond (b && is_new_pair first G x) 1 0) (le-ltb x.1 end l) ∙ sym (ap (λ b. cond b 1 0) (past_is_not_new G first x (omega arith)))
  ]
