-- Vectors and the theorems on bases: normal forms, leads, ranks, and one list for each vector
use Rattle.std.proofs.Common.{List, Ordering, [], ap, ap₂, arith, inl, inr, refl, sym, ℕ, ◌*◌, ◌+◌, ◌<◌, ◌∙◌, ◌∷◌, ◌≡◌, ◌≤◌, ◌⊎◌}
use Rattle.std.proofs.lemmas.Bool.{cases_lt}
use Rattle.residues.proofs.Congruences.{IsCongruent_of, IsCongruent_trans}
use Rattle.residues.specs.Residues.{IsCongruent}
use Rattle.formal_sums.proofs.WeightedSums.{indicator_other}
use Rattle.formal_sums.specs.FormalSums.{Each, FormalSum, IsOfRank, IsSame, Key, coefficient, indicator}
use Rattle.bases.proofs.NormalForms.{head_lead, normal_unique}
use Rattle.bases.specs.Leads.{IsLead, IsNormal}
use Rattle.bases.specs.Settings.{IsLawful, Setting}
use Rattle.monomial_orders.proofs.Over.{weighed_exact}
use Rattle.monomial_orders.specs.Kept.{IsWeighed, Monomial}
use Rattle.term_lists.specs.Rings.{setting, variables}
use Rattle.term_lists.specs.Vectors.{HasPositions, IsTerm, IsVectorOver, StandsFor, key_of, sum_of}
use Rattle.term_lists.specs.declared.key.Key.{Key as CodeKey}
use Rattle.term_lists.specs.declared.ring.Ring.{Ring}

pub residues_of : (n : ℕ) (ws : List ℕ) (p : ℕ) (v : List (CodeKey × ℕ)) → Each (IsTerm n ws p) v → Each (λ t. (0 < t.1) × (t.1 < p)) (sum_of n v)
residues_of n ws p [] h = tt
residues_of n ws p (t ∷ v) h = ((h.0.nonzero, h.0.reduced), residues_of n ws p v h.1)

one_key :
    (n : ℕ) (ws : List ℕ) (k l : CodeKey) → IsWeighed n ws k.monomial → IsWeighed n ws l.monomial → key_of n k ≡ key_of n l → k ≡ l
one_key n ws k l hk hl e =
    let p : k.position ≡ l.position = ap (λ z. z.0) e in
    let m : k.monomial ≡ l.monomial = weighed_exact n ws k.monomial l.monomial hk hl (ap (λ z. z.1) e) in
    same k l p m
  where
    same : (k l : CodeKey) → k.position ≡ l.position → k.monomial ≡ l.monomial → k ≡ l
    same k l p m = let f : ℕ → Monomial → CodeKey = λ x y. record { position = x; monomial = y } in ap₂ f p m

-- lists of terms of n variables with one formal sum are one
pub one_terms :
    (n : ℕ) (ws : List ℕ) (p : ℕ) (v w : List (CodeKey × ℕ))
    → Each (IsTerm n ws p) v → Each (IsTerm n ws p) w → sum_of n v ≡ sum_of n w → v ≡ w
one_terms n ws p [] [] hv hw e = refl
one_terms n ws p [] (u ∷ w) hv hw e = absurd (cc)
one_terms n ws p (t ∷ v) [] hv hw e = absurd (cc)
one_terms n ws p (t ∷ v) (u ∷ w) hv hw e =
    let first : (key_of n t.0, t.1) ≡ (key_of n u.0, u.1) = head e in
    let rest : sum_of n v ≡ sum_of n w = tail e in
    ap₂ ◌∷◌ (ap₂ (λ k c. (k, c)) (one_key n ws t.0 u.0 hv.0.weighed hw.0.weighed (ap (λ z. z.0) first)) (ap (λ z. z.1) first)) (one_terms n ws p v w hv.1 hw.1 rest)
  where
    head : {X : Type 0} {x y : X} {xs ys : List X} → x ∷ xs ≡ y ∷ ys → x ≡ y
    head e = cc

    tail : {X : Type 0} {x y : X} {xs ys : List X} → x ∷ xs ≡ y ∷ ys → xs ≡ ys
    tail e = cc

module _ (ring : Ring) (compare : (n : ℕ) → Key n → Key n → Ordering) (rank : ℕ) where
  abbrev S : Setting (variables ring)
  S = setting ring (variables ring) (compare (variables ring)) rank

  -- a vector is in normal form
  pub vector_normal : (v : List (CodeKey × ℕ)) → IsVectorOver ring compare v → IsNormal S (sum_of (variables ring) v)
  vector_normal v h = record { descends = h.descends; residues = residues_of (variables ring) ring.weights ring.modulus.value v h.each }

  -- and its first key is its lead
  pub vector_lead :
      (t : CodeKey × ℕ) (v : List (CodeKey × ℕ))
      → IsLawful S → IsVectorOver ring compare (t ∷ v) → IsLead S (sum_of (variables ring) (t ∷ v)) (key_of (variables ring) t.0)
  vector_lead t v lawful h =
      let r = residues_of (variables ring) ring.weights ring.modulus.value (t ∷ v) h.each in
      head_lead S lawful (key_of (variables ring) t.0, t.1) (sum_of (variables ring) v) h.descends r

  -- vectors that stand for one formal sum are one list
  pub vector_unique :
      (v w : List (CodeKey × ℕ))
      → IsLawful S → IsVectorOver ring compare v → IsVectorOver ring compare w
      → IsSame ring.modulus.value (sum_of (variables ring) v) (sum_of (variables ring) w) → v ≡ w
  vector_unique v w lawful hv hw e =
      let n = variables ring in
      let p = ring.modulus.value in
      one_terms n ring.weights p v w hv.each hw.each
      (normal_unique S lawful (sum_of n v) (sum_of n w) hv.descends hw.descends (residues_of n ring.weights p v hv.each) (residues_of n ring.weights p w hw.each) e)

  -- where no coefficient stands from position m on, no term does
  positions_below :
      (m : ℕ) (v : List (CodeKey × ℕ))
      → IsLawful S → IsVectorOver ring compare v
      → ((k : Key (variables ring)) → m ≤ k.0 → IsCongruent ring.modulus.value (coefficient (sum_of (variables ring) v) k) 0)
      → HasPositions m v
  positions_below m [] lawful h past = tt
  positions_below m (t ∷ v) lawful h past =
      let n = variables ring in
      let low : t.0.position < m = first (cases_lt t.0.position m) in
      (low, positions_below m v lawful (record { each = h.each.1; descends = h.descends.1 }) (λ k le. IsCongruent_trans (IsCongruent_of ring.modulus.value _ _ (sym (rest k le low))) (past k le)))
    where
      first : (t.0.position < m) ⊎ (m ≤ t.0.position) → t.0.position < m
      first (inl lt) = lt
      first (inr le) = absurd ((vector_lead t v lawful h).nonzero (past (key_of (variables ring) t.0) le))

      rest : (k : Key (variables ring)) → m ≤ k.0 → t.0.position < m → coefficient (sum_of (variables ring) (t ∷ v)) k ≡ coefficient (sum_of (variables ring) v) k
      rest k le lt =
          let other : indicator k (key_of (variables ring) t.0) ≡ 0 = indicator_other k (key_of (variables ring) t.0) (λ e. let p : k.0 ≡ t.0.position = ap (λ z. z.0) e in omega arith) in
          ap (λ z. t.1 * z + coefficient (sum_of (variables ring) v) k) other ∙ omega arith

  -- a vector of rank m has positions below m
  pub vector_positions :
      (m : ℕ) (v : List (CodeKey × ℕ)) (w : FormalSum (variables ring))
      → IsLawful S → IsVectorOver ring compare v → StandsFor ring v w → IsOfRank ring.modulus.value m w → HasPositions m v
  vector_positions m v w lawful h same ranked =
      positions_below m v lawful h (λ k le. IsCongruent_trans (same.by_key k) (ranked.past k le))
