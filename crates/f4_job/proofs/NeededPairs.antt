-- Pairs whose members have one term each need no rows
use Rattle.std.proofs.Common.{Bool, Contains, List, [], ap, arith, cond, false, get_or, inl, inr, length, ltb, refl, subst, subst₂, sym, true, ℕ, ◌*◌, ◌++◌, ◌+◌, ◌-◌, ◌<◌, ◌∷◌, ◌||◌, ◌≡◌, ◌≤◌}
use Rattle.std.specs.Prelude.{filter}
use Rattle.std.proofs.lemmas.Bool.{ltb-false}
use Rattle.std.proofs.lemmas.List.{length-map}
use Rattle.std.proofs.lemmas.List.Elements.{All-contains, All-filter, Contains-get_or}
use Rattle.std.proofs.lemmas.List.Sums.{count_by-le-length, length-filter}
use Rattle.residues.proofs.Congruences.{IsCongruent_minus, IsCongruent_of, IsCongruent_sym, IsCongruent_trans}
use Rattle.residues.specs.Residues.{IsCongruent}
use Rattle.monomials.specs.Exponents.{lcm, quotient}
use Rattle.formal_sums.proofs.Combining.{Each_map}
use Rattle.formal_sums.specs.FormalSums.{Each, FormalSum, IsSame, Key, coefficient, indicator, shift}
use Rattle.bases.proofs.Below.{shift-quotient, shift-quotient_right}
use Rattle.bases.proofs.Leading.{positive}
use Rattle.bases.proofs.MoreMembers.{HasLcmRepresentation_more}
use Rattle.bases.specs.Leads.{head_key}
use Rattle.bases.specs.Meeting.{AreMetInTurn, IsMetBy}
use Rattle.bases.specs.Representations.{HasLcmRepresentation, key_lcm, s_vector}
use Rattle.bases.specs.Settings.{IsLawful, Setting}
use Rattle.term_lists.proofs.Parts.{Each_member}
use Rattle.term_lists.specs.Vectors.{key_of, sum_of, sums_of}
use Rattle.term_lists.specs.declared.key.Key.{Key as CodeKey}
use Rattle.module_vectors.specs.Trails.{IsInProduct, KeptProduct, kept_product_lead}
use Rattle.pair_criteria.specs.Pairs.{IsLcmOf}
use Rattle.pair_criteria.specs.declared.pair.Pair.{Pair as CodePair}
use Rattle.vector_division.proofs.Members.{sums_at}
use Rattle.row_matrix.specs.Rows.{RowShown, vector_of, vectors_of}
use Rattle.symbolic_prep.specs.Plans.{IsMemberPair}
use Rattle.symbolic_prep.specs.Prepared.{IsMonicVector}
use Rattle.f4_job.specs.Solved.{AreNewRows, IsBelowPairs}
use Rattle.f4_job.specs.Tails.{IsPairWithin, needs_rows}

abbrev Terms : Type 0
Terms = List (CodeKey × ℕ)

-- ---- the S-vector of two monic vectors of one term is zero
cancelled : (p d a b x y : ℕ) → a ≡ 1 → b ≡ 1 → x ≡ d → y ≡ d → d + (p - 1) * d ≡ 1 * a * x + ((p - 1) * b * y + 0)
cancelled p d a b x y ea eb ex ey = rw (ea, eb, ex, ey) (omega arith)

s_vector_zero :
    (n p : ℕ) → 0 < p → (v w : Terms) → length v ≤ 1 → length w ≤ 1 → IsMonicVector n v → IsMonicVector n w
    → (head_key (sum_of n v)).0 ≡ (head_key (sum_of n w)).0 → IsSame p [] (s_vector p (sum_of n v) (sum_of n w))
s_vector_zero n p pos [] w a b c d e = absurd (let l = c.0 in omega (arith, l))
s_vector_zero n p pos (t ∷ v) [] a b c d e = absurd (let l = d.0 in omega (arith, l))
s_vector_zero n p pos (t ∷ s ∷ v) (u ∷ w) a b c d e = absurd (omega arith)
s_vector_zero n p pos (t ∷ []) (u ∷ r ∷ w) a b c d e = absurd (omega arith)
s_vector_zero n p pos (t ∷ []) (u ∷ []) a b c d e = record { by_key = each }
  where
    g : Key n
    g = key_of n t.0

    h : Key n
    h = key_of n u.0

    each : (k : Key n) → IsCongruent p 0 (coefficient (s_vector p (sum_of n (t ∷ [])) (sum_of n (u ∷ []))) k)
    each k =
        let o = indicator k (key_lcm g h) in
        IsCongruent_trans (IsCongruent_sym (IsCongruent_minus p o pos))
        (IsCongruent_of p _ _ (cancelled p o t.1 u.1 (indicator k (shift (quotient (lcm g.1 h.1) g.1) g)) (indicator k (shift (quotient (lcm g.1 h.1) h.1) h))
        c.1 d.1 (ap (indicator k) (shift-quotient g h)) (ap (indicator k) (shift-quotient_right g h e))))

-- ---- a pair that needs no rows
neither : (a b : Bool) → (a || b) ≡ false → (a ≡ false) × (b ≡ false)
neither true b e = absurd (let z : true ≡ false = e in cc)
neither false b e = (refl, e)

-- each pair has an lcm representation by G
abbrev AreRepresented : {n : ℕ} → Setting n → List (FormalSum n) → List CodePair → Type 0
AreRepresented S G pairs = Each (λ x. HasLcmRepresentation S G x.i x.j) pairs

module _ (n : ℕ) (S : Setting n) (lawful : IsLawful S) (list : List Terms) (monic : Each (IsMonicVector n) list) where
  -- by no products at all
  zero_pair : (N : List (FormalSum n)) (x : CodePair) → IsMemberPair n S.weights list x → needs_rows list x ≡ false
      → HasLcmRepresentation S (sums_of n list ++ N) x.i x.j
  zero_pair N x h none =
      let v = get_or list x.i [] in
      let w = get_or list x.j [] in
      let few = neither (ltb 1 (length v)) (ltb 1 (length w)) none in
      let size : length (sums_of n list) ≡ length list = length-map list (λ (v : Terms). sum_of n v) in
      let zero = s_vector_zero n S.modulus (positive S lawful) v w (ltb-false 1 (length v) few.0) (ltb-false 1 (length w) few.1)
      (Each_member (IsMonicVector n) list x.i [] monic h.left) (Each_member (IsMonicVector n) list x.j [] monic h.right) h.position in
      HasLcmRepresentation_more S (sums_of n list) N x.i x.j (subst (λ c. x.i < c) (sym size) h.left) (subst (λ c. x.j < c) (sym size) h.right) (record {
        cofactors = [];
        below = tt;
        sums = subst₂ (λ f g. IsSame S.modulus [] (s_vector S.modulus f g)) (sym (sums_at n list x.i)) (sym (sums_at n list x.j)) zero;
      })

  -- all pairs, by those that need rows
  represented_all :
      (N : List (FormalSum n)) (pairs : List CodePair) → Each (IsMemberPair n S.weights list) pairs
      → AreRepresented S (sums_of n list ++ N) (filter (needs_rows list) pairs) → AreRepresented S (sums_of n list ++ N) pairs
  represented_all N [] h r = tt
  represented_all N (x ∷ xs) h r = go (λ q. represented_all N xs h.1 q) (needs_rows list x) refl r
    where
      go : (AreRepresented S (sums_of n list ++ N) (filter (needs_rows list) xs) → AreRepresented S (sums_of n list ++ N) xs)
          → (b : Bool) → needs_rows list x ≡ b
          → AreRepresented S (sums_of n list ++ N) (cond b (x ∷ filter (needs_rows list) xs) (filter (needs_rows list) xs))
          → AreRepresented S (sums_of n list ++ N) (x ∷ xs)
      go ih true e q = (q.0, ih q.1)
      go ih false e q = (zero_pair N x h.0 e, ih q)

-- ---- what holds of some pairs holds of more
filtered_contains : (p : CodePair → Bool) (xs : List CodePair) (x : CodePair) → Contains (filter p xs) x → Contains xs x
filtered_contains p xs x h =
    All-contains (Contains xs) (filter p xs) x (All-filter p (Contains xs) xs (λ k d lt. Contains-get_or xs k d lt)) h

filtered_few : (p : CodePair → Bool) (xs : List CodePair) → length (filter p xs) ≤ length xs
filtered_few p xs = omega (arith, length-filter p xs, count_by-le-length p xs)

met_more :
    {K X : Type 0} (first wider : K → Type 0) (occurs : K → X → Type 0) (lead : X → K) → ((k : K) → first k → wider k)
    → (earlier xs : List X) → AreMetInTurn first occurs lead earlier xs → AreMetInTurn wider occurs lead earlier xs
met_more first wider occurs lead f earlier [] h = tt
met_more first wider occurs lead f earlier (x ∷ xs) h = (by h.0, met_more first wider occurs lead f (earlier ++ x ∷ []) xs h.1)
  where
    by : IsMetBy first occurs earlier (lead x) → IsMetBy wider occurs earlier (lead x)
    by (inl a) = inl (f (lead x) a)
    by (inr b) = inr b

none_left : (xs : List CodePair) → length xs ≡ 0 → xs ≡ []
none_left [] e = refl
none_left (x ∷ xs) e = absurd (omega arith)

module _ (n : ℕ) (S : Setting n) (lawful : IsLawful S) (list : List Terms) (monic : Each (IsMonicVector n) list) (pairs : List CodePair)
    (of_pairs : Each (IsMemberPair n S.weights list) pairs) where
  abbrev Needing : List CodePair
  Needing = filter (needs_rows list) pairs

  -- the rows of the pairs that need some are those of all
  pub rows_of_all :
      (products : List KeptProduct) (columns : List CodeKey) (rows : List RowShown)
      → 0 < length Needing → AreNewRows n S list Needing products columns rows → AreNewRows n S list pairs products columns rows
  rows_of_all products columns rows some h = record {
    monomials = h.monomials;
    descend = h.descend;
    each_product = h.each_product;
    traced = met_more (λ (k : Key n). (x : CodePair) × IsLcmOf n Needing k x) (λ (k : Key n). (x : CodePair) × IsLcmOf n pairs k x)
        (IsInProduct n list) (kept_product_lead n list)
        (λ k l. (l.0, (filtered_contains (needs_rows list) pairs l.0 l.1.0, l.1.1))) [] products h.traced;
    rows_good = h.rows_good;
    combined = h.combined;
    few = λ _. (let l = h.few some in omega (arith, filtered_few (needs_rows list) pairs));
    low = Each_map (λ (r : RowShown). IsBelowPairs S Needing (head_key (vector_of n columns r)))
        (λ (r : RowShown). IsBelowPairs S pairs (head_key (vector_of n columns r))) rows
        (λ r l. (l.0, filtered_contains (needs_rows list) pairs l.0 l.1, l.2)) h.low;
    represented = λ ranks. represented_all n S lawful list monic (vectors_of n columns rows) pairs of_pairs (h.represented ranks);
  }

  -- where no pair needs rows, there are none
  pub no_rows : length Needing ≡ 0 → AreNewRows n S list pairs [] [] []
  no_rows none = record {
    monomials = tt;
    descend = λ c d lt l. absurd (omega arith);
    each_product = λ i lt. absurd (omega arith);
    traced = tt;
    rows_good = tt;
    combined = tt;
    few = λ some. omega arith;
    low = tt;
    represented = λ ranks. represented_all n S lawful list monic [] pairs of_pairs
        (subst (AreRepresented S (sums_of n list ++ [])) (sym (none_left Needing none)) tt);
  }

-- ---- the pairs are of members
pub pairs_within : (n : ℕ) (ws : List ℕ) (list : List Terms) (pairs : List CodePair) → Each (IsMemberPair n ws list) pairs
    → Each (IsPairWithin (length list)) pairs
pairs_within n ws list pairs h = Each_map (IsMemberPair n ws list) (IsPairWithin (length list)) pairs (λ x g. (g.left, g.right)) h

pub filtered_each : (P : CodePair → Type 0) (p : CodePair → Bool) (xs : List CodePair) → Each P xs → Each P (filter p xs)
filtered_each P p [] h = tt
filtered_each P p (x ∷ xs) h = go (filtered_each P p xs h.1) (p x)
  where
    go : Each P (filter p xs) → (b : Bool) → Each P (cond b (x ∷ filter p xs) (filter p xs))
    go ih true = (h.0, ih)
    go ih false = ih
