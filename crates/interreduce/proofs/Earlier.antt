-- A member whose tail the list itself reduced, or the members that were reduced before it
use Rattle.std.proofs.Common.{Greater, Less, List, Ordering, [], ap, arith, drop, get_or, inl, inr, length, map, refl, subst, suc, sym, take, zero, ℕ, ◌++◌, ◌+◌, ◌-◌, ◌<◌, ◌∙◌, ◌∷◌, ◌≡◌, ◌≤◌, ◌⊎◌}
use Rattle.std.proofs.lemmas.Bool.{cases_lt}
use Rattle.std.proofs.lemmas.List.{drop-append-le, get_or-append_right, get_or-drop, get_or-map, get_or-take, get_or_append_left, get_or_default, get_or_past, length-append, length-drop, length-map, length-take-le, take-append-drop, take-append-le, take_all}
use Rattle.formal_sums.proofs.Combining.{Each_map, IsMember_each, IsMember_through}
use Rattle.formal_sums.proofs.WeightedSums.{Each_append}
use Rattle.formal_sums.specs.Combinations.{IsMember}
use Rattle.formal_sums.specs.FormalSums.{Each, FormalSum, Key}
use Rattle.orders.proofs.KeyOrdering.{KeyDivides_trans, less_of_greater}
use Rattle.orders.specs.KeyOrders.{KeyDivides}
use Rattle.bases.proofs.Leading.{positive}
use Rattle.bases.specs.Leads.{head_coefficient, head_key, leads}
use Rattle.bases.specs.Settings.{IsLawful}
use Rattle.term_lists.proofs.Parts.{Each_member}
use Rattle.term_lists.specs.Rings.{setting, variables}
use Rattle.term_lists.specs.Vectors.{AreVectorsOver, IsVectorOver, key_of, sum_of, sums_of}
use Rattle.term_lists.specs.declared.key.Key.{Key as CodeKey}
use Rattle.term_lists.specs.declared.ring.Ring.{Ring}
use Rattle.module_vectors.specs.Trails.{lead_at}
use Rattle.vector_division.proofs.Members.{sums_at}
use Rattle.vector_division.specs.Divisions.{IsFreeOfLeads, IsUncovered}
use Rattle.vector_division.specs.Divisors.{AreFreeKeys}
use Rattle.interreduce.specs.Leads.{AreNeeded, HaveLeadsOf, IsCoveredBy}
use Rattle.interreduce.specs.Members.{AreBatchOf, AreReducedTo, HasReducedTail, HaveReducedTails, IsReducedMember}
use Rattle.interreduce.proofs.Choosing.{apart_at}
use Rattle.interreduce.proofs.Leading.{Terms}
use Rattle.interreduce.proofs.Reducing.{each_index}
use Rattle.interreduce.proofs.Tails.{each_at_index}

not_zero : {n : ℕ} (v : FormalSum n) → head_coefficient v ≡ 1 → v ≡ [] → ⊥
not_zero v h e = let z : head_coefficient v ≡ 0 = ap head_coefficient e in absurd (omega arith)

some_sum : (n : ℕ) (v : Terms) → 0 < length v → sum_of n v ≡ [] → ⊥
some_sum n [] some e = omega arith
some_sum n (t ∷ v) some e = absurd (cc)

-- members are vectors, also where there is none
pub vectors_at :
    (ring : Ring) (compare : (n : ℕ) → Key n → Key n → Ordering) (list : List Terms) → AreVectorsOver ring compare list
    → (indices : List ℕ) → AreVectorsOver ring compare (map (λ i. get_or list i []) indices)
vectors_at ring compare list vectors [] = tt
vectors_at ring compare list vectors (i ∷ indices) =
    (each_at_index (IsVectorOver ring compare) list i (record { each = tt; descends = tt }) vectors, vectors_at ring compare list vectors indices)

-- the vectors that a batch is divided by
pub known_batch :
    (at : ℕ → Terms) (batch : List ℕ) (known start copies whole : List Terms) (n : ℕ) → start ≡ [] → copies ≡ start ++ map at (take n batch)
    → n ≡ length batch - 1 → whole ≡ known ++ copies → whole ≡ known ++ map at (take (length batch - 1) batch)
known_batch at batch known start copies whole n none a e b =
    b ∙ ap (λ z. known ++ z) (a ∙ ap (λ z. z ++ map at (take n batch)) none ∙ ap (λ m. map at (take m batch)) e)

-- the first none of the members
pub none_before : (at : ℕ → Terms) (batch : List ℕ) (n : ℕ) → n ≡ 0 → map at (take n batch) ≡ []
none_before at [] n e = ap (λ z. map at z) (ap (λ m. take m []) e) ∙ refl
none_before at (i ∷ batch) n e = ap (λ m. map at (take m (i ∷ batch))) e

-- what stood before the last vector
pub front_of : (known whole : List Terms) (v : Terms) → whole ≡ known ++ v ∷ [] → take (length whole - 1) whole ≡ known
front_of known whole v e =
    let l : length whole ≡ length known + 1 = ap length e ∙ length-append known (v ∷ []) in
    let m : length whole - 1 ≡ length known = omega (arith, l) in
    ap (λ z. take z whole) m ∙ ap (take (length known)) e ∙ take-append-le (length known) known (v ∷ []) (omega arith)
    ∙ take_all (length known) known (omega arith)

-- what is left of the front of a list
pub front_again :
    (known more whole cut : List Terms) (width : ℕ) → cut ≡ take width whole → whole ≡ known ++ more → width ≡ length known → cut ≡ known
front_again known more whole cut width a b e =
    a ∙ ap (take width) b ∙ take-append-le width known more (omega (arith, e)) ∙ take_all width known (omega (arith, e))

pub vectors_known :
    (ring : Ring) (compare : (n : ℕ) → Key n → Key n → Ordering) (list : List Terms) → AreVectorsOver ring compare list
    → (known more : List Terms) (indices : List ℕ) → AreVectorsOver ring compare known → more ≡ known ++ map (λ i. get_or list i []) indices
    → AreVectorsOver ring compare more
vectors_known ring compare list vectors known more indices h e =
    subst (AreVectorsOver ring compare) (sym e)
    (Each_append (IsVectorOver ring compare) known (map (λ i. get_or list i []) indices) h (vectors_at ring compare list vectors indices))

abbrev at_index : List Terms → ℕ → Terms
at_index list i = get_or list i []

module _ (ring : Ring) (compare : (n : ℕ) → Key n → Key n → Ordering) (list : List Terms) where
  pub first_known :
      (kept others : List ℕ) (w : ℕ) (known start copies : List Terms) → start ≡ [] → copies ≡ start ++ map (at_index list) others → known ≡ copies
      → w ≡ length copies → AreReducedTo ring compare list kept others w 0 known
  first_known kept others w known start copies none a e l =
      let same : known ≡ map (at_index list) others = e ∙ a ∙ ap (λ z. z ++ map (at_index list) others) none in
      let long : w ≡ length known = omega (arith, l, ap length e) in
      record {
        front = take_all w known (omega (arith, long)) ∙ same;
        long = omega (arith, long);
        count = length-drop w known ∙ omega (arith, long);
        each = λ k lt. absurd (omega (arith, lt));
      }

  pub in_two : (kept others : List ℕ) (w s : ℕ) (known : List Terms) → AreReducedTo ring compare list kept others w s known → known ≡ map (at_index list) others ++ drop w known
  in_two kept others w s known h = sym (take-append-drop w known) ∙ ap (λ z. z ++ drop w known) h.front

  pub all_vectors : (kept others : List ℕ) (w s : ℕ) (known : List Terms) → AreVectorsOver ring compare list → AreReducedTo ring compare list kept others w s known → AreVectorsOver ring compare known
  all_vectors kept others w s known vectors h =
      subst (AreVectorsOver ring compare) (sym (in_two kept others w s known h))
      (Each_append (IsVectorOver ring compare) (map (at_index list) others) (drop w known) (vectors_at ring compare list vectors others)
      (each_index (IsVectorOver ring compare) (drop w known) (λ k lt. (h.each k (subst (λ z. k < z) h.count lt)).vector)))

has_term : (n : ℕ) (w : Terms) → (sum_of n w ≡ [] → ⊥) → 0 < length w
has_term n [] some = absurd (some refl)
has_term n (t ∷ w) some = omega arith

module _ (ring : Ring) (compare : (n : ℕ) → Key n → Key n → Ordering)
    (lawful : (rank : ℕ) → IsLawful (setting ring (variables ring) (compare (variables ring)) rank)) (list : List Terms) where
  abbrev F : List (FormalSum (variables ring))
  F = sums_of (variables ring) list

  member_at : (i : ℕ) → IsMember ring.modulus.value F (sum_of (variables ring) (get_or list i []))
  member_at i = subst (IsMember ring.modulus.value F) (sums_at (variables ring) list i) (IsMember_each ring.modulus.value F i)

  -- what a member of the list and vectors that the list generates do generate, the list does
  generated :
      (i : ℕ) (divisors : List Terms) (v : Terms)
      → ((k : ℕ) → k < length divisors → IsMember ring.modulus.value F (sum_of (variables ring) (get_or divisors k [])))
      → IsMember ring.modulus.value (sums_of (variables ring) (get_or list i [] ∷ divisors)) (sum_of (variables ring) v)
      → IsMember ring.modulus.value F (sum_of (variables ring) v)
  generated i divisors v h g =
      IsMember_through (positive (setting ring (variables ring) (compare (variables ring)) 0) (lawful 0)) F
      (sums_of (variables ring) (get_or list i [] ∷ divisors)) each (sum_of (variables ring) v) g
    where
      each :
          (k : ℕ) → k < length (sums_of (variables ring) (get_or list i [] ∷ divisors))
          → IsMember ring.modulus.value F (get_or (sums_of (variables ring) (get_or list i [] ∷ divisors)) k [])
      each zero lt = member_at i
      each (suc k) lt =
          let l : suc k < suc (length divisors) = subst (λ z. suc k < suc z) (length-map divisors (λ w. sum_of (variables ring) w)) lt in
          subst (IsMember ring.modulus.value F) (sym (sums_at (variables ring) divisors k)) (h k (omega (arith, l)))

  pub by_list : (i : ℕ) (v : Terms) → HasReducedTail ring compare list (get_or list i []) v → IsReducedMember ring compare list i v
  by_list i v h = record {
    vector = h.vector;
    lead = h.lead;
    monic = h.monic;
    generated = generated i list v (λ k lt. member_at k) h.generated;
    tail = h.tail;
  }

  -- vectors that the list generates, among them some with the lower leads
  module _ (kept : List ℕ) (needed : AreNeeded (variables ring) (compare (variables ring)) list kept) (known : List Terms) (i : ℕ)
      (each : (k : ℕ) → k < length known → IsMember ring.modulus.value F (sum_of (variables ring) (get_or known k [])))
      (serves : (k : ℕ) → k < i → (p : ℕ) × (p < length known) × (0 < length (get_or known p [])) × (lead_at (variables ring) known p ≡ lead_at (variables ring) list (get_or kept k 0))) where
    abbrev lead : Key (variables ring)
    lead = lead_at (variables ring) list (get_or kept i 0)

    -- what stands below the member's lead stands below those of the members that are not yet reduced
    below_later :
        (l : Key (variables ring)) (k : ℕ) → compare (variables ring) l lead ≡ Less → i ≤ k → k < length kept
        → compare (variables ring) l (lead_at (variables ring) list (get_or kept k 0)) ≡ Less
    below_later l k below le lt = go (cases_lt i k)
      where
        go : (i < k) ⊎ (k ≤ i) → compare (variables ring) l (lead_at (variables ring) list (get_or kept k 0)) ≡ Less
        go (inl up) =
            (lawful 0).order.total.trans l lead (lead_at (variables ring) list (get_or kept k 0)) below
            (apart_at (variables ring) (compare (variables ring)) list kept i k needed.apart up lt).0
        go (inr ge) = let e : i ≡ k = omega arith in subst (λ z. compare (variables ring) l (lead_at (variables ring) list (get_or kept z 0)) ≡ Less) e below

    -- no lead of a needed member divides a key below the member's that no lead of the reduced ones divides
    by_kept :
        (l : Key (variables ring)) (k : ℕ) → compare (variables ring) l lead ≡ Less → IsUncovered (sums_of (variables ring) known) l → k < length kept
        → KeyDivides (lead_at (variables ring) list (get_or kept k 0)) l → ⊥
    by_kept l k below free lt d = go (cases_lt k i)
      where
        go : (k < i) ⊎ (i ≤ k) → ⊥
        go (inl before) =
            let s = serves k before in
            free s.0 (subst (λ z. s.0 < z) (sym (length-map known (λ w. sum_of (variables ring) w))) s.1)
            (λ e. some_sum (variables ring) (get_or known s.0 []) s.2 (sym (sums_at (variables ring) known s.0) ∙ e))
            (subst (λ z. KeyDivides z l) (sym (ap head_key (sums_at (variables ring) known s.0) ∙ s.3)) d)
        go (inr le) =
            (lawful 0).order.not_below d.0 (lead_at (variables ring) list (get_or kept k 0))
            (subst (λ z. compare (variables ring) z (lead_at (variables ring) list (get_or kept k 0)) ≡ Less) (sym d.1) (below_later l k below le lt))

    by_covering :
        (l m : Key (variables ring)) (j : ℕ) → compare (variables ring) l lead ≡ Less → IsUncovered (sums_of (variables ring) known) l
        → IsCoveredBy (variables ring) list kept j → m ≡ lead_at (variables ring) list j → KeyDivides m l → ⊥
    by_covering l m j below free (k, (p, lt, e), c) em d =
        let same : k ≡ get_or kept p 0 = sym (get_or_default kept p 0 k lt ∙ e) in
        let kept_lead = lead_at (variables ring) list (get_or kept p 0) in
        let first : KeyDivides kept_lead (lead_at (variables ring) list j) =
        subst (λ z. KeyDivides (lead_at (variables ring) list z) (lead_at (variables ring) list j)) same c in
        by_kept l p below free lt (KeyDivides_trans kept_lead (lead_at (variables ring) list j) l first (subst (λ z. KeyDivides z l) em d))

    uncovered : (l : Key (variables ring)) → compare (variables ring) l lead ≡ Less → IsUncovered (sums_of (variables ring) known) l → IsUncovered F l
    uncovered l below free j lt some d =
        by_covering l (leads F j) j below free
        (needed.covers j (subst (λ z. j < z) (length-map list (λ w. sum_of (variables ring) w)) lt)
        (has_term (variables ring) (get_or list j []) (λ e. some (sums_at (variables ring) list j ∙ e))))
        (ap head_key (sums_at (variables ring) list j)) d

    keys_free :
        (k : Key (variables ring)) (v : FormalSum (variables ring)) → k ≡ lead → Each (λ t. compare (variables ring) k t.0 ≡ Greater) v
        → IsFreeOfLeads (sums_of (variables ring) known) v → IsFreeOfLeads F v
    keys_free k [] e below free = tt
    keys_free k (t ∷ v) e below free =
        let lower : compare (variables ring) t.0 lead ≡ Less =
        subst (λ z. compare (variables ring) t.0 z ≡ Less) e (less_of_greater (lawful 0).order k t.0 below.0) in
        (uncovered t.0 lower free.0, keys_free k v e below.1 free.1)

    tail_free : (v : Terms) → HasReducedTail ring compare known (get_or list (get_or kept i 0) []) v → IsFreeOfLeads F (drop 1 (sum_of (variables ring) v))
    tail_free [] h = tt
    tail_free (t ∷ v) h = keys_free (head_key (sum_of (variables ring) (t ∷ v))) (sum_of (variables ring) v) h.lead h.vector.descends.0 h.tail

    by_known :
        (v : Terms) → HasReducedTail ring compare known (get_or list (get_or kept i 0) []) v
        → IsReducedMember ring compare list (get_or kept i 0) v
    by_known v h = record {
      vector = h.vector;
      lead = h.lead;
      monic = h.monic;
      generated = generated (get_or kept i 0) known v each h.generated;
      tail = tail_free v h;
    }

  -- what holds of each member, and of none past the end, holds of those with these indices
  members_at : (P : Terms → Type 0) → ((i : ℕ) → P (get_or list i [])) → (indices : List ℕ) → Each P (map (at_index list) indices)
  members_at P h [] = tt
  members_at P h (i ∷ indices) = (h i, members_at P h indices)

  -- some members, those that were reduced, and those of the batch but its last one
  abbrev together : List Terms → List ℕ → List ℕ → List Terms
  together reduced batch rest = (map (at_index list) rest ++ reduced) ++ map (at_index list) (take (length batch - 1) batch)

  each_together :
      (P : Terms → Type 0) → ((i : ℕ) → P (get_or list i [])) → (reduced : List Terms) (batch rest : List ℕ) → Each P reduced → Each P (together reduced batch rest)
  each_together P h reduced batch rest e =
      Each_append P (map (at_index list) rest ++ reduced) (map (at_index list) (take (length batch - 1) batch))
      (Each_append P (map (at_index list) rest) reduced (members_at P h rest) e) (members_at P h (take (length batch - 1) batch))

  -- a batch of the needed members, of which the earlier ones are reduced
  module _ (kept : List ℕ) (needed : AreNeeded (variables ring) (compare (variables ring)) list kept) (reduced : List Terms) (s : ℕ)
      (count : length reduced ≡ s) (done : (k : ℕ) → k < s → IsReducedMember ring compare list (get_or kept k 0) (get_or reduced k []))
      (batch rest : List ℕ) (is : (k : ℕ) → k < length batch → get_or batch k 0 ≡ get_or kept (s + k) 0) (fits : s + length batch ≤ length kept) where
    known_members : (k : ℕ) → k < length (together reduced batch rest) → IsMember ring.modulus.value F (sum_of (variables ring) (get_or (together reduced batch rest) k []))
    known_members k lt =
        Each_member (λ v. IsMember ring.modulus.value F (sum_of (variables ring) v)) (together reduced batch rest) k []
        (each_together (λ v. IsMember ring.modulus.value F (sum_of (variables ring) v)) member_at reduced batch rest
        (each_index (λ v. IsMember ring.modulus.value F (sum_of (variables ring) v)) reduced (λ j l. (done j (subst (λ z. j < z) count l)).generated))) lt

    abbrev raw : List Terms
    raw = map (at_index list) (take (length batch - 1) batch)

    length-raw : length raw ≡ length batch - 1
    length-raw = length-map (take (length batch - 1) batch) (at_index list) ∙ length-take-le (length batch - 1) batch (omega arith)

    abbrev w : ℕ
    w = length (map (at_index list) rest)

    known_length : length (map (at_index list) rest ++ reduced) ≡ w + s
    known_length = length-append (map (at_index list) rest) reduced ∙ ap (λ z. w + z) count

    -- a member that is reduced, and one of the batch
    known_reduced : (k : ℕ) → k < s → get_or (together reduced batch rest) (w + k) [] ≡ get_or reduced k []
    known_reduced k lt =
        let e : w + k - w ≡ k = omega arith in
        get_or_append_left (map (at_index list) rest ++ reduced) raw [] (w + k) (omega (arith, known_length, lt))
        ∙ get_or-append_right (map (at_index list) rest) reduced w (w + k) [] refl (omega arith)
        ∙ ap (λ z. get_or reduced z []) e

    known_raw : (k : ℕ) → s ≤ k → k + 1 < s + length batch → get_or (together reduced batch rest) (w + k) [] ≡ get_or list (get_or kept k 0) []
    known_raw k le lt =
        let e : w + k - (w + s) ≡ k - s = omega arith in
        get_or-append_right (map (at_index list) rest ++ reduced) raw (w + s) (w + k) [] known_length (omega (arith, le))
        ∙ ap (λ z. get_or raw z []) e
        ∙ get_or-map (at_index list) (take (length batch - 1) batch) (k - s) 0 [] (omega (arith, length-take-le (length batch - 1) batch (omega arith), lt, le))
        ∙ ap (at_index list) (get_or-take (length batch - 1) batch (k - s) 0 (omega arith) ∙ is (k - s) (omega arith) ∙ ap (λ z. get_or kept z 0) (omega arith))

    known_serves :
        (i : ℕ) → i < s + length batch → (k : ℕ) → k < i
        → (p : ℕ) × (p < length (together reduced batch rest)) × (0 < length (get_or (together reduced batch rest) p [])) × (lead_at (variables ring) (together reduced batch rest) p ≡ lead_at (variables ring) list (get_or kept k 0))
    known_serves i lt k below = go (cases_lt k s)
      where
        within : w + k < length (together reduced batch rest)
        within = omega (arith, length-append (map (at_index list) rest ++ reduced) raw, known_length, length-raw, lt, below)

        go : (k < s) ⊎ (s ≤ k)
            → (p : ℕ) × (p < length (together reduced batch rest)) × (0 < length (get_or (together reduced batch rest) p [])) × (lead_at (variables ring) (together reduced batch rest) p ≡ lead_at (variables ring) list (get_or kept k 0))
        go (inl before) =
            let e = known_reduced k before in
            let d = done k before in (
              w + k,
              within,
              subst (λ z. 0 < length z) (sym e) (has_term (variables ring) (get_or reduced k []) (not_zero (sum_of (variables ring) (get_or reduced k [])) d.monic)),
              ap (λ z. head_key (sum_of (variables ring) z)) e ∙ d.lead,
            )
        go (inr le) =
            let e = known_raw k le (omega arith) in (
              w + k,
              within,
              subst (λ z. 0 < length z) (sym e) (Each_member (λ j. 0 < length (get_or list j [])) kept k 0 needed.leads (omega arith)),
              ap (λ z. head_key (sum_of (variables ring) z)) e,
            )

    batch_reduced :
        (members : List Terms) → HaveReducedTails ring compare list (together reduced batch rest) batch members
        → (length (reduced ++ members) ≡ s + length batch) × ((k : ℕ) → k < s + length batch → IsReducedMember ring compare list (get_or kept k 0) (get_or (reduced ++ members) k []))
    batch_reduced members h = (length-append reduced members ∙ omega (arith, count, h.count), λ k lt. go k lt (cases_lt k s))
      where
        go : (k : ℕ) → k < s + length batch → (k < s) ⊎ (s ≤ k) → IsReducedMember ring compare list (get_or kept k 0) (get_or (reduced ++ members) k [])
        go k lt (inl before) =
            subst (IsReducedMember ring compare list (get_or kept k 0)) (sym (get_or_append_left reduced members [] k (omega (arith, before, count)))) (done k before)
        go k lt (inr le) =
            let at : get_or batch (k - s) 0 ≡ get_or kept k 0 = is (k - s) (omega arith) ∙ ap (λ z. get_or kept z 0) (omega arith) in
            subst (IsReducedMember ring compare list (get_or kept k 0)) (sym (get_or-append_right reduced members s k [] count le))
            (by_known kept needed (together reduced batch rest) k known_members (known_serves k lt) (get_or members (k - s) [])
            (subst (λ z. HasReducedTail ring compare (together reduced batch rest) (get_or list z []) (get_or members (k - s) [])) at (h.each (k - s) (omega (arith, h.count)))))

  -- a batch from one place to another of the needed members
  pub next_batch :
      (kept : List ℕ) (needed : AreNeeded (variables ring) (compare (variables ring)) list kept) (others : List ℕ) (w s : ℕ) (known : List Terms)
      → AreReducedTo ring compare list kept others w s known → (end : ℕ) (answer : List Terms) → (s < end) × (end ≤ length kept)
      → AreBatchOf ring compare list known (take (end - s) (drop s kept)) answer → AreReducedTo ring compare list kept others w end answer
  next_batch kept needed others w s known h end answer ends b =
      let batch = take (end - s) (drop s kept) in
      let behind : length (drop s kept) ≡ length kept - s = length-drop s kept in
      let long : length batch ≡ end - s = length-take-le (end - s) (drop s kept) (omega (arith, behind, ends.1)) in
      let raw = map (at_index list) (take (length batch - 1) batch) in
      let r = batch_reduced kept needed (drop w known) s h.count h.each batch others
      (λ k lt. get_or-take (end - s) (drop s kept) k 0 (omega (arith, long, lt)) ∙ get_or-drop s kept k 0) (omega (arith, long, ends.0, ends.1))
      b.members (subst (λ z. HaveReducedTails ring compare list (z ++ raw) batch b.members) (in_two ring compare list kept others w s known h) b.tails) in
      let back : drop w answer ≡ drop w known ++ b.members = ap (drop w) b.behind ∙ drop-append-le w known b.members h.long in
      record {
        front = ap (take w) b.behind ∙ take-append-le w known b.members h.long ∙ h.front;
        long = omega (arith, h.long, ap length b.behind ∙ length-append known b.members);
        count = ap length back ∙ r.0 ∙ omega (arith, long, ends.0);
        each = λ k lt. subst (λ z. IsReducedMember ring compare list (get_or kept k 0) (get_or z k [])) (sym back) (r.1 k (omega (arith, long, lt, ends.0)));
      }

-- a vector that is zero or has the lead of one of the list
abbrev HasLeadOf : ℕ → List Terms → Terms → Type 0
HasLeadOf n list v = 0 < length v → (i : ℕ) × (0 < length (get_or list i [])) × (head_key (sum_of n v) ≡ lead_at n list i)

within : (list : List Terms) (i : ℕ) → 0 < length (get_or list i []) → i < length list
within list i some = go (cases_lt i (length list))
  where
    go : (i < length list) ⊎ (length list ≤ i) → i < length list
    go (inl lt) = lt
    go (inr le) =
        let none : get_or list i [] ≡ [] = get_or_past list i [] le in
        let zero_long : length (get_or list i []) ≡ 0 = ap length none in
        absurd (omega arith)

members_lead : (n : ℕ) (list : List Terms) (indices : List ℕ) → HaveLeadsOf n list (map (at_index list) indices)
members_lead n list [] = tt
members_lead n list (i ∷ indices) = (λ some. (i, some, refl), members_lead n list indices)

-- what no lead of the list divides is not divided by those of vectors that have leads of the list
uncovered_by : (n : ℕ) (list vectors : List Terms) (k : Key n) → HaveLeadsOf n list vectors → IsUncovered (sums_of n list) k → IsUncovered (sums_of n vectors) k
uncovered_by n list vectors k h free i lt some d =
    let at = sums_at n vectors i in
    let l : i < length vectors = subst (λ z. i < z) (length-map vectors (λ w. sum_of n w)) lt in
    let c = Each_member (HasLeadOf n list) vectors i [] h l (has_term n (get_or vectors i []) (λ e. some (at ∙ e))) in
    free c.0 (subst (λ z. c.0 < z) (sym (length-map list (λ w. sum_of n w))) (within list c.0 c.1))
    (λ e. some_sum n (get_or list c.0 []) c.1 (sym (sums_at n list c.0) ∙ e))
    (subst (λ z. KeyDivides z k) (ap head_key at ∙ c.2 ∙ sym (ap head_key (sums_at n list c.0))) d)

pub free_of_known :
    (n : ℕ) (list vectors : List Terms) (keys : List CodeKey) → HaveLeadsOf n list vectors → AreFreeKeys n list keys → AreFreeKeys n vectors keys
free_of_known n list vectors keys h free =
    Each_map (λ k. IsUncovered (sums_of n list) (key_of n k)) (λ k. IsUncovered (sums_of n vectors) (key_of n k)) keys
    (λ k. uncovered_by n list vectors (key_of n k) h) free

-- the same with members of the list behind them
pub leads_with :
    (n : ℕ) (list vectors more : List Terms) (indices : List ℕ) → HaveLeadsOf n list vectors → more ≡ vectors ++ map (at_index list) indices
    → HaveLeadsOf n list more
leads_with n list vectors more indices h e =
    subst (HaveLeadsOf n list) (sym e)
    (Each_append (HasLeadOf n list) vectors (map (at_index list) indices) h (members_lead n list indices))

-- the members that serve and those that are reduced have leads of the list
pub leads_reduced :
    (ring : Ring) (compare : (n : ℕ) → Key n → Key n → Ordering) (list : List Terms) (kept : List ℕ)
    → AreNeeded (variables ring) (compare (variables ring)) list kept → (others : List ℕ) (w s : ℕ) (known : List Terms) → s ≤ length kept
    → AreReducedTo ring compare list kept others w s known → HaveLeadsOf (variables ring) list known
leads_reduced ring compare list kept needed others w s known le h =
    subst (HaveLeadsOf (variables ring) list) (sym (in_two ring compare list kept others w s known h))
    (Each_append (HasLeadOf (variables ring) list) (map (at_index list) others) (drop w known) (members_lead (variables ring) list others)
    (each_index (HasLeadOf (variables ring) list) (drop w known) (λ k lt some. (
      get_or kept k 0,
      Each_member (λ j. 0 < length (get_or list j [])) kept k 0 needed.leads (omega (arith, lt, h.count, le)),
      (h.each k (subst (λ z. k < z) h.count lt)).lead,
    ))))
