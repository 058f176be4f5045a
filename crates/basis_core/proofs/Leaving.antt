-- What division of a row leaves: nothing, or a monic member
use Rattle.std.proofs.Common.{Equal, Greater, Less, List, Ordering, [], ap, append-nil, arith, inl, inr, length, mod-eq_of_lt, refl, subst, sym, ℕ}
use Rattle.std.proofs.Common.{◌%◌, ◌*◌, ◌++◌, ◌+◌, ◌-◌, ◌<◌, ◌∙◌, ◌∷◌, ◌≡◌}
use Rattle.std.proofs.Math.ListN.{get_or-map}
use Rattle.std.proofs.lemmas.List.{length-map}
use Rattle.residues.proofs.Congruences.{IsCongruent_add, IsCongruent_minus, IsCongruent_of, IsCongruent_refl, IsCongruent_sym, IsCongruent_trans}
use Rattle.residues.specs.Residues.{IsCongruent}
use Rattle.monomials.specs.Exponents.{exponents_of, unit}
use Rattle.formal_sums.proofs.OfRank.{IsOfRank_append, IsOfRank_of, IsOfRank_same, IsOfRank_scale}
use Rattle.formal_sums.proofs.Sameness.{IsSame_append, IsSame_of, IsSame_refl, IsSame_scale, IsSame_sym, IsSame_trans, coefficient-scale_unit}
use Rattle.formal_sums.proofs.WeightedSums.{coefficient-append}
use Rattle.formal_sums.specs.Combinations.{combination}
use Rattle.formal_sums.specs.FormalSums.{Each, FormalSum, HasRank, IsOfRank, IsSame, Key, Term, coefficient, scale, shift}
use Rattle.orders.proofs.KeyOrdering.{less_of_greater}
use Rattle.bases.proofs.Leading.{positive}
use Rattle.bases.proofs.NormalForms.{IsMonicLead_normal, head_lead}
use Rattle.bases.proofs.Places.{combination_above}
use Rattle.bases.specs.Bases.{IsCovered}
use Rattle.bases.specs.Leads.{IsMonicList, IsNormal, head_coefficient, head_key}
use Rattle.bases.specs.Representations.{IsLower, place}
use Rattle.bases.specs.Settings.{IsLawful, Setting}
use Rattle.term_lists.proofs.NormalVectors.{vector_normal}
use Rattle.term_lists.specs.Multiples.{rescaled}
use Rattle.term_lists.specs.Rings.{ring_comparison, setting, variables}
use Rattle.term_lists.specs.Vectors.{HasPositions, StandsFor, key_of, sum_of, sums_of}
use Rattle.term_lists.specs.declared.key.Key.{Key as CodeKey}
use Rattle.term_lists.specs.declared.ring.Ring.{Ring}
use Rattle.zp_field.specs.Moduli.{IsInverse}
use Rattle.vector_division.proofs.Freeing.{not_covered}
use Rattle.vector_division.specs.Divisions.{HasReducedLead}
use Rattle.vector_division.specs.Reductions.{HaveLeadsUpTo, IsScaledProduct, cofactors_of}
use Rattle.vector_division.specs.declared.reduction.ScaledProduct.{ScaledProduct}
use Rattle.member_products.proofs.Ranks as ranks
use Rattle.member_products.proofs.Ranks.{of_rank, rank_of_positions, ranked_by}
use Rattle.member_products.specs.Generators.{IsRanked, IsVectorOf}
use Rattle.member_products.specs.declared.member.Reduct.{Reduct as CodeReduct}
use Rattle.basis_steps.proofs.Sparing.{monic_list}
use Rattle.basis_steps.specs.Divisions.{AreQuotients, AreReached, IsKeyAtMost, IsMonicMember, LeavesMember, LeavesNothing, difference}
use Rattle.basis_steps.specs.States.{vectors}
use Rattle.basis_core.proofs.Reaching.{quotients_reached}
use Rattle.basis_core.proofs.Tracking.{ring_lawful, vectors_of_members, vectors_rank}
use Rattle.basis_core.specs.Members.{IsRunMember, IsMemberShown, Shared, MemberShown, member_of, members_of, setting_of}
use Rattle.basis_core.specs.RowDivision.{AreRowProducts, AreRowQuotients, IsLeftMember, IsRowRest, lead_residue, with_multiple}
use Rattle.basis_core.specs.Rows.{vectors_in}

-- a list of length 0
pub none_of_length : {X : Type 0} (xs : List X) → length xs ≡ 0 → xs ≡ []
none_of_length [] e = refl
none_of_length (x ∷ xs) e = absurd (omega arith)

-- what is left of v is v less what was taken away
rest_of_sum : {n : ℕ} (p : ℕ) (v w r : FormalSum n) → 0 < p → IsSame p v (w ++ r) → IsSame p r (difference p v w)
rest_of_sum {n} p v w r pos h = record { by_key = at }
  where
    at : (k : Key n) → IsCongruent p (coefficient r k) (coefficient (difference p v w) k)
    at k =
        let x : ℕ = coefficient v k in
        let y : ℕ = coefficient w k in
        let z : ℕ = coefficient r k in
        let e1 : coefficient (difference p v w) k ≡ x + (p - 1) * y = coefficient-append v (scale (p - 1) (unit n) w) k
        ∙ ap (λ s. x + s) (coefficient-scale_unit (p - 1) w k) in
        let e2 : IsCongruent p x (y + z) = IsCongruent_trans (h.by_key k) (IsCongruent_of p _ _ (coefficient-append w r k)) in
        IsCongruent_sym (IsCongruent_trans (IsCongruent_of p _ _ e1)
        (IsCongruent_trans (IsCongruent_add e2 (IsCongruent_refl p ((p - 1) * y)))
        (IsCongruent_trans (IsCongruent_of p ((y + z) + (p - 1) * y) ((y + (p - 1) * y) + z) (omega arith))
        (IsCongruent_trans (IsCongruent_add (IsCongruent_minus p y pos) (IsCongruent_refl p z)) (IsCongruent_of p (0 + z) z (omega arith))))))

module _ {n : ℕ} (S : Setting n) (lawful : IsLawful S) where
  at_most_of : (k l : Key n) → (S.compare k l ≡ Greater → ⊥) → IsKeyAtMost S k l
  at_most_of k l h = go (S.compare k l) refl
    where
      go : (o : Ordering) → S.compare k l ≡ o → IsKeyAtMost S k l
      go Less e = inl e
      go Equal e = inr (lawful.order.exact k l e)
      go Greater e = absurd (h e)

  -- the products of the quotients stand at most at k
  quotients_at_most :
      (ws : List ℕ) (p : ℕ) (list : List (List (CodeKey × ℕ))) (k : Key n) (qs : List ScaledProduct)
      → Each (IsScaledProduct n ws p list) qs → HaveLeadsUpTo n S.compare list k qs
      → AreQuotients S (sums_of n list) k (cofactors_of n qs)
  quotients_at_most ws p list k [] h b = tt
  quotients_at_most ws p list k (q ∷ qs) h b = (
    (
      subst (λ z. q.index < z) (sym (length-map list (sum_of n))) h.0.index,
      subst (λ (v : FormalSum n). IsKeyAtMost S (shift (exponents_of n q.monomial.exponents) (head_key v)) k)
          (sym (get_or-map (sum_of n) list q.index [])) (at_most_of _ k b.0),
    ),
    quotients_at_most ws p list k qs h.1 b.1,
  )

  lower_of :
      (V : List (FormalSum n)) (k l : Key n) (a : FormalSum n)
      → S.compare k l ≡ Less → AreQuotients S V k a → Each (IsLower S V l) a
  lower_of V k l [] lt h = tt
  lower_of V k l (t ∷ a) lt h = ((h.0.0, go h.0.1), lower_of V k l a lt h.1)
    where
      go : IsKeyAtMost S (place V t) k → S.compare (place V t) l ≡ Less
      go (inl e) = lawful.order.total.trans (place V t) k l e lt
      go (inr e) = subst (λ x. S.compare x l ≡ Less) (sym e) lt

  above_all :
      (v : FormalSum n) (l : Key n)
      → IsNormal S v → S.compare (head_key v) l ≡ Less → IsCongruent S.modulus (coefficient v l) 0
  above_all [] l h lt = IsCongruent_refl S.modulus 0
  above_all (t ∷ v) l h lt = (head_lead S lawful t v h.descends h.residues).above l lt

  -- where v and the products have nothing, the rest has nothing
  rest_zero :
      (V : List (FormalSum n)) (v r : FormalSum n) (k : Key n) (a : FormalSum n)
      → IsMonicList S V → IsNormal S v → AreQuotients S V (head_key v) a
      → IsSame S.modulus v (combination V a ++ r) → S.compare (head_key v) k ≡ Less
      → IsCongruent S.modulus (coefficient r k) 0
  rest_zero V v r k a list hv hr same lt =
      let p : ℕ = S.modulus in
      let x : ℕ = coefficient (combination V a) k in
      let y : ℕ = coefficient r k in
      let c : IsCongruent p x 0 = combination_above S lawful V list k a (lower_of V (head_key v) k a lt hr) in
      let z : IsCongruent p (coefficient v k) 0 = above_all v k hv lt in
      IsCongruent_trans (IsCongruent_of p y (0 + y) (omega arith))
      (IsCongruent_trans (IsCongruent_add (IsCongruent_sym c) (IsCongruent_refl p y))
      (IsCongruent_trans (IsCongruent_of p _ _ (sym (coefficient-append (combination V a) r k))) (IsCongruent_trans (IsCongruent_sym (same.by_key k)) z)))

  -- the rest's lead is at most the row's
  rest_at_most :
      (V : List (FormalSum n)) (v : FormalSum n) (t : Term n) (w a : FormalSum n)
      → IsMonicList S V → IsNormal S v → IsNormal S (t ∷ w) → AreQuotients S V (head_key v) a
      → IsSame S.modulus v (combination V a ++ (t ∷ w)) → IsKeyAtMost S t.0 (head_key v)
  rest_at_most V v t w a list hv hw hr same =
      at_most_of t.0 (head_key v)
      (λ g. (head_lead S lawful t w hw.descends hw.residues).nonzero
      (rest_zero V v (t ∷ w) t.0 a list hv hr same (less_of_greater lawful.order t.0 (head_key v) g)))

  -- the rest's lead is new
  rest_free :
      (V : List (FormalSum n)) (t : Term n) (w : FormalSum n)
      → HasReducedLead V (t ∷ w) → IsCovered S V t.0 → ⊥
  rest_free V t w h covered = not_covered S V t.0 h covered

-- ---- what is left of a vector
module _ (shared : Shared) (ms : List MemberShown) (u : List (CodeKey × ℕ)) (qs : List ScaledProduct) (members : Each (IsMemberShown shared) ms)
    (over : IsRanked shared.ring shared.rank u) (hq : AreRowQuotients shared ms u qs) where
  abbrev n : ℕ
  n = variables shared.ring

  abbrev p : ℕ
  p = shared.ring.modulus.value

  abbrev S : Setting n
  S = setting_of n shared

  abbrev G : List (FormalSum n)
  G = vectors (members_of n ms)

  abbrev a : FormalSum n
  a = cofactors_of n qs

  lawful : IsLawful S
  lawful = ring_lawful shared

  pub are_quotients : AreQuotients S G (head_key (sum_of n u)) a
  are_quotients =
      subst (λ (V : List (FormalSum n)). AreQuotients S V (head_key (sum_of n u)) a) (sym (vectors_of_members n ms))
      (quotients_at_most S lawful shared.ring.weights p (vectors_in ms) (head_key (sum_of n u)) qs hq.each hq.bounded)

  pub are_reached : AreReached p G (sum_of n u) [] a
  are_reached = quotients_reached shared ms members u over.vector qs hq.met

  whole : (rest : List (CodeKey × ℕ)) → IsRowRest shared ms u qs rest → IsSame p (sum_of n u) (combination G a ++ sum_of n rest)
  whole rest h = subst (λ (V : List (FormalSum n)). IsSame p (sum_of n u) (combination V a ++ sum_of n rest)) (sym (vectors_of_members n ms)) h.sum

  -- nothing is left
  pub all_taken : (rest : List (CodeKey × ℕ)) → rest ≡ [] → IsRowRest shared ms u qs rest → IsSame p (sum_of n u) (combination G a)
  all_taken rest e hr = IsSame_trans (whole rest hr) (IsSame_of p _ _ (ap (λ x. combination G a ++ sum_of n x) e ∙ append-nil (combination G a)))

  pub rest_same : (rest : List (CodeKey × ℕ)) → IsRowRest shared ms u qs rest → IsSame p (sum_of n rest) (difference p (sum_of n u) (combination G a))
  rest_same rest h = rest_of_sum p (sum_of n u) (combination G a) (sum_of n rest) (positive S lawful) (whole rest h)

  -- what is left has the rank
  pub rest_ranked : (rest : List (CodeKey × ℕ)) → IsRowRest shared ms u qs rest → IsOfRank p shared.rank (sum_of n rest)
  rest_ranked rest h =
      IsOfRank_same (IsSame_sym (rest_same rest h))
      (IsOfRank_append (sum_of n u) _ (of_rank shared.ring shared.rank u over.positions)
      (IsOfRank_scale (p - 1) (unit n) (combination G a)
      (subst (λ (V : List (FormalSum n)). IsOfRank p shared.rank (combination V a)) (sym (vectors_of_members n ms)) (vectors_rank shared ms members a))))

  -- the lead of what is left, times the inverse of its residue
  module _ (monic : Each (IsMonicMember S) G) (t : CodeKey × ℕ) (w : List (CodeKey × ℕ)) (hr : IsRowRest shared ms u qs (t ∷ w)) where
    pub lead_at_most : IsKeyAtMost S (key_of n t.0) (head_key (sum_of n u))
    lead_at_most =
        rest_at_most S lawful G (sum_of n u) (key_of n t.0, t.1) (sum_of n w) a (monic_list S lawful G monic)
        (vector_normal shared.ring (ring_comparison shared.ring) shared.rank u over.vector)
        (vector_normal shared.ring (ring_comparison shared.ring) shared.rank (t ∷ w) hr.vector)
        are_quotients (whole (t ∷ w) hr)

    pub lead_free : IsCovered S G (key_of n t.0) → ⊥
    lead_free covered =
        rest_free S lawful G (key_of n t.0, t.1) (sum_of n w)
        (subst (λ (V : List (FormalSum n)). HasReducedLead V (sum_of n (t ∷ w))) (sym (vectors_of_members n ms)) hr.reduced)
        covered

-- ---- the row's products
-- the positions of quotients are indices of members
quotient_positions :
    (n : ℕ) (ws : List ℕ) (p : ℕ) (list : List (List (CodeKey × ℕ))) (qs : List ScaledProduct)
    → Each (IsScaledProduct n ws p list) qs → HasRank (length list) (cofactors_of n qs)
quotient_positions n ws p list [] h = tt
quotient_positions n ws p list (q ∷ qs) h = (h.0.index, quotient_positions n ws p list qs h.1)

-- they are of the first members, as the row's are
pub products_ranked :
    (shared : Shared) (ms : List MemberShown) (u products left : List (CodeKey × ℕ)) (qs : List ScaledProduct)
    → HasPositions (length ms) products → AreRowQuotients shared ms u qs → AreRowProducts shared products qs left
    → IsOfRank shared.ring.modulus.value (length ms) (sum_of (variables shared.ring) left)
products_ranked shared ms u products left qs h hq hp =
    let n : ℕ = variables shared.ring in
    let p : ℕ = shared.ring.modulus.value in
    let k : ℕ = length ms in
    IsOfRank_same (IsSame_sym hp.sum)
    (IsOfRank_append (sum_of n products) _ (of_rank shared.ring k products h)
    (IsOfRank_scale (p - 1) (unit n) (cofactors_of n qs)
    (IsOfRank_of p k (cofactors_of n qs)
    (subst (λ j. HasRank j (cofactors_of n qs)) (length-map ms (λ m. m.vector)) (quotient_positions n shared.ring.weights p (vectors_in ms) qs hq.each)))))

-- the row's products, copied, less the quotients, times the modulus less 1
pub row_products :
    (shared : Shared) (r : Ring) (products copy less scaled left : List (CodeKey × ℕ)) (value : ℕ) (qs : List ScaledProduct)
    → r ≡ shared.ring → copy ≡ products → value ≡ r.modulus.value → StandsFor r less (cofactors_of (variables r) qs)
    → StandsFor r scaled (scale (value - 1) (unit (variables r)) (sum_of (variables r) less))
    → IsVectorOf r left → StandsFor r left (sum_of (variables r) copy ++ sum_of (variables r) scaled)
    → AreRowProducts shared products qs left
row_products shared r products copy less scaled left value qs e ec ev hl hs iv sum = record {
  vector = subst (λ (x : Ring). IsVectorOf x left) e iv;
  sum = subst (λ (x : Ring). StandsFor x left (difference x.modulus.value (sum_of (variables x) products) (cofactors_of (variables x) qs))) e here;
}
  where
    n : ℕ
    n = variables r

    p : ℕ
    p = r.modulus.value

    pos : 0 < p
    pos = positive (setting r (variables r) (ring_comparison r (variables r)) 0) (ranks.ring_lawful r 0)

    taken : StandsFor r scaled (scale (r.modulus.value - 1) (unit (variables r)) (cofactors_of (variables r) qs))
    taken = subst (λ (k : ℕ). StandsFor r scaled (scale (k - 1) (unit (variables r)) (cofactors_of (variables r) qs))) ev
        (IsSame_trans hs (IsSame_scale pos (value - 1) (unit (variables r)) hl))

    here : StandsFor r left (difference r.modulus.value (sum_of (variables r) products) (cofactors_of (variables r) qs))
    here = IsSame_trans (subst (λ (l : List (CodeKey × ℕ)). StandsFor r left (sum_of (variables r) l ++ sum_of (variables r) scaled)) ec sum)
        (IsSame_append (IsSame_refl r.modulus.value (sum_of (variables r) products)) taken)

-- ---- the member that is left
module _ (shared : Shared) (ms : List MemberShown) (row : CodeReduct) (multiple : List (CodeKey × ℕ)) (qs : List ScaledProduct)
    (members : Each (IsMemberShown shared) ms) (over : IsRunMember shared (length ms) (with_multiple row multiple))
    (hq : AreRowQuotients shared ms row.vector qs) where
  abbrev N : ℕ
  N = variables shared.ring

  abbrev modulus : ℕ
  modulus = shared.ring.modulus.value

  abbrev T : Setting N
  T = setting_of N shared

  abbrev V : List (FormalSum N)
  V = vectors (members_of N ms)

  abbrev quotients : FormalSum N
  quotients = cofactors_of N qs

  -- nothing is left
  pub nothing_left :
      (rest : List (CodeKey × ℕ))
      → rest ≡ [] → IsRowRest shared ms row.vector qs rest
      → LeavesNothing T V (member_of N (with_multiple row multiple)) quotients
  nothing_left rest e hr = record {
    quotients = are_quotients shared ms row.vector qs members over.vector hq;
    reached = are_reached shared ms row.vector qs members over.vector hq;
    vector = all_taken shared ms row.vector qs members over.vector hq rest e hr;
  }

  -- what is left, times the inverse of the residue of its lead
  module _ (rest left v b c : List (CodeKey × ℕ)) (d : ℕ) (monic : Each (IsMonicMember T) V) (hr : IsRowRest shared ms row.vector qs rest)
      (hp : AreRowProducts shared row.products qs left) where
    pub member_ranked :
        IsVectorOf shared.ring v → IsVectorOf shared.ring b → IsVectorOf shared.ring c
        → StandsFor shared.ring v (scale d (unit N) (sum_of N rest)) → StandsFor shared.ring b (scale d (unit N) (sum_of N multiple))
        → StandsFor shared.ring c (scale d (unit N) (sum_of N left))
        → IsRunMember shared (length ms) (record { vector = v; multiple = b; products = c })
    member_ranked iv ib ic sv sb sc = record {
      vector = ranked_by shared.ring shared.rank v _ iv sv
          (IsOfRank_scale d (unit N) (sum_of N rest) (rest_ranked shared ms row.vector qs members over.vector hq rest hr));
      multiple = ranked_by shared.ring (length shared.generators) b _ ib sb
          (IsOfRank_scale d (unit N) (sum_of N multiple) (of_rank shared.ring (length shared.generators) multiple over.multiple.positions));
      products = ranked_by shared.ring (length ms) c _ ic sc
          (IsOfRank_scale d (unit N) (sum_of N left) (products_ranked shared ms row.vector row.products left qs over.products.positions hq hp));
    }

    pub member_left :
        0 < length rest → IsVectorOf shared.ring v → v ≡ rescaled modulus d rest → IsInverse modulus (lead_residue rest) d
        → IsRunMember shared (length ms) (record { vector = v; multiple = b; products = c })
        → StandsFor shared.ring v (scale d (unit N) (sum_of N rest)) → StandsFor shared.ring b (scale d (unit N) (sum_of N multiple))
        → StandsFor shared.ring c (scale d (unit N) (sum_of N left))
        → LeavesMember T V (member_of N (with_multiple row multiple)) quotients (lead_residue rest) d
        (member_of N (record { vector = v; multiple = b; products = c }))
    member_left some iv e inverse ranked sv sb sc = go rest refl
      where
        lawful : IsLawful T
        lawful = ring_lawful shared

        go : (x : List (CodeKey × ℕ)) → rest ≡ x → LeavesMember T V (member_of N (with_multiple row multiple)) quotients (lead_residue rest) d
            (member_of N (record { vector = v; multiple = b; products = c }))
        go [] is = absurd (let z : length rest ≡ 0 = ap length is in omega arith)
        go (t ∷ w) is =
            let ev : v ≡ rescaled modulus d (t ∷ w) = e ∙ ap (rescaled modulus d) is in
            let key : head_key (sum_of N v) ≡ key_of N t.0 = ap (λ (x : List (CodeKey × ℕ)). head_key (sum_of N x)) ev in
            let inv : (t.1 * d) % modulus ≡ 1 = ap (λ (x : List (CodeKey × ℕ)). (lead_residue x * d) % modulus) (sym is) ∙ inverse.one in
            let comm : d * t.1 ≡ t.1 * d = omega arith in
            let coefficient_one : head_coefficient (sum_of N v) ≡ 1 = ap (λ (x : List (CodeKey × ℕ)). head_coefficient (sum_of N x)) ev
            ∙ ap (λ (x : ℕ). x % modulus) comm ∙ inv in
            let above : 1 < modulus = lawful.domain.above_one in
            let pos : 0 < modulus = positive T lawful in
            let hx : IsRowRest shared ms row.vector qs (t ∷ w) = subst (IsRowRest shared ms row.vector qs) is hr in
            record {
              quotients = are_quotients shared ms row.vector qs members over.vector hq;
              reached = are_reached shared ms row.vector qs members over.vector hq;
              at_most = subst (λ (k : Key N). IsKeyAtMost T k (head_key (sum_of N row.vector))) (sym key)
                  (lead_at_most shared ms row.vector qs members over.vector hq monic t w hx);
              inverse = record { same = inverse.one ∙ sym (mod-eq_of_lt above) };
              vector = IsSame_trans sv (IsSame_scale pos d (unit N) (rest_same shared ms row.vector qs members over.vector hq rest hr));
              multiple = sb;
              products = IsSame_trans sc (IsSame_scale pos d (unit N) hp.sum);
              member = record {
                monic = IsMonicLead_normal T lawful (sum_of N v) (vector_normal shared.ring (ring_comparison shared.ring) shared.rank v iv) coefficient_one;
                ranked = rank_of_positions N shared.rank v ranked.vector.positions;
              };
              free = λ covered. lead_free shared ms row.vector qs members over.vector hq monic t w hx (subst (IsCovered T V) key covered);
            }

-- the member that the calls of `monic_member` make
pub left_member :
    (shared : Shared) (r : Ring) (ms : List MemberShown) (row : CodeReduct) (multiple copy : List (CodeKey × ℕ)) (qs : List ScaledProduct)
    (rest left v b c : List (CodeKey × ℕ)) (d : ℕ)
    → r ≡ shared.ring → copy ≡ multiple → Each (IsMemberShown shared) ms → IsRunMember shared (length ms) (with_multiple row multiple)
    → Each (IsMonicMember (setting_of (variables shared.ring) shared)) (vectors (members_of (variables shared.ring) ms))
    → 0 < length rest → AreRowQuotients shared ms row.vector qs → IsRowRest shared ms row.vector qs rest
    → AreRowProducts shared row.products qs left → IsInverse r.modulus.value (lead_residue rest) d
    → IsVectorOf r v → StandsFor r v (scale d (unit (variables r)) (sum_of (variables r) rest)) → v ≡ rescaled r.modulus.value d rest
    → IsVectorOf r b → StandsFor r b (scale d (unit (variables r)) (sum_of (variables r) copy))
    → IsVectorOf r c → StandsFor r c (scale d (unit (variables r)) (sum_of (variables r) left))
    → IsLeftMember shared ms (with_multiple row multiple) (record { vector = v; multiple = b; products = c })
left_member shared r ms row multiple copy qs rest left v b c d e ec members over monic some hq hr hp inverse iv sv rv ib sb ic sc =
    let iv' = subst (λ (x : Ring). IsVectorOf x v) e iv in
    let ib' = subst (λ (x : Ring). IsVectorOf x b) e ib in
    let ic' = subst (λ (x : Ring). IsVectorOf x c) e ic in
    let sv' = subst (λ (x : Ring). StandsFor x v (scale d (unit (variables x)) (sum_of (variables x) rest))) e sv in
    let sb' = subst (λ (x : Ring). StandsFor x b (scale d (unit (variables x)) (sum_of (variables x) multiple))) e
    (subst (λ (l : List (CodeKey × ℕ)). StandsFor r b (scale d (unit (variables r)) (sum_of (variables r) l))) ec sb) in
    let sc' = subst (λ (x : Ring). StandsFor x c (scale d (unit (variables x)) (sum_of (variables x) left))) e sc in
    let rv' = subst (λ (x : Ring). v ≡ rescaled x.modulus.value d rest) e rv in
    let inverse' = subst (λ (x : Ring). IsInverse x.modulus.value (lead_residue rest) d) e inverse in
    let ranked = member_ranked shared ms row multiple qs members over hq rest left v b c d monic hr hp iv' ib' ic' sv' sb' sc' in (
      ranked,
      (
        cofactors_of (variables shared.ring) qs,
        lead_residue rest,
        d,
        member_left shared ms row multiple qs members over hq rest left v b c d monic hr hp some iv' rv' inverse' ranked sv' sb' sc',
      ),
    )

-- the residue of a lead is one of the modulus, and not 0
pub lead_reduced :
    (shared : Shared) (v : List (CodeKey × ℕ))
    → 0 < length v → IsVectorOf shared.ring v
    → (0 < lead_residue v) × (lead_residue v < shared.ring.modulus.value)
lead_reduced shared [] some h = absurd (omega arith)
lead_reduced shared (t ∷ v) some h = (h.each.0.nonzero, h.each.0.reduced)
