-- In graded reverse lexicographic order the members of a basis without the eliminated variables are a reduced basis as they are
use Rattle.std.proofs.Common.{List, [], ap, ap₂, arith, map, max, refl, subst, suc, sym, true, ℕ, ◌*◌, ◌+◌, ◌∙◌, ◌∷◌, ◌≡◌}
use Rattle.std.proofs.lemmas.Cmp.{nat_cmp_total, tied_itself}
use Rattle.std.specs.Ordering.{nat_cmp, ordering_then}
use Rattle.monomials.specs.Exponents.{Exponents, cons, tail, unit}
use Rattle.monomials.specs.Weights.{weighted_degree}
use Rattle.formal_sums.specs.Combinations.{IsMember}
use Rattle.formal_sums.specs.FormalSums.{Each, FormalSum, HasRank, Key}
use Rattle.orders.proofs.KeyOrdering.{KeyDivides_trans}
use Rattle.orders.proofs.Weighted.{weighted_grevlex_order}
use Rattle.orders.specs.KeyOrders.{KeyDivides, top}
use Rattle.orders.specs.MonomialOrders.{first_variables, other_variables, reverse_lex}
use Rattle.orders.specs.WeightedOrders.{weighted_elimination, weighted_grevlex}
use Rattle.bases.proofs.Leading.{positive}
use Rattle.bases.specs.Bases.{IsCovered, IsReducedBasis}
use Rattle.bases.specs.Leads.{IsLead, leads}
use Rattle.bases.specs.Settings.{IsLawful, Setting}
use Rattle.division_laws.proofs.Keeping.{IsDownClosed_elimination}
use Rattle.division_laws.specs.Elimination.{has_none_of_first}
use Rattle.operation_laws.proofs.Eliminate.{kept_inside}
use Rattle.operation_laws.proofs.FreeParts.{first_times_others, free_part, free_part_kept, free_part_lead, free_part_member, none_of_kept, others_alone}
use Rattle.operation_laws.proofs.Front.{IsKept_with_first, front_to, none_of_first}
use Rattle.operation_laws.proofs.KeptBases.{AreKeptKeys, kept_covers, kept_reduced, renamed}
use Rattle.operation_laws.proofs.OnePosition.{then_equal}
use Rattle.operation_laws.proofs.RunFacts.{run_of}
use Rattle.operation_laws.proofs.Running.{lawful_elimination}
use Rattle.operation_laws.specs.Operations.{HasKeptKeys, IsRun, back, eliminated, elimination_setting}

-- what has none of the first variables compares as the order of the others does
pub grevlex_of_kept :
    {n : ℕ} (ws : List ℕ) (j : ℕ) (k l : Key n) → has_none_of_first j k ≡ true → has_none_of_first j l ≡ true
    → top (weighted_elimination ws j) k l ≡ top (weighted_grevlex ws) k l
grevlex_of_kept {n} ws j k l hk hl = ap (λ o. ordering_then o (nat_cmp l.0 k.0)) monomials
  where
    a : first_variables j k.1 ≡ unit n
    a = none_of_kept j k hk

    b : first_variables j l.1 ≡ unit n
    b = none_of_kept j l hl

    monomials : weighted_elimination ws j k.1 l.1 ≡ weighted_grevlex ws k.1 l.1
    monomials =
        ap₂ ordering_then
        (ap₂ (weighted_grevlex ws) a b ∙ tied_itself (weighted_grevlex_order n ws).total (unit n))
        (ap₂ (weighted_grevlex ws) (others_alone j k.1 a) (others_alone j l.1 b))

-- ---- in the same variables
renamed_itself : {n : ℕ} (v : FormalSum n) → renamed (λ k. k) v ≡ v
renamed_itself [] = refl
renamed_itself (t ∷ v) = ap (λ r. t ∷ r) (renamed_itself v)

renamed_each : {n : ℕ} (G : List (FormalSum n)) → map (renamed (λ k. k)) G ≡ G
renamed_each [] = refl
renamed_each (g ∷ G) = ap₂ ◌∷◌ (renamed_itself g) (renamed_each G)

module _ {n : ℕ} (S : Setting n) (ws : List ℕ) (j : ℕ) (F G : List (FormalSum n)) (lawful : IsLawful S) (order : S.compare ≡ top (weighted_grevlex ws)) (ranks : Each (HasRank S.rank) F)
    (reduced : IsReducedBasis (elimination_setting ws n j S) F G) where
  abbrev T : Setting n
  T = elimination_setting ws n j S

  abbrev H : List (FormalSum n)
  H = eliminated j G

  lawful_T : IsLawful T
  lawful_T = lawful_elimination ws n j S lawful

  run : IsRun T F G
  run = run_of T lawful_T F G ranks reduced

  keys : AreKeptKeys S T (has_none_of_first j) (λ k. k) (λ k. k)
  keys = record {
    closed = IsDownClosed_elimination T ws j refl;
    there = λ l h. refl;
    back = λ k. refl;
    compare = λ k l hk hl. grevlex_of_kept ws j k l hk hl ∙ sym (ap (λ c. c k l) order);
    divides = λ k l d. d;
    divides_back = λ k l d. d;
  }

  inside : (v : FormalSum n) → IsMember S.modulus H v → IsMember S.modulus F v
  inside = kept_inside T lawful_T F G run.list reduced.reduced.normal reduced.reduced.basis (has_none_of_first j) keys.closed

  covers :
      (a : FormalSum n) (l : Key n) → IsMember S.modulus (map (renamed (λ k. k)) H) a → IsLead S a l
      → IsCovered S (map (renamed (λ k. k)) H) l
  covers a l member lead =
      -- the part of it with the first variables of the lead is in the module too
      let e = first_variables j l.1 in
      let part = free_part j e a in
      let rest : Key n = (l.0, other_variables j l.1) in
      let itself = subst (λ L. IsMember S.modulus L a) (renamed_each H) member in
      let found = kept_covers S ws (top (weighted_elimination ws j)) (has_none_of_first j) (λ k. k) (λ k. k) keys lawful lawful_T F G reduced part rest
      (subst (IsMember S.modulus F) (sym (renamed_itself part)) (inside part (free_part_member (positive S lawful) j e G a itself)))
      (subst (HasKeptKeys S.modulus (has_none_of_first j)) (sym (renamed_itself part)) (free_part_kept S.modulus j e a))
      (free_part_lead S lawful j a l lead) in
      (found.0, found.1, found.2, KeyDivides_trans (leads (map (renamed (λ k. k)) H) found.0) rest l found.3 (e, ap (λ m. (l.0, m)) (first_times_others j l.1)))

  pub eliminated_graded : IsReducedBasis S (eliminated j G) (eliminated j G)
  eliminated_graded =
      subst (λ L. IsReducedBasis S L L) (renamed_each H)
      (kept_reduced S ws (top (weighted_elimination ws j)) (has_none_of_first j) (λ k. k) (λ k. k) keys lawful lawful_T F G reduced covers)

-- ---- in the variables behind the first
abbrev front_key : {n : ℕ} → Key n → Key (suc n)
front_key k = (k.0, cons 0 k.1)

abbrev rest_key : {n : ℕ} → Key (suc n) → Key n
rest_key l = (l.0, tail l.1)

front_degree : {n : ℕ} (w : ℕ) (ws : List ℕ) (e : Exponents n) → weighted_degree (w ∷ ws) (cons 0 e) ≡ weighted_degree ws e
front_degree w ws e =
    let none : max 1 w * 0 ≡ 0 = omega arith in
    let rest : 0 + weighted_degree ws e ≡ weighted_degree ws e = omega arith in
    ap (λ d. d + weighted_degree ws e) none ∙ rest

front_reverse : {n : ℕ} (e f : Exponents n) → reverse_lex (cons 0 e) (cons 0 f) ≡ reverse_lex e f
front_reverse e f = ap (ordering_then (reverse_lex e f)) (tied_itself nat_cmp_total 0) ∙ then_equal (reverse_lex e f)

front_compare : {n : ℕ} (w : ℕ) (ws : List ℕ) (k l : Key n) → top (weighted_grevlex (w ∷ ws)) (front_key k) (front_key l) ≡ top (weighted_grevlex ws) k l
front_compare w ws k l =
    ap (λ o. ordering_then o (nat_cmp l.0 k.0))
    (ap₂ ordering_then (ap₂ nat_cmp (front_degree w ws k.1) (front_degree w ws l.1)) (front_reverse k.1 l.1))

front_divides : {n : ℕ} (k l : Key n) → KeyDivides k l → KeyDivides (front_key k) (front_key l)
front_divides k l (e, d) = (cons 0 e, ap front_key d)

front_divides_back : {n : ℕ} (k l : Key n) → KeyDivides (front_key k) (front_key l) → KeyDivides k l
front_divides_back k l (cons a e, d) = (e, ap rest_key d)

module _ {n : ℕ} (S : Setting n) (w : ℕ) (ws : List ℕ) (L G : List (FormalSum (suc n))) (lawful : IsLawful S) (order : S.compare ≡ top (weighted_grevlex ws))
    (ranks : Each (HasRank S.rank) L) (reduced : IsReducedBasis (elimination_setting (w ∷ ws) (suc n) 1 S) L G) where
  abbrev E : Setting (suc n)
  E = elimination_setting (w ∷ ws) (suc n) 1 S

  lawful_E : IsLawful E
  lawful_E = lawful_elimination (w ∷ ws) (suc n) 1 S lawful

  front_run : IsRun E L G
  front_run = run_of E lawful_E L G ranks reduced

  front_keys : AreKeptKeys S E (has_none_of_first 1) front_key rest_key
  front_keys = record {
    closed = IsDownClosed_elimination E (w ∷ ws) 1 refl;
    there = λ l h. ap (λ e. (l.0, e)) (none_of_first l.1 h);
    back = λ k. refl;
    compare = λ k l hk hl. grevlex_of_kept (w ∷ ws) 1 (front_key k) (front_key l) hk hl ∙ front_compare w ws k l ∙ sym (ap (λ c. c k l) order);
    divides = front_divides;
    divides_back = front_divides_back;
  }

  front_covers : (a : FormalSum n) (k : Key n) → IsMember S.modulus (back G) a → IsLead S a k → IsCovered S (back G) k
  front_covers a k member lead =
      kept_covers S (w ∷ ws) (top (weighted_elimination (w ∷ ws) 1)) (has_none_of_first 1) front_key rest_key front_keys lawful lawful_E L G reduced a k
      (front_to E lawful_E L G front_run.list reduced.reduced.normal reduced.reduced.basis (w ∷ ws) refl a member) (IsKept_with_first S.modulus a) lead

  pub back_graded : IsReducedBasis S (back G) (back G)
  back_graded = kept_reduced S (w ∷ ws) (top (weighted_elimination (w ∷ ws) 1)) (has_none_of_first 1) front_key rest_key front_keys lawful lawful_E L G reduced front_covers
