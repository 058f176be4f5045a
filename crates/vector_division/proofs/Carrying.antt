-- A product is taken away from lists of which the greatest term was taken
use Rattle.std.proofs.Common.{Greater, List, Ordering, [], ap, append-nil, append_assoc, arith, get_or, inl, inr, length, map, refl, subst, subst₂, sym, ℕ, ◌%◌, ◌*◌, ◌++◌, ◌+◌, ◌-◌, ◌<◌, ◌∙◌, ◌∷◌, ◌≡◌, ◌⊎◌}
use Rattle.std.proofs.lemmas.List.{map-append}
use Rattle.std.proofs.lemmas.List.Elements.{Contains-push}
use Rattle.residues.proofs.Congruences.{IsCongruent_nonzero, IsCongruent_of, IsCongruent_sym, IsCongruent_trans}
use Rattle.residues.specs.Residues.{IsCongruent, IsDomain}
use Rattle.monomials.specs.Exponents.{Exponents, exponents_of}
use Rattle.formal_sums.proofs.Combining.{combination-append}
use Rattle.formal_sums.proofs.Sameness.{IsSame_append, IsSame_of, IsSame_past, IsSame_refl, IsSame_sym, IsSame_trans}
use Rattle.formal_sums.proofs.WeightedSums.{Each_append, coefficient-append}
use Rattle.formal_sums.specs.Combinations.{combination}
use Rattle.formal_sums.specs.FormalSums.{Each, FormalSum, IsSame, Key, Term, coefficient, scale, shift}
use Rattle.orders.proofs.KeyOrdering.{less_of_greater, not_itself}
use Rattle.orders.specs.KeyOrders.{Descends, IsKeyOrder}
use Rattle.bases.proofs.NormalForms.{at_head}
use Rattle.bases.specs.Leads.{HasReducedResidues, head_coefficient, head_key}
use Rattle.bases.specs.Settings.{IsLawful, Setting}
use Rattle.term_lists.proofs.Descending.{over_join}
use Rattle.term_lists.proofs.NormalVectors.{residues_of}
use Rattle.term_lists.proofs.Parts.{Each_member}
use Rattle.term_lists.proofs.Monomials.{monomial_at}
use Rattle.monomial_orders.specs.Kept.{IsWeighed, Monomial}
use Rattle.term_lists.specs.Stops.{IsTooGreat}
use Rattle.term_lists.specs.Vectors.{IsVector, key_of, sum_of, sums_of}
use Rattle.term_lists.specs.declared.key.Key.{Key as CodeKey}
use Rattle.term_lists.specs.declared.stop.VectStop.{VectStop}
use Rattle.term_lists.specs.declared.stop.VectStop.TheVariants.{Degree}
use Rattle.module_vectors.specs.Trails.{HasKey, IsMet, KeptProduct, kept_product_lead}
use Rattle.vector_division.specs.Progress.{IsDivisor, IsFailingProduct, IsSubtraction, SubtractionStops}
use Rattle.vector_division.specs.Reductions.{IsScaledProduct, cofactors_of, unscaled}
use Rattle.vector_division.specs.Runs.{AreBelow, IsOver, IsUnderway, StandsWith, total}
use Rattle.vector_division.specs.declared.reduction.ScaledProduct.{ScaledProduct}
use Rattle.vector_division.proofs.Advancing.{met_later, met_push}
use Rattle.vector_division.proofs.Members.{sums_at}
use Rattle.vector_division.proofs.Occurring.{at_key, occurs, scaled_key}
use Rattle.vector_division.proofs.Subtracting.{Terms, after, product_up_to, up_to_trans, with_taken}

pub below_total :
    (n : ℕ) (compare : Key n → Key n → Ordering) (k : Key n) (runs : List Terms)
    → AreBelow n compare k runs → IsOver compare k (total n runs)
below_total n compare k [] h = tt
below_total n compare k (r ∷ runs) h = over_join compare k (sum_of n r) (total n runs) h.0 (below_total n compare k runs h.1)

pub not_in_total :
    (n : ℕ) (compare : Key n → Key n → Ordering) → IsKeyOrder 0 compare → (k : Key n) (runs : List Terms)
    → AreBelow n compare k runs → HasKey (total n runs) k → ⊥
not_in_total n compare order k runs below h =
    let g : compare k k ≡ Greater = at_key (λ l. compare k l ≡ Greater) (total n runs) k (below_total n compare k runs below) h in
    not_itself order k (less_of_greater order k k g)

module _
    (n : ℕ) (weights : List ℕ) (p : ℕ) (compare : Key n → Key n → Ordering) (order : IsKeyOrder 0 compare) (domain : IsDomain p) (v : Terms) (list : List Terms)
    (qs : List ScaledProduct) (k : CodeKey) (r : ℕ) (old : List Terms) (variables : IsWeighed n weights k.monomial) (pos : 0 < r) (lt : r < p)
    (below : AreBelow n compare (key_of n k) old)
    (pr : IsUnderway n weights p compare v list qs ((key_of n k, r) ∷ total n old))
  where
    abbrev S : Setting n
    S = record { modulus = p; weights = []; rank = 0; compare = compare }

    lawful : IsLawful S
    lawful = record { domain = domain; order = order }

    abbrev K : Key n
    K = key_of n k

    abbrev V : FormalSum n
    V = sum_of n v

    abbrev R : FormalSum n
    R = total n old

    absent : HasKey R K → ⊥
    absent = not_in_total n compare order K old below

    -- the key that was taken has the residue r
    here_is : IsCongruent p (coefficient ((K, r) ∷ R) K) 0 → ⊥
    here_is q = go (occurs R K)
      where
        go : HasKey R K ⊎ (coefficient R K ≡ 0) → ⊥
        go (inl h) = absent h
        go (inr z) =
            let first : coefficient ((K, r) ∷ []) K ≡ r = at_head S lawful (K, r) [] (tt, tt) in
            let one : coefficient ((K, r) ∷ R) K ≡ coefficient ((K, r) ∷ []) K + coefficient R K = coefficient-append ((K, r) ∷ []) R K in
            let two : coefficient ((K, r) ∷ R) K ≡ r = omega (arith, one, first, z) in
            IsCongruent_nonzero p r pos lt (IsCongruent_trans (IsCongruent_of p _ _ (sym two)) q)

    met_here : IsMet n V list (map unscaled qs) K
    met_here = pr.keys K here_is

    up_to_here : compare K (head_key V) ≡ Greater → ⊥
    up_to_here = pr.up_to K here_is

    -- ---- the step that cannot be made
    pub failing_product :
        (s : KeptProduct) (g : Terms) (stop : VectStop) (a last : Monomial)
        → Each (IsVector n weights p compare) list → IsDivisor n weights list K s → g ≡ get_or list s.0 [] → stop ≡ Degree a last
        → SubtractionStops s.1 g stop → IsFailingProduct n weights v list qs s last
    failing_product s g stop a last lists d eg es h =
        let e : SubtractionStops s.1 (get_or list s.0 []) (Degree a last) = subst₂ (SubtractionStops s.1) eg es h in
        record {
          index = d.index;
          variables = d.variables;
          met = subst (IsMet n V list (map unscaled qs)) (sym d.lead) met_here;
          monomial = e.1;
          last_variables = monomial_at n weights p compare list s.0 last lists e.1;
          too_great = subst (λ z. IsTooGreat z last) e.0 e.2;
        }

    module _
        (new : List Terms) (B : Terms) (s : KeptProduct) (c : ℕ) (lists : Each (IsVector n weights p compare) list) (d : IsDivisor n weights list K s)
        (h : IsSubtraction n weights p compare s.1 (get_or list s.0 []) 0 ((k, r) ∷ []) B c)
        (added : IsSame p (total n new) (total n old ++ sum_of n B))
      where
        abbrev E : Exponents n
        E = exponents_of n s.1.exponents

        abbrev A : FormalSum n
        A = (K, r) ∷ []

        abbrev quotient : ScaledProduct
        quotient = record { index = s.0; residue = c; monomial = s.1 }

        module _ (w : CodeKey × ℕ) (ws : Terms) (member : get_or list s.0 [] ≡ w ∷ ws) where
          abbrev u : Term n
          u = (key_of n w.0, w.1)

          abbrev g : FormalSum n
          g = sum_of n ws

          lead : shift E u.0 ≡ K
          lead = subst (λ x. shift E (head_key (sum_of n x)) ≡ K) member d.lead

          product : (c * u.1) % p ≡ r
          product = subst (λ x. (c * head_coefficient (sum_of n x)) % p ≡ r) member h.product

          same : IsSame p (sum_of n B) (A ++ scale (p - c) E (u ∷ g))
          same = subst (λ x. IsSame p (sum_of n B) (A ++ scale (p - c) E (sum_of n x))) member h.sum

          divisor : IsVector n weights p compare (w ∷ ws)
          divisor = subst (IsVector n weights p compare) member (Each_member (IsVector n weights p compare) list s.0 [] lists d.index)

          dA : Descends compare A
          dA = (tt, tt)

          rA : HasReducedResidues S A
          rA = residues_of n weights p ((k, r) ∷ []) (record { weighed = variables; nonzero = pos; reduced = lt }, tt)

          rB : HasReducedResidues S (sum_of n B)
          rB = residues_of n weights p B h.vector.each

          pub product_below : IsOver compare K (sum_of n B)
          product_below = (after S lawful A (sum_of n B) 0 (K, r) [] u g E c dA h.vector.descends rA rB divisor.descends refl lead h.reduced product same).2

          -- what there was is the product and what is left
          taken : IsSame p ((K, r) ∷ R) (scale c E (u ∷ g) ++ total n new)
          taken =
              let one : IsSame p A (scale c E (u ∷ g) ++ sum_of n B) = with_taken S lawful A (sum_of n B) 0 (K, r) [] u g E c dA h.vector.descends rA rB divisor.descends refl lead h.reduced product same A (IsSame_refl p A) in
              let swap : IsSame p ((scale c E (u ∷ g) ++ sum_of n B) ++ R) (scale c E (u ∷ g) ++ (R ++ sum_of n B)) = record {
                by_key = λ l.
                    let x = coefficient (scale c E (u ∷ g)) l in
                    let left : coefficient ((scale c E (u ∷ g) ++ sum_of n B) ++ R) l ≡ x + coefficient (sum_of n B) l + coefficient R l = coefficient-append (scale c E (u ∷ g) ++ sum_of n B) R l ∙ ap (λ z. z + coefficient R l) (coefficient-append (scale c E (u ∷ g)) (sum_of n B) l) in
                    let right : coefficient (scale c E (u ∷ g) ++ (R ++ sum_of n B)) l ≡ x + (coefficient R l + coefficient (sum_of n B) l) = coefficient-append (scale c E (u ∷ g)) (R ++ sum_of n B) l ∙ ap (λ z. x + z) (coefficient-append R (sum_of n B) l) in
                    IsCongruent_of p _ _ (left ∙ omega arith ∙ sym right);
              } in
              IsSame_trans (IsSame_append one (IsSame_refl p R)) (IsSame_trans swap (IsSame_append (IsSame_refl p (scale c E (u ∷ g))) (IsSame_sym added)))

          each :
              (P : Key n → Type 0)
              → ((l : Key n) → (IsCongruent p (coefficient ((K, r) ∷ R) l) 0 → ⊥) → P l)
              → ((l : Key n) → HasKey (u ∷ g) l → P (shift E l))
              → (l : Key n) → (IsCongruent p (coefficient (total n new) l) 0 → ⊥) → P l
          each P a b l nz = go (occurs (scale c E (u ∷ g)) l)
            where
              go : HasKey (scale c E (u ∷ g)) l ⊎ (coefficient (scale c E (u ∷ g)) l ≡ 0) → P l
              go (inl i) = let x = scaled_key c E (u ∷ g) l i in subst P (sym x.2) (b x.0 x.1)
              go (inr z) = a l (λ q. nz (IsCongruent_trans (IsCongruent_sym (IsCongruent_trans (taken.by_key l) (IsCongruent_of p _ _ (coefficient-append (scale c E (u ∷ g)) (total n new) l ∙ ap (λ y. y + coefficient (total n new) l) z ∙ omega arith)))) q))

          lead_is : kept_product_lead n list s ≡ K
          lead_is = d.lead

          more : combination (sums_of n list) (cofactors_of n (qs ++ quotient ∷ [])) ≡ combination (sums_of n list) (cofactors_of n qs) ++ scale c E (u ∷ g)
          more =
              ap (combination (sums_of n list)) (map-append (λ q. ((q.index, exponents_of n q.monomial.exponents), q.residue)) qs (quotient ∷ []))
              ∙ combination-append (sums_of n list) (cofactors_of n qs) (cofactors_of n (quotient ∷ []))
              ∙ ap (λ z. combination (sums_of n list) (cofactors_of n qs) ++ z) (append-nil _ ∙ ap (scale c E) (sums_at n list s.0 ∙ ap (sum_of n) member))

          pub underway_by : IsUnderway n weights p compare v list (qs ++ quotient ∷ []) (total n new)
          underway_by = record {
            quotients = Each_append (IsScaledProduct n weights p list) qs (quotient ∷ []) pr.quotients (record { index = d.index; variables = d.variables; nonzero = h.nonzero; reduced = h.reduced; fits = h.fits }, tt);
            met = met_push n V list [] qs quotient pr.met (subst (IsMet n V list (map unscaled qs)) (sym lead_is) met_here);
            bounded = Each_append (λ q. compare (kept_product_lead n list (unscaled q)) (head_key V) ≡ Greater → ⊥) qs (quotient ∷ []) pr.bounded (subst (λ l. compare l (head_key V) ≡ Greater → ⊥) (sym lead_is) up_to_here, tt);
            keys = subst (λ x. (l : Key n) → (IsCongruent p (coefficient (total n new) l) 0 → ⊥) → IsMet n V list x l) (sym (map-append unscaled qs (quotient ∷ [])))
                (each (IsMet n V list (map unscaled qs ++ s ∷ [])) (λ l nz. met_later n V list (map unscaled qs) s l (pr.keys l nz))
                (λ l i. inr (s, Contains-push (map unscaled qs) s, (l, subst (λ x. HasKey (sum_of n x) l) (sym member) i, refl))));
            up_to = each (λ l. compare l (head_key V) ≡ Greater → ⊥) pr.up_to
                (λ l i. up_to_trans order (shift E l) K (head_key V) (product_up_to S lawful A (sum_of n B) 0 (K, r) [] u g E c dA h.vector.descends rA rB divisor.descends refl lead h.reduced product same l i) up_to_here);
          }

          pub sum_by : (x : FormalSum n) → StandsWith n p v list qs x ((K, r) ∷ R) → StandsWith n p v list (qs ++ quotient ∷ []) x (total n new)
          sum_by x q =
              let combined = combination (sums_of n list) (cofactors_of n qs) in
              IsSame_trans q (IsSame_trans (IsSame_append (IsSame_refl p combined) (IsSame_past x ((K, r) ∷ R) (scale c E (u ∷ g)) (total n new) taken))
              (IsSame_of p _ _ (sym (append_assoc combined (scale c E (u ∷ g)) (x ++ total n new)) ∙ ap (λ z. z ++ (x ++ total n new)) (sym more))))

        pub carried :
            IsOver compare K (sum_of n B) × IsUnderway n weights p compare v list (qs ++ quotient ∷ []) (total n new)
            × ((x : FormalSum n) → StandsWith n p v list qs x ((K, r) ∷ R) → StandsWith n p v list (qs ++ quotient ∷ []) x (total n new))
        carried = go (get_or list s.0 []) refl
          where
            go :
                (m : Terms) → get_or list s.0 [] ≡ m
                → IsOver compare K (sum_of n B) × IsUnderway n weights p compare v list (qs ++ quotient ∷ []) (total n new)
                × ((x : FormalSum n) → StandsWith n p v list qs x ((K, r) ∷ R) → StandsWith n p v list (qs ++ quotient ∷ []) x (total n new))
            go [] f =
                let none : length (get_or list s.0 []) ≡ 0 = ap length f in
                absurd (omega (arith, d.some))
            go (w ∷ ws) f = (product_below w ws f, underway_by w ws f, sum_by w ws f)
