-- The new rows of a job are an outcome of it
use Rattle.std.proofs.Common.{Contains, Less, List, [], ap, ap₂, append-nil, arith, get_or, inl, inr, length, map, refl, subst, subst₂, suc, sym, zero, ℕ, ◌*◌, ◌++◌, ◌+◌, ◌<◌, ◌∙◌, ◌∷◌, ◌≡◌}
use Rattle.std.proofs.lemmas.List.{get_or-map, length-map}
use Rattle.monomials.proofs.Monomials.{times-unit}
use Rattle.monomials.specs.Exponents.{Exponents, exponents_of, unit}
use Rattle.formal_sums.proofs.Combining.{Each_map, IsSame_combination, scale-one}
use Rattle.formal_sums.proofs.Sameness.{IsSame_of, IsSame_sym, IsSame_trans, scale-scale}
use Rattle.formal_sums.specs.Combinations.{combination}
use Rattle.formal_sums.proofs.Items.{item_of}
use Rattle.formal_sums.specs.FormalSums.{Each, FormalSum, IsOfRank, IsSame, scale}
use Rattle.bases.proofs.Leading.{IsLead_of_monic, lead_unique, positive}
use Rattle.bases.specs.Leads.{IsLead, head_key}
use Rattle.bases.specs.Settings.{IsLawful, Setting}
use Rattle.monomial_orders.specs.Kept.{IsWeighed}
use Rattle.term_lists.proofs.Scaling.{Each_at}
use Rattle.term_lists.specs.Rings.{ring_comparison, variables}
use Rattle.term_lists.specs.Vectors.{IsVector, sum_of, sums_of}
use Rattle.term_lists.specs.declared.key.Key.{Key as CodeKey}
use Rattle.module_vectors.specs.Trails.{KeptProduct, no_product, kept_product_lead, kept_at}
use Rattle.pair_criteria.specs.declared.pair.Pair.{Pair as CodePair}
use Rattle.vector_division.proofs.Members.{sums_at}
use Rattle.vector_division.specs.Reductions.{cofactors_of, unscaled}
use Rattle.member_products.proofs.Ranks.{ranked_by}
use Rattle.member_products.specs.declared.member.Reduct.{Reduct as CodeReduct}
use Rattle.basis_steps.proofs.JobProducts.{IsJobProductAt, job_products_from}
use Rattle.basis_steps.specs.Criteria.{IsRepresented, lcm_of}
use Rattle.basis_steps.specs.Divisions.{Occurs}
use Rattle.basis_steps.specs.Outcomes as plain
use Rattle.basis_steps.specs.Outcomes.{AreJobProducts, HasLeadBelowJob, IsReduct as IsSumRow, product_at}
use Rattle.basis_steps.specs.Pairs.{Pair}
use Rattle.basis_steps.specs.States.{Member, vectors}
use Rattle.basis_core.proofs.MemberKeys.{in_occurs, lead_same}
use Rattle.basis_core.proofs.Tracing.{pair_counted}
use Rattle.basis_core.proofs.Tracking.{vectors_over, vectors_rank}
use Rattle.basis_core.specs.Jobs.{HasLcmOfMembers, IsJobOver, JobShown, index_pair_of, pairs_of}
use Rattle.basis_core.specs.Members.{IsRunRow, IsMemberShown, members_of, reduct_row_of, reduct_rows_of, setting_of}
use Rattle.basis_core.specs.Outcomes.{IsOutcomeOver, indexed_product_of, indexed_products_of}
use Rattle.basis_core.specs.Rows.{vectors_in}
use Rattle.row_matrix.specs.Rows.{AreEntries, Entry, IsFromSources, IsRow, RowShown, row_sum, source_key, vector_of, vectors_of}
use Rattle.dense_reduction.proofs.Entries.{entries_within}
use Rattle.row_reduce.proofs.Forms.{row_monic}
use Rattle.s_vectors.proofs.Lists.{length-vectors_in, vectors_are}
use Rattle.s_vectors.proofs.Listed.{row_listed, row_ranked}
use Rattle.s_vectors.proofs.TopParts.{shared_lawful}
use Rattle.s_vectors.specs.Parts.{IsPart}
use Rattle.symbolic_prep.proofs.Matrices.{Each_index}
use Rattle.symbolic_prep.proofs.Tracing.{traced_at}
use Rattle.symbolic_prep.specs.Plans.{product_sum}
use Rattle.f4_job.specs.Made.{AreMadeRows, IsMadeRow, source_parts}
use Rattle.f4_job.specs.Solved.{AreNewRows, IsBelowPairs}

module _ (j : JobShown) (job : IsJobOver j) (tracked : Each (IsMemberShown j.shared) j.members) (columns : List CodeKey) (products : List KeptProduct) (rows : List RowShown)
    (new : AreNewRows (variables j.shared.ring) (setting_of (variables j.shared.ring) j.shared) (vectors_in j.members) j.pairs products columns rows) where
  abbrev n : ℕ
  n = variables j.shared.ring

  abbrev S : Setting (variables j.shared.ring)
  S = setting_of (variables j.shared.ring) j.shared

  abbrev list : List (List (CodeKey × ℕ))
  list = vectors_in j.members

  abbrev G : List (FormalSum (variables j.shared.ring))
  G = sums_of (variables j.shared.ring) (vectors_in j.members)

  abbrev H : List (FormalSum (variables j.shared.ring))
  H = vectors (members_of (variables j.shared.ring) j.members)

  abbrev F : List (FormalSum (variables j.shared.ring))
  F = map (λ (s : KeptProduct). product_sum (variables j.shared.ring) (vectors_in j.members) s) products

  same : H ≡ G
  same = vectors_are n j.members

  lawful : IsLawful (setting_of (variables j.shared.ring) j.shared)
  lawful = shared_lawful n j.shared

  -- ---- the products of a row
  sources_combined : (es : List Entry) → Each (λ (x : Entry). (x.0 < length products) × (x.1 < j.shared.ring.modulus.value)) es
      → combination F (row_sum (source_key n) es) ≡ combination G (cofactors_of n (source_parts products es))
  sources_combined [] w = refl
  sources_combined (e ∷ es) w =
      let s = kept_at products e.0 in
      let t = exponents_of n s.1.exponents in
      let one : scale e.1 (unit n) (get_or F e.0 []) ≡ scale e.1 t (get_or G s.0 []) =
      ap (scale e.1 (unit n)) (get_or-map (λ (z : KeptProduct). product_sum n list z) products e.0 no_product [] w.0.0)
      ∙ ap (λ v. scale e.1 (unit n) (scale 1 t v)) (sym (sums_at n list s.0)) ∙ scaled_once e.1 t (get_or G s.0 []) in
      ap₂ (λ a b. a ++ b) one (sources_combined es w.1)
    where
      scaled_once : (c : ℕ) (t : Exponents (variables j.shared.ring)) (v : FormalSum (variables j.shared.ring))
          → scale c (unit (variables j.shared.ring)) (scale 1 t v) ≡ scale c t v
      scaled_once c t v = scale-scale c 1 (unit n) t v ∙ ap₂ (λ a b. scale a b v) (let q : c * 1 ≡ c = omega arith in q) (times-unit t)

  parts_are : (low : ℕ) (es : List Entry) → AreEntries j.shared.ring.modulus.value low (length products) es
      → Each (IsPart n j.shared.ring.weights j.shared.ring.modulus.value (length j.members)) (source_parts products es)
  parts_are low [] h = tt
  parts_are low (e ∷ es) h =
      let w = entries_within j.shared.ring.modulus.value low (length products) (e ∷ es) h in
      let p = new.each_product e.0 w.0.0 in (
        record { index = subst (λ k. (kept_at products e.0).0 < k) (length-vectors_in j.members) p.member; weighed = p.weighed; reduced = h.2 },
        parts_are
            (e.0 + 1) es h.3,
      )

  listed_in : (es : List Entry) → Each (λ (x : Entry). (x.0 < length products) × (x.1 < j.shared.ring.modulus.value)) es
      → (k : ℕ × Exponents (variables j.shared.ring)) → Contains (indexed_products_of n (map unscaled (source_parts products es))) k → Contains (indexed_products_of n products) k
  listed_in [] w k (i, lt, is) = absurd (omega arith)
  listed_in (e ∷ es) w k (zero, lt, is) = (
    e.0,
    (let a = w.0.0 in let l = length-map products (λ (t : KeptProduct). indexed_product_of n t) in omega arith),
    get_or-map
        (λ (t : KeptProduct). indexed_product_of n t) products e.0 no_product k w.0.0 ∙ is,
  )
  listed_in (e ∷ es) w k (suc i, lt, is) = listed_in es w.1 k (i, omega arith, is)

  -- ---- a row
  module _ (r : RowShown) (row : CodeReduct) (good : IsRow j.shared.ring.modulus.value (length columns) (length products) r)
      (combined : IsFromSources (variables j.shared.ring) j.shared.ring.modulus.value F columns r) (made : IsMadeRow j.shared.ring columns products r row) where
    within : Each (λ (x : Entry). (x.0 < length products) × (x.1 < j.shared.ring.modulus.value)) r.sources
    within = entries_within j.shared.ring.modulus.value 0 (length products) r.sources good.sources

    sum_is : IsSame j.shared.ring.modulus.value (sum_of n row.vector) (combination G (cofactors_of n (source_parts products r.sources)))
    sum_is = IsSame_trans (IsSame_of j.shared.ring.modulus.value _ _ made.sum)
        (IsSame_trans (IsSame_sym combined) (IsSame_of j.shared.ring.modulus.value _ _ (sources_combined r.sources within)))

    run_row : IsRunRow j.shared (length j.members) row
    run_row = record {
      vector = ranked_by j.shared.ring j.shared.rank row.vector _ made.vector sum_is
          (vectors_rank j.shared j.members tracked (cofactors_of n (source_parts products r.sources)));
      products = row_ranked j.shared (source_parts products r.sources) row.products made.products made.made (length j.members)
          (parts_are 0 r.sources good.sources);
    }

    sum_row : IsSumRow j.shared.ring.modulus.value H (indexed_products_of n products) (reduct_row_of n row)
    sum_row = record {
      alone = refl;
      listed = Each_map _ _ (sum_of n row.products) (λ t h. listed_in r.sources within t.0 h)
          (row_listed j.shared (source_parts products r.sources) row.products made.products made.made);
      sums = subst (λ g. IsSame j.shared.ring.modulus.value (combination g (sum_of n row.products)) (sum_of n row.vector)) (sym same)
          (IsSame_trans (IsSame_combination (positive S lawful) G _ _ made.made) (IsSame_sym sum_is));
    }

    low_row : IsBelowPairs S j.pairs (head_key (vector_of n columns r)) → HasLeadBelowJob S H (pairs_of j.pairs) (sum_of n row.vector)
    low_row (x, (i, lt, is), less) k lead =
        let e : k ≡ head_key (vector_of n columns r) =
        lead_unique S lawful (vector_of n columns r) k (head_key (vector_of n columns r)) (subst (λ v. IsLead S v k) made.sum lead)
        (IsLead_of_monic S lawful (row_monic n S lawful columns new.descend (length products) r good)) in
        let l = Each_at (HasLcmOfMembers n j.shared.ring.weights j.members) j.pairs i x job.lcms lt (sym is) in
        (index_pair_of x, pair_counted x j.pairs (i, lt, is), subst₂ (λ a b. S.compare a b ≡ Less) (sym e) l.lcm less)

  -- ---- all rows
  made_vectors : (rs : List RowShown) (ms : List CodeReduct) → AreMadeRows j.shared.ring columns products rs ms → vectors (reduct_rows_of n ms) ≡ vectors_of n columns rs
  made_vectors [] [] h = refl
  made_vectors [] (m ∷ ms) h = absurd h
  made_vectors (r ∷ rs) [] h = absurd h
  made_vectors (r ∷ rs) (m ∷ ms) h = ap₂ (λ a b. a ∷ b) h.0.sum (made_vectors rs ms h.1)

  made_length : (rs : List RowShown) (ms : List CodeReduct) → AreMadeRows j.shared.ring columns products rs ms → length (reduct_rows_of n ms) ≡ length rs
  made_length [] [] h = refl
  made_length [] (m ∷ ms) h = absurd h
  made_length (r ∷ rs) [] h = absurd h
  made_length (r ∷ rs) (m ∷ ms) h = let e = made_length rs ms h.1 in omega arith

  abbrev Good : RowShown → Type 0
  Good r = IsRow j.shared.ring.modulus.value (length columns) (length products) r
      × IsFromSources (variables j.shared.ring) j.shared.ring.modulus.value F columns r
      × IsBelowPairs S j.pairs (head_key (vector_of (variables j.shared.ring) columns r))

  good_rows : (rs : List RowShown) → Each (IsRow j.shared.ring.modulus.value (length columns) (length products)) rs
      → Each (IsFromSources (variables j.shared.ring) j.shared.ring.modulus.value F columns) rs
      → Each (λ r. IsBelowPairs S j.pairs (head_key (vector_of (variables j.shared.ring) columns r))) rs → Each Good rs
  good_rows [] a b c = tt
  good_rows (r ∷ rs) a b c = ((a.0, b.0, c.0), good_rows rs a.1 b.1 c.1)

  made_each : (Q : CodeReduct → Type 0) → ((r : RowShown) (m : CodeReduct) → Good r → IsMadeRow j.shared.ring columns products r m → Q m)
      → (rs : List RowShown) (ms : List CodeReduct) → Each Good rs → AreMadeRows j.shared.ring columns products rs ms → Each Q ms
  made_each Q f [] [] g h = tt
  made_each Q f [] (m ∷ ms) g h = absurd h
  made_each Q f (r ∷ rs) [] g h = absurd h
  made_each Q f (r ∷ rs) (m ∷ ms) g h = (f r m g.0 h.0, made_each Q f rs ms g.1 h.1)

  over_rows : (Q : Member (variables j.shared.ring) → Type 0) (ms : List CodeReduct) → Each (λ m. Q (reduct_row_of (variables j.shared.ring) m)) ms
      → Each Q (reduct_rows_of (variables j.shared.ring) ms)
  over_rows Q [] h = tt
  over_rows Q (m ∷ ms) h = (h.0, over_rows Q ms h.1)

  over_pairs : (Q : Pair → Type 0) (xs : List CodePair) → Each (λ x. Q (index_pair_of x)) xs → Each Q (pairs_of xs)
  over_pairs Q [] h = tt
  over_pairs Q (x ∷ xs) h = (h.0, over_pairs Q xs h.1)

  -- ---- the products
  step_is : (i : ℕ) → i < length products → product_at (indexed_products_of n products) i ≡ indexed_product_of n (kept_at products i)
  step_is i lt = get_or-map (λ (t : KeptProduct). indexed_product_of n t) products i no_product (0, unit n) lt

  numbered : (i : ℕ) → i < length (indexed_products_of n products) → IsJobProductAt j.shared.ring.modulus.value G (pairs_of j.pairs) (indexed_products_of n products) i
  numbered i lt =
      let li : i < length products = omega (arith, length-map products (λ (t : KeptProduct). indexed_product_of n t)) in
      let s = kept_at products i in
      let lead : plain.product_lead G (product_at (indexed_products_of n products) i) ≡ kept_product_lead n list (kept_at products i) =
      ap (plain.product_lead G) (step_is i li) ∙ lead_same n list (kept_at products i) in (
        subst (λ z. (product_at (indexed_products_of n products) i).0 < z) (sym (length-map list (λ (v : List (CodeKey × ℕ)). sum_of n v)))
            (subst (λ (t : ℕ × Exponents (variables j.shared.ring)). t.0 < length list) (sym (step_is i li)) (new.each_product i li).member),
        elim (traced_at n list j.pairs products new.traced i li) [
          | inl (x, q) ↦
              let l = Each_at (HasLcmOfMembers n j.shared.ring.weights j.members) j.pairs q.0.0 x job.lcms q.0.1 (sym q.0.2) in
              inl (index_pair_of x, pair_counted x j.pairs q.0, lead ∙ q.1 ∙ l.lcm ∙ ap (λ g. lcm_of g (index_pair_of x)) same)
          | inr (k, lk, has) ↦
              let lk' : k < length products = omega arith in
              inr (
                k,
                lk,
                omega (arith, length-map products (λ (t : KeptProduct). indexed_product_of n t)),
                subst₂ (λ t z. Occurs j.shared.ring.modulus.value (plain.product_vector G t) z) (sym (step_is k lk')) (sym lead)
                    (in_occurs S lawful list G (kept_at products k) (kept_product_lead n list (kept_at products i)) (sums_at n list (kept_at products k).0)
                    (item_of (IsVector n j.shared.ring.weights j.shared.ring.modulus.value (ring_comparison j.shared.ring n)) list (kept_at products k).0
                    (record { each = tt; descends = tt }) (vectors_over j.shared j.members tracked)) has),
              )
        ],
      )

  of_job : AreJobProducts j.shared.ring.modulus.value G (pairs_of j.pairs) (indexed_products_of n products)
  of_job = job_products_from j.shared.ring.modulus.value G (pairs_of j.pairs) (indexed_products_of n products) numbered

  pub weighed_steps : Each (λ (t : KeptProduct). IsWeighed (variables j.shared.ring) j.shared.ring.weights t.1) products
  weighed_steps = Each_index (λ (t : KeptProduct). IsWeighed n j.shared.ring.weights t.1) products no_product (λ i lt. (new.each_product i lt).weighed)

  -- ---- the pairs
  ranks : (i : ℕ) → i < length G → IsOfRank j.shared.ring.modulus.value j.shared.rank (get_or G i [])
  ranks i lt =
      subst (IsOfRank j.shared.ring.modulus.value j.shared.rank) (append-nil (scale 1 (unit n) (get_or G i [])) ∙ scale-one (get_or G i []))
      (vectors_rank j.shared j.members tracked (((i, unit n), 1) ∷ []))

  pub outcome : (ms : List CodeReduct) → AreMadeRows j.shared.ring columns products rows ms → IsOutcomeOver (record { job = j; rows = ms; products = products })
  outcome ms made =
      let p = j.shared.ring.modulus.value in
      let good = good_rows rows new.rows_good new.combined new.low in
      let count_pairs : length (pairs_of j.pairs) ≡ length j.pairs = length-map j.pairs (λ (x : CodePair). index_pair_of x) in
      record {
        rows = made_each (IsRunRow j.shared (length j.members)) (λ r m g h. run_row r m g.0 g.1 h) rows ms good made;
        weighed = weighed_steps;
        outcome = record {
          some = subst (λ c. 0 < c) (sym count_pairs) job.some;
          pairs = job.real;
          job_products = subst (λ g. AreJobProducts p g (pairs_of j.pairs) (indexed_products_of n products)) (sym same) of_job;
          sums = over_rows (IsSumRow p H (indexed_products_of n products)) ms
              (made_each (λ m. IsSumRow p H (indexed_products_of n products) (reduct_row_of n m)) (λ r m g h. sum_row r m g.0 g.1 h) rows ms good made);
          represented = subst₂ (λ a b. Each (IsRepresented S (a ++ b)) (pairs_of j.pairs)) (sym same) (sym (made_vectors rows ms made))
              (over_pairs (IsRepresented S (G ++ vectors_of n columns rows)) j.pairs (new.represented ranks));
          few = subst₂ (λ a b. a < 2 * b) (sym (made_length rows ms made)) (sym count_pairs) (new.few job.some);
          low = over_rows (λ m. HasLeadBelowJob S H (pairs_of j.pairs) m.vector) ms
              (made_each (λ m. HasLeadBelowJob S H (pairs_of j.pairs) (sum_of n m.vector)) (λ r m g h. low_row r m g.0 g.1 h g.2) rows ms good made);
        };
      }
