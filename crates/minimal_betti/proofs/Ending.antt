-- What is left when no constant is
use Rattle.std.proofs.Common.{List, [], ap, ap₂, arith, eqb-true, false, get_or, length, map, refl, subst, suc, sym, take, true, true≢false, zero, ℕ}
use Rattle.std.proofs.Common.{◌++◌, ◌+◌, ◌-◌, ◌<◌, ◌==◌, ◌∙◌, ◌∷◌, ◌≡◌, ◌≤◌}
use Rattle.std.proofs.lemmas.List.{take_more}
use Rattle.residues.proofs.Congruences.{IsCongruent_minus, IsCongruent_of, IsCongruent_trans}
use Rattle.monomials.specs.Exponents.{unit}
use Rattle.formal_sums.proofs.Combining.{IsMember_same, IsMember_zero, IsSame_combination}
use Rattle.formal_sums.proofs.OfRank.{IsOfRank_member}
use Rattle.formal_sums.proofs.Sameness.{IsSame_append, IsSame_refl, IsSame_scale, IsSame_sym, IsSame_trans, weighted_sum-minus}
use Rattle.formal_sums.specs.Combinations.{IsMember, combination}
use Rattle.formal_sums.specs.FormalSums.{Each, FormalSum, IsOfRank, IsSame, coefficient, indicator}
use Rattle.bases.specs.Settings.{IsLawful}
use Rattle.minimal_laws.proofs.Cancelling.{cancelled}
use Rattle.minimal_laws.proofs.CanonicalPresenting.{combination_units, get_or-units, length-units, unit_homogeneous, units_from}
use Rattle.minimal_laws.proofs.OneCancellation.{one_cancellation, same_maps_sym, same_maps_trans}
use Rattle.minimal_laws.proofs.Presenting.{presents_same}
use Rattle.minimal_laws.proofs.SameMaps.{same_exact, same_first, same_graded, same_member, turned}
use Rattle.minimal_laws.proofs.Searching.{cancellation_exists, same_maps_itself}
use Rattle.minimal_laws.specs.Cancellation.{AreSameColumns, AreSameMaps, IsCancelled, done, keep, trimmed}
use Rattle.minimal_laws.specs.Gradings.{AreExact, AreGraded, AreHomogeneous, GradedMap, GradedMaps, IsHomogeneous, first_columns, graded_by_leads}
use Rattle.minimal_laws.specs.Minimal.{HasConstant, IsMinimal, Presents, difference_modulo}
use Rattle.term_lists.specs.Rings.{ring_comparison, setting, variables}
use Rattle.term_lists.specs.Vectors.{AreVectorsOver, sums_of}
use Rattle.term_lists.specs.declared.key.Key.{Key as CodeKey}
use Rattle.term_lists.specs.declared.ring.Ring.{Ring}
use Rattle.resolution_maps.specs.Inducing.{maps_of}
use Rattle.resolution_maps.specs.Resolved.{AreJoined, columns_of, degrees_of}
use Rattle.resolution_maps.specs.declared.maps.Map.{Map}
use Rattle.resolution_maps.specs.declared.maps.Resolution.{Resolution}
use Rattle.column_passes.proofs.Lists.{map_same}
use Rattle.column_passes.specs.Constants.{HasNoConstants}
use Rattle.minimal_betti.specs.Carried.{AreCarried, AreOrdered, LeadsTo, graded_map, graded_maps}
use Rattle.minimal_betti.specs.Complementing.{ComesTo}
use Rattle.minimal_betti.specs.Graded.{AreMapsOver, IsGradedResolution, graded_of}
use Rattle.minimal_betti.specs.Minimising.{IsCancellationOf}
use Rattle.minimal_betti.specs.Splitting.{IsCancellationUnderway}
use Rattle.minimal_betti.specs.declared.carried.Carried.{Carried}
use Rattle.minimal_betti.proofs.NoZeroColumns.{leads_are}
use Rattle.minimal_betti.proofs.Reaching.{has_there}

-- ---- graded maps present the cokernel of the first one
module _ {n p : ℕ} (pos : 0 < p) (ws rows : List ℕ) (maps : List (GradedMap n)) (graded : AreGraded ws p rows maps) where
  abbrev identity : List (FormalSum n)
  identity = units_from 0 (length rows)

  abbrev F : List (FormalSum n)
  F = first_columns maps

  identity_graded : AreHomogeneous ws p rows rows (units_from {n = n} 0 (length rows))
  identity_graded = record {
    count = sym (length-units n 0 (length rows));
    each = λ i h.
        let lt : i < length rows = omega (arith, length-units n 0 (length rows)) in
        subst (IsHomogeneous ws p rows (get_or rows i 0)) (sym (get_or-units 0 (length rows) i lt ∙ ap (λ x. ((x, unit n), 1) ∷ []) (omega arith)))
        (unit_homogeneous rows i lt);
  }

  first_rank : (maps : List (GradedMap n)) → AreGraded ws p rows maps → (v : FormalSum n) → IsMember p (first_columns maps) v → IsOfRank p (length rows) v
  first_rank [] g v m = IsOfRank_member {p = p} (length rows) [] (λ j r. absurd (omega (arith, r))) v m
  first_rank (M ∷ maps) g v m = IsOfRank_member {p = p} (length rows) M.columns (λ j r. (g.0.each j r).rank) v m

  once : (v : FormalSum n) → IsMember p (first_columns maps) v → IsSame p (combination (units_from 0 (length rows)) v) v
  once v m = combination_units pos (length rows) v (first_rank maps graded v m)

  twice :
      (v : FormalSum n) → IsOfRank p (length rows) v
      → IsSame p (difference_modulo p v (combination (units_from 0 (length rows)) (combination (units_from 0 (length rows)) v))) []
  twice v r =
      let a = combination_units pos (length rows) v r in
      let b : IsSame p (combination (units_from 0 (length rows)) (combination (units_from 0 (length rows)) v)) v =
      IsSame_trans (IsSame_combination pos (units_from 0 (length rows)) (combination (units_from 0 (length rows)) v) v a) a in
      IsSame_trans (IsSame_append (IsSame_refl p v) (IsSame_scale pos (p - 1) (unit n) b))
      (record { by_key = λ k. IsCongruent_trans (IsCongruent_of p _ _ (weighted_sum-minus p (indicator k) v v)) (IsCongruent_minus p (coefficient v k) pos) })

  pub presents_itself : Presents ws p (record { positions = rows; maps = maps }) rows (first_columns maps)
  presents_itself = record {
    there = units_from 0 (length rows);
    back = units_from 0 (length rows);
    there_graded = identity_graded;
    back_graded = identity_graded;
    there_members = λ v m. IsMember_same _ v (combination (units_from 0 (length rows)) v) (IsSame_sym (once v m)) m;
    back_members = λ w m. IsMember_same _ w (combination (units_from 0 (length rows)) w) (IsSame_sym (once w m)) m;
    there_and_back = λ v r. IsMember_same _ [] _ (IsSame_sym (twice v r)) (IsMember_zero p (first_columns maps));
    back_and_there = λ w r. IsMember_same _ [] _ (IsSame_sym (twice w r)) (IsMember_zero p (first_columns maps));
  }

-- ---- maps at the end without a column
keep_some : {n : ℕ} (M : GradedMap n) (F : List (FormalSum n)) (maps : List (GradedMap n)) → 0 < length maps → keep M F maps ≡ M ∷ maps
keep_some M F [] lt = absurd (omega (arith, lt))
keep_some M F (N ∷ maps) lt = refl

pub trimmed_end : (n : ℕ) (xs : List Carried) (m : Carried) → m.columns ≡ [] → trimmed (map (graded_map n) (xs ++ m ∷ [])) ≡ trimmed (map (graded_map n) xs)
trimmed_end n [] m e = ap (λ F. keep (graded_map n m) (sums_of n F) []) e
trimmed_end n (x ∷ xs) m e = ap (keep (graded_map n x) (sums_of n x.columns)) (trimmed_end n xs m e)

some_end : (n : ℕ) (xs : List Carried) (m : Carried) → 0 < length (map (graded_map n) (xs ++ m ∷ []))
some_end n [] m = omega arith
some_end n (x ∷ xs) m = omega arith

pub trimmed_full : (n : ℕ) (xs : List Carried) (m : Carried) → 0 < length m.columns
    → trimmed (map (graded_map n) (xs ++ m ∷ [])) ≡ map (graded_map n) (xs ++ m ∷ [])
trimmed_full n [] m lt = go m.columns lt
  where
    go : (F : List (List (CodeKey × ℕ))) → 0 < length F → keep (graded_map n m) (sums_of n F) [] ≡ graded_map n m ∷ []
    go [] lt = absurd (omega (arith, lt))
    go (v ∷ F) lt = refl
trimmed_full n (x ∷ xs) m lt =
    ap (keep (graded_map n x) (sums_of n x.columns)) (trimmed_full n xs m lt)
    ∙ keep_some (graded_map n x) (sums_of n x.columns) (map (graded_map n) (xs ++ m ∷ [])) (some_end n xs m)

pub some_columns : {X : Type 0} (xs : List X) → false ≡ (length xs == 0) → 0 < length xs
some_columns [] e = absurd (true≢false (sym e))
some_columns (x ∷ xs) e = omega arith

pub no_columns : {X : Type 0} (xs : List X) → true ≡ (length xs == 0) → xs ≡ []
no_columns [] e = refl
no_columns (x ∷ xs) e = absurd (let q : suc (length xs) ≡ 0 = eqb-true (suc (length xs)) 0 (sym e) in omega (arith, q))

taken : (maps : List Carried) (k : ℕ) (m : Carried) → 0 < k → k ≤ length maps → m ≡ get_or maps (k - 1) m → take k maps ≡ take (k - 1) maps ++ m ∷ []
taken maps k m lt le is =
    let e : (k - 1) + 1 ≡ k = omega (arith, lt) in
    ap (λ i. take i maps) (sym e) ∙ take_more maps (k - 1) m (omega (arith, lt, le)) ∙ ap (λ x. take (k - 1) maps ++ x ∷ []) (sym is)

pub kept_full :
    (n : ℕ) (maps : List Carried) (k : ℕ) (m : Carried) → 0 < k → k ≤ length maps → m ≡ get_or maps (k - 1) m → 0 < length m.columns
    → trimmed (map (graded_map n) (take k maps)) ≡ map (graded_map n) (take k maps)
kept_full n maps k m lt le is some =
    let e = taken maps k m lt le is in
    ap (λ z. trimmed (map (graded_map n) z)) e ∙ trimmed_full n (take (k - 1) maps) m some ∙ ap (map (graded_map n)) (sym e)

pub kept_less :
    (n : ℕ) (maps : List Carried) (k : ℕ) (m : Carried) → 0 < k → k ≤ length maps → m ≡ get_or maps (k - 1) m → m.columns ≡ []
    → trimmed (map (graded_map n) (take k maps)) ≡ trimmed (map (graded_map n) (take (k - 1) maps))
kept_less n maps k m lt le is none =
    ap (λ z. trimmed (map (graded_map n) z)) (taken maps k m lt le is) ∙ trimmed_end n (take (k - 1) maps) m none

-- ---- the start
module _ (ring : Ring) where
  -- the maps with their columns in the ring's own order
  pub start_same :
      (rows : List ℕ) (maps : List Map) (start : List Carried) → AreJoined ring rows maps → AreCarried ring maps start
      → AreSameMaps ring.modulus.value (graded_by_leads ring.weights rows (maps_of (variables ring) (map (λ (m : Map). m.columns) maps)))
      (map (graded_map (variables ring)) start)
  start_same rows [] [] j c = tt
  start_same rows [] (s ∷ start) j c = elim c [ ]
  start_same rows (m ∷ maps) [] j c = elim c [ ]
  start_same rows (m ∷ maps) (s ∷ start) j c = (
    sym (c.1 ∙ ap (λ (z : List ℕ). degrees_of ring z m.columns) j.0.degrees),
    subst (λ (F : List (FormalSum (variables ring))). AreSameColumns ring.modulus.value F (sums_of (variables ring) s.columns))
        (map_same (sums_of (variables ring) m.columns)) c.0.same,
    start_same (degrees_of ring rows m.columns) maps start j.1 c.2,
  )

  start_ordered : (maps : List Map) (start : List Carried) → AreCarried ring maps start → AreOrdered ring start
  start_ordered [] [] c = tt
  start_ordered [] (s ∷ start) c = elim c [ ]
  start_ordered (m ∷ maps) [] c = elim c [ ]
  start_ordered (m ∷ maps) (s ∷ start) c = (c.0.vectors, start_ordered maps start c.2)

  pub start_underway :
      0 < ring.modulus.value → (r : Resolution) (start : List Carried) (rows : List ℕ) → IsGradedResolution ring r → AreCarried ring r.maps.items start
      → rows ≡ r.positions.items
      → IsCancellationUnderway ring rows [] start
  start_underway pos r start rows given c e = record {
    ordered = start_ordered r.maps.items start c;
    graded = subst (λ z. AreGraded ring.weights ring.modulus.value z (map (graded_map (variables ring)) start)) (sym e)
        (same_graded ring.modulus.value pos ring.weights r.positions.items (graded_of ring r).maps (map (graded_map (variables ring)) start)
        (start_same r.positions.items r.maps.items start given.joined c) given.graded);
    none = tt;
  }

  pub none_at_all :
      (ms : List Carried) → Each (λ m. HasNoConstants ring.modulus.value (sums_of (variables ring) m.columns)) ms
      → (k c r : ℕ) → HasConstant ring.modulus.value (map (graded_map (variables ring)) ms) k c r → ⊥
  none_at_all [] none k c r h = elim h [ ]
  none_at_all (m ∷ ms) none zero c r h = none.0 c r h.1
  none_at_all (m ∷ ms) none (suc k) c r h = none_at_all ms none.1 k c r h

-- maps without constants come to themselves
pub comes_itself :
    (ring : Ring) (C : GradedMaps (variables ring)) (rows : List ℕ) (left : List Carried) → LeadsTo ring.modulus.value C (graded_maps ring rows left)
    → IsCancellationUnderway ring rows left left → ComesTo ring C rows left
comes_itself ring C rows left leads under = record {
  maps = map (graded_map (variables ring)) left;
  leads = leads;
  same = same_maps_itself ring.modulus.value (map (graded_map (variables ring)) left);
  underway = under;
}

-- ---- the whole
module _ (ring : Ring) (lawful : IsLawful (setting ring (variables ring) (ring_comparison ring (variables ring)) 0)) (r : Resolution)
    (given : IsGradedResolution ring r)
    (start : List Carried) (carried : AreCarried ring r.maps.items start) (rows : List ℕ) (left kept : List Carried)
    (comes : ComesTo ring (graded_maps ring r.positions.items start) rows left)
    (trims : (n : ℕ) → trimmed (map (graded_map n) left) ≡ map (graded_map n) kept) (ordered : AreOrdered ring kept)
    (s : Resolution) (places_are : s.positions.items ≡ rows) (columns_are : columns_of s ≡ map (λ (m : Carried). m.columns) kept) where
  abbrev N : ℕ
  N = variables ring

  abbrev P : ℕ
  P = ring.modulus.value

  pos : 0 < ring.modulus.value
  pos = let o : 1 < ring.modulus.value = lawful.domain.above_one in omega arith

  abbrev C : GradedMaps (variables ring)
  C = graded_of ring r

  abbrev Start : GradedMaps (variables ring)
  Start = graded_maps ring r.positions.items start

  abbrev D : GradedMaps (variables ring)
  D = record { positions = rows; maps = map (graded_map (variables ring)) kept }

  same : AreSameMaps ring.modulus.value (graded_of ring r).maps (map (graded_map (variables ring)) start)
  same = start_same ring r.positions.items r.maps.items start given.joined carried

  start_graded : AreGraded ring.weights ring.modulus.value r.positions.items (map (graded_map (variables ring)) start)
  start_graded = same_graded ring.modulus.value pos ring.weights r.positions.items (graded_of ring r).maps
      (map (graded_map (variables ring)) start) same given.graded

  start_exact : AreExact ring.modulus.value (map (graded_map (variables ring)) start)
  start_exact = same_exact ring.modulus.value pos (graded_of ring r).maps (map (graded_map (variables ring)) start) same given.exact

  none_left : (k c q : ℕ) → HasConstant ring.modulus.value comes.maps k c q → ⊥
  none_left k c q h = none_at_all ring left comes.underway.none k c q
      (has_there ring.modulus.value comes.maps (map (graded_map (variables ring)) left) k c q comes.same h)

  -- the cancellation itself, and that it is these maps
  abbrev E : GradedMaps (variables ring)
  E = record { positions = rows; maps = trimmed comes.maps }

  all : IsCancelled ring.modulus.value (graded_maps ring r.positions.items start) (record { positions = rows; maps = trimmed comes.maps })
  all = comes.leads.cancelled E (done rows comes.maps none_left)

  kept_same : AreSameMaps ring.modulus.value (trimmed comes.maps) (map (graded_map (variables ring)) kept)
  kept_same =
      let maps = map (graded_map (variables ring)) left in
      subst (AreSameMaps ring.modulus.value (trimmed comes.maps)) (trims (variables ring))
      (one_cancellation ring.modulus.value pos (record { positions = rows; maps = comes.maps }) (record { positions = rows; maps = maps }) E
      (record { positions = rows; maps = trimmed maps }) (done rows comes.maps none_left) (refl, comes.same)
      (done rows maps (none_at_all ring left comes.underway.none))).1

  minimal_all : IsMinimal ring.weights ring.modulus.value (record { positions = rows; maps = trimmed comes.maps })
  minimal_all = (cancelled ring.modulus.value pos r.positions.items (first_columns Start.maps) Start E all start_graded start_exact
      (presents_itself pos ring.weights r.positions.items Start.maps start_graded)).0

  minimal_kept : IsMinimal ring.weights ring.modulus.value (record { positions = rows; maps = map (graded_map (variables ring)) kept })
  minimal_kept = record {
    graded = same_graded ring.modulus.value pos ring.weights rows E.maps D.maps kept_same minimal_all.graded;
    exact = same_exact ring.modulus.value pos E.maps D.maps kept_same minimal_all.exact;
    no_constant = λ k c q h. minimal_all.no_constant k c q
        (has_there ring.modulus.value D.maps E.maps k c q (same_maps_sym ring.modulus.value E.maps D.maps kept_same) h);
  }

  result_is : graded_of ring s ≡ record { positions = rows; maps = map (graded_map (variables ring)) kept }
  result_is =
      ap₂ (λ (x : List ℕ) (y : List (List (List (CodeKey × ℕ)))). record
      { positions = x; maps = graded_by_leads ring.weights x (maps_of (variables ring) y) }) places_are columns_are
      ∙ ap (λ ms. record { positions = rows; maps = ms })
      (leads_are ring lawful rows kept ordered minimal_kept.graded minimal_kept.exact minimal_kept.no_constant)

  pub minimal_result : IsMinimal ring.weights ring.modulus.value (graded_of ring s)
  minimal_result = subst (IsMinimal ring.weights ring.modulus.value) (sym result_is) minimal_kept

  pub presents_result :
      (places : List ℕ) (A : List (FormalSum (variables ring))) → Presents ring.weights ring.modulus.value (graded_of ring r) places A
      → Presents ring.weights ring.modulus.value (graded_of ring s) places A
  presents_result places A h =
      let first = same_first ring.modulus.value (graded_of ring r).maps Start.maps same in
      let there = presents_same pos places A C Start refl
      (same_member ring.modulus.value pos (first_columns C.maps) (first_columns Start.maps) first)
      (same_member ring.modulus.value pos (first_columns Start.maps) (first_columns C.maps)
      (turned ring.modulus.value (first_columns C.maps) (first_columns Start.maps) first)) h
      in
      let kept_first = same_first ring.modulus.value E.maps D.maps kept_same in
      subst (λ z. Presents ring.weights ring.modulus.value z places A) (sym result_is)
      (presents_same pos places A E D refl (same_member ring.modulus.value pos (first_columns E.maps) (first_columns D.maps) kept_first)
      (same_member ring.modulus.value pos (first_columns D.maps) (first_columns E.maps)
      (turned ring.modulus.value (first_columns E.maps) (first_columns D.maps) kept_first))
      (cancelled ring.modulus.value pos places A Start E all start_graded start_exact there).1)

  pub cancellation_result : IsCancellationOf ring r s
  cancellation_result =
      let e = cancellation_exists ring.modulus.value lawful.domain C in
      let o = one_cancellation ring.modulus.value pos C Start e.0 E e.1 (refl, same) all in
      record {
        maps = e.0;
        cancelled = e.1;
        positions = o.0 ∙ sym places_are;
        same = subst (AreSameMaps ring.modulus.value e.0.maps) (sym (ap (λ (z : GradedMaps (variables ring)). z.maps) result_is))
            (same_maps_trans ring.modulus.value e.0.maps E.maps D.maps o.1 kept_same);
      }

  pub vectors_result : AreMapsOver ring s
  vectors_result = subst (Each (λ F. AreVectorsOver ring (ring_comparison ring) F)) (sym columns_are) (go kept ordered)
    where
      go : (ms : List Carried) → AreOrdered ring ms → Each (λ F. AreVectorsOver ring (ring_comparison ring) F) (map (λ (m : Carried). m.columns) ms)
      go [] h = tt
      go (m ∷ ms) h = (h.0, go ms h.1)
