-- Minimal resolutions of values, as the calls give them
use Rattle.std.specs.Prelude.{Contains, IfErr, IfOk, codes, get_or, map, replicate, string_bytes, take, zero}
use Rattle.std.proofs.Common.{
  Bool,
  Err,
  List,
  Ok,
  Result,
  [],
  ap,
  ap₂,
  arith,
  inl,
  inr,
  length,
  refl,
  subst,
  suc,
  sym,
  ℕ,
  ◌*◌,
  ◌+◌,
  ◌++◌,
  ◌<◌,
  ◌∙◌,
  ◌∷◌,
  ◌≡◌,
  ◌⊎◌,
}
use Rattle.std.proofs.lemmas.List.{length-map, take_more}
use Rattle.residues.proofs.Congruences.{IsCongruent_refl}
use Rattle.residues.specs.Residues.{IsCongruent}
use Rattle.monomials.specs.Weights.{weighted_degree}
use Rattle.formal_sums.proofs.Combining.{Each_map}
use Rattle.formal_sums.proofs.OfRank.{IsOfRank_of}
use Rattle.formal_sums.proofs.WeightedSums.{Each_append, indicator_other, key_cases}
use Rattle.formal_sums.specs.FormalSums.{Each, FormalSum, IsOfRank, Key as FormalKey, coefficient, indicator}
use Rattle.term_lists.specs.Rings.{ring_comparison, setting, variables}
use Rattle.term_lists.specs.Vectors.{AreTermsOver, AreVectorsOver, HasPositions, IsVectorOver, key_of, sum_of, sums_of}
use Rattle.term_lists.specs.declared.key.Key.{Key}
use Rattle.term_lists.specs.declared.ring.Ring.{Ring}
use Rattle.module_vectors.specs.declared.trail.WorkStop.{WorkStop}
use Rattle.module_vectors.specs.declared.trail.WorkStop.TheVariants.{Degree, Memory}
use Rattle.groebner_iface.specs.Runs.{IsReducedBasisOf}
use Rattle.resolution_laws.specs.Resolutions.{IsCanonical}
use Rattle.minimal_laws.proofs.CanonicalGrading.{canonical_graded}
use Rattle.minimal_laws.proofs.CanonicalPresenting.{canonical_cancelled, canonical_presents}
use Rattle.minimal_laws.proofs.Searching.{cancellation_exists}
use Rattle.minimal_laws.specs.Cancellation.{AreSameMaps, IsCancelled}
use Rattle.minimal_laws.specs.Gradings.{AreExact, AreGraded, AreHomogeneous, GradedMaps, IsHomogeneous, graded_by_leads}
use Rattle.minimal_laws.specs.Minimal.{IsMinimal, Presents}
use Rattle.minimal_betti.specs.Graded.{AreMapsOver, IsGradedResolution, graded_of}
use Rattle.minimal_betti.specs.Minimising.{CancellationStops, IsCancellationOf, IsCancellationTrail}
use Rattle.minimal_betti.specs.Tables.{IsBettiTable}
use Rattle.minimal_betti.specs.declared.tables.BettiEntry.{BettiEntry}
use Rattle.betti_laws.specs.Tables.{step_count}
use Rattle.resolution_maps.proofs.Joining.{length-zeros}
use Rattle.resolution_maps.specs.Inducing.{Columns, maps_of}
use Rattle.resolution_maps.specs.Resolved.{AreJoined, AreVectorsThrough, IsResolutionTrail, ResolutionStops, columns_of}
use Rattle.resolution_maps.specs.declared.maps.Map.{Map}
use Rattle.resolution_maps.specs.declared.maps.Resolution.{Resolution as Resolved}
use Rattle.script_parse.proofs.Working.{lawful}
use Rattle.script_parse.specs.declared.named.NameInfo.{NameInfo}
use Rattle.syzygy_engine.proofs.Standing.{rank_of_positions}
use Rattle.session_reports.proofs.Reporting.{written_joined}
use Rattle.session_reports.specs.Cancelling.{IsCancelledAs, IsTableOfBasis, StopsAsMinimal}
use Rattle.session_reports.specs.Minimising.{HasTwoDegrees, IsInhomogeneous, IsMinimalText, IsResolvedBasis}
use Rattle.session_values.specs.Resolving.{maps_text}
use Rattle.session_values.specs.Texts.{heading}
use Rattle.session_values.specs.Writing.{resolution_written}

abbrev Terms : Type 0
Terms = List (Key × ℕ)

-- ---- degrees
abbrev degree_of : Terms → ℕ
degree_of [] = 0
degree_of (t ∷ v) = t.0.monomial.degree

cases : (a b : ℕ) → (a ≡ b) ⊎ ((a < b) ⊎ (b < a))
cases a b = grind arith

same_or : (a b : ℕ) → ((a ≡ b → ⊥) → ⊥) → a ≡ b
same_or a b h = by (cases a b)
  where
    by : (a ≡ b) ⊎ ((a < b) ⊎ (b < a)) → a ≡ b
    by (inl e) = e
    by (inr (inl lt)) = absurd (h (λ e. omega (arith, lt, e)))
    by (inr (inr lt)) = absurd (h (λ e. omega (arith, lt, e)))

-- the terms of a vector that is not of two degrees have that of the first
one_degree : (v : Terms) → (HasTwoDegrees v → ⊥) → (t : Key × ℕ) → Contains v t → t.0.monomial.degree ≡ degree_of v
one_degree [] h t c = let lt = c.1 in absurd (omega (arith, lt))
one_degree (s ∷ v) h t c = same_or _ _ (λ ne. h (t, s, c, (0, omega arith, refl), ne))

zeros_at : (m i : ℕ) → get_or {A = ℕ} (replicate m 0) i 0 ≡ 0
zeros_at zero i = refl
zeros_at (suc m) zero = refl
zeros_at (suc m) (suc i) = zeros_at m i

-- a coefficient that is not 0 is that of a term
nonzero_term :
    (n p : ℕ) (v : Terms) (k : FormalKey n) → (IsCongruent p (coefficient (sum_of n v) k) 0 → ⊥) → (t : Key × ℕ) × Contains v t × (k ≡ key_of n t.0)
nonzero_term n p [] k h = absurd (h (IsCongruent_refl p 0))
nonzero_term n p (t ∷ v) k h = by (key_cases k (key_of n t.0)) (λ z. nonzero_term n p v k z)
  where
    by :
        (k ≡ key_of n t.0) ⊎ (k ≡ key_of n t.0 → ⊥)
        → ((IsCongruent p (coefficient (sum_of n v) k) 0 → ⊥) → (u : Key × ℕ) × Contains v u × (k ≡ key_of n u.0))
        → (u : Key × ℕ) × Contains (t ∷ v) u × (k ≡ key_of n u.0)
    by (inl e) later = (t, (0, omega arith, refl), e)
    by (inr ne) later =
        let e = indicator_other k (key_of n t.0) ne in
        let zero_here : t.1 * indicator k (key_of n t.0) + coefficient (sum_of n v) k ≡ coefficient (sum_of n v) k =
        ap (λ x. t.1 * x + coefficient (sum_of n v) k) e ∙ omega arith in
        let more = later (λ z. h (subst (λ x. IsCongruent p x 0) (sym zero_here) z)) in
        (more.0, (suc more.1.0, let lt = more.1.1 in omega (arith, lt), more.1.2), more.2)

pub each_in : {X : Type 0} (P : X → Type 0) (xs : List X) (x : X) → Each P xs → Contains xs x → P x
each_in P [] x h c = let lt = c.1 in absurd (omega (arith, lt))
each_in P (y ∷ xs) x h (zero, lt, e) = subst P e h.0
each_in P (y ∷ xs) x h (suc k, lt, e) = each_in P xs x h.1 (k, omega (arith, lt), e)

-- what the search for two degrees finds
pub two_found :
    (v rest : Terms) (first t : Key × ℕ) (i : ℕ) → v ≡ first ∷ rest → i < length rest → get_or rest i t ≡ t
    → (t.0.monomial.degree ≡ first.0.monomial.degree → ⊥) → HasTwoDegrees v
two_found v rest first t i e lt is ne = subst (λ z. HasTwoDegrees z) (sym e) (t, first, (suc i, omega (arith, lt), is), (0, omega arith, refl), ne)

pub one_found :
    (v rest : Terms) (first : Key × ℕ) → v ≡ first ∷ rest → Each (λ t. t.0.monomial.degree ≡ first.0.monomial.degree) rest → HasTwoDegrees v → ⊥
one_found v rest first e each two =
    let h = subst (λ z. HasTwoDegrees z) e two in
    let all = λ (x : Key × ℕ) (c : Contains (first ∷ rest) x). each_in (λ t. t.0.monomial.degree ≡ first.0.monomial.degree) (first ∷ rest) x (refl, each) c in
    h.4 (all h.0 h.2 ∙ sym (all h.1 h.3))

pub none_found : (list : List Terms) → Each (λ v. HasTwoDegrees v → ⊥) list → IsInhomogeneous list → ⊥
none_found list each h = each_in (λ v. HasTwoDegrees v → ⊥) list h.0 each h.1 h.2

pub each_more :
    {X : Type 0} (P : X → Type 0) (xs : List X) (i : ℕ) (x : X) → Each P (take i xs) → i < length xs → x ≡ get_or xs i x → P x → Each P (take (i + 1) xs)
each_more P xs i x h lt is p =
    subst (Each P) (sym (take_more xs i x lt)) (Each_append P (take i xs) (get_or xs i x ∷ []) h (subst P is p, tt))

module _ (ring : Ring) (rank : ℕ) where
  homogeneous_vector :
      (v : Terms) → IsVectorOver ring (ring_comparison ring) v → HasPositions rank v → (HasTwoDegrees v → ⊥)
      → IsHomogeneous ring.weights ring.modulus.value (replicate rank 0) (degree_of v) (sum_of (variables ring) v)
  homogeneous_vector v vector positions one = record {
    rank = subst (λ m. IsOfRank ring.modulus.value m (sum_of (variables ring) v)) (sym (length-zeros rank))
        (IsOfRank_of ring.modulus.value rank (sum_of (variables ring) v) (rank_of_positions (variables ring) rank v positions));
    degrees = λ k nonzero.
        let found = nonzero_term (variables ring) ring.modulus.value v k nonzero in
        let term = each_in _ v found.0 vector.each found.1 in
        let row = zeros_at rank k.0 in
        let degree : weighted_degree ring.weights k.1 ≡ degree_of v =
        ap (λ (z : FormalKey (variables ring)). weighted_degree ring.weights z.1) found.2 ∙ sym term.weighed.degree ∙ one_degree v one found.0 found.1 in
        omega (arith, row, degree);
  }

  homogeneous_at :
      (F : List Terms) → AreVectorsOver ring (ring_comparison ring) F → Each (HasPositions rank) F → (IsInhomogeneous F → ⊥) → (i : ℕ) → i < length F
      → IsHomogeneous ring.weights ring.modulus.value (replicate rank 0) (get_or (map degree_of F) i 0) (get_or (sums_of (variables ring) F) i [])
  homogeneous_at [] vectors positions one i lt = absurd (omega (arith, lt))
  homogeneous_at (v ∷ F) vectors positions one zero lt = homogeneous_vector v vectors.0 positions.0 (λ two. one (v, (0, omega arith, refl), two))
  homogeneous_at (v ∷ F) vectors positions one (suc i) lt =
      homogeneous_at F vectors.1 positions.1
      (λ h. one (h.0, (suc h.1.0, let less = h.1.1 in omega (arith, less), h.1.2), h.2)) i (omega (arith, lt))

  homogeneous :
      (F : List Terms) → AreVectorsOver ring (ring_comparison ring) F → Each (HasPositions rank) F → (IsInhomogeneous F → ⊥)
      → AreHomogeneous ring.weights ring.modulus.value (replicate rank 0) (map degree_of F) (sums_of (variables ring) F)
  homogeneous F vectors positions one =
      let count : length (sums_of (variables ring) F) ≡ length F = length-map F (λ v. sum_of (variables ring) v) in
      record {
        count = length-map F degree_of ∙ sym count;
        each = λ i lt. homogeneous_at F vectors positions one i (omega (arith, lt, count));
      }

-- ---- resolutions
terms_through : (ring : Ring) (below maps : Columns) → AreVectorsThrough ring below maps → Each (λ F. Each (AreTermsOver ring) F) maps
terms_through ring below [] h = tt
terms_through ring below (F ∷ maps) h = (
  Each_map _ _ F (λ v w. Each_map _ _ v (λ t i. (i.weighed, i.reduced)) w.each) h.0,
  terms_through ring (below ++ F ∷ []) maps h.1,
)

module _ (ring : Ring) (rank m : ℕ) (same : m ≡ rank) (list basis : List Terms) (reduced : IsReducedBasisOf ring rank list basis)
    (one : IsInhomogeneous basis → ⊥) (r : Resolved)
    (canonical_there : IsCanonical (setting ring (variables ring) (ring_comparison ring (variables ring)) m) (sums_of (variables ring) basis)
    (maps_of (variables ring) (columns_of r)))
    (vectors : AreVectorsThrough ring [] (columns_of r)) (places : r.positions.items ≡ replicate m 0)
    (joined : AreJoined ring r.positions.items r.maps.items) where
  canonical :
      IsCanonical (setting ring (variables ring) (ring_comparison ring (variables ring)) rank) (sums_of (variables ring) basis)
      (maps_of (variables ring) (columns_of r))
  canonical =
      subst
      (λ z. IsCanonical (setting ring (variables ring) (ring_comparison ring (variables ring)) z) (sums_of (variables ring) basis)
      (maps_of (variables ring) (columns_of r)))
      same canonical_there

  at_zero : r.positions.items ≡ replicate rank 0
  at_zero = places ∙ ap (λ z. replicate z 0) same

  abbrev start : GradedMaps (variables ring)
  start = record { positions = replicate rank 0; maps = graded_by_leads ring.weights (replicate rank 0) (maps_of (variables ring) (columns_of r)) }

  start_is : start ≡ graded_of ring r
  start_is = ap (λ z. record { positions = z; maps = graded_by_leads ring.weights z (maps_of (variables ring) (columns_of r)) }) (sym at_zero)

  graded_start :
      AreGraded ring.weights ring.modulus.value (replicate rank 0) start.maps × AreExact ring.modulus.value start.maps
  graded_start =
      canonical_graded (setting ring (variables ring) (ring_comparison ring (variables ring)) rank) (lawful ring rank) ring.weights (replicate rank 0)
      (map degree_of basis) (sums_of (variables ring) basis) (length-zeros rank) (homogeneous ring rank basis reduced.vectors reduced.positions one)
      (maps_of (variables ring) (columns_of r)) canonical

  -- the canonical resolution is graded
  pub graded_resolution : IsGradedResolution ring r
  graded_resolution = record {
    terms = terms_through ring [] (columns_of r) vectors;
    joined = joined;
    graded = subst (λ (C : GradedMaps (variables ring)). AreGraded ring.weights ring.modulus.value C.positions C.maps) start_is graded_start.0;
    exact = subst (λ (C : GradedMaps (variables ring)). AreExact ring.modulus.value C.maps) start_is graded_start.1;
  }

  -- and presents the module of the basis
  pub presents_basis : Presents ring.weights ring.modulus.value (graded_of ring r) (replicate rank 0) (sums_of (variables ring) basis)
  presents_basis =
      subst (λ C. Presents ring.weights ring.modulus.value C (replicate rank 0) (sums_of (variables ring) basis)) start_is
      (canonical_presents (setting ring (variables ring) (ring_comparison ring (variables ring)) rank) (lawful ring rank) ring.weights (replicate rank 0)
      (map degree_of basis) (sums_of (variables ring) basis) (length-zeros rank) (homogeneous ring rank basis reduced.vectors reduced.positions one)
      (maps_of (variables ring) (columns_of r)) canonical)

  -- what is left of it, as one of the basis
  pub cancelled_as :
      (left : Result Resolved WorkStop) → IfOk left (IsCancellationOf ring r)
      → IfOk left (λ s. IsMinimal ring.weights ring.modulus.value (graded_of ring s))
      → IfOk left (λ s. Presents ring.weights ring.modulus.value (graded_of ring s) (replicate rank 0) (sums_of (variables ring) basis))
      → IfOk left (λ s. AreJoined ring s.positions.items s.maps.items) → IfOk left (AreMapsOver ring) → IfOk left (IsCancelledAs ring rank basis)
  cancelled_as (Ok s) c minimal presents joins own = record {
    left = c.maps;
    cancelled = record {
      homogeneous = one;
      maps = columns_of r;
      canonical = canonical;
      cancelled = subst (λ C. IsCancelled ring.modulus.value C c.maps) (sym start_is) c.cancelled;
    };
    positions = c.positions;
    same = c.same;
    vectors = own;
    joined = joins;
    resolved = record { homogeneous = one; minimal = minimal; presents = presents };
  }
  cancelled_as (Err stop) c minimal presents joins own = tt

  -- the basis has a minimal resolution
  pub some_minimal : (D : GradedMaps (variables ring)) × IsResolvedBasis ring rank basis D
  some_minimal =
      let n = variables ring in
      let d = cancellation_exists ring.modulus.value (lawful ring rank).domain start in
      let m = canonical_cancelled (setting ring n (ring_comparison ring n) rank) (lawful ring rank) ring.weights (replicate rank 0)
      (map degree_of basis) (sums_of n basis) (length-zeros rank) (homogeneous ring rank basis reduced.vectors reduced.positions one)
      (maps_of n (columns_of r)) canonical d.0 d.1 in
      (d.0, record { homogeneous = one; minimal = m.0; presents = m.1 })

  -- what counts every minimal resolution's positions is a table of the basis
  pub table_of_basis :
      (entries : List BettiEntry)
      → ((places : List ℕ) (A : List (FormalSum (variables ring))) (D : GradedMaps (variables ring))
      → Presents ring.weights ring.modulus.value (graded_of ring r) places A → IsMinimal ring.weights ring.modulus.value D
      → Presents ring.weights ring.modulus.value D places A → IsBettiTable (step_count D.positions D.maps) entries)
      → IsTableOfBasis ring rank basis entries
  table_of_basis entries h =
      let d = some_minimal in
      record { resolution = d.0; resolved = d.1; table = h (replicate rank 0) (sums_of (variables ring) basis) d.0 presents_basis d.1.minimal d.1.presents }

  -- a stop of its cancellation, as one of the basis
  pub cancellation_stops :
      {T : Type 0} (left : Result T WorkStop) → IfErr left (CancellationStops ring (graded_of ring r)) → IfErr left (StopsAsMinimal ring rank basis)
  cancellation_stops (Ok s) h = tt
  cancellation_stops (Err Memory) h = tt
  cancellation_stops (Err (Degree t)) h =
      (one, inr (record { maps = columns_of r; canonical = canonical; cancellation = subst (λ C. IsCancellationTrail ring C t) (sym start_is) h }))

-- ---- stops
pub resolution_stops :
    (ring : Ring) (rank m : ℕ) (basis : List Terms) (stop : WorkStop) → m ≡ rank → (IsInhomogeneous basis → ⊥) → ResolutionStops ring m basis stop
    → StopsAsMinimal ring rank basis stop
resolution_stops ring rank m basis Memory e one h = tt
resolution_stops ring rank m basis (Degree t) e one h = (one, inl (subst (λ z. IsResolutionTrail ring z basis t) e h))

-- ---- texts
-- a minimal resolution that is written shows the value's
pub minimal_shown :
    (ring : Ring) (info : NameInfo) (list basis : List Terms) (kept : Bool) (s : Resolved) → IsReducedBasisOf ring info.rank list basis
    → IsCancelledAs ring info.rank basis s
    → IsMinimalText ring (record { name = string_bytes info.name; rank = info.rank; list = list; kept = kept })
    (resolution_written ring (codes "minres") (string_bytes info.name) s.maps.items)
minimal_shown ring info list basis kept s reduced h = record {
  basis = basis;
  reduced = reduced;
  left = h.left;
  cancelled = h.cancelled;
  maps = columns_of s;
  same =
      subst
      (λ z. AreSameMaps ring.modulus.value h.left.maps (graded_by_leads ring.weights z (maps_of (variables ring) (columns_of s))))
      (sym h.positions) h.same;
  vectors = h.vectors;
  text_is =
      ap₂ (λ k rest. heading (codes "minres") (string_bytes info.name) k ++ rest) (sym (length-map s.maps.items (λ (m : Map). m.columns)))
      (written_joined ring 1 s.positions.items s.maps.items h.joined
      ∙ ap (λ z. maps_text ring 1 (length z) (columns_of s)) (sym h.positions));
}
