-- Minimal resolutions, Betti numbers and the regularity of a value (UAG chapter 6, section 3; Eisenbud, The Geometry of Syzygies, section 4A)
use Rattle.std.specs.Fmt.{decimal, signed_decimal}
use Rattle.std.specs.Prelude.{Contains, List, [], codes, flat_map, length, negsuc, pos, replicate, ℕ, ℤ, ◌++◌, ◌∷◌, ◌≡◌, ◌⊎◌}
use Rattle.formal_sums.specs.FormalSums.{Each}
use Rattle.term_lists.specs.Rings.{ring_comparison, setting, variables}
use Rattle.term_lists.specs.Vectors.{AreVectorsOver, sums_of}
use Rattle.term_lists.specs.declared.key.Key.{Key}
use Rattle.term_lists.specs.declared.ring.Ring.{Ring}
use Rattle.module_vectors.specs.declared.trail.KeptTrail.{KeptTrail}
use Rattle.groebner_iface.specs.Runs.{IsReducedBasisOf}
use Rattle.resolution_laws.specs.Resolutions.{IsCanonical}
use Rattle.minimal_laws.specs.Cancellation.{AreSameMaps, IsCancelled}
use Rattle.minimal_laws.specs.Gradings.{GradedMaps, graded_by_leads}
use Rattle.minimal_laws.specs.Minimal.{IsMinimal, Presents}
use Rattle.betti_laws.specs.Tables.{step_count}
use Rattle.script_parse.specs.declared.kind.Kind.{Kind}
use Rattle.script_parse.specs.declared.kind.Kind.TheVariants as kinds
use Rattle.resolution_maps.specs.Inducing.{Columns, maps_of}
use Rattle.resolution_maps.specs.Resolved.{IsResolutionTrail}
use Rattle.minimal_betti.specs.Minimising.{IsCancellationTrail}
use Rattle.minimal_betti.specs.Tables.{IsLastStep, IsNone, IsRegularity, IsBettiTable}
use Rattle.minimal_betti.specs.declared.tables.BettiEntry.{BettiEntry}
use Rattle.session_values.specs.Names.{Value}
use Rattle.session_values.specs.Resolving.{maps_text}
use Rattle.session_values.specs.Texts.{heading}

-- the vector has terms of two degrees
abbrev pub HasTwoDegrees : List (Key × ℕ) → Type 0
HasTwoDegrees v = (s t : Key × ℕ) × Contains v s × Contains v t × (s.0.monomial.degree ≡ t.0.monomial.degree → ⊥)

-- a vector of the list has
abbrev pub IsInhomogeneous : List (List (Key × ℕ)) → Type 0
IsInhomogeneous G = (v : List (Key × ℕ)) × Contains G v × HasTwoDegrees v

-- the maps of a resolution with positions at degree 0, each column with the degree of its lead
abbrev pub graded_from_zero : (ring : Ring) → ℕ → Columns → GradedMaps (variables ring)
graded_from_zero ring rank maps = record {
  positions = replicate rank 0;
  maps = graded_by_leads ring.weights (replicate rank 0) (maps_of (variables ring) maps);
}

-- a basis with positions at degree 0 is homogeneous, and these are its canonical resolution, with the degrees of the leads, and what
-- is left of that when its constants have gone
pub record IsCancelledBasis (ring : Ring) (rank : ℕ) (basis : List (List (Key × ℕ))) (left : GradedMaps (variables ring)) : Type 0 where
  pub homogeneous : IsInhomogeneous basis → ⊥
  pub maps : Columns
  pub canonical :
      let n = variables ring in
      IsCanonical (setting ring n (ring_comparison ring n) rank) (sums_of n basis) (maps_of n maps)
  pub cancelled : IsCancelled ring.modulus.value (graded_from_zero ring rank maps) left

-- the text has the maps that are left of the canonical resolution of the value's reduced basis, each in the ring's own order
pub record IsMinimalText (ring : Ring) (value : Value) (text : List ℕ) : Type 0 where
  pub basis : List (List (Key × ℕ))
  pub reduced : IsReducedBasisOf ring value.rank value.list basis
  pub left : GradedMaps (variables ring)
  pub cancelled : IsCancelledBasis ring value.rank basis left
  pub maps : Columns
  pub same :
      let n = variables ring in
      AreSameMaps ring.modulus.value left.maps (graded_by_leads ring.weights left.positions (maps_of n maps))
  pub vectors : Each (λ F. AreVectorsOver ring (ring_comparison ring) F) maps
  pub text_is : text ≡ heading (codes "minres") value.name (length maps) ++ maps_text ring 1 (length left.positions) maps

-- a homogeneous basis has a minimal resolution by these maps, with its positions at degree 0
pub record IsResolvedBasis (ring : Ring) (rank : ℕ) (basis : List (List (Key × ℕ))) (C : GradedMaps (variables ring)) : Type 0 where
  pub homogeneous : IsInhomogeneous basis → ⊥
  pub minimal : IsMinimal ring.weights ring.modulus.value C
  pub presents : Presents ring.weights ring.modulus.value C (replicate rank 0) (sums_of (variables ring) basis)

-- an entry of a table on its line
abbrev pub entry_line : BettiEntry → List ℕ
entry_line e = decimal e.step ++ 32 ∷ (decimal e.degree ++ 32 ∷ (decimal e.count ++ 10 ∷ []))

-- a table
abbrev pub table_text : List BettiEntry → List ℕ
table_text entries = flat_map entry_line entries

-- the text is the table of a minimal resolution of the value's reduced basis: each such resolution has that table
pub record IsBettiText (ring : Ring) (value : Value) (text : List ℕ) : Type 0 where
  pub basis : List (List (Key × ℕ))
  pub reduced : IsReducedBasisOf ring value.rank value.list basis
  pub resolution : GradedMaps (variables ring)
  pub resolved : IsResolvedBasis ring value.rank basis resolution
  pub entries : List BettiEntry
  pub table : IsBettiTable (step_count resolution.positions resolution.maps) entries
  pub text_is : text ≡ table_text entries

-- the name, the projective dimension and the regularity
abbrev pub regularity_text : List ℕ → (dimension regularity : ℤ) → List ℕ
regularity_text name dimension regularity = codes "reg " ++ (name ++ 32 ∷ (signed_decimal dimension ++ 32 ∷ (signed_decimal regularity ++ 10 ∷ [])))

-- dimension and regularity of these counts: the greatest step, and the greatest degree less step; -1 and 0 where there is no count
abbrev pub AreInvariants : (ℕ → ℕ → ℕ) → (dimension regularity : ℤ) → Type 0
AreInvariants counts dimension regularity =
    (IsNone counts × (dimension ≡ negsuc 0) × (regularity ≡ pos 0))
    ⊎ ((s : ℕ) × (dimension ≡ pos s) × IsLastStep counts s × IsRegularity counts regularity)

-- the text has the invariants of a minimal resolution of the value's reduced basis
pub record IsRegularityText (ring : Ring) (value : Value) (text : List ℕ) : Type 0 where
  pub basis : List (List (Key × ℕ))
  pub reduced : IsReducedBasisOf ring value.rank value.list basis
  pub resolution : GradedMaps (variables ring)
  pub resolved : IsResolvedBasis ring value.rank basis resolution
  pub dimension : ℤ
  pub regularity : ℤ
  pub invariants : AreInvariants (step_count resolution.positions resolution.maps) dimension regularity
  pub text_is : text ≡ regularity_text value.name dimension regularity

-- a minimal resolution is refused for this kind: a member of the reduced basis has terms of two degrees
abbrev pub RefusesMinimal : Ring → Value → Kind → Type 0
RefusesMinimal ring value kinds.Homogeneous =
    (G : List (List (Key × ℕ))) × IsReducedBasisOf ring value.rank value.list G × IsInhomogeneous G
RefusesMinimal ring value _ = ⊥

-- a trail of the cancellation of this basis's canonical resolution
pub record IsCancellingTrail (ring : Ring) (rank : ℕ) (basis : List (List (Key × ℕ))) (t : KeptTrail) : Type 0 where
  pub maps : Columns
  pub canonical :
      let n = variables ring in
      IsCanonical (setting ring n (ring_comparison ring n) rank) (sums_of n basis) (maps_of n maps)
  pub cancellation : IsCancellationTrail ring (graded_from_zero ring rank maps) t

-- a trail that a minimal resolution meets: this basis is homogeneous, and the trail is one of its resolution or of the cancellation
abbrev pub IsMinimalTrail : Ring → ℕ → List (List (Key × ℕ)) → KeptTrail → Type 0
IsMinimalTrail ring rank basis t = (IsInhomogeneous basis → ⊥) × (IsResolutionTrail ring rank basis t ⊎ IsCancellingTrail ring rank basis t)
