-- Ext modules of a value, against the ring (UAG chapter 6, section 1; Eisenbud, Commutative Algebra, appendix A3.11)
use Rattle.std.specs.Fmt.{decimal}
use Rattle.std.specs.Prelude.{List, [], codes, length, suc, ℕ, ◌++◌, ◌∷◌, ◌≡◌}
use Rattle.term_lists.specs.Rings.{ring_comparison, setting, variables}
use Rattle.term_lists.specs.Vectors.{sums_of}
use Rattle.term_lists.specs.declared.key.Key.{Key}
use Rattle.term_lists.specs.declared.ring.Ring.{Ring}
use Rattle.groebner_iface.specs.Runs.{IsReducedBasisOf}
use Rattle.syzygy_engine.specs.Runs.{OfRuns}
use Rattle.resolution_laws.specs.Resolutions.{IsCanonicalStart}
use Rattle.resolution_maps.specs.Inducing.{Columns, maps_of}
use Rattle.resolution_maps.specs.Resolved.{AreVectorsThrough}
use Rattle.ext_laws.specs.Transposes.{rank_at}
use Rattle.ext_modules.specs.Ext.{AreExtRuns, IsExt}
use Rattle.ext_modules.specs.declared.presentation.Ext.{Ext}
use Rattle.session_values.specs.Names.{Value}
use Rattle.session_values.specs.Resolving.{columns_text, counts_text}
use Rattle.session_values.specs.Texts.{verdict}

-- these are the maps that the Ext module at a step reads, the first step + 1 of the canonical resolution of a reduced basis of
-- this rank, or all where it has fewer, the columns by descending terms
pub record AreMapsTo (ring : Ring) (rank : ℕ) (basis : List (List (Key × ℕ))) (step : ℕ) (maps : Columns) : Type 0 where
  pub start :
      let n = variables ring in
      IsCanonicalStart (setting ring n (ring_comparison ring n) rank) (sums_of n basis) (suc step) (maps_of n maps)
  pub vectors : AreVectorsThrough ring [] maps

-- the line before a presentation: the name, the step, how many generators and how many relations there are
abbrev pub ext_line : List ℕ → (step generators relations : ℕ) → List ℕ
ext_line name step generators relations = codes "ext " ++ (name ++ 32 ∷ (decimal step ++ 32 ∷ counts_text generators relations))

-- a presentation of the module at a step of this rank: its generators, then their relations, then whether the module is zero
abbrev pub ext_text : Ring → List ℕ → (step rank : ℕ) → Ext → List ℕ
ext_text ring name step rank answer =
    ext_line name step (length answer.kernel) (length answer.relations)
    ++ (columns_text ring rank answer.kernel ++ (columns_text ring (length answer.kernel) answer.relations ++ (codes "zero " ++ verdict answer.zero)))

-- the text has the Ext module at this step of the value's canonical resolution
pub record IsExtText (ring : Ring) (value : Value) (step : ℕ) (text : List ℕ) : Type 0 where
  pub basis : List (List (Key × ℕ))
  pub reduced : IsReducedBasisOf ring value.rank value.list basis
  pub maps : Columns
  pub resolution : AreMapsTo ring value.rank basis step maps
  pub answer : Ext
  pub ext : IsExt ring value.rank maps step answer
  pub text_is : text ≡ ext_text ring value.name step (rank_at value.rank maps step) answer

-- a run for the Ext module at a step of the resolution of a reduced basis
abbrev pub IsExtRun : Ring → ℕ → List (List (Key × ℕ)) → ℕ → OfRuns
IsExtRun ring rank basis step over m l = (maps : Columns) × AreMapsTo ring rank basis step maps × AreExtRuns ring rank maps step over m l

-- the same of the value's reduced basis
abbrev pub IsExtendingRun : Ring → Value → ℕ → OfRuns
IsExtendingRun ring value step over m l =
    (G : List (List (Key × ℕ))) × IsReducedBasisOf ring value.rank value.list G × IsExtRun ring value.rank G step over m l
