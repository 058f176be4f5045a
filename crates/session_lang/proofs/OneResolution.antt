-- The resolution of a value has one text
use Rattle.std.proofs.Common.{List, [], ap, ap₂, arith, get_or, length, refl, subst, subst₂, sym, ℕ, ◌+◌, ◌<◌, ◌++◌, ◌∙◌, ◌∷◌, ◌≡◌}
use Rattle.std.specs.declared.cmp.Ordering.{Ordering}
use Rattle.std.specs.Prelude.{codes}
use Rattle.formal_sums.proofs.OfRank.{IsOfRank_of}
use Rattle.formal_sums.specs.FormalSums.{HasRank, IsOfRank, Key as FormalKey}
use Rattle.bases.specs.Settings.{Setting}
use Rattle.term_lists.proofs.NormalVectors.{one_terms}
use Rattle.term_lists.specs.Rings.{ring_comparison, setting, variables}
use Rattle.term_lists.specs.Vectors.{AreVectorsOver, sums_of}
use Rattle.term_lists.specs.declared.key.Key.{Key}
use Rattle.term_lists.specs.declared.ring.Ring.{Ring}
use Rattle.operation_laws.proofs.Linear.{Each_at}
use Rattle.resolution_laws.proofs.OneResolution.{start_unique}
use Rattle.resolution_laws.proofs.Starts.{start_whole}
use Rattle.resolution_laws.specs.Resolutions.{IsCanonical, IsCanonicalStart}
use Rattle.groebner_iface.specs.Runs.{IsReducedBasisOf}
use Rattle.script_parse.proofs.Working.{lawful}
use Rattle.syzygy_engine.proofs.Standing.{ranks_of_positions}
use Rattle.resolution_maps.specs.Inducing.{Columns, maps_of, over, tower_comparison}
use Rattle.resolution_maps.specs.Resolved.{AreVectorsThrough}
use Rattle.session_values.specs.Names.{HasValue, ScriptState, Value}
use Rattle.session_values.specs.Resolving.{IsResolutionText, maps_text}
use Rattle.session_values.specs.Texts.{heading}
use Rattle.session_lang.proofs.OneAnswer.{one_ring, one_value}
use Rattle.session_lang.proofs.OneForm.{one_reduced}
use Rattle.session_lang.specs.Lines.{Resolves}

-- vectors with the same formal sums are one list, in whatever order each has its terms
columns_once :
    (ring : Ring) (left_order right_order : (n : ℕ) → FormalKey n → FormalKey n → Ordering) (left right : List (List (Key × ℕ)))
    → AreVectorsOver ring left_order left → AreVectorsOver ring right_order right
    → sums_of (variables ring) left ≡ sums_of (variables ring) right → left ≡ right
columns_once ring left_order right_order [] [] g h e = refl
columns_once ring left_order right_order [] (w ∷ right) g h e = absurd cc
columns_once ring left_order right_order (v ∷ left) [] g h e = absurd cc
columns_once ring left_order right_order (v ∷ left) (w ∷ right) g h e =
    ap₂ (λ x l. x ∷ l) (one_terms (variables ring) ring.weights ring.modulus.value v w g.0.each h.0.each (head e))
    (columns_once ring left_order right_order left right g.1 h.1 (tail e))
  where
    head : {X : Type 0} {x y : X} {xs ys : List X} → x ∷ xs ≡ y ∷ ys → x ≡ y
    head e = cc

    tail : {X : Type 0} {x y : X} {xs ys : List X} → x ∷ xs ≡ y ∷ ys → xs ≡ ys
    tail e = cc

maps_once :
    (ring : Ring) (below other maps others : Columns) → AreVectorsThrough ring below maps → AreVectorsThrough ring other others
    → maps_of (variables ring) maps ≡ maps_of (variables ring) others → maps ≡ others
maps_once ring below other [] [] g h e = refl
maps_once ring below other [] (H ∷ others) g h e = absurd cc
maps_once ring below other (F ∷ maps) [] g h e = absurd cc
maps_once ring below other (F ∷ maps) (H ∷ others) g h e =
    ap₂ (λ x l. x ∷ l) (columns_once ring (tower_comparison (over ring below)) (tower_comparison (over ring other)) F H g.0 h.0 (head e))
    (maps_once ring (below ++ F ∷ []) (other ++ H ∷ []) maps others g.1 h.1 (tail e))
  where
    head : {X : Type 0} {x y : X} {xs ys : List X} → x ∷ xs ≡ y ∷ ys → x ≡ y
    head e = cc

    tail : {X : Type 0} {x y : X} {xs ys : List X} → x ∷ xs ≡ y ∷ ys → xs ≡ ys
    tail e = cc

-- the vectors of a reduced basis have the rank
ranks_of_basis :
    (ring : Ring) (rank : ℕ) (list basis : List (List (Key × ℕ))) → IsReducedBasisOf ring rank list basis
    → (i : ℕ) → i < length (sums_of (variables ring) basis) → IsOfRank ring.modulus.value rank (get_or (sums_of (variables ring) basis) i [])
ranks_of_basis ring rank list basis reduced i lt =
    IsOfRank_of ring.modulus.value rank (get_or (sums_of (variables ring) basis) i [])
    (Each_at (HasRank rank) [] (sums_of (variables ring) basis) (ranks_of_positions (variables ring) rank basis reduced.positions) i lt)

-- and it has one start of so many maps
pub started_once :
    (ring : Ring) (rank : ℕ) (list basis other : List (List (Key × ℕ))) (count : ℕ) (maps others : Columns) → IsReducedBasisOf ring rank list basis
    → IsReducedBasisOf ring rank list other
    → IsCanonicalStart (setting ring (variables ring) (ring_comparison ring (variables ring)) rank) (sums_of (variables ring) basis) count (maps_of (variables ring) maps)
    → IsCanonicalStart (setting ring (variables ring) (ring_comparison ring (variables ring)) rank) (sums_of (variables ring) other) count (maps_of (variables ring) others)
    → AreVectorsThrough ring [] maps → AreVectorsThrough ring [] others → maps ≡ others
started_once ring rank list basis other count maps others reduced reduced' start start' vectors vectors' =
    let S = setting ring (variables ring) (ring_comparison ring (variables ring)) rank in
    maps_once ring [] [] maps others vectors vectors'
    (start_unique S (lawful ring rank) (sums_of (variables ring) basis) (ranks_of_basis ring rank list basis reduced) count (maps_of (variables ring) maps)
    (maps_of (variables ring) others) start
    (subst (λ B. IsCanonicalStart S (sums_of (variables ring) B) count (maps_of (variables ring) others)) (one_reduced ring rank list other basis reduced' reduced) start'))

-- so it has one canonical resolution
pub resolved_once :
    (ring : Ring) (rank : ℕ) (list basis other : List (List (Key × ℕ))) (maps others : Columns) → IsReducedBasisOf ring rank list basis
    → IsReducedBasisOf ring rank list other
    → IsCanonical (setting ring (variables ring) (ring_comparison ring (variables ring)) rank) (sums_of (variables ring) basis) (maps_of (variables ring) maps)
    → IsCanonical (setting ring (variables ring) (ring_comparison ring (variables ring)) rank) (sums_of (variables ring) other) (maps_of (variables ring) others)
    → AreVectorsThrough ring [] maps → AreVectorsThrough ring [] others → maps ≡ others
resolved_once ring rank list basis other maps others reduced reduced' canonical canonical' vectors vectors' =
    let n = variables ring in
    let S = setting ring n (ring_comparison ring n) rank in
    let count = length (maps_of n maps) + length (maps_of n others) in
    started_once ring rank list basis other count maps others reduced reduced'
    (start_whole S (sums_of n basis) count (maps_of n maps) canonical (omega arith))
    (start_whole S (sums_of n other) count (maps_of n others) canonical' (omega arith)) vectors vectors'

module _ (ring : Ring) (value : Value) (x y : List ℕ) (g : IsResolutionText ring value x) (h : IsResolutionText ring value y) where
  maps_same : g.maps ≡ h.maps
  maps_same =
      resolved_once ring value.rank value.list g.basis h.basis g.maps h.maps g.reduced h.reduced g.canonical h.canonical g.vectors h.vectors

  text_once : x ≡ y
  text_once =
      g.text_is ∙ ap (λ M. heading (codes "res") value.name (length M) ++ maps_text ring 1 value.rank M) maps_same ∙ sym h.text_is

pub resolves_once : (before : ScriptState) (m n : List ℕ) (x y : List ℕ) → m ≡ n → Resolves before m x → Resolves before n y → x ≡ y
resolves_once before m n x y e g h =
    let there : HasValue before m h.0 h.1 = subst (λ z. HasValue before z h.0 h.1) (sym e) h.2 in
    text_once g.0 g.1 x y g.3
    (subst₂ (λ r u. IsResolutionText r u y) (sym (one_ring before m m g.0 h.0 g.1 h.1 g.2 there)) (sym (one_value before m g.0 h.0 g.1 h.1 g.2 there)) h.3)
