-- Copies of the columns that leave, and vectors apart from rows
use Rattle.std.specs.Prelude.{None}
use Rattle.std.proofs.Common.{List, [], get_or, length, subst, sym, take, ℕ, ◌++◌, ◌+◌, ◌<◌, ◌∙◌, ◌∷◌, ◌≡◌}
use Rattle.std.proofs.lemmas.List.{get_or_default}
use Rattle.term_lists.proofs.Scaling.{Each_at, Each_more}
use Rattle.term_lists.specs.Rings.{ring_comparison}
use Rattle.term_lists.specs.Vectors.{AreVectorsOver, IsVectorOver}
use Rattle.term_lists.specs.declared.key.Key.{Key as CodeKey}
use Rattle.term_lists.specs.declared.ring.Ring.{Ring}
use Rattle.column_passes.specs.Placing.{ArePlacesAfter, all_removed, place_told}
use Rattle.column_passes.specs.declared.placing.Leaving.{Leaving}
use Rattle.column_passes.proofs.Lists.{all_append, all_map}
use Rattle.minimal_betti.specs.Complementing.{AreGone, IsApart}
use Rattle.minimal_betti.proofs.Stepping.{each_all_removed}

abbrev Terms : Type 0
Terms = List (CodeKey × ℕ)

pub gone_end :
    (indices : List ℕ) (leaving : Leaving) (columns gone new : List Terms) (i : ℕ) (x w : Terms) → ArePlacesAfter indices leaving → i < length columns
    → place_told leaving i ≡ None → w ≡ x → x ≡ get_or columns i x → new ≡ gone ++ w ∷ [] → AreGone indices columns gone → AreGone indices columns new
gone_end indices leaving columns gone new i x w told lt none same is e h =
    subst (AreGone indices columns) (sym e)
    (all_append _ gone (w ∷ []) h ((i, lt, sym (told i) ∙ none, get_or_default columns i [] x lt ∙ sym is ∙ sym same), tt))

-- the next term stands in no row that leaves
pub apart_more :
    (rows : List ℕ) (leaving : Leaving) (items : Terms) (i : ℕ) (t : CodeKey × ℕ) → ArePlacesAfter rows leaving → i < length items → t ≡ get_or items i t
    → (place_told leaving t.0.position ≡ None → ⊥) → IsApart rows (take i items) → IsApart rows (take (i + 1) items)
apart_more rows leaving items i t told lt is stays h = Each_more _ items i t h lt is (λ z. stays (told t.0.position ∙ z))

pub gone_vectors :
    (ring : Ring) (indices : List ℕ) (columns gone : List Terms) → AreGone indices columns gone → AreVectorsOver ring (ring_comparison ring) columns
    → AreVectorsOver ring (ring_comparison ring) gone
gone_vectors ring indices columns gone h vectors =
    all_map _ _ gone (λ (w : Terms) g. subst (λ v. IsVectorOver ring (ring_comparison ring) v) g.3
    (Each_at (λ v. IsVectorOver ring (ring_comparison ring) v) columns g.0 (get_or columns g.0 []) vectors g.1
    (get_or_default columns g.0 [] (get_or columns g.0 []) g.1))) h

pub kept_vectors :
    (ring : Ring) (indices out : List ℕ) (columns kept : List Terms) → kept ≡ all_removed out (all_removed indices columns)
    → AreVectorsOver ring (ring_comparison ring) columns → AreVectorsOver ring (ring_comparison ring) kept
kept_vectors ring indices out columns kept e h =
    subst (λ F. AreVectorsOver ring (ring_comparison ring) F) (sym e) (each_all_removed _ out (all_removed indices columns) (each_all_removed _ indices columns h))
