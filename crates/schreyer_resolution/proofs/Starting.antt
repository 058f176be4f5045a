-- The first map of a resolution, and maps that are split at the last one
use Rattle.std.proofs.Common.{List, Ordering, [], arith, refl, subst, suc, sym, zero, ℕ, ◌<◌, ◌∷◌, ◌≡◌}
use Rattle.formal_sums.specs.FormalSums.{Each, Key}
use Rattle.resolution_laws.specs.Resolutions.{IsCanonicalMap, IsCanonicalStart}
use Rattle.term_lists.specs.Rings.{ring_comparison, setting, variables}
use Rattle.term_lists.specs.Vectors.{AreVectorsOver, HasPositions, sums_of}
use Rattle.term_lists.specs.declared.key.Key.{Key as CodeKey}
use Rattle.term_lists.specs.declared.ring.Ring.{Ring}
use Rattle.resolution_maps.specs.Inducing.{Columns, Tower, over, tower_comparison}
use Rattle.induced_leads.specs.PairLeads.{IsBase}
use Rattle.schreyer_resolution.specs.Columns.{AreColumnsTo}
use Rattle.schreyer_resolution.specs.Progress.{AreResolvedTo, IsTopMap}

abbrev Terms : Type 0
Terms = List (CodeKey × ℕ)

-- no column as yet
pub columns_none :
    (ring : Ring) (compare : (n : ℕ) → Key n → Key n → Ordering) (cols : List Terms) (t : Tower) (keys : List CodeKey)
    → AreColumnsTo ring compare cols t keys 0 []
columns_none ring compare cols t keys = record {
  count = refl;
  vectors = tt;
  ranked = tt;
  each = λ c key lt e. absurd (omega (arith, lt));
}

-- the zero module has no map
pub start_none :
    (ring : Ring) (rank : ℕ) (reduced : List Terms) (count : ℕ) → reduced ≡ []
    → IsCanonicalStart (setting ring (variables ring) (ring_comparison ring (variables ring)) rank) (sums_of (variables ring) reduced) count []
start_none ring rank reduced zero e = refl
start_none ring rank reduced (suc count) e =
    subst (λ z. IsCanonicalStart (setting ring (variables ring) (ring_comparison ring (variables ring)) rank) (sums_of (variables ring) z) (suc count) []) (sym e)
    (λ i lt. let none : i < 0 = lt in absurd (omega (arith, none)))

-- the first map
pub resolved_start :
    (ring : Ring) (rank : ℕ) (reduced F : List Terms) → IsTopMap ring [] F → Each (HasPositions rank) F
    → IsCanonicalMap (setting ring (variables ring) (ring_comparison ring (variables ring)) rank) (sums_of (variables ring) reduced) (sums_of (variables ring) F)
    → AreResolvedTo ring rank reduced (F ∷ [])
resolved_start ring rank reduced F top positions canonical = record {
  below = [];
  last = F;
  split = refl;
  top = top;
  vectors = (top.vectors, tt);
  positions = (positions, tt);
  first = (canonical, refl);
}

-- the last map over the order that the ones below it induce
pub vectors_at :
    (ring : Ring) (below : Columns) (cols : List Terms) (f : Tower) → f ≡ over ring below → IsTopMap ring below cols
    → AreVectorsOver f.ring (tower_comparison f) cols
vectors_at ring below cols f e top = subst (λ (x : Tower). AreVectorsOver x.ring (tower_comparison x) cols) (sym e) top.vectors

pub base_at :
    (ring : Ring) (below : Columns) (cols : List Terms) (f : Tower) → f ≡ over ring below → IsTopMap ring below cols
    → IsBase f.ring (tower_comparison f) cols
base_at ring below cols f e top = subst (λ (x : Tower). IsBase x.ring (tower_comparison x) cols) (sym e) top.base
