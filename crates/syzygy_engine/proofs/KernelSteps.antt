-- The kernel, one member of the basis after another
use Rattle.std.proofs.Common.{List, [], ap, cond, map, subst, sym, true, ℕ, ◌++◌, ◌∙◌, ◌∷◌, ◌≡◌}
use Rattle.std.proofs.lemmas.List.{append_assoc, map-append}
use Rattle.std.proofs.lemmas.List.Elements.{filter-append}
use Rattle.division_laws.specs.Elimination.{is_from_position}
use Rattle.formal_sums.specs.FormalSums.{FormalSum}
use Rattle.term_lists.specs.Rings.{ring_comparison, variables}
use Rattle.term_lists.specs.Vectors.{AreVectorsOver, sum_of, sums_of}
use Rattle.term_lists.specs.declared.ring.Ring.{Ring}
use Rattle.syzygy_engine.specs.Marking.{StandOneByOne}
use Rattle.syzygy_engine.proofs.Standing.{Terms}
use Rattle.syzygy_laws.specs.Kernels.{all_kept, kept_list, kernel_of, lowered}

kernel_next : {n : ℕ} (q : ℕ) (G : List (FormalSum n)) (g : FormalSum n) → kernel_of q (G ++ g ∷ []) ≡ kernel_of q G ++ map (lowered q) (cond (all_kept (is_from_position q) g) (g ∷ []) [])
kernel_next q G g = ap (map (lowered q)) (filter-append (all_kept (is_from_position q)) G (g ∷ [])) ∙ map-append (lowered q) (kept_list (is_from_position q) G) _

pub kernel_kept : {n : ℕ} (q : ℕ) (G : List (FormalSum n)) (g : FormalSum n) → all_kept (is_from_position q) g ≡ true → kernel_of q (G ++ g ∷ []) ≡ kernel_of q G ++ lowered q g ∷ []
kernel_kept q G g e = kernel_next q G g ∙ ap (λ b. kernel_of q G ++ map (lowered q) (cond b (g ∷ []) [])) e

-- ---- the loop
-- the kernel is that of the first members of the basis, and these are left
pub record IsShownTo (ring : Ring) (q : ℕ) (basis kernel left : List Terms) : Type 0 where
  pub done : List Terms
  pub whole : basis ≡ done ++ left
  pub vectors : AreVectorsOver ring (ring_comparison ring) kernel
  pub stand : StandOneByOne ring kernel (kernel_of q (sums_of (variables ring) done))

pub one_more_shown :
    (ring : Ring) (q : ℕ) (basis kernel new left : List Terms) (v : Terms) (rest : List Terms)
    → (h : IsShownTo ring q basis kernel left) → left ≡ v ∷ rest → AreVectorsOver ring (ring_comparison ring) new
    → StandOneByOne ring new (kernel_of q (sums_of (variables ring) h.done ++ sum_of (variables ring) v ∷ []))
    → IsShownTo ring q basis new rest
one_more_shown ring q basis kernel new left v rest h e vectors stand = record {
  done = h.done ++ v ∷ [];
  whole = h.whole ∙ ap (λ z. h.done ++ z) e ∙ sym (append_assoc h.done (v ∷ []) rest);
  vectors = vectors;
  stand = subst (λ G. StandOneByOne ring new (kernel_of q G)) (sym (map-append (λ u. sum_of (variables ring) u) h.done (v ∷ []))) stand;
}
