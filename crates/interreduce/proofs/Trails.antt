-- A trail of the division of a tail is one of the division of the whole vector
use Rattle.std.proofs.Common.{List, [], drop, inl, inr, subst, sym, ℕ, ◌++◌, ◌∷◌, ◌≡◌}
use Rattle.formal_sums.specs.FormalSums.{FormalSum, Key}
use Rattle.term_lists.specs.Rings.{variables}
use Rattle.term_lists.specs.Vectors.{sum_of}
use Rattle.term_lists.specs.declared.ring.Ring.{Ring}
use Rattle.module_vectors.specs.Trails.{AreMet, IsStart, HasKey, IsMet, IsTrail, KeptProduct, kept_product_lead}
use Rattle.module_vectors.specs.declared.trail.KeptTrail.{KeptTrail}
use Rattle.module_vectors.specs.declared.trail.TrailStart.{TrailStart}
use Rattle.module_vectors.specs.declared.trail.TrailStart.TheVariants as starts
use Rattle.vector_division.proofs.Occurring.{Contains_later}
use Rattle.vector_division.specs.Divisions.{IsDivisionTrail}
use Rattle.interreduce.proofs.Leading.{Terms}

tail_key : (n : ℕ) (v : Terms) (k : Key n) → HasKey (sum_of n (drop 1 v)) k → HasKey (sum_of n v) k
tail_key n [] k h = h
tail_key n (t ∷ v) k h = Contains_later _ k _ h

module _ (n : ℕ) (v w : FormalSum n) (list : List Terms) (more : (k : Key n) → HasKey v k → HasKey w k) where
  met_more : (earlier : List KeptProduct) (k : Key n) → IsMet n v list earlier k → IsMet n w list earlier k
  met_more earlier k (inl h) = inl (more k h)
  met_more earlier k (inr s) = inr s

  steps_met_more : (earlier products : List KeptProduct) → AreMet n v list earlier products → AreMet n w list earlier products
  steps_met_more earlier [] h = tt
  steps_met_more earlier (s ∷ products) h = (met_more earlier (kept_product_lead n list s) h.0, steps_met_more (earlier ++ s ∷ []) products h.1)

begins_more :
    (n : ℕ) (start : TrailStart) (u v x : Terms) (list : List Terms) (first : KeptProduct) (later : List KeptProduct)
    → start ≡ starts.Term → u ≡ drop 1 v → x ≡ v → IsStart n start u list first later → IsStart n start x list first later
begins_more n start u v x list first later s e f h =
    let b : HasKey (sum_of n u) (kept_product_lead n list first) = subst (λ z. IsStart n z u list first later) s h in
    let c : HasKey (sum_of n x) (kept_product_lead n list first) = subst (λ z. HasKey (sum_of n z) (kept_product_lead n list first)) (sym f) (tail_key n v _ (subst (λ z. HasKey (sum_of n z) (kept_product_lead n list first)) e b)) in
    subst (λ z. IsStart n z x list first later) (sym s) c

pub widened :
    (ring : Ring) (list : List Terms) (v x : Terms) (t : KeptTrail)
    → IsDivisionTrail ring (drop 1 v) list t → x ≡ v → IsDivisionTrail ring v list (record t { vector = x })
widened ring list v x t h e = record {
  trail = wider h.trail;
  over = h.over;
  rank = h.rank;
  generators = h.generators;
  below = h.below;
  start = h.start;
  vector = e;
  members = h.members;
}
  where
    wider : IsTrail t → IsTrail (record t { vector = x })
    wider (first, later, c) = (
      first,
      later,
      record {
        products = c.products;
        known = c.known;
        variables = c.variables;
        begins = begins_more (variables t.ring) t.start t.vector v x t.members first later h.start h.vector e c.begins;
        met =
            steps_met_more (variables t.ring) (sum_of (variables t.ring) t.vector) (sum_of (variables t.ring) x) t.members
            (λ k q. subst (λ z. HasKey (sum_of (variables t.ring) z) k) (sym e) (tail_key (variables t.ring) v k (subst (λ z. HasKey (sum_of (variables t.ring) z) k) h.vector q))) (first ∷ []) later c.met;
        last = c.last;
        last_variables = c.last_variables;
        too_great = c.too_great;
      },
    )
