-- The products of a division of a row up to one of too great a degree
use Rattle.std.proofs.Common.{List, [], ap, get_or, length, subst, subst₂, ℕ, ◌<◌, ◌∙◌, ◌∷◌, ◌≡◌}
use Rattle.std.proofs.lemmas.List.{length-map}
use Rattle.formal_sums.specs.FormalSums.{Each}
use Rattle.monomial_orders.specs.Kept.{IsWeighed}
use Rattle.term_lists.specs.Rings.{variables}
use Rattle.term_lists.specs.Stops.{HasMonomial}
use Rattle.term_lists.specs.Vectors.{sum_of}
use Rattle.term_lists.specs.declared.key.Key.{Key as CodeKey}
use Rattle.term_lists.specs.declared.ring.Ring.{Ring}
use Rattle.module_vectors.specs.Trails.{AreMet, HasKey, IsChain, IsStart, KeptProduct, kept_product_lead, last_product}
use Rattle.module_vectors.specs.declared.trail.KeptTrail.{KeptTrail}
use Rattle.module_vectors.specs.declared.trail.TrailStart.{TrailStart}
use Rattle.module_vectors.specs.declared.trail.WorkStop.{WorkStop}
use Rattle.module_vectors.specs.declared.trail.WorkStop.TheVariants.{Degree}
use Rattle.vector_division.specs.Divisions.{DivisionStops, IsDivisionTrail}
use Rattle.basis_core.specs.Members.{MemberShown}
use Rattle.basis_core.specs.Rows.{IsRowTrail, vectors_in}

-- a trail of the division of the row's vector
module _ (ring : Ring) (ms : List MemberShown) (v : List (CodeKey × ℕ)) (t : KeptTrail) where
  chain_trail :
      IsDivisionTrail ring v (vectors_in ms) t → (first : KeptProduct) (later : List KeptProduct)
      → IsChain (variables ring) t first later → IsRowTrail (variables ring) ring.weights ms v t.products.items t.last
  chain_trail d first later c = record {
    first = first;
    later = later;
    products = c.products;
    known = subst (λ (k : ℕ). Each (λ s. s.0 < k) (first ∷ later)) (ap length d.members ∙ length-map ms (λ m. m.vector)) c.known;
    weighed = subst (λ (r : Ring). Each (λ s. IsWeighed (variables ring) r.weights s.1) (first ∷ later)) d.over c.variables;
    begins = subst₂ (λ (u : List (CodeKey × ℕ)) (m : List (List (CodeKey × ℕ))). HasKey (sum_of (variables ring) u) (kept_product_lead (variables ring) m first)) d.vector d.members
        (subst (λ (s : TrailStart). IsStart (variables ring) s t.vector t.members first later) d.start c.begins);
    met = subst₂ (λ (u : List (CodeKey × ℕ)) (m : List (List (CodeKey × ℕ))). AreMet (variables ring) (sum_of (variables ring) u) m
        (first ∷ []) later) d.vector d.members c.met;
    monomial = subst (λ (m : List (List (CodeKey × ℕ))). HasMonomial (get_or m (last_product first later).0 []) t.last) d.members c.last;
    too_great = c.too_great;
  }

  pub vector_trail :
      (stop : WorkStop)
      → stop ≡ Degree t → DivisionStops ring v (vectors_in ms) stop
      → IsRowTrail (variables ring) ring.weights ms v t.products.items t.last
  vector_trail stop e h = go (subst (DivisionStops ring v (vectors_in ms)) e h)
    where
      go : IsDivisionTrail ring v (vectors_in ms) t → IsRowTrail (variables ring) ring.weights ms v t.products.items t.last
      go d = chain_trail d d.trail.0 d.trail.1 (subst (λ (r : Ring). IsChain (variables r) t d.trail.0 d.trail.1) d.over d.trail.2)
