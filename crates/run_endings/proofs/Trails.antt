-- Copies of trails are trails of the same run
use Rattle.std.proofs.Common.{List, Some, [], ap, subst, sym, ℕ, ◌∙◌, ◌∷◌, ◌≡◌}
use Rattle.term_lists.specs.Rings.{ring_comparison}
use Rattle.term_lists.specs.Vectors.{AreVectorsOver, sums_of}
use Rattle.module_vectors.specs.Trails.{IsTrail as IsKeptTrail, KeptProduct, last_product, no_product}
use Rattle.module_vectors.specs.declared.trail.KeptTrail.{KeptTrail}
use Rattle.basis_steps.specs.States.{vectors}
use Rattle.basis_steps.specs.Invariant.{HoldsInvariant}
use Rattle.basis_steps.specs.Trails.{IsHistoryTrail}
use Rattle.basis_core.specs.declared.stop.StopReason.TheVariants as reasons
use Rattle.basis_core.specs.Answers.{IsRunTrail}
use Rattle.basis_core.specs.Inside.{IsStopOver}
use Rattle.basis_core.specs.Outcomes.{indexed_product_of, indexed_products_of}
use Rattle.basis_core.specs.Shown.{Shown}
use Rattle.basis_core.specs.Stops.{earlier_products, start_pair, stop_of, trail_of, trail_over}
use Rattle.basis_core.specs.Views.{run_of, state_of, variables_of}
use Rattle.monomials.specs.Exponents.{exponents_of}
use Rattle.run_endings.specs.Copies.{IsSameTrail}
use Rattle.run_endings.specs.Endings.{IsDegreeStop}

module _ (t u : KeptTrail) (same : IsSameTrail t u) where
  trail_over_same : (n : ℕ) (products : List KeptProduct) → trail_over n u products ≡ trail_over n t products
  trail_over_same n [] = λ i. record {
    members = sums_of n (same.members i);
    start = start_pair (same.start i);
    earlier = [];
    last = indexed_product_of n no_product;
    monomial = exponents_of n (same.last i).exponents;
  }
  trail_over_same n (first ∷ later) = λ i. record {
    members = sums_of n (same.members i);
    start = start_pair (same.start i);
    earlier = indexed_products_of n (earlier_products first later);
    last = indexed_product_of n (last_product first later);
    monomial = exponents_of n (same.last i).exponents;
  }

  trail_of_same : (n : ℕ) → trail_of n u ≡ trail_of n t
  trail_of_same n = ap (trail_over n u) same.products ∙ trail_over_same n t.products.items

  -- all but the memory of the lists
  same_but_lists : t ≡ record u { below = t.below; products = t.products }
  same_but_lists = sym (λ i. record {
    ring = same.ring i;
    rank = same.rank i;
    generators = same.generators i;
    below = t.below;
    start = same.start i;
    vector = same.vector i;
    members = same.members i;
    products = t.products;
    last = same.last i;
  })

  kept_same : IsKeptTrail t → IsKeptTrail u
  kept_same h = go (subst IsKeptTrail same_but_lists h)
    where
      go : IsKeptTrail (record u { below = t.below; products = t.products }) → IsKeptTrail u
      go (first, later, c) = (
        first,
        later,
        record {
          products = same.products ∙ c.products;
          known = c.known;
          variables = c.variables;
          begins = c.begins;
          met = c.met;
          last = c.last;
          last_variables = c.last_variables;
          too_great = c.too_great;
        },
      )

  pub run_trail_same : (n : ℕ) (s : Shown) → IsRunTrail n s t → IsRunTrail n s u
  run_trail_same n s h = record {
    pair = record {
      over = record {
        trail = kept_same h.pair.over.trail;
        ring = same.ring ∙ h.pair.over.ring;
        rank = same.rank ∙ h.pair.over.rank;
        generators = same.generators ∙ h.pair.over.generators;
        below = same.below ∙ h.pair.over.below;
        vectors = subst (AreVectorsOver s.shared.ring (ring_comparison s.shared.ring)) (sym same.members) h.pair.over.vectors;
      };
      vector = same.vector ∙ h.pair.vector;
      start = (h.pair.start.0, h.pair.start.1, same.start ∙ h.pair.start.2);
    };
    way = subst (IsHistoryTrail (run_of n s) (vectors (state_of n s).members) (state_of n s).history) (sym (trail_of_same n)) h.way;
  }

  -- the stop that a state keeps, with a copy of its trail
  pub degree_stop :
      (s : Shown) → s.stop ≡ Some (reasons.Degree t) → IsStopOver s s.stop
      → HoldsInvariant (run_of (variables_of s) s) (state_of (variables_of s) s) → IsDegreeStop s u
  degree_stop s stop over holds = record {
    stop = (t, stop, same);
    trail = run_trail_same (variables_of s) s (record {
      pair = subst (IsStopOver s) stop over;
      way = holds.trail (trail_of (variables_of s) t) (ap (stop_of (variables_of s)) stop);
    });
  }
