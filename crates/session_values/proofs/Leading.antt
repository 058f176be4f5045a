-- The numbers of a reduced basis, from the calls that find them
use Rattle.std.proofs.Common.{List, arith, length, subst₂, sym, ℕ, ◌<◌, ◌∷◌, ◌≡◌, ◌≤◌, []}
use Rattle.std.specs.Prelude.{ℤ}
use Rattle.hilbert_laws.specs.Numerators.{IsNumerator, leads_at, module_count}
use Rattle.hilbert_series.specs.Large.{DimensionStops}
use Rattle.hilbert_series.specs.Leads.{AreLeads, EndsInNonzero, IsFirstOver, NumeratorStops, keys_of}
use Rattle.hilbert_series.specs.declared.stop.HilbertStop.{HilbertStop}
use Rattle.hilbert_series.specs.declared.stop.HilbertStop.TheVariants as stops
use Rattle.term_lists.specs.Rings.{ring_comparison, variables}
use Rattle.term_lists.specs.Vectors.{AreVectorsOver}
use Rattle.term_lists.specs.declared.key.Key.{Key}
use Rattle.term_lists.specs.declared.ring.Ring.{Ring}
use Rattle.session_values.specs.Counting.{CountsFirst, NumbersStop}
use Rattle.session_values.specs.Numbers.{HasManyLeads, IsNumeratorFor, leads_of}

abbrev Lists : Type 0
Lists = List (List (Key × ℕ))

-- the leads of vectors over a ring have its variables and weights
over_variables : (ring : Ring) (list : Lists) → AreVectorsOver ring (ring_comparison ring) list → AreLeads (variables ring) ring.weights (leads_of list)
over_variables ring [] h = tt
over_variables ring ([] ∷ list) h = over_variables ring list h.1
over_variables ring ((t ∷ v) ∷ list) h = (h.0.each.0.weighed, over_variables ring list h.1)

-- m is the number of variables, and the keys are the leads
module _ (ring : Ring) (rank m : ℕ) (basis : Lists) (keys : List Key) (e : m ≡ variables ring) (f : keys ≡ leads_of basis) where
  pub leads_over : AreVectorsOver ring (ring_comparison ring) basis → AreLeads m ring.weights keys
  leads_over h = subst₂ (λ n ks. AreLeads n ring.weights ks) (sym e) (sym f) (over_variables ring basis h)

  pub few_leads : ((i : ℕ) → i < rank → length (leads_at i (keys_of m keys)) ≤ 120) → HasManyLeads ring rank basis → ⊥
  few_leads few h =
      let le : length (leads_at h.0 (keys_of (variables ring) (leads_of basis))) ≤ 120 =
      subst₂ (λ n ks. length (leads_at h.0 (keys_of n ks)) ≤ 120) e f (few h.0 h.1) in
      omega (arith, le, h.2)

  pub numerator_for :
      (K : List ℤ) → IsNumerator ring.weights m K (module_count ring.weights rank (keys_of m keys)) → EndsInNonzero K → IsNumeratorFor ring rank basis K
  numerator_for K counts ends = record {
    counts = subst₂ (λ n ks. IsNumerator ring.weights n K (module_count ring.weights rank (keys_of n ks))) e f counts;
    ends = ends;
  }

  pub numerator_stop : (stop : HilbertStop) → NumeratorStops rank (keys_of m keys) stop → NumbersStop ring rank basis stop
  numerator_stop stops.Memory h = tt
  numerator_stop (stops.Leads k) h =
      let le : length (leads_at h.position (keys_of (variables ring) (leads_of basis))) ≡ k =
      subst₂ (λ n ks. length (leads_at h.position (keys_of n ks)) ≡ k) e f h.leads in
      let over = h.over in
      (h.position, h.below, omega (arith, le, over))
  numerator_stop stops.Large h = absurd h

  -- the number of leads is that of the first position with too many
  pub first_over : (stop : HilbertStop) → NumeratorStops rank (keys_of m keys) stop → CountsFirst ring rank basis stop
  first_over stops.Memory h = tt
  first_over (stops.Leads k) h = subst₂ (λ n ks. IsFirstOver 120 rank (keys_of n ks) k) e f h
  first_over stops.Large h = tt

pub none_counted : (ring : Ring) (rank : ℕ) (basis : Lists) (K : List ℤ) (stop : HilbertStop) → DimensionStops K stop → CountsFirst ring rank basis stop
none_counted ring rank basis K stops.Memory h = tt
none_counted ring rank basis K (stops.Leads k) h = absurd h
none_counted ring rank basis K stops.Large h = tt

pub dimension_stop :
    (ring : Ring) (rank : ℕ) (basis : Lists) (K : List ℤ) → (HasManyLeads ring rank basis → ⊥) → IsNumeratorFor ring rank basis K
    → (stop : HilbertStop) → DimensionStops K stop → NumbersStop ring rank basis stop
dimension_stop ring rank basis K few counts stops.Memory h = tt
dimension_stop ring rank basis K few counts (stops.Leads k) h = absurd h
dimension_stop ring rank basis K few counts stops.Large h = (few, (K, counts, h))
