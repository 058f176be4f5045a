-- Hilbert numerator, dimension and degree of a value (UAG chapter 6, section 4)
use Rattle.std.specs.Fmt.{signed_decimal}
use Rattle.std.specs.Prelude.{List, [], codes, flat_map, length, ℕ, ℤ, ◌++◌, ◌<◌, ◌∷◌, ◌≡◌}
use Rattle.hilbert_laws.specs.Dimensions.{HasDimension}
use Rattle.hilbert_laws.specs.Numerators.{IsNumerator, leads_at, module_count}
use Rattle.term_lists.specs.Rings.{variables}
use Rattle.term_lists.specs.declared.key.Key.{Key}
use Rattle.term_lists.specs.declared.ring.Ring.{Ring}
use Rattle.groebner_iface.specs.Runs.{IsReducedBasisOf}
use Rattle.hilbert_series.specs.Large.{IsLarge}
use Rattle.hilbert_series.specs.Leads.{EndsInNonzero, keys_of}
use Rattle.script_parse.specs.declared.kind.Kind.{Kind}
use Rattle.script_parse.specs.declared.kind.Kind.TheVariants as kinds
use Rattle.session_values.specs.Names.{Value}

-- the first keys of the vectors
abbrev pub leads_of : List (List (Key × ℕ)) → List Key
leads_of [] = []
leads_of ([] ∷ list) = leads_of list
leads_of ((t ∷ v) ∷ list) = t.0 ∷ leads_of list

-- a position has more than 120 leads
abbrev pub HasManyLeads : Ring → ℕ → List (List (Key × ℕ)) → Type 0
HasManyLeads ring rank basis = (i : ℕ) × (i < rank) × (120 < length (leads_at i (keys_of (variables ring) (leads_of basis))))

-- K is the numerator, without zeros at its end: over the product of 1 - t^w for the weights w it counts by degree the keys that no lead divides
pub record IsNumeratorFor (ring : Ring) (rank : ℕ) (basis : List (List (Key × ℕ))) (K : List ℤ) : Type 0 where
  pub counts : IsNumerator ring.weights (variables ring) K (module_count ring.weights rank (keys_of (variables ring) (leads_of basis)))
  pub ends : EndsInNonzero K

-- the coefficients, each behind a space; 0 for none
abbrev pub coefficients_text : List ℤ → List ℕ
coefficients_text [] = codes " 0"
coefficients_text K = flat_map (λ k. 32 ∷ signed_decimal k) K

-- dimension and degree, on a line of their own
abbrev pub measures_text : (dimension degree : ℤ) → List ℕ
measures_text dimension degree = codes "\ndim " ++ (signed_decimal dimension ++ (codes " degree " ++ (signed_decimal degree ++ 10 ∷ [])))

-- the numerator on one line, dimension and degree on the next
abbrev pub numbers_text : List ℕ → List ℤ → (dimension degree : ℤ) → List ℕ
numbers_text name K dimension degree = codes "hilb " ++ (name ++ (coefficients_text K ++ measures_text dimension degree))

-- the text has the numbers of the value's reduced basis, and nothing refuses them
pub record IsNumbersText (ring : Ring) (value : Value) (text : List ℕ) : Type 0 where
  pub basis : List (List (Key × ℕ))
  pub reduced : IsReducedBasisOf ring value.rank value.list basis
  pub few : HasManyLeads ring value.rank basis → ⊥
  pub numerator : List ℤ
  pub counts : IsNumeratorFor ring value.rank basis numerator
  pub narrow : IsLarge numerator → ⊥
  pub dimension : ℤ
  pub degree : ℤ
  pub measured : HasDimension (variables ring) numerator dimension degree
  pub text_is : text ≡ numbers_text value.name numerator dimension degree

-- the numbers of a value are refused for this kind: a position of its reduced basis has too many leads, or if none has,
-- the series of its numerator are too large
abbrev pub RefusesNumbers : Ring → Value → Kind → Type 0
RefusesNumbers ring value kinds.Leads =
    (G : List (List (Key × ℕ))) × IsReducedBasisOf ring value.rank value.list G × HasManyLeads ring value.rank G
RefusesNumbers ring value kinds.Large =
    (G : List (List (Key × ℕ))) × IsReducedBasisOf ring value.rank value.list G × (HasManyLeads ring value.rank G → ⊥)
    × ((K : List ℤ) × IsNumeratorFor ring value.rank G K × IsLarge K)
RefusesNumbers ring value _ = ⊥
