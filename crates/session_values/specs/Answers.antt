-- What is asked of values, and when a text is the answer (IVA chapter 2, sections 6 and 7)
use Rattle.std.specs.Prelude.{List, codes, ℕ, ◌++◌, ◌-◌, ◌<◌, ◌^◌, ◌∷◌, ◌≡◌, ◌⊎◌, true, false, []}
use Rattle.monomials.specs.Exponents.{unit}
use Rattle.formal_sums.specs.Combinations.{IsMember, IsSameModule}
use Rattle.formal_sums.specs.FormalSums.{Each, scale}
use Rattle.bases.specs.Bases.{HasFreeTerms}
use Rattle.term_lists.specs.Rings.{ring_comparison, setting, variables}
use Rattle.term_lists.specs.Vectors.{IsVectorOver, sum_of, sums_of}
use Rattle.term_lists.specs.declared.key.Key.{Key}
use Rattle.term_lists.specs.declared.ring.Ring.{Ring}
use Rattle.groebner_iface.specs.Runs.{IsReducedBasisOf}
use Rattle.poly_text.specs.Texts.{list_text, names_of, vector_text}
use Rattle.session_values.specs.Names.{Value}
use Rattle.session_values.specs.Texts.{listing, sizes, verdict}

-- the text is yes where P holds and no where it does not
abbrev pub Decides : Type 0 → List ℕ → Type 0
Decides P text = (P × (text ≡ verdict true)) ⊎ ((P → ⊥) × (text ≡ verdict false))

-- v is in the module of the list
abbrev pub IsInModule : Ring → List (List (Key × ℕ)) → List (Key × ℕ) → Type 0
IsInModule ring list v = IsMember ring.modulus.value (sums_of (variables ring) list) (sum_of (variables ring) v)

-- two lists generate one module
abbrev pub IsOneModule : Ring → List (List (Key × ℕ)) → List (List (Key × ℕ)) → Type 0
IsOneModule ring left right = IsSameModule ring.modulus.value (sums_of (variables ring) left) (sums_of (variables ring) right)

-- w is the normal form of v modulo the list: they differ by a vector of its module, and no lead of its reduced basis
-- divides a term of w (IVA chapter 2, section 6)
pub record IsNormalForm (ring : Ring) (rank : ℕ) (list : List (List (Key × ℕ))) (v w : List (Key × ℕ)) : Type 0 where
  pub basis : List (List (Key × ℕ))
  pub reduced : IsReducedBasisOf ring rank list basis
  pub vector : IsVectorOver ring (ring_comparison ring) w
  pub differs :
      let n = variables ring in
      IsMember ring.modulus.value (sums_of n list) (sum_of n v ++ scale (ring.modulus.value - 1) (unit n) (sum_of n w))
  pub free :
      let n = variables ring in
      HasFreeTerms (setting ring n (ring_comparison ring n) rank) (sums_of n basis) (sum_of n w)

-- the exponents of a vector are below 2^64
abbrev pub HasSmallExponents : List (Key × ℕ) → Type 0
HasSmallExponents v = Each (λ t. Each (λ e. e < 2 ^ 64) t.0.monomial.exponents) v

-- the text is the members of the value's reduced basis, a line each: what `gb` prints behind its heading
pub record AreMembersOf (ring : Ring) (value : Value) (text : List ℕ) : Type 0 where
  pub basis : List (List (Key × ℕ))
  pub reduced : IsReducedBasisOf ring value.rank value.list basis
  pub small : Each HasSmallExponents basis
  pub text_is : text ≡ list_text (names_of ring) value.rank basis

-- what is asked of a value that its reduced basis answers
pub data Asked : Type 0 where
  basis : Asked
  sizes_of_basis : Asked
  normal_form : List (Key × ℕ) → Asked
  member : List (Key × ℕ) → Asked

-- the text is the answer
abbrev pub IsAnswer : Ring → Value → Asked → List ℕ → Type 0
IsAnswer ring value basis text =
    (G : List (List (Key × ℕ))) × IsReducedBasisOf ring value.rank value.list G × (text ≡ listing (codes "gb") ring value G)
IsAnswer ring value sizes_of_basis text =
    (G : List (List (Key × ℕ))) × IsReducedBasisOf ring value.rank value.list G × (text ≡ sizes value G)
IsAnswer ring value (normal_form v) text =
    (w : List (Key × ℕ)) × IsNormalForm ring value.rank value.list v w × (text ≡ vector_text (names_of ring) value.rank w ++ 10 ∷ [])
IsAnswer ring value (member v) text = Decides (IsInModule ring value.list v) text
