-- Lists with one reduced basis generate one module
use Rattle.std.proofs.Common.{List, [], ap, get_or, length, subst, sym, ℕ, ◌<◌, ◌↔◌, ◌∷◌, ◌≡◌}
use Rattle.std.proofs.lemmas.List.{length-map}
use Rattle.formal_sums.proofs.OfRank.{IsOfRank_of}
use Rattle.formal_sums.specs.FormalSums.{Each, HasRank, IsOfRank}
use Rattle.bases.specs.Settings.{IsLawful, Setting}
use Rattle.reduced_bases.proofs.Comparing.{IsReducedBasis_same, IsSameModule_equal}
use Rattle.term_lists.proofs.Parts.{Each_member}
use Rattle.term_lists.specs.Rings.{ring_comparison, setting, variables}
use Rattle.term_lists.specs.Vectors.{HasPositions, sum_of, sums_of}
use Rattle.term_lists.specs.declared.key.Key.{Key as CodeKey}
use Rattle.term_lists.specs.declared.ring.Ring.{Ring}
use Rattle.vector_division.proofs.Members.{sums_at}
use Rattle.groebner_iface.specs.Runs.{IsReducedBasisOf}
use Rattle.session_values.specs.Answers.{IsOneModule}

abbrev Terms : Type 0
Terms = List (CodeKey × ℕ)

rank_of_positions : (n m : ℕ) (v : Terms) → HasPositions m v → HasRank m (sum_of n v)
rank_of_positions n m [] h = tt
rank_of_positions n m (t ∷ v) h = (h.0, rank_of_positions n m v h.1)

-- the vectors of a list with these positions are of this rank
ranks :
    (p n m : ℕ) (list : List Terms) → Each (HasPositions m) list
    → (i : ℕ) → i < length (sums_of n list) → IsOfRank p m (get_or (sums_of n list) i [])
ranks p n m list h i lt =
    let lt' : i < length list = subst (λ z. i < z) (length-map list (λ v. sum_of n v)) lt in
    subst (IsOfRank p m) (sym (sums_at n list i)) (IsOfRank_of p m (sum_of n (get_or list i [])) (rank_of_positions n m (get_or list i []) (Each_member (HasPositions m) list i [] h lt')))

module _ (ring : Ring) (rank : ℕ) (first second left right : List Terms) (lawful : IsLawful (setting ring (variables ring) (ring_comparison ring (variables ring)) rank))
    (unique : (list a b : List Terms) → IsReducedBasisOf ring rank list a → IsReducedBasisOf ring rank list b → a ≡ b)
    (f : Each (HasPositions rank) first) (s : Each (HasPositions rank) second)
    (l : IsReducedBasisOf ring rank first left) (r : IsReducedBasisOf ring rank second right) where
  abbrev S : Setting (variables ring)
  S = setting ring (variables ring) (ring_comparison ring (variables ring)) rank

  -- equal bases are of one module
  one_of_equal : left ≡ right → IsOneModule ring first second
  one_of_equal e =
      IsSameModule_equal S lawful (sums_of (variables ring) first) (sums_of (variables ring) second) (sums_of (variables ring) left) (sums_of (variables ring) right)
      (ranks ring.modulus.value (variables ring) rank first f) (ranks ring.modulus.value (variables ring) rank second s) l.basis r.basis (ap (sums_of (variables ring)) e)

  -- one module has one basis
  equal_of_one : IsOneModule ring first second → left ≡ right
  equal_of_one same =
      unique second left right (record {
        vectors = l.vectors;
        positions = l.positions;
        basis = IsReducedBasis_same S lawful (sums_of (variables ring) first) (sums_of (variables ring) second) (sums_of (variables ring) left) same l.basis;
      }) r

  pub equal_where_one : (left ≡ right) ↔ IsOneModule ring first second
  equal_where_one = (one_of_equal, equal_of_one)
