-- Lists of vectors that stand one by one for formal sums
use Rattle.std.proofs.Common.{List, [], ap, arith, get_or, length, subst, suc, sym, zero, ℕ, ◌++◌, ◌+◌, ◌<◌, ◌∙◌, ◌∷◌, ◌≡◌}
use Rattle.std.proofs.lemmas.List.{ext_get_or, length-append, length-map}
use Rattle.std.specs.declared.cmp.Ordering.{Ordering}
use Rattle.formal_sums.proofs.Combining.{IsMember_itself, IsMember_same}
use Rattle.formal_sums.proofs.Sameness.{IsSame_of, IsSame_refl, IsSame_sym, IsSame_trans}
use Rattle.formal_sums.specs.Combinations.{IsSameModule}
use Rattle.formal_sums.specs.FormalSums.{Each, FormalSum, HasRank, IsOfRank, IsSame, Key}
use Rattle.bases.proofs.NormalForms.{normal_unique}
use Rattle.bases.specs.Bases.{IsReducedBasis}
use Rattle.bases.specs.Settings.{IsLawful, Setting}
use Rattle.operation_laws.proofs.Linear.{Each_at, Each_tabulate}
use Rattle.term_lists.proofs.NormalVectors.{vector_normal, vector_positions}
use Rattle.term_lists.specs.Rings.{ring_comparison, setting, variables}
use Rattle.term_lists.specs.Vectors.{AreVectorsOver, HasPositions, IsVectorOver, StandsFor, sum_of, sums_of}
use Rattle.term_lists.specs.declared.key.Key.{Key as CodeKey}
use Rattle.term_lists.specs.declared.ring.Ring.{Ring}
use Rattle.vector_division.proofs.Members.{sums_at}
use Rattle.groebner_iface.specs.Runs.{IsReducedBasisOf}
use Rattle.syzygy_engine.specs.Marking.{StandOneByOne}

abbrev pub Terms : Type 0
Terms = List (CodeKey × ℕ)

pub rank_of_positions : (n m : ℕ) (v : Terms) → HasPositions m v → HasRank m (sum_of n v)
rank_of_positions n m [] h = tt
rank_of_positions n m (t ∷ v) h = (h.0, rank_of_positions n m v h.1)

pub ranks_of_positions : (n m : ℕ) (list : List Terms) → Each (HasPositions m) list → Each (HasRank m) (sums_of n list)
ranks_of_positions n m [] h = tt
ranks_of_positions n m (v ∷ list) h = (rank_of_positions n m v h.0, ranks_of_positions n m list h.1)

module _ (ring : Ring) where
  pub stand_next :
      (list : List Terms) (G : List (FormalSum (variables ring))) (v : Terms) (g : FormalSum (variables ring))
      → StandOneByOne ring list G → StandsFor ring v g → StandOneByOne ring (list ++ v ∷ []) (G ++ g ∷ [])
  stand_next list G v g h s = record {
    count = length-append list (v ∷ []) ∙ ap (λ z. z + 1) h.count ∙ sym (length-append G (g ∷ []));
    each = both list G h.count h.each;
  }
    where
      both :
          (list : List Terms) (G : List (FormalSum (variables ring))) → length list ≡ length G
          → ((i : ℕ) → StandsFor ring (get_or list i []) (get_or G i []))
          → (i : ℕ) → StandsFor ring (get_or (list ++ v ∷ []) i []) (get_or (G ++ g ∷ []) i [])
      both [] [] e h zero = s
      both [] [] e h (suc i) = IsSame_refl ring.modulus.value []
      both [] (x ∷ G) e h i = absurd (omega arith)
      both (x ∷ list) [] e h i = absurd (omega arith)
      both (x ∷ list) (y ∷ G) e h zero = h 0
      both (x ∷ list) (y ∷ G) e h (suc i) = both list G (omega arith) (λ j. h (suc j)) i

  -- they generate the module of the formal sums
  pub stand_module :
      (list : List Terms) (G : List (FormalSum (variables ring))) → StandOneByOne ring list G
      → IsSameModule ring.modulus.value (sums_of (variables ring) list) G
  stand_module list G h = record {
    inside = λ i lt.
        let l : i < length G = omega (arith, lt, count, h.count) in
        IsMember_same G (get_or G i []) (get_or (sums_of (variables ring) list) i []) (IsSame_sym (same i)) (IsMember_itself ring.modulus.value G i l);
    outside = λ i lt.
        let l : i < length (sums_of (variables ring) list) = omega (arith, lt, count, h.count) in
        IsMember_same (sums_of (variables ring) list) (get_or (sums_of (variables ring) list) i []) (get_or G i []) (same i) (IsMember_itself ring.modulus.value (sums_of (variables ring) list) i l);
  }
    where
      count : length (sums_of (variables ring) list) ≡ length list
      count = length-map list (λ v. sum_of (variables ring) v)

      same : (i : ℕ) → IsSame ring.modulus.value (get_or (sums_of (variables ring) list) i []) (get_or G i [])
      same i = IsSame_trans (IsSame_of ring.modulus.value _ _ (sums_at (variables ring) list i)) (h.each i)

  -- vectors that stand for sums of this rank have their positions below it
  pub stand_positions :
      (compare : (n : ℕ) → Key n → Key n → Ordering) (m : ℕ) (list : List Terms) (G : List (FormalSum (variables ring)))
      → IsLawful (setting ring (variables ring) (compare (variables ring)) 0) → AreVectorsOver ring compare list
      → ((i : ℕ) → StandsFor ring (get_or list i []) (get_or G i []))
      → ((i : ℕ) → i < length list → IsOfRank ring.modulus.value m (get_or G i [])) → Each (HasPositions m) list
  stand_positions compare m list G lawful vectors each ranks =
      Each_tabulate (HasPositions m) [] list (λ i lt.
      vector_positions ring compare 0 m (get_or list i []) (get_or G i []) lawful (Each_at (λ v. IsVectorOver ring compare v) [] list vectors i lt) (each i) (ranks i lt))

  -- vectors that stand for a reduced basis of its own module are one
  pub stand_basis :
      (rank : ℕ) (list : List Terms) (G : List (FormalSum (variables ring))) → IsLawful (setting ring (variables ring) (ring_comparison ring (variables ring)) rank)
      → AreVectorsOver ring (ring_comparison ring) list → StandOneByOne ring list G → Each (HasPositions rank) list
      → IsReducedBasis (setting ring (variables ring) (ring_comparison ring (variables ring)) rank) G G → IsReducedBasisOf ring rank list list
  stand_basis rank list G lawful vectors h low own = record {
    vectors = vectors;
    positions = low;
    basis = subst (λ L. IsReducedBasis S L L) (sym equal) own;
  }
    where
      S : Setting (variables ring)
      S = setting ring (variables ring) (ring_comparison ring (variables ring)) rank

      count : length (sums_of (variables ring) list) ≡ length list
      count = length-map list (λ v. sum_of (variables ring) v)

      equal : sums_of (variables ring) list ≡ G
      equal = ext_get_or [] (sums_of (variables ring) list) G (count ∙ h.count) (λ i lt.
          let l : i < length list = omega (arith, lt, count) in
          let m : i < length G = omega (arith, l, h.count) in
          let u = vector_normal ring (ring_comparison ring) rank (get_or list i []) (Each_at (λ v. IsVectorOver ring (ring_comparison ring) v) [] list vectors i l) in
          let w = own.reduced.normal i m in
          sums_at (variables ring) list i
          ∙ normal_unique S lawful (sum_of (variables ring) (get_or list i [])) (get_or G i []) u.descends w.descends u.residues w.residues (h.each i))

-- one list behind another
pub stand_both :
    (ring : Ring) (l m : List Terms) (G H : List (FormalSum (variables ring))) → StandOneByOne ring l G → StandOneByOne ring m H → StandOneByOne ring (l ++ m) (G ++ H)
stand_both ring l m G H a b = go l G a.count a.each
  where
    go :
        (l : List Terms) (G : List (FormalSum (variables ring))) → length l ≡ length G
        → ((i : ℕ) → IsSame ring.modulus.value (sum_of (variables ring) (get_or l i [])) (get_or G i [])) → StandOneByOne ring (l ++ m) (G ++ H)
    go [] [] e h = b
    go [] (y ∷ G) e h = absurd (omega (arith, e))
    go (x ∷ l) [] e h = absurd (omega (arith, e))
    go (x ∷ l) (y ∷ G) e h =
        let rest = go l G (omega (arith, e)) (λ i. h (suc i)) in
        record { count = ap suc rest.count; each = at rest }
      where
        at : StandOneByOne ring (l ++ m) (G ++ H) → (i : ℕ) → IsSame ring.modulus.value (sum_of (variables ring) (get_or (x ∷ l ++ m) i [])) (get_or (y ∷ G ++ H) i [])
        at rest zero = h 0
        at rest (suc i) = rest.each i

-- vectors stand for their own formal sums
pub stand_itself : (ring : Ring) (list : List Terms) → StandOneByOne ring list (sums_of (variables ring) list)
stand_itself ring list = record {
  count = sym (length-map list (λ v. sum_of (variables ring) v));
  each = λ i. IsSame_of ring.modulus.value _ _ (sym (sums_at (variables ring) list i));
}
