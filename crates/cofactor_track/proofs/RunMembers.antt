-- The members of a run, each with its cofactors
use Rattle.std.proofs.Common.{List, [], ap, append-nil, append_assoc, arith, get_or, length, length-append, map, refl, subst₂, sym, take, ℕ, ◌++◌, ◌<◌, ◌∙◌, ◌∷◌, ◌≡◌}
use Rattle.std.proofs.Math.Seq.{get_or-append_seam}
use Rattle.std.proofs.lemmas.List.{get_or-map, length-map, map-append, nil_from_length, take_all, take_more}
use Rattle.std.specs.Arc.{arc_value}
use Rattle.formal_sums.proofs.Combining.{IsSame_combination}
use Rattle.formal_sums.proofs.Sameness.{IsSame_sym, IsSame_trans}
use Rattle.formal_sums.proofs.WeightedSums.{Each_append}
use Rattle.formal_sums.specs.FormalSums.{Each, FormalSum, IsSame}
use Rattle.formal_sums.specs.Combinations.{combination}
use Rattle.term_lists.specs.Rings.{variables}
use Rattle.term_lists.specs.Vectors.{sum_of, sums_of}
use Rattle.term_lists.specs.declared.key.Key.{Key as CodeKey}
use Rattle.basis_steps.proofs.Growing.{each_at}
use Rattle.basis_steps.specs.Cofactors.{AreCombined}
use Rattle.basis_steps.specs.States.{vectors}
use Rattle.member_products.specs.Generators.{IsRanked}
use Rattle.member_products.specs.Members.{AreCofactors, members_of}
use Rattle.basis_core.proofs.Tracking.{ring_lawful, vectors_of_members, vectors_ranked}
use Rattle.basis_core.specs.Members.{IsMemberShown, Shared, MemberShown, shared_of}
use Rattle.basis_core.specs.Rows.{vectors_in}
use Rattle.cofactor_track.specs.Members.{IsCombined}
use Rattle.cofactor_track.specs.declared.member.Member.{Member}

-- the terms of a vector
abbrev Terms : Type 0
Terms = List (CodeKey × ℕ)

-- the vector and the cofactors with one index
pub combined_at :
    (s : Shared) (ms : List MemberShown) (cofs : List Terms) (i : ℕ)
    → Each (IsMemberShown s) ms → Each (λ v. IsRanked s.ring (length s.generators) v) cofs
    → AreCombined s.ring.modulus.value (sums_of (variables s.ring) s.generators) (members_of (variables s.ring) ms)
    → AreCofactors s.ring ms cofs → i < length ms
    → IsCombined s.ring s.rank s.generators (get_or (vectors_in ms) i []) (get_or cofs i [])
combined_at s ms cofs i tracked ranked combined made lt = record {
  vector = each_at (IsRanked s.ring s.rank) (vectors_in ms) i [] (vectors_ranked s ms tracked) within;
  cof = each_at (IsRanked s.ring (length s.generators)) cofs i [] ranked there;
  sums =
      subst₂ (λ v a. IsSame p v (combination F a)) vector cof
      (IsSame_trans (IsSame_sym (combined i)) (IsSame_combination pos F _ _ (IsSame_sym (made.same i))));
}
  where
    n : ℕ
    n = variables s.ring

    p : ℕ
    p = s.ring.modulus.value

    F : List (FormalSum n)
    F = sums_of n s.generators

    pos : 0 < p
    pos = let one : 1 < p = (ring_lawful s).domain.above_one in omega (arith, one)

    within : i < length (vectors_in ms)
    within = omega (arith, lt, length-map ms (λ (m : MemberShown). m.vector))

    there : i < length cofs
    there = omega (arith, lt, made.number)

    vector : get_or (vectors (members_of n ms)) i [] ≡ sum_of n (get_or (vectors_in ms) i [])
    vector = ap (λ l. get_or l i []) (vectors_of_members n ms) ∙ get_or-map (sum_of n) (vectors_in ms) i [] [] within

    cof : get_or (sums_of n cofs) i [] ≡ sum_of n (get_or cofs i [])
    cof = get_or-map (sum_of n) cofs i [] [] there

-- so far these members of the run, which have the first of the cofactors; the others are left
pub record HaveCofactors (s : Shared) (ms : List MemberShown) (cofs : List Terms) (list : List Member) (rest : List Terms) : Type 0 where
  pub alike : Each (λ m. shared_of (arc_value m.shared) ≡ s) list
  pub vectors : map (λ m. m.vector) list ≡ take (length list) (vectors_in ms)
  pub cofactors : map (λ m. m.cof) list ++ rest ≡ cofs

module _ {s : Shared} {ms : List MemberShown} {cofs : List Terms} where
  pub none_yet : (list : List Member) (rest : List Terms) → list ≡ [] → rest ≡ cofs → HaveCofactors s ms cofs list rest
  none_yet list rest e f = rw e (record {
    alike = tt;
    vectors = refl;
    cofactors = f;
  })

  module _ {list : List Member} {rest : List Terms} {cof : Terms} (h : HaveCofactors s ms cofs list (cof ∷ rest)) where
    -- the next cofactors
    pub next_there : length list < length cofs
    next_there = omega (arith, ap length h.cofactors, length-append (map (λ m. m.cof) list) (cof ∷ rest), length-map list (λ (m : Member). m.cof))

    pub next_cofactors : get_or cofs (length list) [] ≡ cof
    next_cofactors =
        ap (λ l. get_or l (length list) []) (sym h.cofactors)
        ∙ ap (λ i. get_or (map (λ m. m.cof) list ++ (cof ∷ rest)) i []) (sym (length-map list (λ (m : Member). m.cof)))
        ∙ get_or-append_seam (map (λ m. m.cof) list) cof rest []

    -- the next member
    pub one_more :
        (m : Member) (more : List Member)
        → more ≡ list ++ (m ∷ []) → shared_of (arc_value m.shared) ≡ s → m.vector ≡ get_or (vectors_in ms) (length list) [] → m.cof ≡ cof
        → length list < length ms → HaveCofactors s ms cofs more rest
    one_more m more e same v a lt = rw e (record {
      alike = Each_append (λ m. shared_of (arc_value m.shared) ≡ s) list (m ∷ []) h.alike (same, tt);
      vectors =
          map-append (λ (m : Member). m.vector) list (m ∷ [])
          ∙ ap (λ l. l ++ (m.vector ∷ [])) h.vectors
          ∙ ap (λ v. take (length list) (vectors_in ms) ++ (v ∷ [])) v
          ∙ sym (take_more (vectors_in ms) (length list) [] (omega (arith, lt, length-map ms (λ (m : MemberShown). m.vector))))
          ∙ ap (λ k. take k (vectors_in ms)) (sym (length-append list (m ∷ [])));
      cofactors =
          ap (λ l. l ++ rest) (map-append (λ (m : Member). m.cof) list (m ∷ []))
          ∙ append_assoc (map (λ m. m.cof) list) (m.cof ∷ []) rest
          ∙ ap (λ a. map (λ m. m.cof) list ++ (a ∷ rest)) a
          ∙ h.cofactors;
    })

  module _ {list : List Member} {rest : List Terms} (h : HaveCofactors s ms cofs list rest) (e : length rest ≡ 0) where
    pub all_cofactors : map (λ m. m.cof) list ≡ cofs
    all_cofactors = sym (append-nil (map (λ m. m.cof) list)) ∙ ap (λ r. map (λ m. m.cof) list ++ r) (sym (nil_from_length rest e)) ∙ h.cofactors

    pub all_vectors : length cofs ≡ length ms → map (λ m. m.vector) list ≡ vectors_in ms
    all_vectors l =
        h.vectors
        ∙ take_all (length list) (vectors_in ms)
        (omega (arith, l, ap length all_cofactors, length-map list (λ (m : Member). m.cof), length-map ms (λ (m : MemberShown). m.vector)))
