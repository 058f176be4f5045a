-- Terms that no lead of the columns divides are dropped
use Rattle.std.proofs.Common.{List, Ordering, [], ap, append-nil, append_assoc, arith, inl, inr, subst, sym, ℕ, ◌++◌, ◌+◌, ◌∙◌, ◌∷◌, ◌≡◌}
use Rattle.std.proofs.lemmas.List.{map-append}
use Rattle.residues.proofs.Congruences.{IsCongruent_of}
use Rattle.formal_sums.proofs.Sameness.{IsSame_of, IsSame_trans}
use Rattle.formal_sums.proofs.WeightedSums.{Each_append, coefficient-append}
use Rattle.formal_sums.specs.FormalSums.{Each, IsSame, Key, Term, coefficient}
use Rattle.orders.specs.KeyOrders.{Descends}
use Rattle.term_lists.proofs.Descending.{descends_skip, over_join, over_split}
use Rattle.term_lists.specs.Rings.{variables}
use Rattle.term_lists.specs.Vectors.{IsMonomialOver, IsTerm, IsVectorOver, key_of, sum_of, sums_of}
use Rattle.term_lists.specs.declared.key.Key.{Key as CodeKey}
use Rattle.term_lists.specs.declared.ring.Ring.{Ring}
use Rattle.vector_division.specs.Divisions.{IsUncovered}
use Rattle.vector_division.specs.Runs.{IsOver}
use Rattle.induced_leads.specs.Sifting.{IsSifting, IsTermSifted}

abbrev Terms : Type 0
Terms = List (CodeKey × ℕ)

module _ (ring : Ring) (compare : (n : ℕ) → Key n → Key n → Ordering) (cols : List Terms) (v : Terms) where
  abbrev n : ℕ
  n = variables ring

  abbrev f : CodeKey × ℕ → Term (variables ring)
  f t = (key_of (variables ring) t.0, t.1)

  pub sift_start : (w : Terms) → w ≡ v → IsVectorOver ring compare v → IsSifting ring compare cols v [] w
  sift_start w e h = record {
    dropped = [];
    vector = subst (IsVectorOver ring compare) (sym e) h;
    terms = tt;
    same = IsSame_of ring.modulus.value _ _ (ap (sum_of (variables ring)) (sym e) ∙ sym (append-nil (sum_of (variables ring) w)));
    free = tt;
    covered = tt;
    over = λ k o. subst (λ z. IsOver (compare (variables ring)) k (sum_of (variables ring) z)) (sym e) o;
  }

  module _ (kept rest : Terms) (t : CodeKey × ℕ) (h : IsSifting ring compare cols v kept (t ∷ rest)) where
    sum_split : (a b : Terms) → sum_of (variables ring) (a ++ b) ≡ sum_of (variables ring) a ++ sum_of (variables ring) b
    sum_split a b = map-append f a b

    keep : (IsUncovered (sums_of (variables ring) cols) (key_of (variables ring) t.0) → ⊥) → IsSifting ring compare cols v (kept ++ t ∷ []) rest
    keep c =
        let e : (kept ++ t ∷ []) ++ rest ≡ kept ++ t ∷ rest = append_assoc kept (t ∷ []) rest in
        record {
          dropped = h.dropped;
          vector = subst (IsVectorOver ring compare) (sym e) h.vector;
          terms = h.terms;
          same = subst (λ z. IsSame ring.modulus.value (sum_of (variables ring) v) (sum_of (variables ring) z ++ sum_of (variables ring) h.dropped)) (sym e) h.same;
          free = h.free;
          covered = subst (Each (λ u. IsUncovered (sums_of (variables ring) cols) u.0 → ⊥)) (sym (sum_split kept (t ∷ [])))
              (Each_append (λ u. IsUncovered (sums_of (variables ring) cols) u.0 → ⊥) (sum_of (variables ring) kept) (f t ∷ []) h.covered (c, tt));
          over = λ k o. subst (λ z. IsOver (compare (variables ring)) k (sum_of (variables ring) z)) (sym e) (h.over k o);
        }

    each_without : (P : CodeKey × ℕ → Type 0) (xs : Terms) → Each P (xs ++ t ∷ rest) → Each P (xs ++ rest)
    each_without P [] x = x.1
    each_without P (y ∷ xs) x = (x.0, each_without P xs x.1)

    term_here : (xs : Terms) → Each (IsTerm (variables ring) ring.weights ring.modulus.value) (xs ++ t ∷ rest) → IsTerm (variables ring) ring.weights ring.modulus.value t
    term_here [] x = x.0
    term_here (y ∷ xs) x = term_here xs x.1

    drop_it : IsUncovered (sums_of (variables ring) cols) (key_of (variables ring) t.0) → IsSifting ring compare cols v kept rest
    drop_it u =
        let K = sum_of (variables ring) kept in
        let R = sum_of (variables ring) rest in
        let D = sum_of (variables ring) h.dropped in
        let whole : sum_of (variables ring) (kept ++ t ∷ rest) ≡ K ++ (f t ∷ R) = sum_split kept (t ∷ rest) in
        let less : sum_of (variables ring) (kept ++ rest) ≡ K ++ R = sum_split kept rest in
        let more : sum_of (variables ring) (h.dropped ++ t ∷ []) ≡ D ++ (f t ∷ []) = sum_split h.dropped (t ∷ []) in
        record {
          dropped = h.dropped ++ t ∷ [];
          vector = record {
            each = each_without (IsTerm (variables ring) ring.weights ring.modulus.value) kept h.vector.each;
            descends = subst (Descends (compare (variables ring))) (sym less) (descends_skip (compare (variables ring)) K (f t) R (subst (Descends (compare (variables ring))) whole h.vector.descends));
          };
          terms = Each_append (IsTerm (variables ring) ring.weights ring.modulus.value) h.dropped (t ∷ []) h.terms (term_here kept h.vector.each, tt);
          same = IsSame_trans h.same (record {
            by_key = λ l.
                let x = coefficient K l in
                let y = coefficient R l in
                let z = coefficient D l in
                let w = coefficient (f t ∷ []) l in
                let one : coefficient (sum_of (variables ring) (kept ++ t ∷ rest) ++ D) l ≡ (x + (w + y)) + z =
                coefficient-append (sum_of (variables ring) (kept ++ t ∷ rest)) D l ∙ ap (λ q. q + z) (ap (λ q. coefficient q l) whole ∙ coefficient-append K (f t ∷ R) l ∙ ap (λ q. x + q) (coefficient-append (f t ∷ []) R l)) in
                let two : coefficient (sum_of (variables ring) (kept ++ rest) ++ sum_of (variables ring) (h.dropped ++ t ∷ [])) l ≡ (x + y) + (z + w) =
                coefficient-append (sum_of (variables ring) (kept ++ rest)) (sum_of (variables ring) (h.dropped ++ t ∷ [])) l
                ∙ ap (λ q. q + coefficient (sum_of (variables ring) (h.dropped ++ t ∷ [])) l) (ap (λ q. coefficient q l) less ∙ coefficient-append K R l)
                ∙ ap (λ q. (x + y) + q) (ap (λ q. coefficient q l) more ∙ coefficient-append D (f t ∷ []) l) in
                IsCongruent_of ring.modulus.value _ _ (one ∙ shuffled x y z w ∙ sym two);
          });
          free = subst (Each (λ q. IsUncovered (sums_of (variables ring) cols) q.0)) (sym more) (Each_append (λ q. IsUncovered (sums_of (variables ring) cols) q.0) D (f t ∷ []) h.free (u, tt));
          covered = h.covered;
          over = λ k o.
              let s = over_split (compare (variables ring)) k K (f t ∷ R) (subst (IsOver (compare (variables ring)) k) whole (h.over k o)) in
              subst (IsOver (compare (variables ring)) k) (sym less) (over_join (compare (variables ring)) k K R s.0 s.1.1);
        }
      where
        shuffled : (x y z w : ℕ) → (x + (w + y)) + z ≡ (x + y) + (z + w)
        shuffled x y z w = omega arith

  pub sift_next :
      (kept rest new : Terms) (t : CodeKey × ℕ)
      → IsSifting ring compare cols v kept (t ∷ rest) → IsTermSifted (variables ring) cols t kept new → IsSifting ring compare cols v new rest
  sift_next kept rest new t h (inl (u, e)) = subst (λ z. IsSifting ring compare cols v z rest) (sym e) (drop_it kept rest t h u)
  sift_next kept rest new t h (inr (c, e)) = subst (λ z. IsSifting ring compare cols v z rest) (sym e) (keep kept rest t h c)

  -- the next term is one of the ring
  pub next_weighed : (kept rest : Terms) (t : CodeKey × ℕ) → IsSifting ring compare cols v kept (t ∷ rest) → IsMonomialOver ring t.0.monomial
  next_weighed kept rest t h = (term_here kept rest t h kept h.vector.each).weighed
