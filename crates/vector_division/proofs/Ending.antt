-- How the loop of a division ends
use Rattle.std.proofs.Common.{List, Ordering, [], ap, arith, false, inl, inr, length, length-append, refl, subst, sym, true, ℕ, Bool, ◌++◌, ◌+◌, ◌<◌, ◌∙◌, ◌∷◌, ◌≡◌, ◌⊎◌}
use Rattle.formal_sums.specs.FormalSums.{Key}
use Rattle.term_lists.specs.Vectors.{key_of}
use Rattle.term_lists.specs.declared.key.Key.{Key as CodeKey}
use Rattle.vector_division.specs.Runs.{AreBelow, IsEnded, IsWhether, total}
use Rattle.vector_division.proofs.Subtracting.{Terms}

-- no term stays where the lead alone is wanted and is not there
pub none_stays : {X : Type 0} (b r : Bool) (rest : List X) → IsWhether ((b ≡ true) × (0 < length rest)) r → r ≡ false → b ≡ true → rest ≡ []
none_stays b r [] h f t = refl
none_stays b r (x ∷ rest) h f t = absurd (h.fails f (t, omega arith))

module _ (n : ℕ) (compare : Key n → Key n → Ordering) (runs : List Terms) where
  -- no term is left
  pub ended_empty : (b : Bool) (rest : Terms) → (b ≡ true → rest ≡ []) → total n runs ≡ [] → IsEnded n compare b rest runs
  ended_empty false rest none e = e
  ended_empty true [] none e = e
  ended_empty true (t ∷ rest) none e = let q : t ∷ rest ≡ [] = none refl in absurd (cc)

  -- the first term stays
  pub ended_first :
      (b : Bool) (old new : Terms) (t : CodeKey × ℕ) → (b ≡ true → old ≡ []) → (b ≡ true) × (0 < length new)
      → (new ≡ old) ⊎ (new ≡ old ++ t ∷ []) → AreBelow n compare (key_of n t.0) runs → IsEnded n compare b new runs
  ended_first b old [] t none (alone, some) put below = absurd (omega arith)
  ended_first b old (x ∷ rest) t none (alone, some) put below =
      subst (λ z. IsEnded n compare z (x ∷ rest) runs) (sym alone) (one put)
    where
      one : (x ∷ rest ≡ old) ⊎ (x ∷ rest ≡ old ++ t ∷ []) → (rest ≡ []) × AreBelow n compare (key_of n x.0) runs
      one (inl e) = let q : x ∷ rest ≡ [] = e ∙ none alone in absurd (cc)
      one (inr e) =
          let q : x ∷ rest ≡ t ∷ [] = e ∙ ap (λ z. z ++ t ∷ []) (none alone) in
          let r : rest ≡ [] = cc in
          let s : t ≡ x = cc in
          (r, subst (λ z. AreBelow n compare (key_of n z.0) runs) s below)

  -- the term that stays, taken from the end of those that do
  pub ended_lead :
      (rest front : Terms) (t : CodeKey × ℕ) → rest ≡ front ++ t ∷ [] → IsEnded n compare true rest runs
      → (rest ≡ t ∷ []) × AreBelow n compare (key_of n t.0) runs
  ended_lead rest [] t e h = (e, (subst (λ z. IsEnded n compare true z runs) e h).1)
  ended_lead rest (x ∷ front) t e h =
      let none : front ++ t ∷ [] ≡ [] = (subst (λ z. IsEnded n compare true z runs) e h).0 in
      let more : length front + 1 ≡ 0 = sym (length-append front (t ∷ [])) ∙ ap length none in
      absurd (omega (arith, more))

  pub ended_none : (rest : Terms) → rest ≡ [] → IsEnded n compare true rest runs → total n runs ≡ []
  ended_none rest e h = subst (λ z. IsEnded n compare true z runs) e h
