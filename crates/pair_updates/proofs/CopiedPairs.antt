-- Lists of pairs that are made one after another
use Rattle.std.proofs.Common.{List, None, Option, [], ap, arith, get_or, inl, inr, length, subst, sym, take, ℕ, ◌++◌, ◌+◌, ◌<◌, ◌∙◌, ◌∷◌, ◌≡◌, ◌≤◌, ◌⊎◌}
use Rattle.std.proofs.Math.ListN.{get_or-append}
use Rattle.std.proofs.Math.Seq.{get_or-append_seam}
use Rattle.std.proofs.lemmas.Bool.{cases_lt}
use Rattle.std.proofs.lemmas.List.{take_more}
use Rattle.pair_criteria.specs.declared.pair.Pair.{Pair as CodePair}
use Rattle.pair_updates.specs.Dropping.{IsNewPair}
use Rattle.pair_updates.specs.Leads.{LeadsShown}

-- one more is copied
pub copy_next : (xs : List CodePair) (k : ℕ) (x y : CodePair) → k < length xs → x ≡ get_or xs k x → y ≡ x → take k xs ++ (y ∷ []) ≡ take (k + 1) xs
copy_next xs k x y l at same = ap (λ (z : CodePair). take k xs ++ (z ∷ [])) (same ∙ at) ∙ sym (take_more xs k x l)

-- one more new pair stands in the list
pub new_next :
    (m : LeadsShown) (h k : ℕ) (xs ys : List (Option ℕ)) (o : Option ℕ) → length xs ≡ k → ys ≡ xs ++ (o ∷ [])
    → ((i : ℕ) → i < k → IsNewPair m h i (get_or xs i None)) → IsNewPair m h k o
    → (i : ℕ) → i < k + 1 → IsNewPair m h i (get_or ys i None)
new_next m h k xs ys o len is each one i l = subst (λ (zs : List (Option ℕ)). IsNewPair m h i (get_or zs i None)) (sym is) (go (cases_lt i k))
  where
    go : (i < k) ⊎ (k ≤ i) → IsNewPair m h i (get_or (xs ++ (o ∷ [])) i None)
    go (inl q) = subst (IsNewPair m h i) (sym (get_or-append xs (o ∷ []) None i (omega (arith, q, len)))) (each i q)
    go (inr q) =
        let e : length xs ≡ i = omega (arith, len, l, q) in
        let at : get_or (xs ++ (o ∷ [])) i None ≡ o = ap (λ z. get_or (xs ++ (o ∷ [])) z None) (sym e) ∙ get_or-append_seam xs o [] None in
        subst (IsNewPair m h i) (sym at) (subst (λ z. IsNewPair m h z o) (sym len ∙ e) one)
