-- Pairs that are kept and skipped, one after another
use Rattle.std.proofs.Common.{Bool, List, [], ap, append_assoc, drop, refl, subst, sym, take, ℕ, ◌++◌}
use Rattle.std.proofs.Common.{◌∙◌, ◌∷◌, ◌≡◌}
use Rattle.std.proofs.lemmas.List.{take-append-drop}
use Rattle.formal_sums.specs.FormalSums.{FormalSum}
use Rattle.bases.specs.Settings.{Setting}
use Rattle.pair_criteria.specs.declared.pair.Pair.{Pair as CodePair}
use Rattle.basis_steps.specs.Criteria.{CriterionApplies, NoCriterionApplies, Skips, waiting}
use Rattle.basis_steps.specs.Pairs.{Pair}
use Rattle.pair_queue.proofs.Tabling.{table_is, table_less}
use Rattle.pair_updates.proofs.PairLists.{pairs_append}
use Rattle.pair_updates.specs.Pairs.{index_pair_of, pairs_of}
use Rattle.pair_updates.specs.Leads.{LeadsShown, setting_of_leads, sums_shown}
use Rattle.pair_queue.specs.Skipping.{AreSkipped, IsSpared, NoneIsSpared}
use Rattle.pair_queue.specs.Tables.{flag_cleared, flagged}

skips_more :
    {n : ℕ} (S : Setting n) (G : List (FormalSum n)) (out : List (Pair × ℕ)) (queue skipped front back : List Pair) (x : Pair)
    → Skips S G out queue skipped (front ++ x ∷ back) → NoCriterionApplies S G (waiting (front ++ x ∷ back) out) front
    → CriterionApplies S G (waiting (front ++ x ∷ back) out) x → Skips S G out queue (skipped ++ x ∷ []) (front ++ back)
skips_more S G out queue [] front back x d none a =
    (front, back, sym d, subst (λ q. NoCriterionApplies S G (waiting q out) front) d none, subst (λ q. CriterionApplies S G (waiting q out) x) d a, refl)
skips_more S G out queue (y ∷ skipped) front back x (f, k, e, n, p, rest) none a =
    (f, k, e, n, p, skips_more S G out (f ++ k) skipped front back x rest none a)

-- the pair is skipped
pub pass_over :
    (m : LeadsShown) (out : List (Pair × ℕ)) (queue skipped front back : List Pair) (x : Pair) (f : Pair → Bool)
    → NoneIsSpared m f front → IsSpared m f x
    → AreSkipped m out queue skipped (front ++ x ∷ back) f
    → AreSkipped m out queue (skipped ++ x ∷ []) (front ++ back) (flag_cleared f x)
pass_over m out queue skipped front back x f none spared h =
    let S = setting_of_leads m.variables m in
    let G = sums_shown m in
    let is : flagged f ≡ waiting (front ++ x ∷ back) out = table_is f (front ++ x ∷ back) out h.table in
    record {
      skips = skips_more S G out queue skipped front back x h.skips (subst (λ w. NoCriterionApplies S G w front) is none)
          (subst (λ w. CriterionApplies S G w x) is spared);
      table = table_less f front back x out h.table;
    }

-- the pair is kept: what is left is the same
pub left_kept : (kept rest : List CodePair) (x : CodePair) → pairs_of kept ++ pairs_of (x ∷ rest) ≡ pairs_of (kept ++ x ∷ []) ++ pairs_of rest
left_kept kept rest x = sym (append_assoc (pairs_of kept) (index_pair_of x ∷ []) (pairs_of rest)) ∙ ap (λ z. z ++ pairs_of rest) (sym (pairs_append kept (x ∷ [])))

-- pairs are put back: what is left is the same
pub left_back :
    (count : ℕ) (kept rest fewer more : List CodePair)
    → fewer ≡ take count kept → more ≡ drop count kept ++ rest → pairs_of kept ++ pairs_of rest ≡ pairs_of fewer ++ pairs_of more
left_back count kept rest fewer more e f =
    sym (pairs_append kept rest)
    ∙ ap (λ z. pairs_of (z ++ rest)) (sym (take-append-drop count kept))
    ∙ ap pairs_of (append_assoc (take count kept) (drop count kept) rest)
    ∙ pairs_append (take count kept) (drop count kept ++ rest)
    ∙ (λ i. pairs_of (sym e i) ++ pairs_of (sym f i))
