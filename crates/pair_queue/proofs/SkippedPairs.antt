-- What is left after pairs were skipped, or none where new members drop pairs
use Rattle.std.proofs.Common.{Bool, List, [], refl, subst, sym, ℕ, ◌≡◌}
use Rattle.queue_updates.specs.declared.Update.{Update}
use Rattle.queue_updates.specs.declared.Update.TheVariants.{Gebauer, Plain}
use Rattle.basis_steps.specs.Criteria.{Skips}
use Rattle.basis_steps.specs.Pairs.{Pair}
use Rattle.basis_steps.specs.Queues.{IsSorted}
use Rattle.pair_criteria.specs.declared.pair.Pair.{Pair as CodePair}
use Rattle.pair_updates.proofs.LeastDegree.{sorted_left}
use Rattle.pair_updates.specs.Leads.{LeadsShown, setting_of_leads, sums_shown}
use Rattle.pair_updates.specs.Pairs.{pairs_of}
use Rattle.pair_queue.specs.Skipping.{AreSkipped}

pub left_sorted :
    (u : Update) (m : LeadsShown) (out : List (Pair × ℕ)) (queue skipped : List Pair) (left : List CodePair) (waits : Pair → Bool)
    → IsSorted (setting_of_leads m.variables m) (sums_shown m) queue
    → (u ≡ Plain → AreSkipped m out queue skipped (pairs_of left) waits) → (u ≡ Gebauer → pairs_of left ≡ queue)
    → IsSorted (setting_of_leads m.variables m) (sums_shown m) (pairs_of left)
left_sorted Plain m out queue skipped left waits sorted skips same =
    sorted_left (setting_of_leads m.variables m) (sums_shown m) out queue skipped (pairs_of left) (skips refl).skips sorted
left_sorted Gebauer m out queue skipped left waits sorted skips same =
    subst (IsSorted (setting_of_leads m.variables m) (sums_shown m)) (sym (same refl)) sorted

pub left_skips :
    (u : Update) (m : LeadsShown) (out : List (Pair × ℕ)) (queue skipped : List Pair) (left : List CodePair) (waits : Pair → Bool)
    → (u ≡ Plain → AreSkipped m out queue skipped (pairs_of left) waits) → (u ≡ Gebauer → skipped ≡ []) → (u ≡ Gebauer → pairs_of left ≡ queue)
    → Skips (setting_of_leads m.variables m) (sums_shown m) out queue skipped (pairs_of left)
left_skips Plain m out queue skipped left waits skips none same = (skips refl).skips
left_skips Gebauer m out queue skipped left waits skips none same =
    subst (λ (s : List Pair). Skips (setting_of_leads m.variables m) (sums_shown m) out queue s (pairs_of left)) (sym (none refl)) (same refl)
