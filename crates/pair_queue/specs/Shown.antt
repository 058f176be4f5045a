-- What contracts see of the pairs of a run
use Rattle.std.specs.Prelude.{List, [], drop, length, take, ℕ, ◌++◌, ◌≡◌}
use Rattle.formal_sums.specs.FormalSums.{Each}
use Rattle.queue_updates.specs.declared.Update.{Update}
use Rattle.queue_updates.specs.declared.Update.TheVariants.{Gebauer, Plain}
use Rattle.basis_steps.specs.Criteria.{NoCriterionApplies, Skips, waiting}
use Rattle.basis_steps.specs.Pairs.{Drop, Pair}
use Rattle.basis_steps.specs.Queues.{share}
use Rattle.basis_steps.specs.States.{Run}
use Rattle.basis_steps.specs.Steps.{is_empty, out_with}
use Rattle.pair_criteria.specs.declared.pair.Pair.{Pair as CodePair}
use Rattle.pair_queue.specs.declared.given.Given.{Given}
use Rattle.pair_updates.specs.Leads.{LeadsShown, setting_of_leads, sums_shown}
use Rattle.pair_updates.specs.Pairs.{IsRealPair, pairs_of}

-- the leads; the queued pairs, each with its lcm; those that are out, each with its worker; what is queued as members come; and the pairs that new members dropped
pub record PairsShown : Type 0 where
  pub leads : LeadsShown
  pub queue : List CodePair
  pub out : List (Pair × ℕ)
  pub update : Update
  pub dropped : List Drop

-- all pairs to which a criterion applies were skipped, each the first such pair, or none where new members drop pairs; and the worker has its share of the first of those left
pub record IsJobGiven (q : PairsShown) (worker budget workers taken most : ℕ) (g : Given) (t : PairsShown) : Type 0 where
  pub left : List CodePair
  pub skips : Skips (setting_of_leads q.leads.variables q.leads) (sums_shown q.leads) q.out (pairs_of q.queue) g.skipped.items (pairs_of left)
  pub none : q.update ≡ Plain → NoCriterionApplies (setting_of_leads q.leads.variables q.leads) (sums_shown q.leads) (waiting (pairs_of left) q.out) (pairs_of left)
  pub skips_none : q.update ≡ Gebauer → g.skipped.items ≡ []
  pub real : Each (IsRealPair q.leads) left
  pub shared :
      (r : Run q.leads.variables) → r.budget ≡ budget → r.workers ≡ workers → r.setting.weights ≡ q.leads.weights
      → length g.pairs.items ≡ share r (sums_shown q.leads) taken most (pairs_of left)
  pub first : g.pairs.items ≡ take (length g.pairs.items) left
  pub given : g.given.items ≡ pairs_of g.pairs.items
  pub rest : t.queue ≡ drop (length g.pairs.items) left
  pub out : t.out ≡ q.out ++ out_with worker (pairs_of g.pairs.items)
  pub leads : t.leads ≡ q.leads
  pub update : t.update ≡ q.update
  pub dropped : t.dropped ≡ q.dropped
  pub none_left : g.none_left ≡ is_empty (pairs_of left)
