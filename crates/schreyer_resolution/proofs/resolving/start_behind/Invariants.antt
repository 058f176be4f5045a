use Rattle.std.specs.Prelude.{IfSome}
use Rattle.std.proofs.Common.{List, [], length, ℕ, ◌++◌, ◌∷◌, ◌≡◌, ◌≤◌}
use Rattle.term_lists.specs.Rings.{variables}
use Rattle.term_lists.specs.declared.key.Key.{Key as CodeKey}
use Rattle.resolution_maps.specs.Inducing.{Columns}
use Rattle.induced_leads.specs.Heads.{AreHeads}
use Rattle.schreyer_resolution.specs.Progress.{AreResolvedTo}
use Rattle.schreyer_resolution.proofs.resolving.start_behind.Given as goal

abbrev pub invariant-loop : goal.invariant-loop
invariant-loop l = AreResolvedTo l.ring l.rank l.reduced l.maps.items × (length l.maps.items ≡ l.counter) × (l.counter ≤ l.count)
    × ((below : Columns) (last : List (List (CodeKey × ℕ))) → l.maps.items ≡ below ++ last ∷ [] → IfSome l.heads (AreHeads (variables l.ring) l.ring.weights below))
