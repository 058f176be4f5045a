use Rattle.std.proofs.Common.{[], get_or, length, ℕ, ◌++◌, ◌<◌, ◌∷◌, ◌≡◌}
use Rattle.term_lists.specs.Rings.{variables}
use Rattle.resolution_maps.specs.Inducing.{Columns}
use Rattle.induced_leads.specs.Heads.{AreHeads, IsHead}
use Rattle.induced_leads.specs.declared.head.Head.{Head}
use Rattle.induced_leads.proofs.head.next_heads.Given as goal

abbrev pub invariant-loop-v : goal.invariant-loop-v
invariant-loop-v l = record {
  count : length l.each.items ≡ l.v-index;
  heads : (maps : Columns) (i : ℕ) (h : Head) → AreHeads (variables l.ring) l.ring.weights maps l.below → i < l.v-index → h ≡ get_or l.each.items i h → IsHead (variables l.ring) l.ring.weights (maps ++ l.columns ∷ []) i h;
}
