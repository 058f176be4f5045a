use Rattle.std.proofs.Common.{[], get_or, length, ℕ, ◌<◌, ◌∷◌, ◌≡◌}
use Rattle.term_lists.specs.Rings.{variables}
use Rattle.induced_leads.specs.Heads.{IsHead}
use Rattle.induced_leads.specs.declared.head.Head.{Head}
use Rattle.induced_leads.proofs.head.first_heads.Given as goal

abbrev pub invariant-loop-v : goal.invariant-loop-v
invariant-loop-v l = record {
  count : length l.each.items ≡ l.v-index;
  heads : (i : ℕ) (h : Head) → i < l.v-index → h ≡ get_or l.each.items i h → IsHead (variables l.ring) l.ring.weights (l.columns ∷ []) i h;
}
