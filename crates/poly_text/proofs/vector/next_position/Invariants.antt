use Rattle.std.proofs.Common.{◌≡◌, ◌<◌, ◌≤◌, [], drop, ℕ}
use Rattle.poly_text.specs.Texts.{terms_at}
use Rattle.poly_text.proofs.vector.next_position.Given as goal

abbrev pub invariant-loop-term : goal.invariant-loop-term
invariant-loop-term l =
    (l.from ≤ l.least)
    × (l.least ≤ l.bound)
    × ((q : ℕ) → l.from ≤ q → q < l.least → terms_at q (drop l.term-index l.terms) ≡ [] → terms_at q l.terms ≡ [])
