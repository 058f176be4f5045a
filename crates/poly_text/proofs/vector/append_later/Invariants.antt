use Rattle.std.proofs.Common.{◌≡◌, ◌++◌, ◌-◌, map, string_bytes}
use Rattle.poly_text.specs.Writing.{IsFront, later_entries}
use Rattle.poly_text.proofs.vector.append_later.Given as goal

abbrev pub decreases-loop-next : goal.decreases-loop-next
decreases-loop-next l = l.rank - l.next

abbrev pub invariant-loop-next : goal.invariant-loop-next
invariant-loop-next l =
    IsFront l.initial.out l.out
    × (l.out ++ later_entries (map string_bytes l.vars) l.next (l.rank - l.next) l.terms
    ≡ l.initial.out ++ later_entries (map string_bytes l.vars) l.initial.next (l.rank - l.initial.next) l.terms)
