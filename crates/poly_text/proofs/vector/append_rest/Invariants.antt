use Rattle.std.proofs.Common.{◌≡◌, ◌++◌, ◌+◌, ◌-◌, ◌<◌, drop, map, string_bytes}
use Rattle.poly_text.specs.Writing.{AscendsFrom, IsFront, entries_rest}
use Rattle.poly_text.proofs.vector.append_rest.Given as goal

abbrev pub invariant-loop-term : goal.invariant-loop-term
invariant-loop-term l =
    IsFront l.initial.out l.out
    × (l.last < l.rank)
    × AscendsFrom l.last (drop l.term-index l.terms)
    × (l.out ++ entries_rest (map string_bytes l.vars) l.last (l.rank - (l.last + 1)) (drop l.term-index l.terms)
    ≡ l.initial.out ++ entries_rest (map string_bytes l.vars) l.initial.last (l.rank - (l.initial.last + 1)) l.terms)
