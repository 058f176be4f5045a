use Rattle.std.proofs.Common.{◌≡◌, ◌++◌, drop, map, string_bytes}
use Rattle.poly_text.specs.Texts.{term_text}
use Rattle.poly_text.specs.Writing.{IsFront, tails}
use Rattle.poly_text.proofs.polynomial.append_terms.Given as goal

abbrev pub invariant-loop-term : goal.invariant-loop-term
invariant-loop-term l =
    IsFront l.initial.out l.out
    × (l.out ++ tails 43 (map (term_text (map string_bytes l.vars)) (drop l.term-index l.rest))
    ≡ l.initial.out ++ tails 43 (map (term_text (map string_bytes l.vars)) l.rest))
