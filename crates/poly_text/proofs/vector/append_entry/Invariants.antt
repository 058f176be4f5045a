use Rattle.std.proofs.Common.{◌≡◌, ◌++◌, drop, map, string_bytes}
use Rattle.poly_text.specs.Texts.{terms_at, term_text}
use Rattle.poly_text.specs.Writing.{IsFront, terms_rest}
use Rattle.poly_text.proofs.vector.append_entry.Given as goal

abbrev pub invariant-loop-term : goal.invariant-loop-term
invariant-loop-term l =
    IsFront l.initial.out l.out
    × (l.out ++ terms_rest l.begun (map (term_text (map string_bytes l.vars)) (terms_at l.position (drop l.term-index l.terms)))
    ≡ l.initial.out ++ terms_rest l.initial.begun (map (term_text (map string_bytes l.vars)) (terms_at l.position l.terms)))
