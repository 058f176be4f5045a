use Rattle.std.proofs.Common.{◌≡◌, ◌++◌, drop, map, string_bytes}
use Rattle.poly_text.specs.Texts.{powers_texts}
use Rattle.poly_text.specs.Writing.{IsFront, powers_rest}
use Rattle.poly_text.proofs.polynomial.append_powers.Given as goal

abbrev pub invariant-loop-i : goal.invariant-loop-i
invariant-loop-i l =
    IsFront l.initial.out l.out
    × (l.out ++ powers_rest l.begun (powers_texts (map string_bytes (drop l.i l.vars)) (drop l.i l.exponents))
    ≡ l.initial.out ++ powers_rest l.initial.begun (powers_texts (map string_bytes l.vars) l.exponents))
