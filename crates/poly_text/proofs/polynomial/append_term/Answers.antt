use Rattle.std.proofs.Common.{arith, ◌≡◌}
use Rattle.std.proofs.lemmas.Bool.Decides.{nat_tests}
use Rattle.std.proofs.lemmas.Result.{on_ok_weaker}
use Rattle.poly_text.proofs.Writing.{term_with_one, term_with_other}
use Rattle.poly_text.proofs.polynomial.append_term.Goals as goal

pub returns-then-bare-clause-ok : goal.returns-then-bare-clause-ok
returns-then-bare-clause-ok c =
    let one : c.args.term.now.1 ≡ 1 = grind (arith, nat_tests) in
    on_ok_weaker c.append_powers.result
    (term_with_one _ c.args.term.now c.exponents-exponents.result.now c.args.out.now c.append_powers.new.out one c.exponents-exponents.ensures.value)
    c.append_powers.ensures.ok

pub returns-clause-ok : goal.returns-clause-ok
returns-clause-ok c =
    let other : c.args.term.now.1 ≡ 1 → ⊥ = grind (arith, nat_tests) in
    on_ok_weaker c.append_powers-2.result
    (term_with_other _ c.args.term.now c.exponents-exponents.result.now c.args.out.now c.append_number.new.out c.append_powers-2.new.out
    other c.exponents-exponents.ensures.value c.in_ok-append_number.ensures.ok)
    c.append_powers-2.ensures.ok
