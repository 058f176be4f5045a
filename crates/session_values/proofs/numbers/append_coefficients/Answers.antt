use Rattle.std.proofs.Common.{[], List, ap, arith, flat_map, length, pos, refl, subst, ℤ, ◌++◌, ◌∷◌, ◌≡◌}
use Rattle.std.proofs.lemmas.Fmt.{decimal_digit}
use Rattle.std.specs.Fmt.{signed_decimal}
use Rattle.std.specs.Prelude.{OnOk}
use Rattle.session_values.specs.Numbers.{coefficients_text}
use Rattle.session_values.proofs.numbers.append_coefficients.Goals as goal

-- of no coefficients the text is that of 0 alone
none_text : (K : List ℤ) → length K ≡ 0 → flat_map (λ k. 32 ∷ signed_decimal k) (pos 0 ∷ []) ≡ coefficients_text K
none_text [] none = ap (λ t. 32 ∷ (t ++ [])) (decimal_digit 0 (omega arith))
none_text (x ∷ K) none = absurd (omega (arith, none))

some_text : (K : List ℤ) → (length K ≡ 0 → ⊥) → flat_map (λ k. 32 ∷ signed_decimal k) K ≡ coefficients_text K
some_text [] some = absurd (some refl)
some_text (x ∷ K) some = refl

pub returns-then-coefficients-eq0-clause-ok : goal.returns-then-coefficients-eq0-clause-ok
returns-then-coefficients-eq0-clause-ok c =
    subst (λ t. OnOk c.append_each.result (c.append_each.new.out ≡ c.args.out.now ++ t))
    (none_text c.args.coefficients.now c.if-coefficients-eq0.true) c.append_each.ensures.ok

pub returns-else-coefficients-eq0-clause-ok : goal.returns-else-coefficients-eq0-clause-ok
returns-else-coefficients-eq0-clause-ok c =
    subst (λ t. OnOk c.append_each-else-coefficients-eq0.result (c.append_each-else-coefficients-eq0.new.out ≡ c.args.out.now ++ t))
    (some_text c.args.coefficients.now c.if-coefficients-eq0.false) c.append_each-else-coefficients-eq0.ensures.ok
