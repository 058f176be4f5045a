use Rattle.std.proofs.Common.{ap, cond, length, sym, ◌∙◌, ◌≡◌}
use Rattle.std.specs.Prelude.{fold}
use Rattle.row_matrix.specs.Hashes.{digit_base, hash_step}
use Rattle.row_matrix.proofs.key_table.hash_exponents.Goals as goal

pub returns-then-are_short : goal.returns-then-are_short
returns-then-are_short c =
    let xs = c.args.exponents.now in
    let base : digit_base (length xs) ≡ 7 =
    c.are_short.ensures ∙ ap (λ b. cond b 7 31) c.if-are_short.true in
    c.hash_digits.ensures ∙ ap (λ m. fold (hash_step m) c.args.start xs) (sym base)

pub returns : goal.returns
returns c =
    let xs = c.args.exponents.now in
    let base : digit_base (length xs) ≡ 31 =
    c.are_short.ensures ∙ ap (λ b. cond b 7 31) c.if-are_short.false in
    c.hash_digits-2.ensures ∙ ap (λ m. fold (hash_step m) c.args.start xs) (sym base)
