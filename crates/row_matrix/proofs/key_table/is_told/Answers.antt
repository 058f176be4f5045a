use Rattle.std.proofs.Common.{ap, cond, subst, sym, ◌*◌, ◌+◌, ◌<◌, ◌^◌, ◌∙◌, ◌≡◌, ◌≤◌}
use Rattle.row_matrix.specs.Hashes.{digit_base}
use Rattle.row_matrix.proofs.key_table.is_told.Goals as goal

pub returns-then-are_short : goal.returns-then-are_short
returns-then-are_short c = λ z.
    let base : digit_base c.args.n ≡ 7 = c.are_short.ensures ∙ ap (λ b. cond b 7 31) c.if-are_short.true in
    let told = c.are_digits.ensures z in
    (subst (λ m. (c.args.position + 1) * m ^ c.args.n ≤ 2 ^ 64) (sym base) told.0, subst (λ m. c.args.degree < m) (sym base) told.1)

pub returns : goal.returns
returns c = λ z.
    let base : digit_base c.args.n ≡ 31 = c.are_short.ensures ∙ ap (λ b. cond b 7 31) c.if-are_short.false in
    let told = c.are_digits-2.ensures z in
    (subst (λ m. (c.args.position + 1) * m ^ c.args.n ≤ 2 ^ 64) (sym base) told.0, subst (λ m. c.args.degree < m) (sym base) told.1)
