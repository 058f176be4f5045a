use Rattle.std.proofs.Common.{ap, arith, cond, false, ltb, sym, ◌&&◌, ◌∙◌, ◌≡◌}
use Rattle.std.proofs.lemmas.Bool.{le-ltb, lt-ltb}
use Rattle.row_matrix.proofs.Digits.{digit_base_is}
use Rattle.row_matrix.proofs.key_table.are_short.Goals as goal

pub returns-then-n-gt12 : goal.returns-then-n-gt12
returns-then-n-gt12 c =
    let n = c.args.n in
    digit_base_is n ∙ ap (λ b. cond (b && ltb n 16) 7 31) (lt-ltb 12 n (omega arith))

pub returns-else-n-gt12 : goal.returns-else-n-gt12
returns-else-n-gt12 c =
    let n = c.args.n in
    let few : ltb 12 n ≡ false = le-ltb 12 n (omega arith) in
    digit_base_is n ∙ ap (λ b. cond (b && ltb n 16) 7 31) few ∙ ap (λ b. cond b 7 31) (sym few)
