use Rattle.std.proofs.Common.{◌∙◌, ◌++◌, ap, sym}
use Rattle.std.proofs.lemmas.Fmt.{decimal_digit}
use Rattle.poly_text.proofs.polynomial.append_number.Goals as goal

pub returns-then-n-lt10-clause-ok : goal.returns-then-n-lt10-clause-ok
returns-then-n-lt10-clause-ok c = c.in_ok-push.ensures.items ∙ ap (λ r. c.args.out.now ++ r) (sym (decimal_digit c.args.n c.if-n-lt10.true))
