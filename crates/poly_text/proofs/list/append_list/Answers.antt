use Rattle.std.proofs.lemmas.Result.{err_from_is_err_and}
use Rattle.poly_text.proofs.Writing.{begins_more}
use Rattle.poly_text.proofs.list.append_list.Goals as goal

pub returns-in_err-push-clause-err : goal.returns-in_err-push-clause-err
returns-in_err-push-clause-err c =
    let p = err_from_is_err_and c.from_residual.result c.from_residual.ensures.1 in
    rw (p.1, c.in_err-push.ensures.items)
    (begins_more c.args.out.now c.loop-v.out c.push_vect.new.out _ (_, c.loop-v.invariant) c.in-Ok.ensures.ok)
