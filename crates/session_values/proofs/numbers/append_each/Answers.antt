use Rattle.std.proofs.Common.{ap, arith, flat_map, get_or, pos, sym, take, take_all, ◌++◌, ◌∙◌, ◌∷◌}
use Rattle.std.proofs.lemmas.Int.{ints, to_z-of_z}
use Rattle.std.proofs.lemmas.List.{flat_map_more, take_more}
use Rattle.std.specs.Fmt.{signed_decimal}
use Rattle.poly_text.proofs.Writing.{begins_more}
use Rattle.session_values.proofs.numbers.append_each.Goals as goal

pub returns-in-Err-clause-ok : goal.returns-in-Err-clause-ok
returns-in-Err-clause-ok c = tt

pub returns-in-Err-clause-err : goal.returns-in-Err-clause-err
returns-in-Err-clause-err c = begins_more c.args.out.now c.loop-k.out c.append_number.new.out c.in-Err.ensures.err.0 (_, c.loop-k.invariant) c.in-Err.ensures.err.1

pub loop-k-preserved : goal.loop-k-preserved
loop-k-preserved c =
    c.in-Ok.ensures.ok
    ∙ ap (λ k. c.loop-k.out ++ (32 ∷ signed_decimal k)) (search (arith, ints, to_z-of_z))
    ∙ ap (λ o. o ++ (32 ∷ signed_decimal (get_or c.args.numbers.now c.loop-k.k-index (pos 0)))) c.loop-k.invariant
    ∙ flat_map_more (λ k. 32 ∷ signed_decimal k) c.args.out.now (take c.loop-k.k-index c.args.numbers.now) (get_or c.args.numbers.now c.loop-k.k-index (pos 0))
    ∙ ap (λ l. c.args.out.now ++ flat_map (λ k. 32 ∷ signed_decimal k) l) (sym (take_more c.args.numbers.now c.loop-k.k-index (pos 0) c.loop-k-test.true))

pub returns-clause-ok : goal.returns-clause-ok
returns-clause-ok c =
    c.loop-k.invariant ∙ ap (λ l. c.args.out.now ++ flat_map (λ k. 32 ∷ signed_decimal k) l) (take_all c.loop-k.k-index c.args.numbers.now (omega arith))

pub returns-clause-err : goal.returns-clause-err
returns-clause-err c = tt
