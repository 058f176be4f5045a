use Rattle.std.proofs.Common.{arith}
use Rattle.std.proofs.lemmas.Result.{on_ok_weaker}
use Rattle.poly_text.proofs.Entries.{cuts, entries_whole, raised, run_within}
use Rattle.poly_text.proofs.vector.append_runs.Goals as goal

pub split_at-requires : goal.split_at-requires
split_at-requires c = run_within _ _ _ c.run_length.ensures

pub append_rest-requires-clause-ascending : goal.append_rest-requires-clause-ascending
append_rest-requires-clause-ascending c =
    let cut = cuts 0 0 c.args.terms.now c.run_length.result (omega arith) c.requires.ascending c.run_length.ensures in
    rw c.split_at.ensures.back (raised 0 1 _ (omega arith) cut.above)

pub returns-clause-ok : goal.returns-clause-ok
returns-clause-ok c =
    let cut = cuts 0 0 c.args.terms.now c.run_length.result (omega arith) c.requires.ascending c.run_length.ensures in
    on_ok_weaker c.append_rest.result
    (λ k. entries_whole _ c.args.rank c.run_length.result c.args.terms.now c.split_at.result.0.now c.split_at.result.1.now c.args.out.now c.append_terms.new.out
    c.append_rest.new.out (omega arith) cut c.split_at.ensures.front c.split_at.ensures.back c.in_ok-append_terms.ensures.ok k)
    c.append_rest.ensures.ok
