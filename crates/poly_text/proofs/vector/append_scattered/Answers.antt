use Rattle.std.proofs.Common.{arith}
use Rattle.std.proofs.lemmas.Result.{on_ok_weaker}
use Rattle.poly_text.proofs.Entries.{entries_first}
use Rattle.poly_text.proofs.vector.append_scattered.Goals as goal

pub append_entry-requires : goal.append_entry-requires
append_entry-requires c = c.requires

pub append_later-requires : goal.append_later-requires
append_later-requires c = c.requires

pub returns-clause-ok : goal.returns-clause-ok
returns-clause-ok c =
    on_ok_weaker c.append_later.result
    (λ k. entries_first _ c.args.rank c.args.terms.now c.args.out.now c.append_entry.new.out c.append_later.new.out (omega arith) c.in-Ok.ensures.ok k)
    c.append_later.ensures.ok
