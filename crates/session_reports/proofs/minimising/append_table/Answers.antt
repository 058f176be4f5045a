use Rattle.poly_text.proofs.Writing.{begins_more}
use Rattle.session_reports.proofs.minimising.append_table.Goals as goal

pub returns-in-Err-clause-err : goal.returns-in-Err-clause-err
returns-in-Err-clause-err c =
    let more = c.in-Err.ensures.err in
    begins_more c.args.out.now c.loop-entry.out c.append_entry.new.out more.0 (_, c.loop-entry.invariant) more.1
