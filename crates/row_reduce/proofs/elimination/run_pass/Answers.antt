use Rattle.std.proofs.Common.{length, subst, ◌++◌, ◌≡◌}
use Rattle.dense_reduction.specs.Words.{row_leads_of}
use Rattle.row_reduce.proofs.Echelons.{between_next, between_read, from_next, from_read, left_some, places_known, room_next, room_read}
use Rattle.row_reduce.specs.Echelons.{with_left, columns_behind}
use Rattle.row_reduce.specs.Passes.{places}
use Rattle.row_reduce.proofs.elimination.run_pass.Goals as goal

pub put_all-requires-clause-within : goal.put_all-requires-clause-within
put_all-requires-clause-within g c =
    let s = c.args.state.now in
    let passed = c.in_ok-passed.passed in
    places_known c.args.modulus.now.value (length s.held.items) c.args.inputs s.rows.items s.leads.items s.held.items s.pending.items
    passed.words.items passed.left.items c.in_ok-passed.later.items c.requires.ready c.in_ok-passed.ensures

pub put_all-requires-clause-some : goal.put_all-requires-clause-some
put_all-requires-clause-some g c =
    let s = c.args.state.now in
    let passed = c.in_ok-passed.passed in
    left_some c.args.modulus.now.value (length s.held.items) c.args.inputs s.rows.items s.leads.items s.held.items s.pending.items
    passed.words.items passed.left.items c.in_ok-passed.later.items c.requires.ready c.in_ok-passed.ensures

pub returns-clause-ready : goal.returns-clause-ready
returns-clause-ready g c =
    let s = c.args.state.now in
    let p = c.args.modulus.now.value in
    let n = length s.held.items in
    let passed = c.in_ok-passed.passed in
    let later = c.in_ok-passed.later.items in
    let new = c.put_all.new.state in
    let put = c.in_ok-put_all.ensures in
    between_read p n c.args.inputs new.rows.items (with_left s.rows.items passed.left.items) new.leads.items new.held.items passed.words.items
    new.pending.items (places passed.left.items ++ later)
    put.rows (subst (λ rs. new.leads.items ≡ row_leads_of rs) put.rows put.leads) put.held put.pending
    (between_next p n c.args.inputs s.rows.items s.leads.items s.held.items s.pending.items passed.words.items passed.left.items later
    c.requires.ready c.in_ok-passed.ensures)

pub returns-clause-kept : goal.returns-clause-kept
returns-clause-kept g c = λ M from.
    let s = c.args.state.now in
    let p = c.args.modulus.now.value in
    let passed = c.in_ok-passed.passed in
    let later = c.in_ok-passed.later.items in
    let new = c.put_all.new.state in
    let put = c.in_ok-put_all.ensures in
    from_read p M new.rows.items (with_left s.rows.items passed.left.items) new.held.items passed.words.items new.pending.items (places passed.left.items ++ later)
    put.rows put.held put.pending
    (from_next p (length s.held.items) c.args.inputs s.rows.items s.leads.items s.held.items s.pending.items passed.words.items passed.left.items later
    c.requires.ready c.in_ok-passed.ensures M from)

pub returns-clause-less : goal.returns-clause-less
returns-clause-less g c =
    let s = c.args.state.now in
    let p = c.args.modulus.now.value in
    let n = length s.held.items in
    let passed = c.in_ok-passed.passed in
    let later = c.in_ok-passed.later.items in
    let new = c.put_all.new.state in
    let put = c.in_ok-put_all.ensures in
    room_read n (columns_behind n s.rows.items s.pending.items) new.rows.items (with_left s.rows.items passed.left.items) new.pending.items
    (places passed.left.items ++ later) put.rows put.pending
    (room_next p n c.args.inputs s.rows.items s.leads.items s.held.items s.pending.items passed.words.items passed.left.items later
    c.requires.ready c.in_ok-passed.ensures)
