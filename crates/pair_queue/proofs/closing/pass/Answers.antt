use Rattle.std.proofs.Common.{ap, false, inl, inr, sym, true, ◌∙◌, ◌≡◌, ◌⊎◌}
use Rattle.std.proofs.lemmas.Bool.{false≢true}
use Rattle.basis_steps.proofs.Counting.{pair_ordered, pair_swapped}
use Rattle.basis_steps.specs.Pairs.{pair_of}
use Rattle.pair_queue.proofs.Putting.{either, put_fewer, put_here, still_free, still_shut}
use Rattle.pair_updates.specs.Leads.{setting_of_leads, sums_shown}
use Rattle.pair_queue.specs.Tables.{flag, flag_cleared}
use Rattle.pair_queue.proofs.closing.pass.Goals as goal

pub close_by-requires-clause-gone : goal.close_by-requires-clause-gone
close_by-requires-clause-gone c = ap (flag c.put.new.self) (pair_ordered c.args.i c.args.j c.requires.order)
    ∙ put_here (flag c.args.waits.now) (flag c.put.new.self) (c.args.i, c.args.j) false c.put.ensures.flags

pub close_by-requires-clause-shut : goal.close_by-requires-clause-shut
close_by-requires-clause-shut c = ap (flag c.put-2.new.self) (pair_ordered c.args.i c.args.j c.requires.order)
    ∙ put_here (flag c.args.due.now) (flag c.put-2.new.self) (c.args.i, c.args.j) false c.put-2.ensures.flags

pub close_by-requires-2-clause-gone : goal.close_by-requires-2-clause-gone
close_by-requires-2-clause-gone c = ap (flag c.put.new.self) (pair_swapped c.args.j c.args.i c.requires.order)
    ∙ put_here (flag c.args.waits.now) (flag c.put.new.self) (c.args.i, c.args.j) false c.put.ensures.flags

pub close_by-requires-2-clause-shut : goal.close_by-requires-2-clause-shut
close_by-requires-2-clause-shut c = go (either (flag c.close_by.new.due (pair_of c.args.j c.args.i)))
  where
    go : (flag c.close_by.new.due (pair_of c.args.j c.args.i) ≡ true) ⊎ (flag c.close_by.new.due (pair_of c.args.j c.args.i) ≡ false)
        → flag c.close_by.new.due (pair_of c.args.j c.args.i) ≡ false
    go (inl e) = absurd (false≢true (sym (ap (flag c.put-2.new.self) (pair_swapped c.args.j c.args.i c.requires.order)
        ∙ put_here (flag c.args.due.now) (flag c.put-2.new.self) (c.args.i, c.args.j) false c.put-2.ensures.flags)
        ∙ c.close_by.ensures.fewer (pair_of c.args.j c.args.i) e))
    go (inr e) = e

pub returns-clause-waits : goal.returns-clause-waits
returns-clause-waits c = λ t x. c.put.ensures.flags x t

pub returns-clause-known : goal.returns-clause-known
returns-clause-known c = λ x lt same known.
    let m = c.args.leads.now in
    let S = setting_of_leads m.variables m in
    let G = sums_shown m in
    let now : flag c.put.new.self ≡ flag_cleared (flag c.args.waits.now) (c.args.i, c.args.j) = λ t z. c.put.ensures.flags z t in
    record {
      shut = still_shut S G (flag c.args.waits.now) (flag c.put.new.self) c.args.i c.args.j now
          (flag c.args.due.now) (flag c.put-2.new.self) (flag c.close_by.new.due)
          (flag c.close_by-2.new.due) x c.put-2.ensures.flags c.close_by.ensures.closed c.close_by-2.ensures.closed same known.shut;
      free = still_free S G (flag c.args.waits.now) (flag c.put.new.self) c.args.i c.args.j now
          (flag c.args.due.now) (flag c.close_by.new.due) (flag c.close_by-2.new.due) x lt
          (λ z e. put_fewer (flag c.args.due.now) (flag c.put-2.new.self) (c.args.i, c.args.j) c.put-2.ensures.flags z (c.close_by.ensures.fewer z e))
          c.close_by-2.ensures.fewer c.close_by.ensures.free c.close_by-2.ensures.free known.free;
    }
