use Rattle.std.proofs.Common.{ap, arith, cond, subst, sym, ◌<◌, ◌∙◌}
use Rattle.basis_steps.specs.Pairs.{is_same_pair}
use Rattle.pair_queue.proofs.Mirroring.{put_flags, put_mirrored}
use Rattle.pair_queue.specs.Tables.{AreWide, TableShown, flag}
use Rattle.pair_queue.proofs.table.Table.put.Goals as goal

pub invariant_of-self : goal.invariant_of-self
invariant_of-self c =
    let new = c.put_at-2.new.rows.items in
    let t : TableShown = record { members = c.self.inside.members; rows = c.self.inside.rows.items } in
    let within : c.args.j < c.self.inside.members = omega (arith, c.requires.within, ap (λ (t : TableShown). t.members) c.self.view_is) in
    put_mirrored t c.put_at.new.rows.items new c.args.i c.args.j c.args.set c.requires.order within c.self.invariant c.put_at.ensures.flags
    c.put_at-2.ensures.flags
    (c.put_at-2.ensures.len ∙ c.put_at.ensures.len) (subst (λ k. AreWide k new) (sym c.put_at-2.ensures.len) c.put_at-2.ensures.wide)

pub returns-clause-flags : goal.returns-clause-flags
returns-clause-flags c = λ x.
    let new = c.put_at-2.new.rows.items in
    let t : TableShown = record { members = c.self.inside.members; rows = c.self.inside.rows.items } in
    let within : c.args.j < c.self.inside.members = omega (arith, c.requires.within, ap (λ (t : TableShown). t.members) c.self.view_is) in
    put_flags t c.put_at.new.rows.items new c.args.i c.args.j c.args.set c.requires.order within c.self.invariant c.put_at.ensures.flags
    c.put_at-2.ensures.flags
    (c.put_at-2.ensures.len ∙ c.put_at.ensures.len) (subst (λ k. AreWide k new) (sym c.put_at-2.ensures.len) c.put_at-2.ensures.wide) x
    ∙ ap (λ (t : TableShown). cond (is_same_pair x (c.args.i, c.args.j)) c.args.set (flag t x)) c.self.view_is
