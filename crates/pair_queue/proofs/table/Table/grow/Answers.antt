use Rattle.std.proofs.Common.{ap, arith, length, ◌∙◌}
use Rattle.pair_queue.proofs.Mirroring.{grown_flags, grown_mirrored}
use Rattle.pair_queue.specs.Tables.{TableShown, flag}
use Rattle.pair_queue.proofs.table.Table.grow.Goals as goal

pub invariant_of-self : goal.invariant_of-self
invariant_of-self c =
    grown_mirrored (record { members = c.self.inside.members; rows = c.self.inside.rows.items }) c.args.count c.self.invariant
    (omega (arith, c.requires.more, ap (λ (t : TableShown). t.members) c.self.view_is))
    (omega (arith, c.requires.room, ap (λ (t : TableShown). length t.rows) c.self.view_is))

pub returns-clause-flags : goal.returns-clause-flags
returns-clause-flags c = λ x.
    grown_flags (record { members = c.self.inside.members; rows = c.self.inside.rows.items }) c.args.count c.self.invariant
    (omega (arith, c.requires.more, ap (λ (t : TableShown). t.members) c.self.view_is))
    (omega (arith, c.requires.room, ap (λ (t : TableShown). length t.rows) c.self.view_is)) x
    ∙ ap (λ (t : TableShown). flag t x) c.self.view_is
