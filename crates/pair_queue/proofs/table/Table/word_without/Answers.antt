use Rattle.std.proofs.Common.{arith, ◌*◌, ◌+◌, ◌<◌, ◌∙◌}
use Rattle.std.specs.Prelude.{not, ◌&&◌}
use Rattle.pair_queue.proofs.MemberRows.{in_row}
use Rattle.pair_queue.proofs.table.Table.word_without.Goals as goal

pub returns : goal.returns
returns c = λ r l.
    let at = 64 * c.args.index + r in
    let known : c.args.b < c.args.other.now.members = omega (arith, c.requires.b, c.requires.sizes) in
    let mine = in_row (record { members = c.self.inside.members; rows = c.self.inside.rows.items }) c.args.self.now c.self.invariant c.self.view_is
    c.args.a c.index.result.now c.requires.a c.index.ensures at in
    let theirs = in_row (record { members = c.other.inside.members; rows = c.other.inside.rows.items }) c.args.other.now c.other.invariant c.other.view_is
    c.args.b c.index-2.result.now known c.index-2.ensures at in
    c.word_without.ensures r l ∙ (λ i. mine i && not (theirs i))
