use Rattle.std.proofs.Common.{ap, length, sym, ◌∙◌}
use Rattle.row_matrix.proofs.Chains.{numbered_last}
use Rattle.row_matrix.proofs.key_table.KeyTable.put.Goals as goal

pub returns-clause-ok : goal.returns-clause-ok
returns-clause-ok c =
    numbered_last _ c.self.inside.keys.items _ c.args.key c.len-i.result c.self.view_is c.in_ok-append.ensures.ok
    (c.len-i.ensures ∙ sym c.deref.ensures.len ∙ ap length c.deref.ensures.value)
