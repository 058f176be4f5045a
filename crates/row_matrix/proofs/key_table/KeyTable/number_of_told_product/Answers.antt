use Rattle.std.proofs.Common.{ap, arith, map, sym, ◌∙◌}
use Rattle.row_matrix.proofs.PartProducts.{known_numbered}
use Rattle.row_matrix.specs.Hashes.{hash_of}
use Rattle.row_matrix.proofs.key_table.KeyTable.number_of_told_product.Goals as goal

pub returns-in-Some-clause-ok : goal.returns-in-Some-clause-ok
returns-in-Some-clause-ok c =
    let e = c.requires in
    known_numbered c.args.self.now c.deref.result.now c.args.t.now c.args.key.now c.args.added c.args.hash c.in-Some.i (e.told c.if-told.true) (sym e.variables)
    e.added e.hash (omega arith) (c.deref.ensures.value ∙ c.self.invariant.0.hashed ∙ ap (map hash_of) c.self.view_is) c.in-Some.ensures.0 c.in-Some.ensures.1
