use Rattle.std.proofs.Common.{ap, arith, subst, sym, ◌∙◌}
use Rattle.row_matrix.proofs.KeyProducts.{hash_sum, product_made}
use Rattle.row_matrix.specs.Hashes.{IsNumbered, Lacks, hash_of, key_product}
use Rattle.row_matrix.proofs.key_table.KeyTable.number_of_product.Goals as goal

pub find-requires-clause-hash : goal.find-requires-clause-hash
find-requires-clause-hash c =
    let e = c.requires in
    hash_sum c.args.t.now c.args.key.now c.args.added c.args.hash e.variables e.added e.hash (omega arith)

pub put-requires-clause-hash : goal.put-requires-clause-hash
put-requires-clause-hash c =
    let m = c.in_ok-mul.field-0 in
    let e = c.requires in
    hash_sum c.args.t.now c.args.key.now c.args.added c.args.hash e.variables e.added e.hash (omega arith) ∙ ap hash_of (sym (product_made c.args.t.now c.args.key.now m c.requires.variables c.in_ok-mul.ensures.sums c.in_ok-mul.ensures.degree))

pub put-requires-clause-lacks : goal.put-requires-clause-lacks
put-requires-clause-lacks c =
    let m = c.in_ok-mul.field-0 in
    subst (Lacks c.args.self.now) (sym (product_made c.args.t.now c.args.key.now m c.requires.variables c.in_ok-mul.ensures.sums c.in_ok-mul.ensures.degree))
    (subst (λ ks. Lacks ks (key_product c.args.t.now c.args.key.now)) (c.deref.ensures.value ∙ c.self.view_is) c.in_default.ensures.none)

pub returns-in-Ok-clause-ok : goal.returns-in-Ok-clause-ok
returns-in-Ok-clause-ok c =
    let m = c.in_ok-mul.field-0 in
    subst (λ k. IsNumbered c.args.self.now c.put.new.self k c.in-Ok.i) (product_made c.args.t.now c.args.key.now m c.requires.variables c.in_ok-mul.ensures.sums c.in_ok-mul.ensures.degree) c.in-Ok.ensures.ok
