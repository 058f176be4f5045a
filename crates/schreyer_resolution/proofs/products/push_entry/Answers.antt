use Rattle.std.proofs.Common.{subst, sym}
use Rattle.monomial_orders.specs.Kept.{IsWeighed}
use Rattle.term_lists.specs.Rings.{variables}
use Rattle.row_matrix.proofs.KeyProducts.{key_product_weighed}
use Rattle.row_matrix.proofs.Names.{keys_step}
use Rattle.row_matrix.specs.Hashes.{key_product}
use Rattle.schreyer_resolution.proofs.Pushing.{flags_whole}
use Rattle.schreyer_resolution.proofs.products.push_entry.Goals as goal

pub know_key-requires-clause-monomial : goal.know_key-requires-clause-monomial
know_key-requires-clause-monomial c =
    let ring = c.args.ring.now in
    let t = c.args.t.now in
    let x = c.args.term.now in
    subst (λ z. IsWeighed (variables ring) ring.weights z.monomial) (sym c.in-Ok.ensures.ok.there)
    (key_product_weighed (variables ring) ring.weights t x.0 c.requires.monomial c.requires.term)

pub returns-in_ok-keep_entry-clause-part : goal.returns-in_ok-keep_entry-clause-part
returns-in_ok-keep_entry-clause-part c =
    let ring = c.args.ring.now in
    let t = c.args.t.now in
    let x = c.args.term.now in
    let old = c.args.products.now in
    let new = c.number_of_told_product-found.new.self in
    let known = c.in_ok-know_key.ensures in
    record {
      keys = keys_step (variables ring) ring.weights old.numbers new (key_product t x.0) c.in-Ok.number c.requires.part.keys c.in-Ok.ensures.ok
          (key_product_weighed (variables ring) ring.weights t x.0 c.requires.monomial c.requires.term);
      whole = flags_whole old.numbers new (key_product t x.0) c.in-Ok.number _ _ c.in-Ok.ensures.ok c.requires.part.whole known.known known.next;
      free = known.free;
      found = known.found;
    }

pub returns-else-not-index-clause-part : goal.returns-else-not-index-clause-part
returns-else-not-index-clause-part c =
    let ring = c.args.ring.now in
    let t = c.args.t.now in
    let x = c.args.term.now in
    let old = c.args.products.now in
    let new = c.number_of_told_product-found.new.self in
    let known = c.in_ok-know_key.ensures in
    record {
      keys = keys_step (variables ring) ring.weights old.numbers new (key_product t x.0) c.in-Ok.number c.requires.part.keys c.in-Ok.ensures.ok
          (key_product_weighed (variables ring) ring.weights t x.0 c.requires.monomial c.requires.term);
      whole = flags_whole old.numbers new (key_product t x.0) c.in-Ok.number _ _ c.in-Ok.ensures.ok c.requires.part.whole known.known known.next;
      free = known.free;
      found = known.found;
    }
