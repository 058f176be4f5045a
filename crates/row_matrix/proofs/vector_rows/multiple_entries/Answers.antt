use Rattle.std.proofs.Common.{arith, length, subst, sym, take, ◌+◌, ◌≡◌}
use Rattle.monomial_orders.specs.Kept.{IsWeighed}
use Rattle.term_lists.proofs.Scaling.{Each_at}
use Rattle.term_lists.specs.Multiples.{rescaled}
use Rattle.term_lists.specs.Vectors.{HasVariables, sum_of}
use Rattle.term_lists.specs.declared.key.Key.{Key}
use Rattle.row_matrix.proofs.DividedRows.{multiple_step}
use Rattle.row_matrix.proofs.KeyProducts.{key_product_weighed}
use Rattle.row_matrix.proofs.Names.{grown_step, keys_step}
use Rattle.row_matrix.specs.Hashes.{IsNumbered, key_product}
use Rattle.row_matrix.specs.Naming.{AreNamed, IsGrown}
use Rattle.row_matrix.proofs.vector_rows.multiple_entries.Goals as goal

pub loop-i-preserved : goal.loop-i-preserved
loop-i-preserved c =
    let x = c.index-v-i.result in
    let i = c.loop-i.i in
    let one = c.args.one.now in
    let n = length one.exponents in
    let p = c.args.modulus.now.value in
    let lt = c.loop-i-test.true in
    let key : Key = key_product one x.0 in
    let number = c.in_ok-number.number in
    let v = c.loop-i.invariant in
    let g : IsNumbered c.loop-i.keys c.number_of.new.keys key number = c.in_ok-number.ensures in
    let sized : length x.0.monomial.exponents ≡ n = Each_at (HasVariables n) c.args.v.now i x c.requires.variables lt c.index-v-i.is in
    record {
      named = subst (λ es. AreNamed n c.number_of.new.keys es (sum_of n (rescaled p c.args.c (take (i + 1) c.args.v.now)))) (sym c.push_reserved.ensures.items)
          (multiple_step n p c.args.c one c.args.v.now i x c.loop-i.keys c.number_of.new.keys c.loop-i.entries.items number c.mul.result
          c.requires.one sized v.named g lt c.index-v-i.is c.mul.ensures.value);
      grown = subst (IsGrown c.args.keys.now c.number_of.new.keys) (sym c.push_reserved.ensures.items)
          (grown_step c.args.keys.now c.loop-i.keys c.number_of.new.keys key c.loop-i.entries.items number c.mul.result v.grown g);
      weighed = λ ws wt wv h. keys_step n ws c.loop-i.keys c.number_of.new.keys key number (v.weighed ws wt wv h) g
          (key_product_weighed n ws one x.0 wt (Each_at (λ u. IsWeighed n ws u.0.monomial) c.args.v.now i x wv lt c.index-v-i.is));
      len = omega arith;
      room = omega arith;
    }
