use Rattle.std.proofs.Common.{[], ap, arith, get_or, length, map, sym, ℕ, ◌++◌, ◌∙◌, ◌∷◌, ◌<◌, ◌≡◌}
use Rattle.term_lists.proofs.Scaling.{Each_at}
use Rattle.term_lists.specs.Vectors.{HasVariables}
use Rattle.term_lists.specs.declared.key.Key.{Key}
use Rattle.row_matrix.proofs.PartProducts.{known_numbered, part_more, term_hash_at}
use Rattle.row_matrix.specs.Hashes.{IsNumbered, hash_of, key_product}
use Rattle.row_matrix.specs.Told.{TellsProduct}
use Rattle.row_matrix.proofs.key_table.KeyTable.push_known.Goals as goal

pub loop-i-preserved : goal.loop-i-preserved
loop-i-preserved c =
    let keys = c.args.self.now in
    let t = c.args.t.now in
    let v = c.args.v.now in
    let i = c.loop-i.i in
    let x = c.index-v-i.result in
    let number = c.in-Some.number in
    let lt : i < length v = c.loop-i-test.true in
    let told : TellsProduct keys t x.0 =
    Each_at (λ u. TellsProduct keys t u.0) v i x (c.requires.told c.if-not-told.false) lt c.index-v-i.is in
    let sized : length x.0.monomial.exponents ≡ length t.exponents = Each_at (HasVariables (length t.exponents)) v i x c.requires.variables lt c.index-v-i.is in
    let numbered : IsNumbered keys keys (key_product t x.0) number =
    known_numbered keys c.deref-known.result.now t x.0 c.args.added (get_or c.args.hashes.now i 0) number told sized c.requires.added
    (term_hash_at v c.args.hashes.now i x c.requires.hashes lt c.index-v-i.is) (omega arith)
    (c.deref-known.ensures.value ∙ c.self.invariant.0.hashed ∙ ap (map hash_of) c.self.view_is)
    c.in-Some.ensures.0 c.in-Some.ensures.1 in
    let inv = c.loop-i.invariant in
    record {
      part = λ start p. part_more start keys keys t v c.loop-i.entries.items c.push_reserved.new.self.items i x number (inv.part start p) numbered
          (omega (arith, inv.len)) lt c.index-v-i.is sized told.small
          (c.push_reserved.ensures.items ∙ ap (λ (y : Key × ℕ). c.loop-i.entries.items ++ (number, y.1) ∷ []) (sym c.index-v-i.is));
      within = omega arith;
      longer = omega arith;
      len = omega arith;
      room = omega arith;
    }
