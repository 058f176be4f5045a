use Rattle.std.proofs.Common.{[], ap, arith, get_or, sym, take, ◌%◌, ◌*◌, ◌++◌, ◌<◌, ◌∙◌, ◌∷◌}
use Rattle.std.proofs.lemmas.List.{map-append, take_all}
use Rattle.term_lists.proofs.Parts.{Each_member}
use Rattle.row_matrix.specs.Rows.{Entry}
use Rattle.dense_reduction.proofs.Claimed.{item_taken}
use Rattle.dense_reduction.specs.Underway.{entries_rescaled}
use Rattle.dense_reduction.proofs.reduction.rescaled_entries.Goals as goal

pub mul-requires-clause-right : goal.mul-requires-clause-right
mul-requires-clause-right c =
    Each_member (λ (e : Entry). e.1 < c.args.modulus.now.value) c.args.entries.now c.loop-entry.entry-index (0, 0) c.requires.residues c.loop-entry-test.true

pub push_reserved-requires : goal.push_reserved-requires
push_reserved-requires c =
    let v = c.loop-entry.invariant in
    omega (arith, v.len, v.room, c.loop-entry-test.true)

pub loop-entry-preserved : goal.loop-entry-preserved
loop-entry-preserved c =
    let p = c.args.modulus.now.value in
    let k = c.args.c in
    let es = c.args.entries.now in
    let i = c.loop-entry.entry-index in
    let e : Entry = get_or es i (0, 0) in
    let v = c.loop-entry.invariant in
    let out = c.loop-entry.out.items in
    record {
      items = c.push_reserved.ensures.items ∙ ap (λ x. out ++ (e.0, x) ∷ []) c.mul.ensures.value ∙ ap (λ xs. xs ++ (e.0, (k * e.1) % p) ∷ []) v.items
          ∙ sym (ap (entries_rescaled p k) (item_taken es i (0, 0) c.loop-entry-test.true) ∙ map-append (λ (x : Entry). (x.0, (k * x.1) % p)) (take i es) (e ∷ []));
      len = omega (arith, v.len, c.push_reserved.ensures.len);
      room = omega (arith, v.room, c.push_reserved.ensures.capacity);
    }

pub returns : goal.returns
returns c =
    c.loop-entry.invariant.items
    ∙ ap (entries_rescaled c.args.modulus.now.value c.args.c) (take_all c.loop-entry.entry-index c.args.entries.now c.loop-entry-test.false)
