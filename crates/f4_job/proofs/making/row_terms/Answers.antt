use Rattle.std.proofs.Common.{List, ap, arith, get_or, length, map, sym, take, ℕ, ◌+◌, ◌++◌, ◌<◌, ◌∙◌, ◌∷◌, ◌≡◌, []}
use Rattle.std.proofs.lemmas.List.{get_or_default, map_more, take_all}
use Rattle.term_lists.proofs.Scaling.{Each_at}
use Rattle.term_lists.specs.declared.key.Key.{Key as CodeKey}
use Rattle.row_matrix.specs.Hashes.{no_key}
use Rattle.row_matrix.specs.Rows.{Entry}
use Rattle.f4_job.specs.Made.{entry_term}
use Rattle.f4_job.proofs.making.row_terms.Goals as goal

pub loop-entry-init : goal.loop-entry-init
loop-entry-init c = record {
  items = c.in_ok-terms.ensures.items;
  len = c.in_ok-terms.ensures.len;
  room = c.in_ok-terms.ensures.capacity;
}

pub loop-entry-preserved : goal.loop-entry-preserved
loop-entry-preserved c =
    let columns = c.args.columns.now in
    let entries = c.args.entries.now in
    let i = c.loop-entry.entry-index in
    let e = get_or entries i (0, 0) in
    let known : e.0 < length columns = Each_at (λ (x : Entry). x.0 < length columns) entries i e c.requires c.loop-entry-test.true
    (get_or_default entries i (0, 0) e c.loop-entry-test.true) in
    let key : c.in_ok-key.key ≡ get_or columns e.0 no_key = c.in_ok-key.ensures.ok ∙ c.index-columns-entry.is ∙ get_or_default columns e.0 _ no_key known in
    record {
      items = c.push_reserved.ensures.items ∙ ap (λ (xs : List (CodeKey × ℕ)). xs ++ (c.in_ok-key.key, e.1) ∷ []) c.loop-entry.invariant.items
          ∙ ap (λ (k : CodeKey). map (entry_term columns) (take i entries) ++ (k, e.1) ∷ []) key
          ∙ sym (map_more (entry_term columns) entries i (0, 0) c.loop-entry-test.true);
      len = c.push_reserved.ensures.len ∙ ap (λ k. k + 1) c.loop-entry.invariant.len;
      room = omega (arith, c.push_reserved.ensures.capacity, c.loop-entry.invariant.room);
    }

pub bounds-columns-entry : goal.bounds-columns-entry
bounds-columns-entry c =
    let columns = c.args.columns.now in
    let entries = c.args.entries.now in
    let i = c.loop-entry.entry-index in
    let e = get_or entries i (0, 0) in
    Each_at (λ (x : Entry). x.0 < length columns) entries i e c.requires c.loop-entry-test.true (get_or_default entries i (0, 0) e c.loop-entry-test.true)

pub push_reserved-requires : goal.push_reserved-requires
push_reserved-requires c = omega (arith, c.loop-entry.invariant.len, c.loop-entry.invariant.room, c.loop-entry-test.true)

pub returns : goal.returns
returns c = c.loop-entry.invariant.items
    ∙ ap (map (entry_term c.args.columns.now)) (take_all c.loop-entry.entry-index c.args.entries.now (omega (arith, c.loop-entry-test.false)))
