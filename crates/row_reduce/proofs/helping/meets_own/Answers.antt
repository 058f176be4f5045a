use Rattle.std.proofs.Common.{List, [], arith, get_or, length, subst, sym, take, ◌<◌, ◌∙◌, ◌∷◌, ◌≡◌, ◌≤◌}
use Rattle.std.proofs.lemmas.List.{get_or_default, take_all}
use Rattle.formal_sums.proofs.WeightedSums.{Each_append}
use Rattle.formal_sums.specs.FormalSums.{Each}
use Rattle.term_lists.proofs.Parts.{Each_member}
use Rattle.row_matrix.specs.Rows.{Entry}
use Rattle.dense_reduction.proofs.Claimed.{item_taken}
use Rattle.row_reduce.proofs.helping.meets_own.Goals as goal

pub loop-entry-init : goal.loop-entry-init
loop-entry-init c = record { free = tt }

pub index-requires : goal.index-requires
index-requires c =
    let pivots = c.args.own.now.pivots in
    let known = subst (Each (λ (e : Entry). e.0 < length pivots.items)) (sym c.entries-entry-items.ensures) c.requires in
    let within = Each_member (λ (e : Entry). e.0 < length pivots.items) c.entries-entry-items.result.now c.loop-entry.entry-index (0, 0) known c.loop-entry-test.true in
    omega (arith, within, pivots.ok.0)

pub loop-entry-preserved : goal.loop-entry-preserved
loop-entry-preserved c =
    let pivots = c.args.own.now.pivots.items in
    let es = c.args.row.now.entries in
    let i = c.loop-entry.entry-index in
    let lt : i < length es = subst (λ (xs : List Entry). i < length xs) c.entries-entry-items.ensures c.loop-entry-test.true in
    let within = Each_member (λ (e : Entry). e.0 < length pivots) es i (0, 0) c.requires lt in
    let at = subst (λ (xs : List Entry). c.index.result.now ≡ get_or pivots (get_or xs i (0, 0)).0 c.index.result.now) c.entries-entry-items.ensures c.index.ensures in
    let none : get_or pivots (get_or es i (0, 0)).0 0 ≡ 0 =
    get_or_default pivots (get_or es i (0, 0)).0 0 c.index.result.now within ∙ sym at ∙ c.if-index-ne0.false in
    record {
      free = subst (Each (λ (e : Entry). get_or pivots e.0 0 ≡ 0)) (sym (item_taken es i (0, 0) lt))
          (Each_append (λ (e : Entry). get_or pivots e.0 0 ≡ 0) (take i es) (get_or es i (0, 0) ∷ []) c.loop-entry.invariant.free (none, tt));
    }

pub returns : goal.returns
returns c =
    let es = c.args.row.now.entries in
    let i = c.loop-entry.entry-index in
    let le : length es ≤ i = subst (λ (xs : List Entry). length xs ≤ i) c.entries-entry-items.ensures c.loop-entry-test.false in
    λ e. subst (Each (λ (x : Entry). get_or c.args.own.now.pivots.items x.0 0 ≡ 0)) (take_all i es le) c.loop-entry.invariant.free
