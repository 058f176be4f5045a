use Rattle.std.proofs.Common.{List, arith, length, subst, subst₂, sym, take}
use Rattle.std.proofs.lemmas.List.{take_all}
use Rattle.term_lists.proofs.Scaling.{Each_at, take_item}
use Rattle.member_products.specs.declared.member.Reduct.{Reduct as CodeReduct}
use Rattle.row_matrix.specs.Rows.{IsRow, RowShown}
use Rattle.f4_job.proofs.MadeRows.{made_more}
use Rattle.f4_job.specs.Made.{AreMadeRows}
use Rattle.f4_job.proofs.making.make_rows.Goals as goal

pub make_row-requires : goal.make_row-requires
make_row-requires c = record {
  columns = c.requires.columns;
  descend = c.requires.descend;
  products = c.requires.products;
  row = Each_at (IsRow c.args.ring.now.modulus.value (length c.args.columns.now)
      (length c.args.products.now)) c.args.rows.now c.loop-row.row-index c.row-item.result c.requires.rows c.loop-row-test.true c.row-item.is;
}

pub loop-row-preserved : goal.loop-row-preserved
loop-row-preserved c =
    let rows = c.args.rows.now in
    let i = c.loop-row.row-index in
    let x = c.row-item.result in
    subst₂ (λ (rs : List RowShown) (ms : List CodeReduct). AreMadeRows c.args.ring.now c.args.columns.now c.args.products.now rs ms)
    (sym (take_item rows i x c.loop-row-test.true c.row-item.is)) (sym c.in_ok-push.ensures.items)
    (made_more c.args.ring.now c.args.columns.now c.args.products.now
    (take i rows) c.loop-row.made.items x c.in_ok-next.next c.loop-row.invariant c.in_ok-next.ensures)

pub returns : goal.returns
returns c = subst (λ (rs : List RowShown). AreMadeRows c.args.ring.now c.args.columns.now c.args.products.now rs c.loop-row.made.items)
    (take_all c.loop-row.row-index c.args.rows.now (omega (arith, c.loop-row-test.false))) c.loop-row.invariant

pub ranks_of-requires : goal.ranks_of-requires
ranks_of-requires c = c.requires.products
