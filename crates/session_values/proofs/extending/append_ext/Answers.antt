use Rattle.std.proofs.Common.{subst₂, ◌++◌, ◌≡◌}
use Rattle.std.specs.Prelude.{OnOk, codes}
use Rattle.poly_text.proofs.Writing.{begins_more}
use Rattle.session_values.specs.Extending.{ext_line}
use Rattle.session_values.specs.Resolving.{columns_text}
use Rattle.session_values.specs.Texts.{verdict}
use Rattle.session_values.proofs.Appending.{err_behind, four_behind, on_err}
use Rattle.session_values.proofs.extending.append_ext.Goals as goal

pub append_columns-requires : goal.append_columns-requires
append_columns-requires c = c.requires.kernel

pub append_columns-requires-2 : goal.append_columns-requires-2
append_columns-requires-2 c = c.requires.relations

pub returns-in_err-append_ext_line-clause-err : goal.returns-in_err-append_ext_line-clause-err
returns-in_err-append_ext_line-clause-err c = on_err c.from_residual.result c.in_err-append_ext_line.ensures.err

pub returns-in_err-append_columns-clause-err : goal.returns-in_err-append_columns-clause-err
returns-in_err-append_columns-clause-err c =
    let more = c.in_err-append_columns.ensures.err in
    on_err c.from_residual-in_err-append_columns.result
    (begins_more c.args.out.now c.append_ext_line.new.out c.append_columns.new.out more.0 (_, c.in_ok-append_ext_line.ensures.ok) more.1)

pub returns-in_err-append_columns-2-clause-err : goal.returns-in_err-append_columns-2-clause-err
returns-in_err-append_columns-2-clause-err c =
    let out = c.args.out.now in
    let line = c.append_ext_line.new.out in
    let kernel = c.append_columns.new.out in
    let front = begins_more out line kernel _ (_, c.in_ok-append_ext_line.ensures.ok) c.in_ok-append_columns.ensures.ok in
    let more = c.in_err-append_columns-2.ensures.err in
    on_err c.from_residual-in_err-append_columns-2.result (begins_more out kernel c.append_columns-2.new.out more.0 front more.1)

pub returns-clause-err : goal.returns-clause-err
returns-clause-err c =
    let out = c.args.out.now in
    let line = c.append_ext_line.new.out in
    let kernel = c.append_columns.new.out in
    let relations = c.append_columns-2.new.out in
    let front = begins_more out line kernel _ (_, c.in_ok-append_ext_line.ensures.ok) c.in_ok-append_columns.ensures.ok in
    err_behind out relations c.append_zero.new.out c.append_zero.result (begins_more out kernel relations _ front c.in_ok-append_columns-2.ensures.ok)
    c.append_zero.ensures.err

pub returns-clause-ok : goal.returns-clause-ok
returns-clause-ok c =
    let out = c.args.out.now in
    let ring = c.args.ring.now in
    let answer = c.args.ext.now in
    subst₂
    (λ g r. OnOk c.append_zero.result (c.append_zero.new.out ≡ out
    ++ (ext_line c.args.name.now c.args.step g r
    ++ (columns_text ring c.args.rank answer.kernel ++ (columns_text ring g answer.relations ++ (codes "zero " ++ verdict answer.zero))))))
    c.len-generators.ensures c.len.ensures
    (four_behind out c.append_ext_line.new.out c.append_columns.new.out c.append_columns-2.new.out c.append_zero.new.out _ _ _ _
    c.append_zero.result c.in_ok-append_ext_line.ensures.ok c.in_ok-append_columns.ensures.ok c.in_ok-append_columns-2.ensures.ok c.append_zero.ensures.ok)
