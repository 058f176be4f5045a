use Rattle.session_values.proofs.Appending.{err_behind, on_err}
use Rattle.session_values.proofs.maps.append_map.Goals as goal

pub returns-in_err-append_map_line-clause-err : goal.returns-in_err-append_map_line-clause-err
returns-in_err-append_map_line-clause-err c = on_err c.from_residual.result c.in_err-append_map_line.ensures.err

pub returns-clause-err : goal.returns-clause-err
returns-clause-err c =
    err_behind c.args.out.now c.append_map_line.new.out c.append_columns.new.out c.append_columns.result
    (_, c.in_ok-append_map_line.ensures.ok) c.append_columns.ensures.err
