use Rattle.std.proofs.Common.{arith, flat_map, subst, sym, ◌++◌, ◌+◌, ◌∙◌, ◌≡◌}
use Rattle.std.specs.List.{range_with_len}
use Rattle.poly_text.proofs.Writing.{begins_more}
use Rattle.session_values.proofs.DegreeLines.{lines_more}
use Rattle.session_values.specs.Texts.{degree_line, greatest_degree}
use Rattle.session_values.proofs.sizes.append_degrees.Goals as goal

pub loop-degree-preserved : goal.loop-degree-preserved
loop-degree-preserved c =
    lines_more (degree_line c.args.list.now) c.args.out.now c.loop-degree.out c.append_degree.new.out c.loop-degree.degree c.loop-degree.invariant c.in-Ok.ensures.ok

pub returns-in-Ok-append_degree-clause-ok : goal.returns-in-Ok-append_degree-clause-ok
returns-in-Ok-append_degree-clause-ok c =
    let up = c.loop-degree.auto.degree-end in
    let down = c.loop-degree-test.false in
    let is : c.loop-degree.degree ≡ c.greatest_degree-greatest.result = omega arith in
    let last : c.loop-degree.degree ≡ greatest_degree c.args.list.now = is ∙ c.greatest_degree-greatest.ensures in
    let wrote = subst (λ d. c.append_degree-2.new.out ≡ c.loop-degree.out ++ degree_line c.args.list.now d) (sym is) c.in-Ok-append_degree.ensures.ok in
    subst (λ d. c.append_degree-2.new.out ≡ c.args.out.now ++ flat_map (degree_line c.args.list.now) (range_with_len 0 (d + 1))) last
    (lines_more (degree_line c.args.list.now) c.args.out.now c.loop-degree.out c.append_degree-2.new.out c.loop-degree.degree c.loop-degree.invariant wrote)

pub returns-in-Err-clause-err : goal.returns-in-Err-clause-err
returns-in-Err-clause-err c =
    let more = c.in-Err.ensures.err in
    begins_more c.args.out.now c.loop-degree.out c.append_degree.new.out more.0 (_, c.loop-degree.invariant) more.1

pub returns-in-Err-append_degree-clause-err : goal.returns-in-Err-append_degree-clause-err
returns-in-Err-append_degree-clause-err c =
    let more = c.in-Err-append_degree.ensures.err in
    begins_more c.args.out.now c.loop-degree.out c.append_degree-2.new.out more.0 (_, c.loop-degree.invariant) more.1
