use Rattle.std.proofs.Common.{◌≡◌, codes, ◌++◌, length, refl, sym, ap, ◌∙◌}
use Rattle.std.proofs.lemmas.List.{length-map}
use Rattle.std.specs.Fmt.{decimal}
use Rattle.byte_ports.proofs.Endings.{all_three, after_both, front_after, front_before, no_text, on_err}
use Rattle.byte_ports.proofs.Risings.{caused, cause_after, le_then, rose_later}
use Rattle.session_top.proofs.stops.write_pairs_line.Goals as goal

pub returns-in_err-write_count-clause-front : goal.returns-in_err-write_count-clause-front
returns-in_err-write_count-clause-front g c =
    let first = rw (c.from.ensures, c.taken.ensures) at c.in_err-write_count.ensures.front in
    on_err _ _ (front_before _ _ (codes "stop pairs " ++ decimal c.args.state.now.taken) (codes " queued " ++ decimal (length c.args.state.now.queue) ++ codes "\n") first)

pub returns-in_err-write_count-2-clause-front : goal.returns-in_err-write_count-2-clause-front
returns-in_err-write_count-2-clause-front g c =
    let first = rw (c.from.ensures, c.taken.ensures) at c.in_ok-write_count.ensures.all in
    let queued : length c.queued.result.now ≡ length c.args.state.now.queue = sym (length-map c.queued.result.now _) ∙ ap length c.queued.ensures.pairs in
    let second = rw (queued) at c.in_err-write_count-2.ensures.front in
    on_err _ _ (front_after _ _ _ (codes "stop pairs " ++ decimal c.args.state.now.taken) (codes " queued " ++ decimal (length c.args.state.now.queue) ++ codes "\n") first
    (front_before _ _ (codes " queued " ++ decimal (length c.args.state.now.queue)) (codes "\n") second))

pub returns-clause-all : goal.returns-clause-all
returns-clause-all g c =
    let first = rw (c.from.ensures, c.taken.ensures) at c.in_ok-write_count.ensures.all in
    let queued : length c.queued.result.now ≡ length c.args.state.now.queue = sym (length-map c.queued.result.now _) ∙ ap length c.queued.ensures.pairs in
    let second = rw (queued) at c.in_ok-write_count-2.ensures.all in
    all_three _ _ _ _ (codes "stop pairs " ++ decimal c.args.state.now.taken) (codes " queued " ++ decimal (length c.args.state.now.queue)) (codes "\n") _ first second c.write_all_to.ensures.all

pub returns-clause-front : goal.returns-clause-front
returns-clause-front g c =
    let first = rw (c.from.ensures, c.taken.ensures) at c.in_ok-write_count.ensures.all in
    let queued : length c.queued.result.now ≡ length c.args.state.now.queue = sym (length-map c.queued.result.now _) ∙ ap length c.queued.ensures.pairs in
    let second = rw (queued) at c.in_ok-write_count-2.ensures.all in
    after_both _ _ _ _ (codes "stop pairs " ++ decimal c.args.state.now.taken) (codes " queued " ++ decimal (length c.args.state.now.queue)) (codes "\n") (codes "\n") _ first second refl c.write_all_to.ensures.front

pub returns-in_err-write_count-clause-all : goal.returns-in_err-write_count-clause-all
returns-in_err-write_count-clause-all g c = no_text c.from_residual.result _ _ c.from_residual.ensures.1

pub returns-in_err-write_count-clause-cause : goal.returns-in_err-write_count-clause-cause
returns-in_err-write_count-clause-cause g c = caused _ _ _ c.in_err-write_count.ensures.cause.later c.in_err-write_count.ensures.cause.failed

pub returns-in_err-write_count-2-clause-all : goal.returns-in_err-write_count-2-clause-all
returns-in_err-write_count-2-clause-all g c = no_text c.from_residual-in_err-write_count-2.result _ _ c.from_residual-in_err-write_count-2.ensures.1

pub returns-in_err-write_count-2-clause-cause : goal.returns-in_err-write_count-2-clause-cause
returns-in_err-write_count-2-clause-cause g c =
    let first = c.in_ok-write_count.ensures.cause.later in
    let second = c.in_err-write_count-2.ensures.cause in
    caused _ _ _ (le_then _ _ _ first second.later) (rose_later _ _ _ first second.failed)

pub returns-clause-cause : goal.returns-clause-cause
returns-clause-cause g c =
    cause_after _ _ _ _ (le_then _ _ _ c.in_ok-write_count.ensures.cause.later c.in_ok-write_count-2.ensures.cause.later) c.write_all_to.ensures.cause
