use Rattle.std.proofs.Common.{Err, ap, map, refl, string_bytes, ◌∙◌}
use Rattle.session_top.proofs.Told.{cut_words_told, no_words_told, request_told, wrong_words_told}
use Rattle.session_top.proofs.top.run.Goals as goal

pub returns-in-Ok : goal.returns-in-Ok
returns-in-Ok g c =
    request_told (map string_bytes c.args.words.now) c.in-Ok.request _ _ _ c.in-Ok.ensures.request c.in-Ok.ensures.form c.run_request.ensures.told
    c.run_request.ensures.unread
    (λ five zero.
    let same = c.run_request.ensures.begun five zero in
    λ i. record {
      source = same.0 i;
      left = g.S.Source.left (same.0 i);
      taken = g.K.Sink.taken (same.1 i);
      read_faults = g.S.Source.faults (same.0 i);
      write_faults = g.K.Sink.faults (same.1 i);
    })
    c.run_request.ensures.read c.run_request.ensures.write

pub returns-in-Err-Memory : goal.returns-in-Err-Memory
returns-in-Err-Memory g c = rw (c.plain_ending.ensures) (no_words_told (map string_bytes c.args.words.now) _)

pub returns-in-Ok-write_all_to : goal.returns-in-Ok-write_all_to
returns-in-Ok-write_all_to g c =
    rw (c.plain_ending-in-Ok-write_all_to.ensures) (wrong_words_told (map string_bytes c.args.words.now) _ _
    (c.read_words.ensures.words (c.in-Err-Words.is ∙ ap Err c.in-Err-Words.field-0-is)) refl c.in-Ok-write_all_to.ensures.all)

pub returns-in-Err : goal.returns-in-Err
returns-in-Err g c =
    rw (c.plain_ending-in-Err.ensures) (cut_words_told (map string_bytes c.args.words.now) _ _
    (c.read_words.ensures.words (c.in-Err-Words.is ∙ ap Err c.in-Err-Words.field-0-is)) refl c.in-Err.ensures.front c.in-Err.ensures.cause.failed)
