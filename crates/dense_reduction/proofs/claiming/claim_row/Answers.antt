use Rattle.std.proofs.Common.{[], ap, arith, length, refl, slice_index, ◌+◌, ◌∙◌, ◌∷◌}
use Rattle.std.proofs.lemmas.List.{length-map}
use Rattle.pivot_table.specs.Law.{claim_word, entry, found_by, told}
use Rattle.row_matrix.specs.Rows.{RowShown, first_column}
use Rattle.dense_reduction.proofs.Claimed.{told_now}
use Rattle.dense_reduction.proofs.claiming.claim_row.Goals as goal

pub returns-in-Won-clause-claimed : goal.returns-in-Won-clause-claimed
returns-in-Won-clause-claimed c =
    told_now c.args.shared.rows.now c.args.shared.claims.now.rows.leads.items (told c.args.seat.now) (told c.claim-answer.new.seat) c.claim-answer.result
    c.args.number c.args.number c.requires.known c.requires.number c.claim-answer.ensures.told c.claim-answer.ensures.names
    (ap (claim_word c.args.number) c.in-Won.is)

pub returns-then-winner-number-clause-claimed : goal.returns-then-winner-number-clause-claimed
returns-then-winner-number-clause-claimed c =
    told_now c.args.shared.rows.now c.args.shared.claims.now.rows.leads.items (told c.args.seat.now) (told c.claim-answer.new.seat) c.claim-answer.result
    c.args.number c.args.number c.requires.known c.requires.number c.claim-answer.ensures.told c.claim-answer.ensures.names
    (ap (claim_word c.args.number) c.in-Lost.is ∙ ap (λ n. n + 1) c.if-winner-number.true)

pub returns-else-winner-number-clause-claimed : goal.returns-else-winner-number-clause-claimed
returns-else-winner-number-clause-claimed c = (
  refl,
  record {
    known = c.requires.number;
    other = c.if-winner-number.false;
    held =
        told_now c.args.shared.rows.now c.args.shared.claims.now.rows.leads.items (told c.args.seat.now) (told c.claim-answer.new.seat) c.claim-answer.result
        c.args.number c.in-Lost.winner c.requires.known c.requires.number c.claim-answer.ensures.told c.claim-answer.ensures.names
        (ap (claim_word c.args.number) c.in-Lost.is);
  },
)

pub claim-answer-requires-clause-row : goal.claim-answer-requires-clause-row
claim-answer-requires-clause-row c =
    omega (arith, c.requires.number, ap length c.requires.known, length-map c.args.shared.rows.now (λ (r : RowShown). first_column r.entries))

pub returns-in-Won-clause-follows : goal.returns-in-Won-clause-follows
returns-in-Won-clause-follows c =
    let leads = c.args.shared.claims.now.rows.leads.items in
    let answer = c.claim-answer.result in
    (entry (slice_index leads c.args.number) (found_by answer) (claim_word c.args.number answer) ∷ [], c.claim-answer.ensures.told)

pub returns-then-winner-number-clause-follows : goal.returns-then-winner-number-clause-follows
returns-then-winner-number-clause-follows c =
    let leads = c.args.shared.claims.now.rows.leads.items in
    let answer = c.claim-answer.result in
    (entry (slice_index leads c.args.number) (found_by answer) (claim_word c.args.number answer) ∷ [], c.claim-answer.ensures.told)

pub returns-else-winner-number-clause-follows : goal.returns-else-winner-number-clause-follows
returns-else-winner-number-clause-follows c =
    let leads = c.args.shared.claims.now.rows.leads.items in
    let answer = c.claim-answer.result in
    (entry (slice_index leads c.args.number) (found_by answer) (claim_word c.args.number answer) ∷ [], c.claim-answer.ensures.told)
