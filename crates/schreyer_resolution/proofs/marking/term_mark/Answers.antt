use Rattle.std.proofs.Common.{sym, true≢false}
use Rattle.schreyer_resolution.proofs.marking.term_mark.Goals as goal

pub returns-then-not-has_leads : goal.returns-then-not-has_leads
returns-then-not-has_leads c = record {
  never = λ e. c.has_leads.ensures.none c.if-not-has_leads.true c.args.columns.now c.requires;
  place = λ e. absurd (true≢false (sym e));
  hash = λ e. absurd (true≢false (sym e));
  variables = λ e. absurd (true≢false (sym e));
}
