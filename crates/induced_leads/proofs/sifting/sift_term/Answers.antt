use Rattle.std.proofs.Common.{inr, subst}
use Rattle.term_lists.specs.Rings.{variables}
use Rattle.term_lists.specs.Vectors.{key_of}
use Rattle.induced_leads.specs.Spans.{IsFoundLast}
use Rattle.induced_leads.proofs.Finding.{not_uncovered}
use Rattle.induced_leads.proofs.sifting.sift_term.Goals as goal

pub returns-in_ok-push-in-Some : goal.returns-in_ok-push-in-Some
returns-in_ok-push-in-Some c =
    let ring = c.args.ring.now in
    inr (
      not_uncovered (variables ring) ring.weights c.args.columns.now (key_of (variables ring) c.args.term.0) c.in-Some.field-0
          (subst (IsFoundLast (variables ring) ring.weights c.args.columns.now (key_of (variables ring) c.args.term.0)) c.in-Some.is c.in_ok-last_divisor.ensures),
      c.in_ok-push-in-Some.ensures.items,
    )

pub last_divisor-requires-clause-columns : goal.last_divisor-requires-clause-columns
last_divisor-requires-clause-columns c = c.requires.columns

pub last_divisor-requires-clause-index : goal.last_divisor-requires-clause-index
last_divisor-requires-clause-index c = c.requires.index
