use Rattle.std.proofs.Common.{rules, ◌≡◌}
use Rattle.script_forms.proofs.Listing.{item_found, item_other}
use Rattle.script_forms.proofs.ring_words.item_first.Goals as goal

pub returns-then-ne-clause-none : goal.returns-then-ne-clause-none
returns-then-ne-clause-none c =
    let other : c.in-Some.first.now.kind ≡ c.args.kind → ⊥ = search rules in
    item_other c.args.kind c.args.tokens.now c.in-Some.behind.now c.in-Some.first.now c.in-Some.ensures.cases.0 c.requires other

pub returns-clause-found : goal.returns-clause-found
returns-clause-found c =
    let same : c.in-Some.first.now.kind ≡ c.args.kind = search rules in
    item_found c.args.kind c.args.tokens.now c.in-Some.behind.now c.in-Some.first.now c.in-Some.ensures.cases.0 c.requires same
