use Rattle.std.proofs.Common.{[], ap, map, ◌++◌, ◌∙◌, ◌∷◌}
use Rattle.poly_grammar.specs.Lexemes.{lexeme}
use Rattle.script_forms.specs.RingForms.{list_behind, token_of, with_tokens}
use Rattle.script_forms.proofs.Listing.{first_none, first_some, listed_ends, listed_goes, listed_shorter, listed_stops}
use Rattle.script_forms.proofs.ring_words.listed.Goals as goal

pub returns-in_default : goal.returns-in_default
returns-in_default c = first_none (token_of c.args.kind) (map lexeme c.args.tokens.now) c.in_default.ensures.none

pub loop-after-init : goal.loop-after-init
loop-after-init c =
    let pick = token_of c.args.kind in
    let behind = map lexeme c.in-Some.behind.now in
    ap (λ l. with_tokens l (list_behind pick behind)) (c.in_ok-push.ensures.items ∙ ap (λ l. l ++ c.in-Some.first ∷ []) c.new-found.ensures.items)
    ∙ first_some pick (map lexeme c.args.tokens.now) behind c.in-Some.first c.in-Some.ensures.found

pub returns-in_default-item_first : goal.returns-in_default-item_first
returns-in_default-item_first c =
    listed_stops (token_of c.args.kind) (map lexeme c.loop-after.rest.now) (map lexeme c.in-Some-behind_comma.after.now) c.loop-after.found.items _ c.in-Some-behind_comma.ensures.found
    c.in_default-item_first.ensures.none c.loop-after.invariant

pub loop-after-preserved : goal.loop-after-preserved
loop-after-preserved c =
    listed_goes (token_of c.args.kind) (map lexeme c.loop-after.rest.now) (map lexeme c.in-Some-behind_comma.after.now) (map lexeme c.in-Some-item_first.more.now) c.in-Some-item_first.item
    c.loop-after.found.items c.push-in-Some-behind_comma.new.self.items _ c.in-Some-behind_comma.ensures.found c.in-Some-item_first.ensures.found c.in_ok-push-2.ensures.items c.loop-after.invariant

pub loop-after-smaller : goal.loop-after-smaller
loop-after-smaller c = listed_shorter (token_of c.args.kind) c.loop-after.rest.now c.in-Some-behind_comma.after.now c.in-Some-item_first.more.now c.in-Some-item_first.item c.in-Some-behind_comma.ensures.found c.in-Some-item_first.ensures.found

pub returns : goal.returns
returns c = listed_ends (token_of c.args.kind) (map lexeme c.loop-after.rest.now) c.loop-after.found.items _ c.in_default-behind_comma.ensures.none c.loop-after.invariant
