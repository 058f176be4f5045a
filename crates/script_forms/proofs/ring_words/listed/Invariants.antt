use Rattle.std.proofs.Common.{◌≡◌, length, map}
use Rattle.poly_grammar.specs.Lexemes.{lexeme}
use Rattle.script_forms.specs.RingForms.{list_behind, list_first, token_of, with_tokens}
use Rattle.script_forms.proofs.ring_words.listed.Given as goal

abbrev pub invariant-loop-after : goal.invariant-loop-after
invariant-loop-after l = with_tokens l.found.items (list_behind (token_of l.kind) (map lexeme l.rest)) ≡ list_first (token_of l.kind) (map lexeme l.tokens)

abbrev pub decreases-loop-after : goal.decreases-loop-after
decreases-loop-after l = length l.rest
