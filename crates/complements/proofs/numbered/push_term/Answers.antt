use Rattle.std.proofs.Common.{ap, arith, get_or, subst, sym, ◌∙◌, ◌≡◌}
use Rattle.std.proofs.lemmas.List.{get_or_default}
use Rattle.term_lists.proofs.Parts.{Each_member}
use Rattle.term_lists.specs.Vectors.{IsMonomialOver}
use Rattle.row_matrix.specs.Hashes.{no_key}
use Rattle.complements.proofs.Gathering.{term_more, term_none}
use Rattle.complements.specs.Combining.{IsTermTaken}
use Rattle.complements.proofs.numbered.push_term.Goals as goal

pub returns-then-residue-eq0 : goal.returns-then-residue-eq0
returns-then-residue-eq0 c =
    term_none c.args.ring.now c.args.numbers.now c.args.number c.args.terms.now.items c.args.residue (omega (arith, c.if-residue-eq0.true))

pub returns : goal.returns
returns c =
    let ring = c.args.ring.now in
    let keys = c.args.numbers.now in
    let number = c.args.number in
    let key = c.in_ok-key.key in
    let old = c.args.terms.now.items in
    let is : key ≡ get_or keys number no_key = c.in_ok-key.ensures.ok ∙ c.index-keys-number.is ∙ ap (λ ks. get_or ks number c.index-keys-number.result) c.keys.ensures.keys ∙ get_or_default keys number c.index-keys-number.result no_key c.requires.number in
    let over : IsMonomialOver ring key.monomial = subst (λ k. IsMonomialOver ring k.monomial) (sym is) (Each_member (λ k. IsMonomialOver ring k.monomial) keys number no_key c.requires.keys c.requires.number) in
    subst (IsTermTaken ring keys number c.args.residue old) (sym c.in_ok-push.ensures.items)
    (term_more ring keys number old c.args.residue key is over c.requires.residue)
