use Rattle.std.proofs.Common.{[], arith, get_or, ◌∙◌, ◌≡◌}
use Rattle.symbolic_prep.proofs.Hashing.{hashed_set, made_already, made_now}
use Rattle.symbolic_prep.proofs.hashes.keep_hashes.Goals as goal

pub returns-then-len-terms-clause-made : goal.returns-then-len-terms-clause-made
returns-then-len-terms-clause-made g c =
    let list = g.L.Vectors.listed c.args.members.now in
    let vector : c.terms-terms.result.now ≡ get_or list c.args.member [] = c.terms-terms.ensures ∙ c.at.ensures in
    made_already list c.args.hashes.now.items c.args.member c.index-made.result.now c.terms-terms.result.now
    c.requires.hashed c.requires.within c.index-made.ensures vector (omega arith)

pub returns-clause-hashed : goal.returns-clause-hashed
returns-clause-hashed g c =
    let list = g.L.Vectors.listed c.args.members.now in
    let vector : c.terms-terms.result.now ≡ get_or list c.args.member [] = c.terms-terms.ensures ∙ c.at.ensures in
    hashed_set list c.args.hashes.now.items c.args.member c.in_ok-hashes.field-0 c.terms-terms.result.now
    c.requires.hashed c.requires.within vector c.in_ok-hashes.ensures

pub returns-clause-made : goal.returns-clause-made
returns-clause-made g c =
    let list = g.L.Vectors.listed c.args.members.now in
    let vector : c.terms-terms.result.now ≡ get_or list c.args.member [] = c.terms-terms.ensures ∙ c.at.ensures in
    made_now list c.args.hashes.now.items c.args.member c.in_ok-hashes.field-0 c.terms-terms.result.now
    c.requires.hashed c.requires.within vector c.in_ok-hashes.ensures
