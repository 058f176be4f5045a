use Rattle.std.proofs.Common.{[], ap, get_or, length, map, subst, sym, ◌<◌, ◌∙◌}
use Rattle.basis_core.specs.Members.{MembersShown}
use Rattle.basis_core.proofs.Handles.{vector_at}
use Rattle.basis_core.proofs.members.MembersVectors.at.Goals as goal

pub returns : goal.returns
returns c =
    ap (λ m. m.vector) c.deref.ensures
    ∙ vector_at c.self.inside.handles.items c.args.index c.index.result.now
    (subst (λ (s : MembersShown). c.args.index < length (map (λ m. m.vector) s.list)) (sym c.self.view_is) c.requires) c.index.ensures
    ∙ ap (λ (s : MembersShown). get_or (map (λ m. m.vector) s.list) c.args.index []) c.self.view_is
