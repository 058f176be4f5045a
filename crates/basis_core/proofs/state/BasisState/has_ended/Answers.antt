use Rattle.std.proofs.Common.{ap, arith, get_or, length, subst, sym, true, ◌<◌, ◌∙◌, ◌≡◌}
use Rattle.std.proofs.lemmas.List.{get_or_read}
use Rattle.basis_core.specs.Inside.{shown}
use Rattle.basis_core.specs.Shown.{Shown}
use Rattle.basis_core.specs.Views.{run_of, state_of, variables_of}
use Rattle.basis_core.proofs.Replaying.{ended_length}
use Rattle.basis_core.proofs.state.BasisState.has_ended.Goals as goal

pub index-requires : goal.index-requires
index-requires c =
    let s : Shown = shown c.self.inside in
    let long : length s.ended ≡ s.workers = ended_length (run_of (variables_of s) s) (state_of (variables_of s) s) c.self.invariant.replays in
    let known : c.args.worker < s.workers = subst (λ (z : Shown). c.args.worker < z.workers) (sym c.self.view_is) c.requires in
    omega (arith, long, known)

pub returns : goal.returns
returns c =
    let s : Shown = shown c.self.inside in
    let long : length s.ended ≡ s.workers = ended_length (run_of (variables_of s) s) (state_of (variables_of s) s) c.self.invariant.replays in
    let known : c.args.worker < s.workers = subst (λ (z : Shown). c.args.worker < z.workers) (sym c.self.view_is) c.requires in
    get_or_read s.ended c.args.worker c.index.result.now (omega (arith, long, known)) c.index.ensures true
    ∙ ap (λ (z : Shown). get_or z.ended c.args.worker true) c.self.view_is
