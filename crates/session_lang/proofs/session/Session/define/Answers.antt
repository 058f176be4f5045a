use Rattle.std.proofs.Common.{[], refl, subst, sym, ◌≡◌}
use Rattle.std.specs.Prelude.{is_some, string_bytes}
use Rattle.groebner_iface.specs.declared.stop.OpStop.TheVariants as causes
use Rattle.script_parse.specs.declared.stated.Statement.TheVariants as statements
use Rattle.session_values.specs.Kept.{IsSound}
use Rattle.session_values.specs.Names.{after_giving}
use Rattle.session_lang.proofs.Making.{sound_list}
use Rattle.session_lang.proofs.Performing.{nothing_behind, was_done, was_stopped}
use Rattle.session_lang.proofs.session.Session.define.Goals as goal

pub give-requires : goal.give-requires
give-requires c =
    let f = c.requires in
    (f.0, f.1, subst (IsSound f.0 c.args.rank) (sym c.of.ensures) (sound_list f.0 c.args.rank c.args.list f.4 (f.2, f.3)))

pub returns-in-Ok : goal.returns-in-Ok
returns-in-Ok c text count kept =
    let given =
    subst
    (λ v. c.give.new.self
    ≡ after_giving (record { name = string_bytes c.args.name; rank = c.args.rank; list = v.list; kept = is_some v.basis }) c.args.self.now)
    c.of.ensures c.in-Ok.ensures.named in
    was_done c.args.self.now (statements.Module c.args.name c.args.rank c.args.list) c.give.new.self text text count count kept kept
    [] (given, refl) (nothing_behind text) refl refl

pub returns-in-Err : goal.returns-in-Err
returns-in-Err c text count kept =
    was_stopped c.args.self.now (statements.Module c.args.name c.args.rank c.args.list) c.give.new.self text text count count kept kept
    causes.Memory c.in-Err.ensures.same refl (refl, refl)
