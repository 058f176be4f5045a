use Rattle.std.proofs.Common.{refl, rules, subst, sym, ◌≡◌}
use Rattle.std.specs.Prelude.{codes, string_bytes}
use Rattle.groebner_iface.specs.declared.stop.OpStop.TheVariants as causes
use Rattle.script_parse.specs.declared.stated.Statement.TheVariants as statements
use Rattle.session_lang.specs.Fitting.{IsGiven}
use Rattle.session_values.specs.Kept.{value_of}
use Rattle.session_values.specs.Names.{HasValue}
use Rattle.session_values.specs.Texts.{listing}
use Rattle.session_reports.proofs.Variables.{listed}
use Rattle.session_lang.proofs.Performing.{was_done, was_stopped}
use Rattle.session_lang.proofs.session.Session.list.Goals as goal

pub found-value-requires : goal.found-value-requires
found-value-requires c = subst (IsGiven c.args.self.now) (sym c.as_bytes.ensures.value) c.requires

pub push_listing-requires : goal.push_listing-requires
push_listing-requires c = rw c.list.ensures (listed c.found-value.result.ring.now c.found-value.result.stored.now.list c.found-value.ensures.sound.vectors)

pub returns-in-Ok : goal.returns-in-Ok
returns-in-Ok c count kept =
    let ring = c.found-value.result.ring.now in
    let info = c.found-value.result.info.now in
    let value = value_of info c.found-value.result.stored.now in
    let name : c.as_bytes-2.result.now ≡ string_bytes info.name = search rules in
    let has = subst (λ n. HasValue c.args.self.now n ring value) c.as_bytes.ensures.value c.found-value.ensures.has in
    was_done c.args.self.now (statements.Gens c.args.name.now) c.args.self.now c.args.out.now c.push_listing.new.out count count kept kept
    (listing (codes "gens") ring value value.list) (refl, (ring, value, has, refl)) (rw (sym name, sym c.list.ensures) c.in-Ok.ensures.ok) refl refl

pub returns-in-Err : goal.returns-in-Err
returns-in-Err c count kept =
    was_stopped c.args.self.now (statements.Gens c.args.name.now) c.args.self.now c.args.out.now c.push_listing.new.out count count kept kept
    causes.Memory refl c.in-Err.ensures.err (refl, refl)
