use Rattle.std.proofs.Common.{[], arith, refl, subst, sym}
use Rattle.session_lang.specs.Fitting.{IsFit}
use Rattle.session_lang.specs.Lines.{Does}
use Rattle.session_lang.proofs.Performing.{ideal_given, nothing_behind, performed_as, was_done}
use Rattle.session_reports.proofs.Counted.{none_ran}
use Rattle.session_lang.proofs.StatedRuns.{ran_as}
use Rattle.session_lang.proofs.session.Session.perform.Goals as goal

pub returns-in-Nothing-clause-performed : goal.returns-in-Nothing-clause-performed
returns-in-Nothing-clause-performed g c =
    let text = c.args.out.now in
    was_done c.args.self.now c.args.stated c.args.self.now text text _ _ _ _ [] (subst (λ s. Does c.args.self.now s c.args.self.now []) (sym c.in-Nothing.is) (refl, refl))
    (nothing_behind text) refl refl

pub returns-in-Ring-clause-performed : goal.returns-in-Ring-clause-performed
returns-in-Ring-clause-performed g c =
    let text = c.args.out.now in
    was_done c.args.self.now c.args.stated c.state_ring.new.self text text _ _ _ _ []
    (subst (λ s. Does c.args.self.now s c.state_ring.new.self []) (sym c.in-Ring.is) (c.state_ring.ensures, refl)) (nothing_behind text) refl refl

pub show-requires : goal.show-requires
show-requires g c = subst (IsFit c.args.self.now) c.in-Show.is c.requires.fit

pub returns-in-Show-clause-performed : goal.returns-in-Show-clause-performed
returns-in-Show-clause-performed g c = performed_as c.in-Show.is (c.show.ensures _ _)

pub define-requires : goal.define-requires
define-requires g c =
    let f = subst (IsFit c.args.self.now) c.in-Ideal.is c.requires.fit in (f.0, f.1, f.2, f.3, (omega arith, omega arith))

pub returns-in-Ideal-clause-performed : goal.returns-in-Ideal-clause-performed
returns-in-Ideal-clause-performed g c =
    performed_as c.in-Ideal.is (ideal_given c.define.result (c.define.ensures c.args.out.now _ _))

pub define-requires-in-Module : goal.define-requires-in-Module
define-requires-in-Module g c = subst (IsFit c.args.self.now) c.in-Module.is c.requires.fit

pub returns-in-Module-clause-performed : goal.returns-in-Module-clause-performed
returns-in-Module-clause-performed g c = performed_as c.in-Module.is (c.define-in-Module.ensures c.args.out.now _ _)

pub make-requires-after_bounds : goal.make-requires-after_bounds
make-requires-after_bounds g c κs within = subst (IsFit c.args.self.now) c.in-Let.is c.requires.fit

pub returns-in-Let-clause-performed : goal.returns-in-Let-clause-performed
returns-in-Let-clause-performed g c = performed_as c.in-Let.is (c.make.ensures.performed c.args.out.now)

pub list-requires : goal.list-requires
list-requires g c = subst (IsFit c.args.self.now) c.in-Gens.is c.requires.fit

pub returns-in-Gens-clause-performed : goal.returns-in-Gens-clause-performed
returns-in-Gens-clause-performed g c = performed_as c.in-Gens.is (c.list.ensures _ _)

pub ask-requires-after_bounds : goal.ask-requires-after_bounds
ask-requires-after_bounds g c κs within = subst (IsFit c.args.self.now) c.in-Gb.is c.requires.fit

pub returns-in-Gb-clause-performed : goal.returns-in-Gb-clause-performed
returns-in-Gb-clause-performed g c = performed_as c.in-Gb.is c.ask.ensures.performed

pub ask-requires-in-Size-after_bounds : goal.ask-requires-in-Size-after_bounds
ask-requires-in-Size-after_bounds g c κs within = subst (IsFit c.args.self.now) c.in-Size.is c.requires.fit

pub returns-in-Size-clause-performed : goal.returns-in-Size-clause-performed
returns-in-Size-clause-performed g c = performed_as c.in-Size.is c.ask-in-Size.ensures.performed

pub ask-requires-in-NormalForm-after_bounds : goal.ask-requires-in-NormalForm-after_bounds
ask-requires-in-NormalForm-after_bounds g c κs within = subst (IsFit c.args.self.now) c.in-NormalForm.is c.requires.fit

pub returns-in-NormalForm-clause-performed : goal.returns-in-NormalForm-clause-performed
returns-in-NormalForm-clause-performed g c = performed_as c.in-NormalForm.is c.ask-in-NormalForm.ensures.performed

pub ask-requires-in-Member-after_bounds : goal.ask-requires-in-Member-after_bounds
ask-requires-in-Member-after_bounds g c κs within = subst (IsFit c.args.self.now) c.in-Member.is c.requires.fit

pub returns-in-Member-clause-performed : goal.returns-in-Member-clause-performed
returns-in-Member-clause-performed g c = performed_as c.in-Member.is c.ask-in-Member.ensures.performed

pub lift-requires-after_bounds : goal.lift-requires-after_bounds
lift-requires-after_bounds g c κs within = subst (IsFit c.args.self.now) c.in-Lift.is c.requires.fit

pub returns-in-Lift-clause-performed : goal.returns-in-Lift-clause-performed
returns-in-Lift-clause-performed g c = performed_as c.in-Lift.is c.lift.ensures.performed

pub report-requires-after_bounds : goal.report-requires-after_bounds
report-requires-after_bounds g c κs within = subst (IsFit c.args.self.now) c.in-Hilbert.is c.requires.fit

pub returns-in-Hilbert-clause-performed : goal.returns-in-Hilbert-clause-performed
returns-in-Hilbert-clause-performed g c = performed_as c.in-Hilbert.is c.report.ensures.performed

pub report-requires-in-Resolution-after_bounds : goal.report-requires-in-Resolution-after_bounds
report-requires-in-Resolution-after_bounds g c κs within = subst (IsFit c.args.self.now) c.in-Resolution.is c.requires.fit

pub returns-in-Resolution-clause-performed : goal.returns-in-Resolution-clause-performed
returns-in-Resolution-clause-performed g c = performed_as c.in-Resolution.is c.report-in-Resolution.ensures.performed

pub report-requires-in-Minimal-after_bounds : goal.report-requires-in-Minimal-after_bounds
report-requires-in-Minimal-after_bounds g c κs within = subst (IsFit c.args.self.now) c.in-Minimal.is c.requires.fit

pub returns-in-Minimal-clause-performed : goal.returns-in-Minimal-clause-performed
returns-in-Minimal-clause-performed g c = performed_as c.in-Minimal.is c.report-in-Minimal.ensures.performed

pub report-requires-in-Betti-after_bounds : goal.report-requires-in-Betti-after_bounds
report-requires-in-Betti-after_bounds g c κs within = subst (IsFit c.args.self.now) c.in-Betti.is c.requires.fit

pub returns-in-Betti-clause-performed : goal.returns-in-Betti-clause-performed
returns-in-Betti-clause-performed g c = performed_as c.in-Betti.is c.report-in-Betti.ensures.performed

pub report-requires-in-Regularity-after_bounds : goal.report-requires-in-Regularity-after_bounds
report-requires-in-Regularity-after_bounds g c κs within = subst (IsFit c.args.self.now) c.in-Regularity.is c.requires.fit

pub returns-in-Regularity-clause-performed : goal.returns-in-Regularity-clause-performed
returns-in-Regularity-clause-performed g c = performed_as c.in-Regularity.is c.report-in-Regularity.ensures.performed

pub report-requires-in-Change-after_bounds : goal.report-requires-in-Change-after_bounds
report-requires-in-Change-after_bounds g c κs within = subst (IsFit c.args.self.now) c.in-Change.is c.requires.fit

pub returns-in-Change-clause-performed : goal.returns-in-Change-clause-performed
returns-in-Change-clause-performed g c = performed_as c.in-Change.is c.report-in-Change.ensures.performed

pub compare-requires-after_bounds : goal.compare-requires-after_bounds
compare-requires-after_bounds g c κs within = subst (IsFit c.args.self.now) c.in-Equal.is c.requires.fit

pub returns-in-Equal-clause-performed : goal.returns-in-Equal-clause-performed
returns-in-Equal-clause-performed g c = performed_as c.in-Equal.is c.compare.ensures.performed

pub returns-in-Let-clause-later : goal.returns-in-Let-clause-later
returns-in-Let-clause-later g c = c.make.ensures.later

pub returns-in-Let-clause-settings : goal.returns-in-Let-clause-settings
returns-in-Let-clause-settings g c = c.make.ensures.settings

pub returns-in-Gb-clause-later : goal.returns-in-Gb-clause-later
returns-in-Gb-clause-later g c = c.ask.ensures.later

pub returns-in-Gb-clause-settings : goal.returns-in-Gb-clause-settings
returns-in-Gb-clause-settings g c = c.ask.ensures.settings

pub returns-in-Size-clause-later : goal.returns-in-Size-clause-later
returns-in-Size-clause-later g c = c.ask-in-Size.ensures.later

pub returns-in-Size-clause-settings : goal.returns-in-Size-clause-settings
returns-in-Size-clause-settings g c = c.ask-in-Size.ensures.settings

pub returns-in-NormalForm-clause-later : goal.returns-in-NormalForm-clause-later
returns-in-NormalForm-clause-later g c = c.ask-in-NormalForm.ensures.later

pub returns-in-NormalForm-clause-settings : goal.returns-in-NormalForm-clause-settings
returns-in-NormalForm-clause-settings g c = c.ask-in-NormalForm.ensures.settings

pub returns-in-Member-clause-later : goal.returns-in-Member-clause-later
returns-in-Member-clause-later g c = c.ask-in-Member.ensures.later

pub returns-in-Member-clause-settings : goal.returns-in-Member-clause-settings
returns-in-Member-clause-settings g c = c.ask-in-Member.ensures.settings

pub returns-in-Lift-clause-later : goal.returns-in-Lift-clause-later
returns-in-Lift-clause-later g c = c.lift.ensures.later

pub returns-in-Lift-clause-settings : goal.returns-in-Lift-clause-settings
returns-in-Lift-clause-settings g c = c.lift.ensures.settings

pub returns-in-Hilbert-clause-later : goal.returns-in-Hilbert-clause-later
returns-in-Hilbert-clause-later g c = c.report.ensures.later

pub returns-in-Hilbert-clause-settings : goal.returns-in-Hilbert-clause-settings
returns-in-Hilbert-clause-settings g c = c.report.ensures.settings

pub returns-in-Resolution-clause-later : goal.returns-in-Resolution-clause-later
returns-in-Resolution-clause-later g c = c.report-in-Resolution.ensures.later

pub returns-in-Resolution-clause-settings : goal.returns-in-Resolution-clause-settings
returns-in-Resolution-clause-settings g c = c.report-in-Resolution.ensures.settings

pub returns-in-Minimal-clause-later : goal.returns-in-Minimal-clause-later
returns-in-Minimal-clause-later g c = c.report-in-Minimal.ensures.later

pub returns-in-Minimal-clause-settings : goal.returns-in-Minimal-clause-settings
returns-in-Minimal-clause-settings g c = c.report-in-Minimal.ensures.settings

pub returns-in-Betti-clause-later : goal.returns-in-Betti-clause-later
returns-in-Betti-clause-later g c = c.report-in-Betti.ensures.later

pub returns-in-Betti-clause-settings : goal.returns-in-Betti-clause-settings
returns-in-Betti-clause-settings g c = c.report-in-Betti.ensures.settings

pub returns-in-Regularity-clause-later : goal.returns-in-Regularity-clause-later
returns-in-Regularity-clause-later g c = c.report-in-Regularity.ensures.later

pub returns-in-Regularity-clause-settings : goal.returns-in-Regularity-clause-settings
returns-in-Regularity-clause-settings g c = c.report-in-Regularity.ensures.settings

pub returns-in-Change-clause-later : goal.returns-in-Change-clause-later
returns-in-Change-clause-later g c = c.report-in-Change.ensures.later

pub returns-in-Change-clause-settings : goal.returns-in-Change-clause-settings
returns-in-Change-clause-settings g c = c.report-in-Change.ensures.settings

pub returns-in-Equal-clause-later : goal.returns-in-Equal-clause-later
returns-in-Equal-clause-later g c = c.compare.ensures.later

pub returns-in-Equal-clause-settings : goal.returns-in-Equal-clause-settings
returns-in-Equal-clause-settings g c = c.compare.ensures.settings

pub express-requires-after_bounds : goal.express-requires-after_bounds
express-requires-after_bounds g c κs within = subst (IsFit c.args.self.now) c.in-Express.is c.requires.fit

pub returns-in-Express-clause-performed : goal.returns-in-Express-clause-performed
returns-in-Express-clause-performed g c = performed_as c.in-Express.is c.express.ensures.performed

pub returns-in-Express-clause-later : goal.returns-in-Express-clause-later
returns-in-Express-clause-later g c = c.express.ensures.later

pub returns-in-Express-clause-settings : goal.returns-in-Express-clause-settings
returns-in-Express-clause-settings g c = c.express.ensures.settings

pub extend-requires-after_bounds : goal.extend-requires-after_bounds
extend-requires-after_bounds g c κs within = subst (IsFit c.args.self.now) c.in-Ext.is c.requires.fit

pub returns-in-Ext-clause-performed : goal.returns-in-Ext-clause-performed
returns-in-Ext-clause-performed g c = performed_as c.in-Ext.is c.extend.ensures.performed

pub returns-in-Ext-clause-later : goal.returns-in-Ext-clause-later
returns-in-Ext-clause-later g c = c.extend.ensures.later

pub returns-in-Ext-clause-settings : goal.returns-in-Ext-clause-settings
returns-in-Ext-clause-settings g c = c.extend.ensures.settings

pub returns-in-Nothing-clause-runs : goal.returns-in-Nothing-clause-runs
returns-in-Nothing-clause-runs g c = ran_as c.args.self.now _ _ c.in-Nothing.is (0, refl, none_ran 0 _)

pub returns-in-Ring-clause-runs : goal.returns-in-Ring-clause-runs
returns-in-Ring-clause-runs g c = ran_as c.args.self.now _ _ c.in-Ring.is (0, refl, none_ran 0 _)

pub returns-in-Show-clause-runs : goal.returns-in-Show-clause-runs
returns-in-Show-clause-runs g c = ran_as c.args.self.now _ _ c.in-Show.is (0, refl, none_ran 0 _)

pub returns-in-Ideal-clause-runs : goal.returns-in-Ideal-clause-runs
returns-in-Ideal-clause-runs g c = ran_as c.args.self.now _ _ c.in-Ideal.is (0, refl, none_ran 0 _)

pub returns-in-Module-clause-runs : goal.returns-in-Module-clause-runs
returns-in-Module-clause-runs g c = ran_as c.args.self.now _ _ c.in-Module.is (0, refl, none_ran 0 _)

pub returns-in-Gens-clause-runs : goal.returns-in-Gens-clause-runs
returns-in-Gens-clause-runs g c = ran_as c.args.self.now _ _ c.in-Gens.is (0, refl, none_ran 0 _)

pub returns-in-Let-clause-runs : goal.returns-in-Let-clause-runs
returns-in-Let-clause-runs g c = ran_as c.args.self.now _ _ c.in-Let.is c.make.ensures.runs

pub returns-in-Gb-clause-runs : goal.returns-in-Gb-clause-runs
returns-in-Gb-clause-runs g c = ran_as c.args.self.now _ _ c.in-Gb.is c.ask.ensures.runs

pub returns-in-Size-clause-runs : goal.returns-in-Size-clause-runs
returns-in-Size-clause-runs g c = ran_as c.args.self.now _ _ c.in-Size.is c.ask-in-Size.ensures.runs

pub returns-in-NormalForm-clause-runs : goal.returns-in-NormalForm-clause-runs
returns-in-NormalForm-clause-runs g c = ran_as c.args.self.now _ _ c.in-NormalForm.is c.ask-in-NormalForm.ensures.runs

pub returns-in-Member-clause-runs : goal.returns-in-Member-clause-runs
returns-in-Member-clause-runs g c = ran_as c.args.self.now _ _ c.in-Member.is c.ask-in-Member.ensures.runs

pub returns-in-Lift-clause-runs : goal.returns-in-Lift-clause-runs
returns-in-Lift-clause-runs g c = ran_as c.args.self.now _ _ c.in-Lift.is c.lift.ensures.runs

pub returns-in-Hilbert-clause-runs : goal.returns-in-Hilbert-clause-runs
returns-in-Hilbert-clause-runs g c = ran_as c.args.self.now _ _ c.in-Hilbert.is c.report.ensures.runs

pub returns-in-Resolution-clause-runs : goal.returns-in-Resolution-clause-runs
returns-in-Resolution-clause-runs g c = ran_as c.args.self.now _ _ c.in-Resolution.is c.report-in-Resolution.ensures.runs

pub returns-in-Minimal-clause-runs : goal.returns-in-Minimal-clause-runs
returns-in-Minimal-clause-runs g c = ran_as c.args.self.now _ _ c.in-Minimal.is c.report-in-Minimal.ensures.runs

pub returns-in-Betti-clause-runs : goal.returns-in-Betti-clause-runs
returns-in-Betti-clause-runs g c = ran_as c.args.self.now _ _ c.in-Betti.is c.report-in-Betti.ensures.runs

pub returns-in-Regularity-clause-runs : goal.returns-in-Regularity-clause-runs
returns-in-Regularity-clause-runs g c = ran_as c.args.self.now _ _ c.in-Regularity.is c.report-in-Regularity.ensures.runs

pub returns-in-Change-clause-runs : goal.returns-in-Change-clause-runs
returns-in-Change-clause-runs g c = ran_as c.args.self.now _ _ c.in-Change.is c.report-in-Change.ensures.runs

pub returns-in-Equal-clause-runs : goal.returns-in-Equal-clause-runs
returns-in-Equal-clause-runs g c = ran_as c.args.self.now _ _ c.in-Equal.is c.compare.ensures.runs

pub returns-in-Express-clause-runs : goal.returns-in-Express-clause-runs
returns-in-Express-clause-runs g c = ran_as c.args.self.now _ _ c.in-Express.is c.express.ensures.runs

pub returns-in-Ext-clause-runs : goal.returns-in-Ext-clause-runs
returns-in-Ext-clause-runs g c = ran_as c.args.self.now _ _ c.in-Ext.is c.extend.ensures.runs
