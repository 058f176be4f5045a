use Rattle.order_change.proofs.table.product_form.Goals as goal

pub known_form-requires-clause-given : goal.known_form-requires-clause-given
known_form-requires-clause-given c = c.requires.given

pub border_form-requires-clause-given : goal.border_form-requires-clause-given
border_form-requires-clause-given c = c.requires.given

pub border_form-requires-clause-table : goal.border_form-requires-clause-table
border_form-requires-clause-table c = c.requires.table

pub border_form-requires-clause-forms : goal.border_form-requires-clause-forms
border_form-requires-clause-forms c = c.requires.forms

pub border_form-requires-clause-candidate : goal.border_form-requires-clause-candidate
border_form-requires-clause-candidate c = c.requires.candidate

pub border_form-requires-clause-least : goal.border_form-requires-clause-least
border_form-requires-clause-least c = c.requires.least
