use Rattle.std.proofs.Common.{length, subst, subst₂, sym, ◌++◌, ◌<◌}
use Rattle.std.specs.List.Sorted.{IsPermutation}
use Rattle.formal_sums.specs.FormalSums.{Each}
use Rattle.pivot_table.specs.Law.{LeadsFit}
use Rattle.row_reduce.proofs.Echelons.{columns_some, pass_read}
use Rattle.row_reduce.proofs.HelpedRows.{dealt_below}
use Rattle.row_reduce.proofs.elimination.pass_over.Goals as goal

pub pass-requires-clause-some : goal.pass-requires-clause-some
pass-requires-clause-some g c κs within =
    let s = c.args.state.now in
    subst (λ hs. 0 < length hs) (sym c.deref-7.ensures.value)
    (columns_some c.args.modulus.now.value (length s.held.items) c.args.inputs s.rows.items s.leads.items s.held.items s.pending.items c.requires.ready c.requires.some)

pub pass-requires-clause-fits : goal.pass-requires-clause-fits
pass-requires-clause-fits g c κs within =
    subst₂ (λ ls hs. LeadsFit ls hs) (sym c.deref-6.ensures.value) (sym c.deref-7.ensures.value) c.requires.ready.fits

pub pass-requires-clause-pending : goal.pass-requires-clause-pending
pass-requires-clause-pending g c κs within =
    let s = c.args.state.now in
    let chosen = c.in_ok-chosen.chosen in
    let parts = subst (λ ks. IsPermutation ks (chosen.now.items ++ chosen.later.items)) c.deref-4.ensures.value c.in_ok-chosen.ensures.parts in
    subst₂ (λ rs ks. Each (λ m. m < length rs) ks) (sym c.deref-5.ensures.value) (sym c.deref-8.ensures.value)
    (dealt_below (length s.rows.items) s.pending.items chosen.now.items chosen.later.items parts c.requires.ready.known).0

pub returns : goal.returns
returns g c =
    let s = c.args.state.now in
    let chosen = c.in_ok-chosen.chosen in
    let passed = c.in_ok-passed.passed in
    record {
      now = chosen.now.items;
      some = c.in_ok-chosen.ensures.some;
      parts = subst (λ ks. IsPermutation ks (chosen.now.items ++ chosen.later.items)) c.deref-4.ensures.value c.in_ok-chosen.ensures.parts;
      pass =
          pass_read c.args.modulus.now.value c.args.inputs c.deref-5.result.now s.rows.items c.deref-7.result.now s.held.items c.deref-8.result.now chosen.now.items
          passed.words.items passed.left.items c.deref-5.ensures.value c.deref-7.ensures.value c.deref-8.ensures.value c.in_ok-passed.ensures;
    }
