use Rattle.std.proofs.Common.{◌∙◌, refl, inl}
use Rattle.station_files.specs.ScriptFiles.{LoadsEdit, RefusesEdit, RefusesGroup}
use Rattle.station_files.proofs.Loaded.{handed_on, loads_one_more}
use Rattle.station_files.proofs.ScriptFaults.{one_refused}
use Rattle.station_files.specs.declared.faults.Fault.TheVariants.{Memory}
use Rattle.station_files.proofs.script.load_edits.Goals as goal

pub loop-one-preserved : goal.loop-one-preserved
loop-one-preserved g c = record {
  loaded =
      rw c.in_ok-push.ensures.items
      (loads_one_more (λ files one edit. LoadsEdit files one.edit edit) (g.S.Store.files c.args.store.now) (g.S.Store.files c.loop-one.store) c.args.edits.now c.loop-one.one-index c.one-item.result c.loop-one.loaded.items c.in_ok-load_edit.field-0
      c.loop-one-test.true c.one-item.is c.loop-one.invariant.same c.loop-one.invariant.loaded c.in_ok-load_edit.ensures.edit);
  same = c.load_edit.ensures.same ∙ c.loop-one.invariant.same;
}

pub returns-in_err-load_edit-clause-refused : goal.returns-in_err-load_edit-clause-refused
returns-in_err-load_edit-clause-refused g c =
    let fault = c.in_err-load_edit.field-0.0 in
    handed_on (RefusesGroup (g.S.Store.files c.args.store.now) c.args.edits.now) c.from_residual.result fault c.from_residual.ensures.1
    (one_refused (λ files one why. RefusesEdit files one.edit why) (g.S.Store.files c.args.store.now) (g.S.Store.files c.loop-one.store) c.args.edits.now c.loop-one.one-index c.one-item.result fault
    c.loop-one-test.true c.one-item.is c.loop-one.invariant.same c.in_err-load_edit.ensures.refused)

pub returns-in_err-push-clause-refused : goal.returns-in_err-push-clause-refused
returns-in_err-push-clause-refused g c =
    handed_on (RefusesGroup (g.S.Store.files c.args.store.now) c.args.edits.now) c.from_residual-in_err-push.result Memory c.from_residual-in_err-push.ensures.1 (inl refl)
