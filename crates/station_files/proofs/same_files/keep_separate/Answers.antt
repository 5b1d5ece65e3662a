use Rattle.std.proofs.Common.{String, Global, arith, inl, inr, string_bytes}
use Rattle.std.proofs.lemmas.List.{length-map}
use Rattle.station_files.specs.FileNames.{spelt, RefusesNames}
use Rattle.station_files.specs.Locations.{LeadsTo}
use Rattle.station_files.proofs.Separate.{are_separate, is_clash, zip_length}
use Rattle.station_files.proofs.Loaded.{handed_on}
use Rattle.station_files.proofs.same_files.keep_separate.Goals as goal

pub clash_in-requires : goal.clash_in-requires
clash_in-requires g c =
    let names = c.args.files.now.names in
    let many = zip_length (LeadsTo g.S.Store.leads) (spelt names.items) c.in_ok-found.found.items (rw c.deref.ensures.value at c.in_ok-found.ensures.found) in
    let same = length-map names.items (λ (name : String Global). string_bytes name) in
    rw c.deref-2.ensures.value (omega (arith, c.args.files.now.within, names.ok.0, many, same))

pub returns-in-None-clause-separate : goal.returns-in-None-clause-separate
returns-in-None-clause-separate g c =
    let files = c.args.files.now in
    are_separate g.S.Store.leads files.written (spelt files.names.items) c.in_ok-found.found.items (rw c.deref.ensures.value at c.in_ok-found.ensures.found) (rw c.deref-2.ensures.value at c.in-None.ensures)

pub returns-clause-refused : goal.returns-clause-refused
returns-clause-refused g c =
    let files = c.args.files.now in
    let led = rw c.deref.ensures.value at c.in_ok-found.ensures.found in
    let clashes = is_clash g.S.Store.leads files.written (spelt files.names.items) c.in_ok-found.found.items c.in-Some.clash led (rw c.deref-2.ensures.value at c.in-Some.ensures) in
    inl (record { clash = c.in-Some.clash; clashes = clashes; is = c.fault_for-fault.ensures })

pub returns-in_err-found-clause-refused : goal.returns-in_err-found-clause-refused
returns-in_err-found-clause-refused g c =
    let files = c.args.files.now in
    handed_on (RefusesNames g.S.Store.leads files.has_capture files.written (spelt files.names.items)) c.from_residual.result c.in_err-found.field-0.0 c.from_residual.ensures.1 (inr c.in_err-found.ensures.failed)
