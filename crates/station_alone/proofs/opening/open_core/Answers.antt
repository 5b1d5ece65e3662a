use Rattle.std.proofs.Common.{◌+◌, ◌<◌, ◌^◌, List, length, sym, subst}
use Rattle.sii_edit.specs.Fitting.{PlantFits}
use Rattle.jrn_format.specs.declared.journal.Batch.{Batch}
use Rattle.book_model.specs.Entries.{entries_of}
use Rattle.station_alone.specs.declared.fault.OpenFault.{OpenFault}
use Rattle.station_alone.specs.declared.fault.OpenFault.TheVariants as faults
use Rattle.station_alone.specs.Opening.{FailsToOpen}
use Rattle.station_alone.proofs.OpenLaws.{err-exit, fails-at-book, few-found, live-found, opened-stands}
use Rattle.station_alone.proofs.opening.open_core.Goals as goal

pub count_found-found-requires : goal.count_found-found-requires
count_found-found-requires g c =
    let its = g.S.Site.line c.args.site.now in
    let old = g.S.Site.seen c.args.site.now in
    let new = g.S.Site.seen c.read_found.new.site in
    subst (λ (l : List Batch). length l + length (entries_of l) < 2 ^ 64) (sym c.as_slice.ensures) (few-found its old c.in_ok-reading.reading new c.in_ok-reading.ensures.reads)

pub open-requires-clause-live : goal.open-requires-clause-live
open-requires-clause-live g c =
    live-found (g.S.Site.line c.args.site.now) (g.S.Site.seen c.args.site.now) c.in_ok-reading.reading (g.S.Site.seen c.read_found.new.site) c.in_ok-reading.ensures.reads

pub returns-clause-stands : goal.returns-clause-stands
returns-clause-stands g c =
    let its = g.S.Site.line c.args.site.now in
    let old = g.S.Site.seen c.args.site.now in
    let new = g.S.Site.seen c.read_found.new.site in
    opened-stands its old c.in_ok-reading.reading new c.in_ok-reading.ensures.reads c.in_ok-core.core c.in_ok-core.ensures (g.S.Site.line c.read_found.new.site) c.requires.disk c.requires.slaves c.in_ok-reading.ensures.line
    (subst PlantFits c.contents.ensures c.plant_fits.ensures)

pub returns-in_err-core-clause-fails : goal.returns-in_err-core-clause-fails
returns-in_err-core-clause-fails g c =
    let its = g.S.Site.line c.args.site.now in
    let old = g.S.Site.seen c.args.site.now in
    let later = g.S.Site.line c.read_found.new.site in
    let new = g.S.Site.seen c.read_found.new.site in
    err-exit c.from_residual-in_err-core.result faults.Memory (λ (fault : OpenFault). FailsToOpen its old fault later new) c.from_residual-in_err-core.ensures.1
    (fails-at-book its later old c.in_ok-reading.reading new c.in_ok-reading.ensures.line c.in_ok-reading.ensures.reads)
