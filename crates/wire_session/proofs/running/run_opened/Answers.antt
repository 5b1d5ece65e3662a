use Rattle.std.proofs.Common.{length, ap, inl, inr, refl, sym, subst}
use Rattle.std.specs.Prelude.{IsErr, IsSomeAnd}
use denote.Param.Send.{sendable}
use Rattle.site_core.specs.State.{Seen}
use Rattle.site_wire.proofs.Sent.{shared-send, wire-device-send}
use Rattle.wire_mirror.proofs.Sent.{journal-file-send, mirrored-send}
use Rattle.station_files.specs.declared.faults.ExitStatus.{ExitStatus}
use Rattle.station_line.proofs.Opened.{old-by}
use Rattle.wire_session.specs.Running.{SavesFound}
use Rattle.script_session.specs.Running.{EndsReported, RunGoes, whole_of}
use Rattle.wire_session.specs.Keeping.{OfWire}
use Rattle.wire_session.specs.Slaves.{SlavesHold}
use Rattle.wire_session.proofs.Keeping.{run_on_wire}
use Rattle.wire_session.proofs.Mirrored.{device_in, follows_in, tells_in, well_in}
use Rattle.wire_session.proofs.SlavesHeld.{slaves_hold}
use Rattle.station_files.specs.declared.faults.Fault.TheVariants.{Memory}
use Rattle.wire_faults.specs.declared.faults.WireFault.TheVariants as wire
use Rattle.wire_session.proofs.Endings.{opened_refused}
use Rattle.wire_session.proofs.RunEnds.{ends_found, hold_whole, unbegun}
use Rattle.wire_session.proofs.running.run_opened.Goals as goal

pub run_site-requires-send-D : goal.run_site-requires-send-D
run_site-requires-send-D g c κs lives = search (mirrored-send, wire-device-send, journal-file-send, shared-send, sendable) depth 40

pub run_site-requires-clause-old : goal.run_site-requires-clause-old
run_site-requires-clause-old g c κs lives =
    old-by c.args.found.slaves.now c.args.found.journal.items c.in-Ok-site_of.site c.is_old-is_old.result
    c.in-Ok-site_of.ensures (rw c.deref-2.ensures.value at c.is_old-is_old.ensures)

pub returns-in-Ok-site_of-clause-ends : goal.returns-in-Ok-site_of-clause-ends
returns-in-Ok-site_of-clause-ends g c =
    let count = length c.args.found.line.now.images.items in
    let ran = c.run_site.result in
    ends_found (λ last. IsSomeAnd (whole_of ran.reported.desk ran.reported.after) (λ reported.
    EndsReported follows_in well_in tells_in c.args.task.turns c.in-Ok-site_of.site count reported last.seen))
    ran (g.S.Store.files c.args.store.now) (g.S.Store.files c.open_line.new.store) (g.S.Store.files c.run_site.new.store)
    c.args.found.line.now c.args.found.slaves.now c.args.found.journal.items c.in-Ok-site_of.site c.args.task.work.commands.items c.open_line.ensures.others
    c.in-Ok-site_of.ensures
    (λ s recovered own way. hold_whole {Q = SlavesHold c.args.found.slaves.now s} _ ran.reported.desk ran.reported.after own
    (λ reported own ends. slaves_hold device_in c.args.task.turns c.in-Ok-site_of.site count s reported (ap (λ (seen : Seen). seen.past) c.in-Ok-site_of.ensures.seen) ends own c.args.found.slaves.now c.args.found.journal.items
    c.in-Ok-site_of.ensures.seen c.in-Ok-site_of.ensures.sizes (sym c.requires.count) recovered) way)
    c.run_site.ensures.others c.run_site.ensures.own c.run_site.ensures.saved

pub returns-in-Ok-site_of-clause-keeps : goal.returns-in-Ok-site_of-clause-keeps
returns-in-Ok-site_of-clause-keeps g c =
    let ran = c.run_site.result in
    let commands = c.args.task.work.commands.items in
    let began = ap (λ (seen : Seen). seen.past) c.in-Ok-site_of.ensures.seen in
    inr (subst (λ (seen : Seen). RunGoes (OfWire _ seen.state ran.reported) seen commands (IsErr ran.ended)) c.in-Ok-site_of.ensures.seen
    (run_on_wire device_in c.a_cut_leaves_kept_on_a_wire.ensures c.in-Ok-site_of.site.seen began ran.reported (IsErr ran.ended) (IsErr ran.ended)
    (λ failed. failed) commands (c.run_site.ensures.goes began)))

pub returns-clause-ends : goal.returns-clause-ends
returns-clause-ends g c =
    let found = c.args.found in
    opened_refused
    (λ (status : ExitStatus). SavesFound (g.S.Store.files c.open_line.new.store) found.line.now found.slaves.now found.journal.items c.args.task.work.commands.items c.of_fault-in-Err-site_of.result.reported status)
    c.of_fault-in-Err-site_of.result.ended (wire.Station Memory) (g.S.Store.files c.args.store.now) (g.S.Store.files c.open_line.new.store) found.line.now
    c.open_line.ensures.others c.of_fault-in-Err-site_of.ensures.ended

pub returns-clause-keeps : goal.returns-clause-keeps
returns-clause-keeps g c =
    let worked = c.of_fault-in-Err-site_of in
    inl (unbegun worked.result (wire.Station Memory) worked.ensures.ended (inr refl) worked.ensures.none)

pub returns-in-Err-clause-keeps : goal.returns-in-Err-clause-keeps
returns-in-Err-clause-keeps g c =
    inl (unbegun c.of_fault.result (wire.Station c.in-Err.fault) c.of_fault.ensures.ended c.in-Err.ensures.failed c.of_fault.ensures.none)
