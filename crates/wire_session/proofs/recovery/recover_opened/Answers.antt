use Rattle.std.proofs.Common.{false, [], length, ap, inl, inr, refl, sym, subst}
use Rattle.std.specs.Prelude.{IsErr, IsSomeAnd}
use denote.Param.Send.{sendable}
use Rattle.site_core.specs.State.{Seen}
use Rattle.site_wire.proofs.Sent.{shared-send, wire-device-send}
use Rattle.wire_mirror.proofs.Sent.{journal-file-send, mirrored-send}
use Rattle.script_session.specs.Running.{EndsReported, RunGoes, whole_of}
use Rattle.wire_session.specs.Keeping.{OfRecovered}
use Rattle.wire_session.proofs.Keeping.{recovery_on_wire}
use Rattle.wire_session.specs.Slaves.{AllHold, SlavesHold}
use Rattle.wire_session.proofs.RunEnds.{hold_whole, unbegun}
use Rattle.wire_session.proofs.Mirrored.{device_in, follows_in, tells_in, well_in}
use Rattle.wire_session.proofs.SlavesHeld.{slaves_hold}
use Rattle.station_line.specs.Site.{switched_on}
use Rattle.script_session.specs.After.{SavesRecovered}
use Rattle.station_files.specs.declared.faults.Fault.TheVariants.{Memory}
use Rattle.wire_faults.specs.declared.faults.WireFault.TheVariants as wire
use Rattle.wire_session.proofs.Endings.{opened_refused}
use Rattle.wire_session.proofs.Recovering.{recovers_opened}
use Rattle.wire_session.proofs.recovery.recover_opened.Goals as goal

pub recover_site-requires-send-D : goal.recover_site-requires-send-D
recover_site-requires-send-D g c κs lives = search (mirrored-send, wire-device-send, journal-file-send, shared-send, sendable) depth 40

pub returns-in-Ok-site_of-clause-ends : goal.returns-in-Ok-site_of-clause-ends
returns-in-Ok-site_of-clause-ends g c =
    let count = length c.args.found.line.now.images.items in
    let ran = c.recover_site.result in
    recovers_opened (λ s. IsSomeAnd (whole_of ran.reported.desk ran.reported.after) (λ reported. EndsReported follows_in well_in tells_in false c.in-Ok-site_of.site count reported s.seen))
    (AllHold c.args.found.slaves.now ran.reported) ran.ended (g.S.Store.files c.args.store.now)
    (g.S.Store.files c.open_line.new.store) (g.S.Store.files c.recover_site.new.store) c.args.found.line.now c.args.found.slaves.now
    c.args.found.journal.items c.in-Ok-site_of.site c.open_line.ensures.others c.in-Ok-site_of.ensures
    (λ s recovered own way. hold_whole {Q = SlavesHold c.args.found.slaves.now s} _ ran.reported.desk ran.reported.after own
    (λ reported own ends. slaves_hold device_in false c.in-Ok-site_of.site count s reported (ap (λ (seen : Seen). seen.past) c.in-Ok-site_of.ensures.seen) ends own c.args.found.slaves.now c.args.found.journal.items
    c.in-Ok-site_of.ensures.seen c.in-Ok-site_of.ensures.sizes (sym c.requires.count) recovered) way)
    c.recover_site.ensures.others c.recover_site.ensures.own c.recover_site.ensures.saved

pub returns-in-Ok-site_of-clause-keeps : goal.returns-in-Ok-site_of-clause-keeps
returns-in-Ok-site_of-clause-keeps g c =
    let ran = c.recover_site.result in
    let began = ap (λ (seen : Seen). seen.past) c.in-Ok-site_of.ensures.seen in
    inr (subst (λ (seen : Seen). RunGoes (OfRecovered _ seen ran.reported) seen [] (IsErr ran.ended)) c.in-Ok-site_of.ensures.seen
    (recovery_on_wire device_in c.a_cut_leaves_kept_on_a_wire.ensures c.in-Ok-site_of.site.seen began ran.reported (IsErr ran.ended) (IsErr ran.ended)
    (λ failed. failed) (c.recover_site.ensures.goes began)))

pub returns-clause-ends : goal.returns-clause-ends
returns-clause-ends g c =
    opened_refused
    (λ (done : Unit {0}). SavesRecovered (AllHold c.args.found.slaves.now c.of_fault-in-Err-site_of.result.reported) (g.S.Store.files c.open_line.new.store)
    c.args.found.line.now (switched_on c.args.found.slaves.now c.args.found.journal.items))
    c.of_fault-in-Err-site_of.result.ended (wire.Station Memory) (g.S.Store.files c.args.store.now) (g.S.Store.files c.open_line.new.store) c.args.found.line.now
    c.open_line.ensures.others c.of_fault-in-Err-site_of.ensures.ended

pub returns-clause-keeps : goal.returns-clause-keeps
returns-clause-keeps g c =
    let worked = c.of_fault-in-Err-site_of in
    inl (unbegun worked.result (wire.Station Memory) worked.ensures.ended (inr refl) worked.ensures.none)

pub returns-in-Err-clause-keeps : goal.returns-in-Err-clause-keeps
returns-in-Err-clause-keeps g c =
    inl (unbegun c.of_fault.result (wire.Station c.in-Err.fault) c.of_fault.ensures.ended c.in-Err.ensures.failed c.of_fault.ensures.none)
