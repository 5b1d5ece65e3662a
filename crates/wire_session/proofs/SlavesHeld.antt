-- Real slaves hold the contents of a station whose line was recovered on a wire.
use Rattle.std.proofs.Common.{Bool, ◌≡◌, ◌≢◌, ℕ, zero, suc, ◌+◌, ◌<◌, false, List, [], ◌∷◌, ◌++◌, length, map, get_or}
use Rattle.std.proofs.Common.{Option, Some, None, IsTrue, slice_get, refl, sym, ap, subst, ◌∙◌, arith}
use Rattle.std.specs.List.{AllByRecursion}
use Rattle.std.proofs.lemmas.List.{length-map}
use Rattle.std.proofs.lemmas.Option.{slice_get_within, slice_get-get_or}
use Rattle.site_core.specs.Line.{Line}
use Rattle.esc_model.specs.SlaveHalf.{SlaveHalf, powered_up}
use Rattle.esc_model.specs.Orders.{station}
use Rattle.site_core.specs.State.{Seen, Pair}
use Rattle.site_core.proofs.StopImages.{StopImage-same}
use Rattle.site_shadow.specs.Site.{SiteValue}
use Rattle.site_wire.specs.After.{IsAfter}
use Rattle.site_wire.specs.Sent.{Exchanged, exchanges}
use Rattle.site_wire.specs.Logged.{TellsWire}
use Rattle.site_wire.specs.declared.device.WireLog.{WireLog}
use Rattle.site_wire.specs.RealSlaves.{Lives}
use Rattle.site_wire.specs.Parts.{AreFor}
use Rattle.site_wire.specs.declared.sending.Exchange.{Exchange}
use Rattle.site_shadow.specs.declared.lending.LinePart.{LinePart}
use Rattle.site_wire.specs.Following.{WireFollows}
use Rattle.site_wire.specs.declared.device.WireDevice.{WireDevice}
use Rattle.site_wire.proofs.AmendedLaws.{brought_up_is_after}
use Rattle.site_wire.proofs.Behind.{slaves_are_behind}
use Rattle.site_wire.proofs.Living.{lives_parts, lives_station}
use Rattle.kept_wire.proofs.InJobs.{left_with}
use Rattle.kept_files.proofs.Extending.{first_stays}
use Rattle.book_model.specs.Book.{base_of}
use Rattle.station_alone.specs.Station.{Station}
use Rattle.station_alone.specs.Recovery.{HasRecovered}
use Rattle.station_jobs.specs.declared.log.SlaveLog.{SlaveLog}
use Rattle.station_jobs.specs.Ends.{Stay}
use Rattle.script_session.specs.declared.logs.PartLog.{PartLog}
use Rattle.script_session.specs.Parts.{AreReportedOf}
use Rattle.station_line.specs.Site.{IsFollowed, powered_up_from, switched_on}
use Rattle.script_session.specs.AtDesk.{IsServedReported}
use Rattle.script_session.specs.Saving.{KeepsReported}
use Rattle.script_session.proofs.SavingLaws.{keeps_reported}
use Rattle.script_session.proofs.ThreeDevices.{HasLed, LedSlave, led_slave}
use Rattle.script_session.specs.declared.logs.LineLog.{LineLog}
use Rattle.script_session.specs.Running.{EndsReported}
use Rattle.wire_session.specs.Interleaving.{Interleaves}
use Rattle.wire_session.specs.Slaves.{AreOfParts, SlavesHold, all_sent, sent_at_desk}
use Rattle.wire_session.proofs.Interleaved.{Misses, OthersMiss, lives_joined, own_part}

-- PLACES

-- the half of a slave that was switched on
powered_at : (at : ℕ) (plant : List (List ℕ)) (slave : ℕ) (words : List ℕ) → slice_get plant slave ≡ Some words
    → slice_get (powered_up_from at plant) slave ≡ Some (powered_up words (at + slave))
powered_at at [] slave words here = absurd cc
powered_at at (first ∷ plant) zero words here =
    let same : first ≡ words = cc in
    let there : at ≡ at + 0 = omega arith in
    ap (λ (w : List ℕ). Some (powered_up w at)) same ∙ ap (λ (n : ℕ). Some (powered_up words n)) there
powered_at at (first ∷ plant) (suc slave) words here =
    subst (λ (n : ℕ). slice_get (powered_up_from (at + 1) plant) slave ≡ Some (powered_up words n)) (omega arith) (powered_at (at + 1) plant slave words here)

module _ {D T : Type 0} (follows : D → Seen → Type 0) (well : D → Type 0) (tells : D → T → Type 0) where
  -- the device of a part of which this is told
  reported_of : (reported : List (PartLog T)) (ends : List (Stay SiteValue SlaveLog)) (k : ℕ) (part : PartLog T) → AreReportedOf follows well tells reported ends
      → AllByRecursion (λ (one : PartLog T). IsTrue one.is_sound) reported → slice_get reported k ≡ Some part
      → (seen : Seen) × IsFollowed (KeepsReported follows well tells part.reported) seen
  reported_of [] [] k part are sound here = absurd cc
  reported_of [] (e ∷ ends) k part are sound here = absurd are
  reported_of (one ∷ reported) [] k part are sound here = absurd are
  reported_of (one ∷ reported) (e ∷ ends) zero part are sound here =
      let same : one ≡ part = cc in (
        e.site.seen,
        subst (λ (p : PartLog T). IsFollowed (KeepsReported follows well tells p.reported) e.site.seen) same
            (keeps_reported follows well tells one e.site.seen sound.0 are.0.followed),
      )
  reported_of (one ∷ reported) (e ∷ ends) (suc k) part are sound here = reported_of reported ends k part are.1 sound.1 here

-- WHAT A POWER CUT LEAVES

-- Of a station that has recovered each slave after its half has the contents.
holds_contents : (s : Station) (slave : ℕ) (half later : SlaveHalf) → HasRecovered s → slice_get s.seen.state.halves slave ≡ Some half → IsAfter half later
    → slice_get (base_of s.book) slave ≡ Some later.words
holds_contents s slave half later recovered here after =
    let left = left_with s.seen.state.halves slave half later.words here after.amended.words in
    let pair : Pair = record { disk = s.seen.state.disk.bytes; words = left.words } in
    subst (λ (contents : List (List ℕ)). slice_get contents slave ≡ Some later.words)
    (recovered.only pair (record { disk = StopImage-same s.seen.state.disk; words = left.each })) left.here

-- WHAT DEVICES SENT

-- what the device of a slave's part has sent
abbrev sent_by : Option (PartLog WireLog) → List Exchanged
sent_by (Some part) = exchanges part.reported.sent
sent_by None = []

-- what a slave was sent by three devices, one after the other: as the journal was opened, at the desk, and after it
abbrev sent_to : (slave : ℕ) → LineLog WireLog → List Exchanged
sent_to slave reported = exchanges reported.desk.line.reported.sent ++ sent_by (slice_get reported.desk.slaves.items slave) ++ exchanges reported.after.sent

get-map : {X Y : Type 0} (f : X → Y) (xs : List X) (k : ℕ) (x : X) → slice_get xs k ≡ Some x → slice_get (map f xs) k ≡ Some (f x)
get-map f [] k x here = absurd cc
get-map f (y ∷ ys) zero x here = let same : y ≡ x = cc in ap (λ z. Some (f z)) same
get-map f (y ∷ ys) (suc k) x here = get-map f ys k x here

get-mapped : {X Y : Type 0} (f : X → Y) (xs : List X) (k : ℕ) (y : Y) → slice_get (map f xs) k ≡ Some y → (x : X) × (slice_get xs k ≡ Some x) × (f x ≡ y)
get-mapped f [] k y here = absurd cc
get-mapped f (x ∷ xs) zero y here = (x, refl, cc)
get-mapped f (x ∷ xs) (suc k) y here = get-mapped f xs k y here

-- THREE DEVICES

-- a slave goes on behind its half, where this is sent
abbrev pub GoesOn : (slave : ℕ) → (first half : SlaveHalf) → List Exchanged → Type 0
GoesOn slave first half log = (real later : SlaveHalf) → first.station ≡ station slave → IsAfter first real → Lives log real later → IsAfter half later

-- one after the other
goes_then : (slave : ℕ) (a b c : SlaveHalf) (first second : List Exchanged) → GoesOn slave a b first → GoesOn slave b c second → GoesOn slave a c (first ++ second)
goes_then slave a b c first second one two real later at after lives =
    let parts = lives_parts first second real later lives in
    let mid = one real parts.mid at after parts.before in
    two parts.mid later (sym mid.amended.station ∙ lives_station first real parts.mid parts.before ∙ after.amended.station ∙ at) mid parts.afterwards

-- three devices one after the other
goes_thrice : (slave : ℕ) (a b c d : SlaveHalf) (first second third : List Exchanged) → GoesOn slave a b first → GoesOn slave b c second → GoesOn slave c d third
    → GoesOn slave a d (first ++ second ++ third)
goes_thrice slave a b c d first second third one two three =
    goes_then slave a c d (first ++ second) third (goes_then slave a b c first second one two) three

-- devices that have a device on a wire inside
module _ {L F C D : Type 0} (within : D → WireDevice L F C) where
  abbrev pub follows : D → Seen → Type 0
  follows device seen = WireFollows (within device) seen

  abbrev pub well : D → Type 0
  well device = (within device).is_over ≡ false

  abbrev pub tells : D → WireLog → Type 0
  tells device reported = TellsWire (within device) reported

  -- one device, from the first call of its site on
  one_device : (slave : ℕ) (first half : SlaveHalf) (reported : WireLog) → HasLed follows well tells slave first half reported
      → GoesOn slave first half (exchanges reported.sent)
  one_device slave first half reported led =
      let kept : WireFollows (within led.followed.0) led.now = led.followed.1.0.0 in
      let slaves = slaves_are_behind L F C (within led.followed.0) led.now kept in
      let log : exchanges reported.sent ≡ slaves.log = ap exchanges led.followed.1.1.sent ∙ slaves.has in
      λ real later station_is after lives.
      slaves.follow led.followed.1.0.1 led.followed.1.0.2 slave first half real later
      (ap (λ state. slice_get state.halves slave) (first_stays led.before led.now led.new led.goes) ∙ led.at_first) led.at_now station_is after
      (subst (λ (l : List Exchanged). Lives l real later) log lives)

  -- a device that was sound has sent to the slaves of its part alone
  sent_as_part : (reported : WireLog) (seen : Seen) → IsFollowed (KeepsReported follows well tells reported) seen
      → AreFor reported.journal.part (exchanges reported.sent)
  sent_as_part reported seen followed =
      let device = within followed.0 in
      let kept : WireFollows device seen = followed.1.0.0 in
      subst (λ (p : Option LinePart). AreFor p (exchanges reported.sent)) (sym followed.1.1.journal.part)
      (subst (λ (sent : List Exchange). AreFor device.journal.asking.part (exchanges sent)) (sym followed.1.1.sent) (kept.own followed.1.0.1))

  module _ (turns : Bool) (site : SiteValue) (slaves : ℕ) (s : Station) (reported : LineLog WireLog) (new : site.seen.past ≡ [])
      (followed : EndsReported follows well tells turns site slaves reported s.seen) where
    abbrev opened : Station
    opened = followed.opened

    abbrev served : IsServedReported follows well tells turns opened reported.desk followed.desk.left
    served = followed.desk.served

    three_devices : (slave : ℕ) (first half : SlaveHalf) → LedSlave follows well tells slave first half reported → GoesOn slave first half (sent_to slave reported)
    three_devices slave first half led =
        subst (λ (part : Option (PartLog WireLog)). GoesOn slave first half (exchanges reported.desk.line.reported.sent ++ sent_by part ++ exchanges reported.after.sent)) (sym led.here)
        (goes_thrice slave first led.mid led.back half (exchanges reported.desk.line.reported.sent) (exchanges led.part.reported.sent) (exchanges reported.after.sent)
        (one_device slave first led.mid reported.desk.line.reported led.opening) (one_device slave led.mid led.back led.part.reported led.desk)
        (one_device slave led.back half reported.after led.after))

    -- no device of another part has sent to a slave
    module _ (own : AreOfParts (λ (part : LinePart) (one : WireLog). one.journal.part ≡ Some part) reported.desk) (slave : ℕ) where
      disk_misses : Misses (station slave) (exchanges reported.desk.disk.reported.sent)
      disk_misses =
          let sent = subst (λ (p : Option LinePart). AreFor p (exchanges reported.desk.disk.reported.sent)) own.disk
          (sent_as_part reported.desk.disk.reported served.served.ends.flusher.site.seen
          (keeps_reported follows well tells reported.desk.disk served.served.ends.flusher.site.seen served.sound.disk served.devices.disk)) in
          λ k d inside. absurd (sent k d inside).works

      slave_misses : (other : ℕ) (part : PartLog WireLog) → other ≢ slave → slice_get reported.desk.slaves.items other ≡ Some part
          → Misses (station slave) (exchanges part.reported.sent)
      slave_misses other part separate here =
          let device = reported_of follows well tells reported.desk.slaves.items served.served.ends.workers.items other part served.devices.slaves served.sound.slaves here in
          let sent = subst (λ (p : Option LinePart). AreFor p (exchanges part.reported.sent)) (own.slaves other part here) (sent_as_part part.reported device.0 device.1) in
          λ k d inside.
          let call = sent k d inside in
          λ to. separate (let same : station call.slave ≡ station slave = sym call.to ∙ to in omega (arith, call.works, same))

      others_miss : OthersMiss (station slave) (sent_at_desk reported.desk) (suc slave)
      others_miss zero calls separate here = let same : exchanges reported.desk.disk.reported.sent ≡ calls = cc in subst (Misses (station slave)) same disk_misses
      others_miss (suc other) calls separate here =
          let found = get-mapped (λ (part : PartLog WireLog). exchanges part.reported.sent) reported.desk.slaves.items other calls here in
          subst (Misses (station slave)) found.2 (slave_misses other found.0 (λ same. separate (ap suc same)) found.1)

      -- a slave that has lived through all that was sent has lived through what its own device sent at the desk
      own_lives : (desk : List Exchanged) (real later : SlaveHalf) → Interleaves (sent_at_desk reported.desk) desk → real.station ≡ station slave
          → (part : PartLog WireLog) → slice_get reported.desk.slaves.items slave ≡ Some part → Lives (all_sent reported desk) real later
          → Lives (sent_to slave reported) real later
      own_lives desk real later among near part here lives =
          let line = exchanges reported.desk.line.reported.sent in
          let after = exchanges reported.after.sent in
          let both = lives_parts (line ++ desk) after real later lives in
          let first = lives_parts line desk real both.mid both.before in
          let at_mid = lives_station line real first.mid first.before ∙ near in
          let own_list : slice_get (sent_at_desk reported.desk) (suc slave) ≡ Some (exchanges part.reported.sent) =
          get-map (λ (one : PartLog WireLog). exchanges one.reported.sent) reported.desk.slaves.items slave part here in
          subst (λ (one : Option (PartLog WireLog)). Lives (line ++ sent_by one ++ after) real later) (sym here)
          (lives_joined (line ++ exchanges part.reported.sent) after real both.mid later
          (lives_joined line (exchanges part.reported.sent) real first.mid both.mid first.before
          (own_part (station slave) (sent_at_desk reported.desk) desk among (suc slave) (exchanges part.reported.sent) own_list others_miss first.mid both.mid at_mid first.afterwards))
          both.afterwards)

    -- each slave that was found with these words holds the contents
    pub slaves_hold : AreOfParts (λ (part : LinePart) (one : WireLog). one.journal.part ≡ Some part) reported.desk → (plant : List (List ℕ)) (bytes : List ℕ) → site.seen ≡ switched_on plant bytes → site.line.sizes ≡ map length plant → slaves ≡ length plant
        → HasRecovered s → SlavesHold plant s reported
    slaves_hold own plant bytes found sizes count recovered slave words here =
        let there : slave < length plant = slice_get_within plant slave words here in
        let inside : slave < length opened.seen.state.halves =
        (let many : length plant ≡ length opened.seen.state.halves =
        sym (length-map plant length) ∙ ap length (sym sizes) ∙ ap (λ (l : Line). length l.sizes) (sym followed.line) ∙ served.count in omega (arith, there, many)) in
        let last : slave < length s.seen.state.halves = (let many = followed.desk.ends.count in omega (arith, there, many, count)) in
        let half = get_or s.seen.state.halves slave (powered_up [] 0) in
        let at_last = slice_get-get_or s.seen.state.halves slave (powered_up [] 0) last in
        let at_first : slice_get site.seen.state.halves slave ≡ Some (powered_up words (station slave)) =
        ap (λ (seen : Seen). slice_get seen.state.halves slave) found ∙ powered_at 0x1001 plant slave words here in
        let led = led_slave follows well tells turns site slaves s.seen reported new followed slave (powered_up words (station slave)) half at_first at_last inside in
        λ desk real later among up lives.
        holds_contents s slave half later recovered at_last
        (three_devices slave (powered_up words (station slave)) half led real later refl (brought_up_is_after words (station slave) real up)
        (own_lives own slave desk real later among up.station_is led.part led.here lives))
