-- Which fault comes where a slave has other words than its image file, and where it doesn't come.
use Rattle.std.proofs.Common.{◌≡◌, ℕ, zero, suc, ◌+◌, ◌^◌, ◌<◌, ◌≤◌, List, [], ◌∷◌, ◌++◌, Option, Some, None, String, Global, length, map, take, drop, get_or, replicate, string_bytes, unwrap_or}
use Rattle.std.proofs.Common.{refl, ap, sym, subst, inl, inr, ◌∙◌, arith}
use Rattle.std.specs.Prelude.{Result, Ok, Err, IfErr, IsErrAnd}
use Rattle.std.specs.List.{AllZip}
use Rattle.std.proofs.lemmas.List.{get_or-replicate, length-replicate}
use Rattle.std.proofs.lemmas.Option.{slice_get-get_or}
use Rattle.sii_words.specs.declared.run.Run.{Run}
use Rattle.sii_words.specs.Plant.{words_of}
use Rattle.sii_words.specs.Redo.{redone_words}
use Rattle.jrn_format.specs.declared.journal.Journal.{Journal}
use Rattle.jrn_format.specs.Journal.{IsJournal}
use Rattle.book_model.specs.Entries.{live_runs}
use Rattle.station_text.specs.declared.line_file.LineFile.{LineFile}
use Rattle.station_files.specs.Faults as stations
use Rattle.station_files.specs.Faults.{IsOfLock}
use Rattle.station_files.specs.Files.{Known, HasBytes, RefusesFile}
use Rattle.station_files.specs.LineFiles.{RefusesWords, SpellsLine, names_of}
use Rattle.station_files.specs.Locations.{Leads}
use Rattle.station_files.specs.declared.faults.Fault.TheVariants.{Memory}
use Rattle.station_files.specs.declared.store.LockFault.{LockFault}
use Rattle.station_files.specs.declared.store.LockFault.TheVariants as locks
use Rattle.slave_match.specs.declared.comparing.Difference.{Difference}
use Rattle.slave_match.specs.declared.reason.Reason.{Reason}
use Rattle.station_files.specs.declared.faults.Fault.{Fault}
use Rattle.wire_frames.specs.declared.faults.LineFault.{LineFault}
use Rattle.wire_faults.specs.Faults.{IsOfStream}
use Rattle.wire_faults.specs.declared.faults.WireFault.{WireFault}
use Rattle.wire_faults.specs.declared.faults.WireFault.TheVariants.{Line, OtherWords, Station}
use Rattle.wire_scan.specs.declared.asked.Mend.{Mend}
use Rattle.wire_scan.specs.declared.asked.Mend.TheVariants as mend
use Rattle.wire_scan.specs.Keeping.{IsImageOf, IsRefusal, image_of, refusal_at, refusal_of, said_of}
use Rattle.wire_scan.specs.Opening.{IfOtherWords, IsOfSlaves, IsOfWire, IsOtherFault, RefusesBytes, RefusesFirst, RefusesFound, RefusesImages, RefusesLock, RefusesRead, RefusesSlaveOf}
use Rattle.wire_scan.specs.Opening.RefusesFound.{by_line_file, by_lock, by_image_file, by_wire, by_reading}

pub of_stream : (fault : WireFault) → IsOfStream fault → IsOtherFault fault
of_stream fault stream = λ slave difference reason is. subst IsOfStream is stream

pub of_station : (cause : Fault) (fault : WireFault) → fault ≡ Station cause → IsOtherFault fault
of_station cause fault gave = λ slave difference reason is. absurd cc

pub of_line : (cause : LineFault) (fault : WireFault) → fault ≡ Line cause → IsOtherFault fault
of_line cause fault gave = λ slave difference reason is. absurd cc

-- what holds where a slave is refused for its words holds of no other fault
pub of_other : (Refuses : ℕ → Difference → Reason → Type 0) (fault : WireFault) → IsOtherFault fault → IfOtherWords Refuses fault
of_other Refuses fault other = λ slave difference reason is. absurd (other slave difference reason is)

-- a fault that is handed on
pub handed_on : {A : Type 0} (P Q : WireFault → Type 0) (result : Result A WireFault) → ((fault : WireFault) → Q fault → P fault) → IfErr result Q → IfErr result P
handed_on P Q (Ok value) holds gave = tt
handed_on P Q (Err fault) holds gave = holds fault gave

-- ---- what it says of the files

-- an error that a call hands on
pub handed_by : {A : Type 0} (P Q : WireFault → Type 0) (result : Result A WireFault) → ((fault : WireFault) → Q fault → P fault) → IsErrAnd result Q → IfErr result P
handed_by P Q (Ok value) follows gave = tt
handed_by P Q (Err fault) follows gave = follows fault gave

-- the fault for the slaves is one for what was read
pub of_slaves : (files : Known) (line : LineFile) (mends : List Mend) (images : List (Option (List ℕ))) (fault : WireFault) → IsOfSlaves (length line.images.items) fault → RefusesRead files line mends images fault
of_slaves files line mends images (Station cause) refused = absurd refused
of_slaves files line mends images (OtherWords slave difference reason) refused = absurd refused
of_slaves files line mends images fault refused = refused

-- so is that of the journal's file, and that of its bytes
pub of_file : (files read : Known) (line : LineFile) (mends : List Mend) (images : List (Option (List ℕ))) (name : List ℕ) (cause : Fault) (fault : WireFault) → read ≡ files → name ≡ string_bytes line.journal
    → RefusesFile (8 + 2 ^ 22) read name cause → fault ≡ Station cause → RefusesRead files line mends images fault
of_file files read line mends images name cause fault same named refused is =
    let P : Known → Type 0 = λ known. RefusesFile (8 + 2 ^ 22) known name cause in
    let Q : List ℕ → Type 0 = λ n. RefusesFile (8 + 2 ^ 22) files n cause in
    subst (RefusesRead files line mends images) (sym is) (inl (subst Q named (subst P same refused)))

pub of_bytes : (files : Known) (line : LineFile) (mends : List Mend) (images : List (Option (List ℕ))) (plant : List (List ℕ)) (bytes : List ℕ) (cause : Fault) (fault : WireFault)
    → length plant ≡ length line.images.items → length plant ≤ 64 → HasBytes files (string_bytes line.journal) bytes → RefusesBytes bytes (map length plant) cause → fault ≡ Station cause
    → RefusesRead files line mends images fault
of_bytes files line mends images plant bytes cause fault count most held refused is =
    subst (RefusesRead files line mends images) (sym is) (inr (record { plant = plant; bytes = bytes; count = count; most = most; held = held; refused = refused }))

-- and that of a slave
pub of_refusal : (files : Known) (line : LineFile) (mends : List Mend) (images : List (Option (List ℕ))) (plant : List (List ℕ)) (bytes : List ℕ) (journal : Journal) (fault : WireFault)
    → length plant ≡ length line.images.items → length plant ≤ 64 → HasBytes files (string_bytes line.journal) bytes → IsJournal bytes (map length plant) journal
    → IsRefusal mends journal.batches plant images fault → RefusesRead files line mends images fault
of_refusal files line mends images plant bytes journal (OtherWords slave difference reason) count most held read refusal = record {
  plant = plant;
  bytes = bytes;
  journal = journal;
  count = count;
  most = most;
  held = held;
  read = read;
  refused = refusal;
}
of_refusal files line mends images plant bytes journal fault count most held read refusal = subst (RefusesRead files line mends images) (sym refusal) (inl tt)

-- the fault of a lock
pub of_lock : (files : Known) (name : List ℕ) (why : LockFault) (fault : Fault) → IsOfLock why fault → RefusesLock files name fault
of_lock files name locks.Busy fault is = subst (RefusesLock files name) (sym is) tt
of_lock files name (locks.Io error) fault (inl is) = subst (RefusesLock files name) (sym is) tt
of_lock files name (locks.Io error) fault (inr is) = subst (RefusesLock files name) (sym is) tt

pub of_look : (files : Known) (name : List ℕ) (fault : Fault) → stations.IsOfStream fault → RefusesLock files name fault
of_look files name fault (inl is) = subst (RefusesLock files name) (sym is) tt
of_look files name fault (inr is) = subst (RefusesLock files name) (sym is) tt

-- an image file of which the system can't tell what it is
pub of_absence : (files : Known) (name : List ℕ) (fault : Fault) → stations.IsOfStream fault → RefusesWords files name fault
of_absence files name fault (inl is) = subst (RefusesWords files name) (sym is) tt
of_absence files name fault (inr is) = subst (RefusesWords files name) (sym is) tt

-- the names before an item, its own name, and those after it
split_at : (names : List (String Global)) (i : ℕ) (d : String Global) → i < length names
    → map (λ n. string_bytes n) names ≡ map (λ n. string_bytes n) (take i names) ++ string_bytes (get_or names i d) ∷ map (λ n. string_bytes n) (drop (suc i) names)
split_at [] i d inside = absurd (omega (arith, inside))
split_at (name ∷ names) zero d inside = refl
split_at (name ∷ names) (suc i) d inside = ap (λ (others : List (List ℕ)). string_bytes name ∷ others) (split_at names i d (omega (arith, inside)))

first : (files : Known) (names : List (List ℕ)) (fault : Fault) → RefusesFirst files names fault → RefusesImages files names fault
first files names Memory refused = tt
first files names fault refused = refused

-- the first image file that is refused
pub first_refused : (old new : Known) (names : List (String Global)) (i : ℕ) (d : String Global) (name : List ℕ) (images : List (Option (List ℕ))) (fault : Fault) → i < length names → name ≡ string_bytes (get_or names i d)
    → new ≡ old → AllZip (IsImageOf old) (map (λ n. string_bytes n) (take i names)) images → RefusesWords new name fault → RefusesImages old (map (λ n. string_bytes n) names) fault
first_refused old new names i d name images fault inside named same good refused =
    let P : Known → Type 0 = λ files. RefusesWords files name fault in
    let Q : List ℕ → Type 0 = λ n. RefusesWords old n fault in
    first old (map (λ n. string_bytes n) names) fault (record {
      before = map (λ n. string_bytes n) (take i names);
      name = string_bytes (get_or names i d);
      after = map (λ n. string_bytes n) (drop (suc i) names);
      in_order = split_at names i d inside;
      images = images;
      good = good;
      bad = subst Q named (subst P same refused);
    })

-- a line of which a slave is refused for its words
pub of_words : (files : Known) (leads : Leads) (name : List ℕ) (mends : List Mend) (fault : WireFault) → RefusesFound files leads name mends fault → IfOtherWords (RefusesSlaveOf files name mends) fault
of_words files leads name mends fault (by_line_file cause gave refused) = of_other (RefusesSlaveOf files name mends) fault (of_station cause fault gave)
of_words files leads name mends fault (by_lock line described cause gave refused) = of_other (RefusesSlaveOf files name mends) fault (of_station cause fault gave)
of_words files leads name mends fault (by_image_file line described cause gave refused) = of_other (RefusesSlaveOf files name mends) fault (of_station cause fault gave)
of_words files leads name mends fault (by_wire line described refused) = λ slave difference reason is. absurd (subst IsOfWire is refused)
of_words files leads name mends fault (by_reading line images described loaded refused) = λ slave difference reason is. record {
  line = line;
  images = images;
  described = described;
  loaded = loaded;
  read = subst (RefusesRead files line mends images) is refused;
}

-- a line that isn't taken once it was brought up
pub of_found : (old mid new : Known) (leads : Leads) (name : List ℕ) (mends : List Mend) (line : LineFile) (images : List (Option (List ℕ))) (fault : WireFault) → mid ≡ old → new ≡ old → SpellsLine old name line
    → AllZip (IsImageOf mid) (names_of line) images → RefusesRead new line mends images fault → RefusesFound old leads name mends fault
of_found old mid new leads name mends line images fault same still described loaded refused =
    by_reading line images described (subst (λ (files : Known). AllZip (IsImageOf files) (names_of line) images) same loaded)
    (subst (λ (files : Known). RefusesRead files line mends images fault) still refused)

-- ---- where each slave may differ

let_differ : (words : List ℕ) (image : Option (List ℕ)) (found kept : List ℕ) → refusal_of mend.Slave words image found kept ≡ None
let_differ words None found kept = refl
let_differ words (Some image) found kept = refl

passes : (runs : List Run) (plant : List (List ℕ)) (images : List (Option (List ℕ))) (slave : ℕ) → slave < 64 → refusal_at runs (said_of (replicate 64 mend.Slave) slave) plant images slave ≡ None
passes runs plant images slave inside =
    let within : slave < length (replicate 64 mend.Slave) = omega (arith, inside, length-replicate 64 mend.Slave) in
    let said : said_of (replicate 64 mend.Slave) slave ≡ mend.Slave =
    ap (λ (s : Option Mend). unwrap_or s mend.Unsaid) (slice_get-get_or (replicate 64 mend.Slave) slave mend.Slave within ∙ ap (λ (s : Mend). Some s) (get_or-replicate 64 slave mend.Slave mend.Slave inside)) in
    subst (λ (s : Mend). refusal_at runs s plant images slave ≡ None) (sym said)
    (let_differ (words_of plant slave) (image_of images slave) (redone_words runs slave 0 (words_of plant slave)) (redone_words runs slave 0 (unwrap_or (image_of images slave) [])))

pub never_refused : (files : Known) (name : List ℕ) (mends : List Mend) (fault : WireFault) → mends ≡ replicate 64 mend.Slave → IfOtherWords (RefusesSlaveOf files name mends) fault → IsOtherFault fault
never_refused files name mends fault pass refused = λ slave difference reason is.
    let one = refused slave difference reason is in
    let differs = one.read.refused.differs in
    let none = passes (live_runs one.read.journal.batches) one.read.plant one.images slave (omega (arith, one.read.refused.inside, one.read.most)) in
    let at : refusal_at (live_runs one.read.journal.batches) (said_of (replicate 64 mend.Slave) slave) one.read.plant one.images slave ≡ Some difference =
    subst (λ (said : List Mend). refusal_at (live_runs one.read.journal.batches) (said_of said slave) one.read.plant one.images slave ≡ Some difference) pass differs in
    let clash : None ≡ Some difference = sym none ∙ at in absurd cc
