-- What is live in each image that a power cut may leave.
use Rattle.std.proofs.Common.{◌≡◌, ◌≢◌, ◌⊎◌, inl, inr, ℕ, ◌+◌, ◌*◌, ◌≤◌, List, [], ◌∷◌, ◌++◌, length, refl, sym, ◌∙◌, subst, arith, append_assoc}
use Rattle.std.specs.List.{AllByRecursion}
use Rattle.std.proofs.lemmas.Bool.{cases_eq}
use Rattle.jrn_format.specs.declared.journal.Entry.{Entry}
use Rattle.jrn_format.specs.declared.journal.Form.TheVariants.{Two}
use Rattle.jrn_format.specs.declared.journal.Spelling.TheVariants.{WithGeneration}
use Rattle.jrn_format.specs.Batch.{CanStand, IsWithin}
use Rattle.jrn_format.specs.Area.{spelt_batches, IsLive}
use Rattle.jrn_format.specs.Journal.{IsJournal}
use Rattle.jrn_format.specs.Halves.{Halves, live, Place, InOlder, InNewer, half_of, batches_in, batch_in, with_batch, retired, HalvesStand, StandsBeside}
use Rattle.jrn_format.specs.File.{StandComplete}
use Rattle.jrn_format.proofs.HalvesLaws.{stand-with}
use Rattle.jrn_format.proofs.FileLaws.{as_halves}
use Rattle.jrn_format.proofs.CompleteLaws.{entire-journal}
use Rattle.site_core.specs.Disk.{Disk, StopImage, WriteFailed, synced}
use Rattle.book_model.specs.Frame.{JournalFrame, head, room, IsJournalFrame, IsFramed, gate_at, IsOne}
use Rattle.book_model.specs.Phases.{AtRest, HasPayload, HasBatch, HasGate, HasClosing}
use Rattle.book_model.proofs.StopLaws.{stop_none, stop-agrees}
use Rattle.book_model.proofs.AppendLaws.{payload-failed, gate-failed, gate-synced, close-failed, close-synced}

-- the disk with this image on it
abbrev pub with_image : Disk → List ℕ → Disk
with_image disk image = record disk { bytes = image }

-- an image is what a write that fails may leave
stop-failed : (disk : Disk) (start count : ℕ) (image : List ℕ) → IsOne disk start count → length disk.bytes ≤ disk.synced_length → StopImage disk image → WriteFailed disk start count (with_image disk image)
stop-failed disk start count image one entire stop =
    let agrees = stop-agrees disk start count image one entire stop in
    record { bytes = agrees.outside; no_shorter = agrees.no_shorter; unsynced = refl; synced_length = refl }

-- a closed gate after the batches of a half: they are live, whatever follows it
pub closed-rests : (frame : JournalFrame) (halves : Halves) (place : Place) (gate : ℕ) (after beside : List ℕ) (disk : Disk) → gate ≢ 0xA5
    → AllByRecursion (CanStand WithGeneration (half_of halves place)) (batches_in halves place)
    → IsFramed frame (half_of halves place) (spelt_batches WithGeneration (batches_in halves place) ++ (gate ∷ after)) beside disk.bytes → StandsBeside halves place beside
    → AtRest frame halves (synced disk)
closed-rests frame halves InOlder gate after beside disk closed can framed stands =
    let area = spelt_batches WithGeneration halves.older ++ (gate ∷ after) in
    let lives : IsLive WithGeneration halves.at area halves.older = record { rest = gate ∷ after; starts = record { can_stand = can; spelt = refl }; ends = (gate, after, closed, refl) } in
    record { older = area; newer = beside; framed = framed; stands = stand-with halves InOlder area beside stands lives; synced = refl; entire = omega arith }
closed-rests frame halves InNewer gate after beside disk closed can framed stands =
    let area = spelt_batches WithGeneration halves.newer ++ (gate ∷ after) in
    let lives : IsLive WithGeneration (half_of halves InNewer) area halves.newer = record { rest = gate ∷ after; starts = record { can_stand = can; spelt = refl }; ends = (gate, after, closed, refl) } in
    record {
      older = beside;
      newer = area;
      framed = record { file = as_halves halves InNewer (head frame) area beside frame.last disk.bytes stands.at framed.file; room = sym framed.file.equal ∙ framed.room };
      stands = stand-with halves InNewer area beside stands lives;
      synced = refl;
      entire = omega arith;
    }

-- ---- the images

pub rest-image : (frame : JournalFrame) (halves : Halves) (disk : Disk) (image : List ℕ) → AtRest frame halves disk → StopImage disk image → AtRest frame halves (synced (with_image disk image))
rest-image frame halves disk image r stop = record {
  older = r.older;
  newer = r.newer;
  framed = subst (λ (bytes : List ℕ). IsFramed frame halves.at r.older r.newer bytes) (sym (stop_none disk image r.synced stop)) r.framed;
  stands = r.stands;
  synced = refl;
  entire = omega arith;
}

pub payload-rests : (frame : JournalFrame) (halves : Halves) (place : Place) (payload : List ℕ) (disk : Disk) → HasPayload frame halves place payload disk → AtRest frame halves (synced disk)
payload-rests frame halves place payload disk p =
    let spelt = spelt_batches WithGeneration (batches_in halves place) in
    closed-rests frame halves place p.gate (payload ++ p.rest) p.beside disk p.closed p.can
    (subst (λ (a : List ℕ). IsFramed frame (half_of halves place) a p.beside disk.bytes) (append_assoc spelt (p.gate ∷ []) (payload ++ p.rest)) p.framed) p.stands

pub payload-image : (frame : JournalFrame) (halves : Halves) (place : Place) (payload : List ℕ) (disk : Disk) (image : List ℕ) → HasPayload frame halves place payload disk → StopImage disk image
    → AtRest frame halves (synced (with_image disk image))
payload-image frame halves place payload disk image p stop =
    let failed = stop-failed disk (gate_at frame halves place + 1) (length payload) image p.one p.entire stop in
    let torn = payload-failed frame halves place payload disk (with_image disk image) p failed in
    payload-rests frame halves place torn.0 (with_image disk image) torn.2

pub batch-image : (frame : JournalFrame) (halves : Halves) (place : Place) (entries : List Entry) (disk : Disk) (image : List ℕ) → HasBatch frame halves place entries disk → StopImage disk image
    → AtRest frame halves (synced (with_image disk image))
batch-image frame halves place entries disk image n stop =
    closed-rests frame halves place n.gate n.rest n.beside (with_image disk image) n.closed n.next.can_stand
    (subst (λ (bytes : List ℕ). IsFramed frame (half_of halves place) (spelt_batches WithGeneration (batches_in halves place) ++ (n.gate ∷ n.rest)) n.beside bytes) (sym (stop_none disk image n.synced stop)) n.framed) n.stands

pub gate-image : (frame : JournalFrame) (halves : Halves) (place : Place) (entries : List Entry) (gate : ℕ) (disk : Disk) (image : List ℕ) → HasGate frame halves place entries gate disk → StopImage disk image
    → AtRest frame halves (synced (with_image disk image)) ⊎ AtRest frame (with_batch halves place (batch_in halves place entries)) (synced (with_image disk image))
gate-image frame halves place entries gate disk image g stop =
    let new = with_image disk image in
    let failed = stop-failed disk (gate_at frame halves place) 1 image g.one g.entire stop in
    let torn = gate-failed frame halves place entries gate disk new g failed in
    elim (cases_eq torn.0 0xA5) [
      | inl opened ↦ inr (gate-synced frame halves place entries new (subst (λ (n : ℕ). HasGate frame halves place entries n new) opened torn.1))
      | inr closed ↦ inl (closed-rests frame halves place torn.0 torn.1.rest torn.1.beside new closed torn.1.next.can_stand torn.1.framed torn.1.stands)
    ]

pub closing-image : (frame : JournalFrame) (halves : Halves) (gate : ℕ) (disk : Disk) (image : List ℕ) → HasClosing frame halves gate disk → StopImage disk image
    → AtRest frame halves (synced (with_image disk image)) ⊎ AtRest frame (retired halves) (synced (with_image disk image))
closing-image frame halves gate disk image c stop =
    let new = with_image disk image in
    let failed = stop-failed disk (8 + halves.at * room frame) 1 image c.one c.entire stop in
    let torn = close-failed frame halves gate disk new c failed in
    elim (cases_eq torn.0 0xA5) [
      | inl opened ↦ inl (record {
        older = torn.0 ∷ torn.1.rest;
        newer = torn.1.newer;
        framed = torn.1.framed;
        synced = refl;
        entire = omega arith;
        stands = subst (λ (n : ℕ). HalvesStand halves (n ∷ torn.1.rest) torn.1.newer) (sym opened) torn.1.stands;
      })
      | inr closed ↦ inr (close-synced frame halves torn.0 new torn.1 closed)
    ]

-- ---- a journal at rest

pub rest-journal : (frame : JournalFrame) (halves : Halves) (disk : Disk) (sizes : List ℕ) → IsJournalFrame frame → length sizes ≡ frame.slaves → AtRest frame halves disk → AllByRecursion (IsWithin sizes) (live halves)
    → IsJournal disk.bytes sizes (record { form = Two; batches = live halves })
rest-journal frame halves disk sizes is_frame count r within =
    let equal : length r.older ≡ length r.newer = r.framed.file.equal in
    let entire : StandComplete frame.slaves frame.capacity halves disk.bytes = record {
      slaves_fit = is_frame.slaves_fit;
      is_capacity = is_frame.is_capacity;
      inside = record { older = r.older; newer = r.newer; last = frame.last; file = r.framed.file; stands = r.stands };
      half = r.framed.room;
      entire = omega (arith, is_frame.entire, r.framed.room, equal);
    } in
    entire-journal disk.bytes sizes frame.capacity halves (subst (λ (n : ℕ). StandComplete n frame.capacity halves disk.bytes) (sym count) entire) within
