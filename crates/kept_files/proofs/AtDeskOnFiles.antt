-- The laws of a desk whose parts stand on files.
use Rattle.std.proofs.Common.{◌≡◌, ◌∙◌, ℕ, zero, suc, ◌<◌, Bool, List, [], ◌∷◌, length, map, Some, slice_get, is_some, IsTrue}
use Rattle.std.proofs.Common.{refl, sym, ap, subst}
use Rattle.std.proofs.Common.{arith}
use Rattle.std.proofs.lemmas.List.{length-map}
use Rattle.std.proofs.lemmas.Option.{slice_get_within, slice_get-map}
use Rattle.std.specs.Option.{option_map}
use Rattle.sii_words.specs.Words.{bytes_of}
use Rattle.jrn_format.specs.declared.journal.Journal.{Journal}
use Rattle.esc_model.specs.SlaveHalf.{SlaveHalf}
use Rattle.site_core.specs.Disk.{Disk}
use Rattle.site_core.specs.State.{State, Seen, Pair}
use Rattle.site_core.specs.Times.{Follows}
use Rattle.site_core.proofs.Times.{Follows-same, Follows-then}
use Rattle.site_file.specs.declared.asking.LineFile.{LineFile}
use Rattle.site_file.specs.declared.asking.LineFile.TheVariants.{Journal as JournalFile, Image}
use Rattle.site_file.specs.declared.files.FileDevice.{FileDevice}
use Rattle.site_file.specs.Following as files
use Rattle.site_file.specs.Files.{File, IsBytes}
use Rattle.site_file.specs.AllFiles.{Holds, Shows}
use Rattle.site_file.proofs.FollowingWords.{site_is_followed}
use Rattle.book_model.specs.Machine.{Machine}
use Rattle.book_model.specs.Opening.{book_on}
use Rattle.station_jobs.specs.declared.log.Assignment.{Assignment}
use Rattle.station_jobs.specs.declared.log.SlaveLog.{SlaveLog}
use Rattle.station_jobs.specs.Ends.{Stay}
use Rattle.station_jobs.specs.Jobs.{DoneInTurn, Led, MayEnd}
use Rattle.station_jobs.specs.Flushing.{DoesAction, IsFlushed}
use Rattle.station_jobs.specs.Working.{CallsSlave, IsWorked}
use Rattle.desk_book.specs.declared.call.Call.{Call}
use Rattle.desk_book.specs.Calls.{AreAnswered, replayed}
use Rattle.desk_book.specs.Logs.{DiskEntry, RomEntry}
use Rattle.desk_laws.specs.Joined.{IsOpenedOn}
use Rattle.desk_laws.specs.Together.{AreTogether, starts}
use Rattle.kept_files.specs.KeptFiles.{has_file}
use Rattle.kept_files.specs.Cuts.{AllCut, DiskCut, SlaveCut, IsKeptPair}
use Rattle.kept_files.specs.DeskFiles.{DeskOnFiles, DeskIsCut, PartHasItsFile, CutLeavesKeptParts}
use Rattle.kept_files.proofs.Extending.{first_stays}
use Rattle.kept_files.proofs.AtDesk.{cut_is_kept}
use Rattle.kept_files.proofs.InJobs.{journal_is_cut, image_is_cut, action_follows, call_follows}

-- THE FILE OF A PART

pub part_has_its_file : (F : Type 0) → PartHasItsFile F
part_has_its_file F owned start end device new goes follows = record {
  device = device;
  follow = λ begun holds. site_is_followed F device end follows owned begun
      (λ name is_owned. subst (λ (s : State). Holds s name (begun name)) (sym (first_stays start end new goes)) (holds name is_owned));
}

-- that is its device
pub device_of_part : (F : Type 0) (owned : LineFile → Bool) (start end : Seen) (device : FileDevice F) (new : start.past ≡ []) (goes : Follows start end)
    (follows : files.Follows device end) → (part_has_its_file F owned start end device new goes follows).device ≡ device
unfolding part_has_its_file
device_of_part F owned start end device new goes follows = refl

-- jobs lead on by calls
module _ {J O : Type 0} (Does : J → O → Seen → Seen → Type 0)
    (job_follows : (job : J) (outcome : O) (old new : Seen) → Does job outcome old new → Follows old new) where
  done_follows : (done : List (Assignment J O)) (old new : Seen) → DoneInTurn Does done old new → Follows old new
  done_follows [] old new same = subst (λ (s : Seen). Follows old s) (sym same) (Follows-same old)
  done_follows (entry ∷ done) old new in_turn =
      Follows-then old in_turn.0 new (job_follows entry.job in_turn.1.outcome old in_turn.0 in_turn.1.does) (done_follows done in_turn.0 new in_turn.2)

  end_follows : (last : List (Assignment J O)) (old new : Seen) → MayEnd Does last old new → Follows old new
  end_follows [] old new same = subst (λ (s : Seen). Follows old s) (sym same) (Follows-same old)
  end_follows (entry ∷ []) old new one = job_follows entry.job one.outcome old new one.does
  end_follows (entry ∷ other ∷ last) old new never = absurd never

  led_follows : (log : List (Assignment J O)) (old new : Seen) → Led Does log old new → Follows old new
  led_follows log old new led = Follows-then old led.mid new (done_follows led.done old led.mid led.in_turn) (end_follows led.last led.mid new led.ends)

pub flushed_follows : (log : List DiskEntry) (start end : Seen) → IsFlushed log start end → Follows start end
flushed_follows log start end flushed = led_follows DoesAction action_follows log start end flushed.led

pub worked_follows : (slave : ℕ) (log : List RomEntry) (start end : Seen) → IsWorked slave log start end → Follows start end
worked_follows slave log start end worked = led_follows (CallsSlave slave) (call_follows slave) log start end worked.led

-- LISTS

-- one of each, in a list
chosen-at : {A : Type 0} (P : ℕ → A → Type 0) (a : A) (xs : List A) → P 0 a → ((k : ℕ) (b : A) → slice_get xs k ≡ Some b → P (suc k) b)
    → (k : ℕ) (b : A) → slice_get (a ∷ xs) k ≡ Some b → P k b
chosen-at P a xs first rest zero b at = let same : a ≡ b = cc in subst (λ c. P zero c) same first
chosen-at P a xs first rest (suc k) b at = rest k b at

chosen : {A : Type 0} (P : ℕ → A → Type 0) (n : ℕ) → ((k : ℕ) → k < n → (a : A) × P k a)
    → (xs : List A) × (length xs ≡ n) × ((k : ℕ) (a : A) → slice_get xs k ≡ Some a → P k a)
chosen P zero each = ([], refl, λ k a at. absurd (omega (arith, slice_get_within [] k a at)))
chosen P (suc n) each =
    let one = each zero (omega arith) in
    let more = chosen (λ k. P (suc k)) n (λ k within. each (suc k) (omega (arith, within))) in
    (one.0 ∷ more.0, ap suc more.1, chosen-at P one.0 more.0 one.1 more.2)

-- what is at a place
there-is : {A : Type 0} (xs : List A) (k : ℕ) → k < length xs → (a : A) × (slice_get xs k ≡ Some a)
there-is [] k within = absurd (omega (arith, within))
there-is (a ∷ xs) zero within = (a, refl)
there-is (a ∷ xs) (suc k) within = there-is xs k (omega (arith, within))

is-within : {A : Type 0} (xs : List A) (k : ℕ) → IsTrue (is_some (slice_get xs k)) → k < length xs
is-within [] k is = absurd cc
is-within (a ∷ xs) zero is = omega arith
is-within (a ∷ xs) (suc k) is = let rest = is-within xs k is in omega (arith, rest)

mapped-at : {A B : Type 0} (f : A → B) (xs : List A) (k : ℕ) (a : A) → slice_get xs k ≡ Some a → slice_get (map f xs) k ≡ Some (f a)
mapped-at f xs k a at = slice_get-map f xs k ∙ ap (option_map f) at

-- A CUT AT A DESK

module _ (F S : Type 0) (seen : S → Seen) (flusher : Stay S (List DiskEntry)) (workers : List (Stay S SlaveLog)) (desk : DeskOnFiles F seen flusher workers)
    (old : State) (calls : List Call) (begun : LineFile → File) (images : LineFile → List ℕ) (together : AreTogether seen flusher.start (starts workers) old)
    (bytes : (name : LineFile) → IsBytes (images name)) (cut : DeskIsCut desk calls begun images) where
  disk-cut : DiskCut calls old.disk (images JournalFile)
  disk-cut =
      let part = cut.journal in
      subst (λ (d : Disk). DiskCut calls d (images JournalFile)) (sym together.disk)
      (journal_is_cut F calls (seen flusher.start) (seen flusher.site) desk.journal.device begun images part.at part.follows part.on bytes part.cut)

  -- the words that an image is left with
  abbrev LeftSo : ℕ → List ℕ → Type 0
  LeftSo slave words = (images (Image slave) ≡ bytes_of words) × ((half : SlaveHalf) → slice_get old.halves slave ≡ Some half → SlaveCut calls slave half words)

  same-half : (halves : List SlaveHalf) (slave : ℕ) (one other : SlaveHalf) → slice_get halves slave ≡ Some one → slice_get halves slave ≡ Some other → one ≡ other
  same-half halves slave one other here there = let e : Some one ≡ Some other = sym here ∙ there in cc

  slave-left : (slave : ℕ) → slave < length old.halves → (words : List ℕ) × LeftSo slave words
  slave-left slave within =
      let many = length-map workers (λ (end : Stay S SlaveLog). end.start) in
      let end = there-is workers slave (omega (arith, within, together.count, many)) in
      let half = there-is old.halves slave within in
      let part = cut.slaves slave end.0 end.1 in
      let start = mapped-at (λ (e : Stay S SlaveLog). e.start) workers slave end.0 end.1 in
      let here : slice_get (seen end.0.start).state.halves slave ≡ Some half.0 = sym (together.halves slave end.0.start start) ∙ half.1 in
      let left = image_is_cut F calls slave half.0 (seen end.0.start) (seen end.0.site) (desk.images slave end.0 end.1).device begun images part.at part.follows part.on here bytes part.cut in
      (left.0, (left.1, λ one at. subst (λ (h : SlaveHalf). SlaveCut calls slave h left.0) (same-half old.halves slave half.0 one half.1 at) left.2))

  all-words : (words : List (List ℕ)) × (length words ≡ length old.halves) × ((slave : ℕ) (one : List ℕ) → slice_get words slave ≡ Some one → LeftSo slave one)
  all-words = chosen LeftSo (length old.halves) slave-left

  abbrev pair : Pair
  pair = record { disk = images JournalFile; words = all-words.0 }

  all-cut : AllCut calls old pair
  all-cut = record { disk = disk-cut; count = all-words.1; slaves = λ slave half words here there. (all-words.2 slave words there).1 half here }

  shows : (name : LineFile) → IsTrue (has_file old name) → Shows pair name (images name)
  shows JournalFile there = refl
  shows (Image slave) there =
      let within = is-within old.halves slave there in
      let words = there-is all-words.0 slave (omega (arith, within, all-words.1)) in
      (words.0, words.1, (all-words.2 slave words.0 words.1).0)

  kept : (machine : Machine) (journal : Journal) → IsOpenedOn machine journal old calls → AreAnswered (book_on old journal) calls
      → (left : Pair) × IsKeptPair machine (replayed (book_on old journal) calls) left × ((name : LineFile) → IsTrue (has_file old name) → Shows left name (images name))
  kept machine journal opened answered = (pair, cut_is_kept machine journal old calls pair opened answered all-cut, shows)

pub cut_leaves_kept_parts : (F S : Type 0) → CutLeavesKeptParts F S
cut_leaves_kept_parts F S seen flusher workers desk machine journal old calls begun images opened answered together bytes cut =
    kept F S seen flusher workers desk old calls begun images together bytes cut machine journal opened answered
