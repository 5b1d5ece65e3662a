-- A whole journal: what is read is what the grammar gives, in both directions.
use Rattle.std.proofs.Common.{◌≡◌, ℕ, ◌+◌, ◌<◌, ◌≤◌, List, [], ◌++◌, length, Result, Ok, Err, refl, sym, ap, subst, ◌∙◌, arith, inl, inr}
use Rattle.std.specs.Prelude.{IfOk, IfErr, All}
use Rattle.std.specs.List.{AllByRecursion}
use Rattle.std.proofs.lemmas.Bool.{cases_lt}
use Rattle.std.proofs.lemmas.List.{take_at, get_or_past}
use Rattle.std.proofs.lemmas.List.Elements.{All-get_or}
use Rattle.jrn_format.specs.declared.journal.Batch.{Batch}
use Rattle.jrn_format.specs.declared.journal.Form.{Form}
use Rattle.jrn_format.specs.declared.journal.Form.TheVariants.{One, Two, Moving}
use Rattle.jrn_format.specs.declared.journal.Journal.{Journal}
use Rattle.jrn_format.specs.declared.journal.Spelling.TheVariants.{Plain}
use Rattle.jrn_format.specs.declared.fault.JournalFault.{JournalFault}
use Rattle.jrn_format.specs.Batch.{IsWithin}
use Rattle.jrn_format.specs.Header.{header_bytes, HasArea}
use Rattle.jrn_format.specs.Journal.{HasLive, IsJournal}
use Rattle.jrn_format.specs.Fault.{IsNoJournal, IsFaultOf}
use Rattle.jrn_format.specs.Fault.IsNoJournal.{no_area, plain_cut, halved_cut}
use Rattle.jrn_format.specs.steps.Reading.{◌>>>◌, Answers, area_of, live_in, journal_of}
use Rattle.jrn_format.proofs.Numbers.{IsBytes, IsBytes-take}
use Rattle.jrn_format.proofs.Areas.{ok_is, bind_ok, IsBytes-after, area_live, area_cut, live_area, cut_area}
use Rattle.jrn_format.proofs.AreaReading.{UnlessMemory-weaker}
use Rattle.jrn_format.proofs.HalvesGrammar.{halves_live, halves_cut, live_halves, cut_halves}
use Rattle.jrn_format.proofs.HeaderGrammar.{area_is, area_fault, area_again, fault_again}

abbrev made : Form → List Batch → Journal
made form batches = record { form = form; batches = batches }

-- the bytes of an area are bytes of the file
area_bytes : (file : List ℕ) (slaves : ℕ) (form : Form) (area : List ℕ) → HasArea file slaves form area → IsBytes file → IsBytes area
area_bytes file slaves form area h good =
    let after = IsBytes-after (header_bytes h.version slaves (length area)) (area ++ h.rest) (subst IsBytes h.header.spelt good) in
    subst IsBytes (take_at area h.rest (length area) refl) (IsBytes-take (length area) (area ++ h.rest) after)

area_some : (file : List ℕ) (slaves : ℕ) (form : Form) (area : List ℕ) → HasArea file slaves form area → (0 < length area) × (2 ≤ length area)
area_some file slaves form area h = let limits = h.capacity in (omega arith, omega arith)

live_is : (form : Form) (sizes area : List ℕ) (batches : List Batch) → IsBytes area → 0 < length area → 2 ≤ length area → live_in form sizes area ≡ Ok batches
    → HasLive form area batches × AllByRecursion (IsWithin sizes) batches
unfolding live_in
live_is One sizes area batches good some two e = area_live Plain 0 sizes (8 + length area) area batches good some e
live_is Two sizes area batches good some two e = halves_live sizes area batches good two e
live_is Moving sizes area batches good some two e =
    let none : [] ≡ batches = ok_is [] batches e in
    subst (λ (bs : List Batch). (bs ≡ []) × AllByRecursion (IsWithin sizes) bs) none (refl, tt)

pub journal_is : (file sizes : List ℕ) (journal : Journal) → IsBytes file → journal_of file sizes ≡ Ok journal → IsJournal file sizes journal
unfolding journal_of
journal_is file sizes journal good e =
    let found = bind_ok (area_of file (length sizes)) (λ x. live_in x.0 sizes x.1 >>> λ batches. Ok (record { form = x.0; batches = batches })) journal e in
    let live = bind_ok (live_in found.0.0 sizes found.0.1) (λ batches. Ok (record { form = found.0.0; batches = batches })) journal found.2 in
    let has = area_is file (length sizes) found.0 good found.1 in
    let some = area_some file (length sizes) found.0.0 found.0.1 has in
    let is = live_is found.0.0 sizes found.0.1 live.0 (area_bytes file (length sizes) found.0.0 found.0.1 has good) some.0 some.1 live.1 in
    let made : Journal = record { form = found.0.0; batches = live.0 } in
    subst (IsJournal file sizes) {x = made} (ok_is made journal live.2) (record { area = found.0.1; has_area = has; live = is.0; within = is.1 })

cut_is : (file sizes : List ℕ) (form : Form) (area : List ℕ) (fault : JournalFault) → IsBytes file → HasArea file (length sizes) form area → live_in form sizes area ≡ Err fault → IsNoJournal file sizes fault
unfolding live_in
cut_is file sizes One area fault good has e =
    plain_cut area has (area_cut Plain 0 sizes (8 + length area) area fault (area_bytes file (length sizes) One area has good) (omega arith) e)
cut_is file sizes Two area fault good has e =
    halved_cut area has (halves_cut sizes area fault (area_bytes file (length sizes) Two area has good) (area_some file (length sizes) Two area has).1 e)
cut_is file sizes Moving area fault good has e = absurd cc

live_err : (form : Form) (r : Result (List Batch) JournalFault) (fault : JournalFault) → (r >>> λ batches. Ok (made form batches)) ≡ Err fault → r ≡ Err fault
live_err form (Ok batches) fault e = absurd cc
live_err form (Err other) fault e = cc

found_fault : (file sizes : List ℕ) (fault : JournalFault) (read : Result (Form × List ℕ) JournalFault) → IsBytes file → area_of file (length sizes) ≡ read
    → (read >>> λ x. live_in x.0 sizes x.1 >>> λ batches. Ok (made x.0 batches)) ≡ Err fault → IsNoJournal file sizes fault
found_fault file sizes fault (Ok x) good e h =
    cut_is file sizes x.0 x.1 fault good (area_is file (length sizes) x good e) (live_err x.0 (live_in x.0 sizes x.1) fault h)
found_fault file sizes fault (Err other) good e h =
    let same : other ≡ fault = cc in
    no_area (area_fault file (length sizes) fault good (e ∙ ap (λ (f : JournalFault). Err f) same))

pub journal_fault : (file sizes : List ℕ) (fault : JournalFault) → IsBytes file → journal_of file sizes ≡ Err fault → IsNoJournal file sizes fault
unfolding journal_of
journal_fault file sizes fault good e = found_fault file sizes fault (area_of file (length sizes)) good refl e

-- what is answered

pub found : (file sizes : List ℕ) (result : Result Journal JournalFault) → IsBytes file → Answers (λ journal. journal) result (journal_of file sizes) → IfOk result (IsJournal file sizes)
found file sizes (Ok journal) good h = journal_is file sizes journal good h
found file sizes (Err fault) good h = tt

pub refused : (file sizes : List ℕ) (result : Result Journal JournalFault) → IsBytes file → Answers (λ journal. journal) result (journal_of file sizes) → IfErr result (IsFaultOf file sizes)
refused file sizes (Ok journal) good h = tt
refused file sizes (Err fault) good h = UnlessMemory-weaker fault (journal_of file sizes ≡ Err fault) (IsNoJournal file sizes fault) (λ e. journal_fault file sizes fault good e) h

-- ---- the other way round

live_again : (form : Form) (sizes area : List ℕ) (batches : List Batch) → HasLive form area batches → AllByRecursion (IsWithin sizes) batches → live_in form sizes area ≡ Ok batches
unfolding live_in
live_again One sizes area batches live within = live_area Plain 0 sizes (8 + length area) area batches live within
live_again Two sizes area batches live within = live_halves sizes area batches live within
live_again Moving sizes area batches live within = ap (λ (bs : List Batch). Ok bs) (sym live)

pub is_journal : (file sizes : List ℕ) (journal : Journal) → IsJournal file sizes journal → journal_of file sizes ≡ Ok journal
unfolding journal_of
is_journal file sizes journal h =
    ap (λ r. r >>> λ x. live_in x.0 sizes x.1 >>> λ batches. Ok (made x.0 batches)) (area_again file (length sizes) journal.form h.area h.has_area)
    ∙ ap (λ r. r >>> λ batches. Ok (made journal.form batches)) (live_again journal.form sizes h.area journal.batches h.live h.within)

pub no_journal : (file sizes : List ℕ) (fault : JournalFault) → IsBytes file → IsNoJournal file sizes fault → journal_of file sizes ≡ Err fault
unfolding journal_of live_in
no_journal file sizes fault good (no_area why) =
    ap (λ r. r >>> λ x. live_in x.0 sizes x.1 >>> λ batches. Ok (made x.0 batches)) (fault_again file (length sizes) fault why)
no_journal file sizes fault good (plain_cut area has cut) =
    ap (λ r. r >>> λ x. live_in x.0 sizes x.1 >>> λ batches. Ok (made x.0 batches)) (area_again file (length sizes) One area has)
    ∙ ap (λ r. r >>> λ batches. Ok (made One batches)) (cut_area Plain 0 sizes (8 + length area) area fault (area_bytes file (length sizes) One area has good) cut)
no_journal file sizes fault good (halved_cut area has cut) =
    ap (λ r. r >>> λ x. live_in x.0 sizes x.1 >>> λ batches. Ok (made x.0 batches)) (area_again file (length sizes) Two area has)
    ∙ ap (λ r. r >>> λ batches. Ok (made Two batches)) (cut_halves sizes area fault (area_bytes file (length sizes) Two area has good) cut)

-- ---- one answer at most

bytes_of_all : (file : List ℕ) → All (λ byte. byte < 256) file → IsBytes file
bytes_of_all file all i =
    elim (cases_lt i (length file)) [
      | inl lt ↦ All-get_or (λ byte. byte < 256) file i 0 lt all
      | inr le ↦ rw (get_or_past file i 0 le) (omega arith)
    ]

abbrev failed : JournalFault → Result Journal JournalFault
failed fault = Err fault

err_is : (fault other : JournalFault) → failed fault ≡ failed other → fault ≡ other
err_is fault other e = cc

not_both : (journal : Journal) (fault : JournalFault) → Ok journal ≡ failed fault → ⊥
not_both journal fault e = cc

pub one_journal : (file sizes : List ℕ) (journal other : Journal) → IsJournal file sizes journal → IsJournal file sizes other → journal ≡ other
one_journal file sizes journal other h k = ok_is journal other (sym (is_journal file sizes journal h) ∙ is_journal file sizes other k)

pub one_fault : (file sizes : List ℕ) (fault other : JournalFault) → All (λ byte. byte < 256) file → IsNoJournal file sizes fault → IsNoJournal file sizes other → fault ≡ other
one_fault file sizes fault other bytes h k =
    let good = bytes_of_all file bytes in err_is fault other (sym (no_journal file sizes fault good h) ∙ no_journal file sizes other good k)

pub never_both : (file sizes : List ℕ) (fault : JournalFault) (journal : Journal) → All (λ byte. byte < 256) file → IsNoJournal file sizes fault → IsJournal file sizes journal → ⊥
never_both file sizes fault journal bytes h k =
    not_both journal fault (sym (is_journal file sizes journal k) ∙ no_journal file sizes fault (bytes_of_all file bytes) h)
