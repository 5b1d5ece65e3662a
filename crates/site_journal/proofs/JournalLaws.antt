-- The bytes that were read from a disk are read as a journal.
use Rattle.std.proofs.Common.{◌≡◌, ℕ, ◌≤◌, List, ◌++◌, length, Result, Ok, Err, sym, ap, subst, ◌∙◌, arith, length-append}
use Rattle.std.specs.Int.{w32}
use Rattle.jrn_format.specs.declared.fault.JournalFault.{JournalFault}
use Rattle.jrn_format.specs.declared.journal.Journal.{Journal}
use Rattle.jrn_format.specs.Fault.{IsFaultOf}
use Rattle.jrn_format.specs.Header.{header_bytes, field_at}
use Rattle.jrn_format.specs.Journal.{IsJournal}
use Rattle.site_core.specs.State.{Seen}
use Rattle.site_journal.specs.declared.fault.ReadFault.{ReadFault}
use Rattle.site_journal.specs.declared.fault.ReadFault.TheVariants as read
use Rattle.site_journal.specs.Reading.{ReadsAll, ReadsJournal}
use Rattle.book_model.proofs.StopLaws.{header_long}

-- a journal has a header
pub has_header : (file sizes : List ℕ) (found : Journal) → IsJournal file sizes found → 8 ≤ length file
has_header file sizes found is =
    let h = is.has_area.header in
    let e : file ≡ header_bytes is.has_area.version (length sizes) (length is.area) ++ (is.area ++ is.has_area.rest) = h.spelt in
    omega (arith, ap (λ (l : List ℕ). length l) e, length-append (header_bytes is.has_area.version (length sizes) (length is.area)) (is.area ++ is.has_area.rest), header_long is.has_area.version (length sizes) (length is.area))

-- the bytes weren't read
unread : {T : Type 0} (bytes_of : T → List ℕ) (sizes : List ℕ) (a b : Seen) (fault : ReadFault) → ReadsAll {T = T} bytes_of a (Err fault) b → ReadsJournal sizes a (Err fault) b
unread bytes_of sizes a b (read.Device fault) reads = record { syncs = record { runs = reads.syncs.runs; no_exchange = reads.syncs.no_exchange; first = reads.syncs.first }; finds = tt }
unread bytes_of sizes a b (read.Journal fault) reads = record {
  syncs = record { runs = reads.syncs.runs; no_exchange = reads.syncs.no_exchange; first = reads.syncs.first };
  finds = subst (λ (f : JournalFault). IsFaultOf a.state.disk.bytes sizes f) (sym reads.gives) tt;
}

pub journal_unread : {T : Type 0} (bytes_of : T → List ℕ) (sizes : List ℕ) (a b : Seen) (fault : ReadFault) (result : Result (ℕ × Journal) ReadFault) → result ≡ Err fault
    → ReadsAll {T = T} bytes_of a (Err fault) b → ReadsJournal sizes a result b
journal_unread bytes_of sizes a b fault result is reads =
    subst (λ (r : Result (ℕ × Journal) ReadFault). ReadsJournal sizes a r b) (sym is) (unread bytes_of sizes a b fault reads)

-- they are no journal
pub journal_refused : {T : Type 0} (bytes_of : T → List ℕ) (sizes : List ℕ) (a b : Seen) (value : T) (file : List ℕ) (fault : JournalFault) (result : Result (ℕ × Journal) ReadFault)
    → result ≡ Err (read.Journal fault) → file ≡ bytes_of value → ReadsAll bytes_of a (Ok value) b → IsFaultOf file sizes fault → ReadsJournal sizes a result b
journal_refused bytes_of sizes a b value file fault result is same reads refused =
    subst (λ (r : Result (ℕ × Journal) ReadFault). ReadsJournal sizes a r b) (sym is) (record {
      syncs = record { runs = reads.syncs.runs; no_exchange = reads.syncs.no_exchange; first = reads.syncs.first };
      finds = subst (λ (l : List ℕ). IsFaultOf l sizes fault) (same ∙ reads.gives) refused;
    })

-- they are this one
pub journal_read : {T : Type 0} (bytes_of : T → List ℕ) (sizes : List ℕ) (a b : Seen) (value : T) (file again : List ℕ) (capacity : ℕ) (found : Journal)
    → file ≡ bytes_of value → again ≡ bytes_of value → ReadsAll bytes_of a (Ok value) b → IsJournal file sizes found → capacity ≡ field_at w32 4 again
    → ReadsJournal sizes a (Ok (capacity, found)) b
journal_read bytes_of sizes a b value file again capacity found same same_again reads is says = record {
  syncs = record { runs = reads.syncs.runs; no_exchange = reads.syncs.no_exchange; first = reads.syncs.first };
  finds = (subst (λ (l : List ℕ). IsJournal l sizes found) (same ∙ reads.gives) is, says ∙ ap (λ (l : List ℕ). field_at w32 4 l) (same_again ∙ reads.gives));
}
