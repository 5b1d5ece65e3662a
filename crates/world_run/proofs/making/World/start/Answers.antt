use Rattle.std.proofs.Common.{◌≡◌, ◌∙◌, length, sym, ap, subst, arith}
use Rattle.std.specs.Int.{w32}
use Rattle.std.proofs.lemmas.List.{length-map}
use Rattle.jrn_format.specs.Header.{field_at}
use Rattle.jrn_format.specs.Journal.{IsJournal}
use Rattle.jrn_format.specs.Live.{CanBeLive}
use Rattle.jrn_format.proofs.OpenLaws.{journal-can-be-live}
use Rattle.esc_model.specs.SlaveHalf.{SlaveHalf}
use Rattle.book_model.specs.Entries.{sizes_of}
use Rattle.book_model.specs.Opening.{words_in}
use Rattle.world_law.specs.World.{World}
use Rattle.world_run.proofs.making.World.start.Goals as goal

pub open-requires-clause-some : goal.open-requires-clause-some
open-requires-clause-some c =
    omega (arith, c.in_ok-words.words.ok.0, ap length c.in_ok-words.ensures, length-map c.self.inside.line.halves (λ (half : SlaveHalf). half.words), c.len-one_to_64.ensures.len, c.len-one_to_64.ensures.some)

pub open-requires-clause-most : goal.open-requires-clause-most
open-requires-clause-most c =
    omega (arith, c.in_ok-words.words.ok.0, ap length c.in_ok-words.ensures, length-map c.self.inside.line.halves (λ (half : SlaveHalf). half.words), c.len-one_to_64.ensures.len, c.len-one_to_64.ensures.most)

pub open-requires-clause-live : goal.open-requires-clause-live
open-requires-clause-live c =
    let journal = c.args.journal in
    let bytes = c.self.inside.disk.bytes.items in
    let sizes = sizes_of (words_in c.self.inside.line.halves) in
    let is : IsJournal bytes sizes journal = subst (λ (w : World). IsJournal w.state.disk.bytes (sizes_of (words_in w.state.halves)) journal) (sym c.self.view_is) c.requires in
    let live : CanBeLive journal.form (field_at w32 4 bytes) sizes journal.batches = journal-can-be-live bytes sizes journal is in
    let capacity : c.capacity.result ≡ field_at w32 4 bytes = c.capacity.ensures ∙ ap (field_at w32 4) c.bytes.ensures in
    rw (capacity, c.in_ok-words.ensures) live
