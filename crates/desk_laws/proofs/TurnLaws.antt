-- Each cycle of a history has the image of the contents after a prefix of the accepted commands.
use Rattle.std.proofs.Common.{◌≡◌, ◌∙◌, ℕ, ◌+◌, List, [], ◌∷◌, ◌++◌, length, take, refl, sym, ap, subst, arith, append_assoc, Option, Some, None, Ok, Err}
use Rattle.std.specs.List.{AllByRecursion}
use Rattle.std.specs.Prelude.{fold}
use Rattle.std.proofs.lemmas.List.{append-nil, take-append-le, length-append}
use Rattle.sii_image.specs.ProcessImage.{ProcessImageParts, process_image}
use Rattle.sii_edit.specs.declared.command.Command.{Command}
use Rattle.sii_edit.specs.Fold.{contents}
use Rattle.book_model.specs.Book.{Book, base_of}
use Rattle.book_model.specs.Reading.{applied, planned}
use Rattle.station_jobs.specs.declared.cycle.CycleNote.{CycleNote}
use Rattle.world_law.proofs.StandsLaws.{applied-few}
use Rattle.desk_book.specs.declared.call.Call.{Call}
use Rattle.desk_book.specs.declared.call.Call.TheVariants.{Submitted, DiskAsked, DiskReported, SlaveAsked, SlaveReported, PlanAsked, Finished}
use Rattle.desk_book.specs.Calls.{after, replayed, AreAnswered, turn_of}
use Rattle.desk_book.specs.Logs.{turn_noted}
use Rattle.desk_book.proofs.KeptLaws.{keeps-disk_next, keeps-disk_done, keeps-rom_next, keeps-rom_done}
use Rattle.desk_book.proofs.BaseLaws.{base-replayed}
use Rattle.desk_laws.specs.Turns.{IsTurnOf}
use Rattle.sii_words.proofs.Quantifiers.{all_snoc}

-- ---- commands are only ever added

-- `later` begins with `commands`
record IsMore (commands later : List Command) : Type 0 where
  more : List Command
  all : later ≡ commands ++ more

same-commands : (commands later : List Command) → later ≡ commands → IsMore commands later
same-commands commands later is = record { more = []; all = is ∙ sym (append-nil commands) }

after-more : (book : Book) (call : Call) → IsMore book.accepted (after book call).accepted
after-more book (Submitted command (Ok number)) = record { more = command ∷ []; all = refl }
after-more book (Submitted command (Err refusal)) = same-commands book.accepted book.accepted refl
after-more book (DiskAsked answer) = same-commands book.accepted (after book (DiskAsked answer)).accepted (keeps-disk_next book).accepted
after-more book (DiskReported outcome) = same-commands book.accepted (after book (DiskReported outcome)).accepted (keeps-disk_done book outcome).accepted
after-more book (SlaveAsked slave answer) = same-commands book.accepted (after book (SlaveAsked slave answer)).accepted (keeps-rom_next book slave).accepted
after-more book (SlaveReported slave outcome) = same-commands book.accepted (after book (SlaveReported slave outcome)).accepted (keeps-rom_done book slave outcome).accepted
after-more book (PlanAsked answer) = same-commands book.accepted book.accepted refl
after-more book Finished = same-commands book.accepted book.accepted refl

replayed-more : (book : Book) (calls : List Call) → IsMore book.accepted (replayed book calls).accepted
replayed-more book [] = same-commands book.accepted book.accepted refl
replayed-more book (call ∷ calls) =
    let one = after-more book call in
    let others = replayed-more (after book call) calls in
    record { more = one.more ++ others.more; all = others.all ∙ ap (λ (l : List Command). l ++ others.more) one.all ∙ append_assoc book.accepted one.more others.more }

-- ---- a turn

turn-is : (book : Book) (final : List Command) (note : CycleNote) → IsMore book.accepted final → (image : Option ProcessImageParts) → process_image (planned book) ≡ image → Some note ≡ turn_of book
    → IsTurnOf (base_of book) final note
turn-is book final note more None has is = let none : Some note ≡ None = rw has at is in absurd cc
turn-is book final note more (Some image) has is =
    let one : Some note ≡ Some (record { prefix = applied book; size = image.outputs + image.inputs }) = rw has at is in
    let note_is : note ≡ record { prefix = applied book; size = image.outputs + image.inputs } = cc in
    let few = applied-few book in
    let taken : take (applied book) final ≡ take (applied book) book.accepted = ap (take (applied book)) more.all ∙ take-append-le (applied book) book.accepted more.more few in
    subst (IsTurnOf (base_of book) final) (sym note_is)
    (record {
      few = omega (arith, few, ap length more.all, length-append book.accepted more.more);
      image = image;
      has_image = ap (λ (l : List Command). process_image (contents (base_of book) l)) taken ∙ has;
      size = refl;
    })

-- ---- all of them

module _ (base : List (List ℕ)) (final : List Command) where
  pub turns-are : (book : Book) (calls : List Call) (log : List CycleNote) → AreAnswered book calls → base_of book ≡ base → (replayed book calls).accepted ≡ final
      → AllByRecursion (IsTurnOf base final) log → AllByRecursion (IsTurnOf base final) (fold turn_noted log calls)
  turns-are book [] log all same last sofar = sofar
  turns-are book (PlanAsked (Some note) ∷ calls) log all same last sofar =
      turns-are book calls (log ++ note ∷ []) all.1 same last
      (all_snoc (IsTurnOf base final) log note sofar
      (subst (λ (b : List (List ℕ)). IsTurnOf b final note) same (turn-is book final note (subst (IsMore book.accepted) last (replayed-more book calls)) (process_image (planned book)) refl all.0)))
  turns-are book (PlanAsked None ∷ calls) log all same last sofar = turns-are book calls log all.1 same last sofar
  turns-are book (Submitted command answer ∷ calls) log all same last sofar = turns-are (after book (Submitted command answer)) calls log all.1 (base-replayed book (Submitted command answer ∷ []) ∙ same) last sofar
  turns-are book (DiskAsked answer ∷ calls) log all same last sofar = turns-are (after book (DiskAsked answer)) calls log all.1 (base-replayed book (DiskAsked answer ∷ []) ∙ same) last sofar
  turns-are book (DiskReported outcome ∷ calls) log all same last sofar = turns-are (after book (DiskReported outcome)) calls log all.1 (base-replayed book (DiskReported outcome ∷ []) ∙ same) last sofar
  turns-are book (SlaveAsked slave answer ∷ calls) log all same last sofar = turns-are (after book (SlaveAsked slave answer)) calls log all.1 (base-replayed book (SlaveAsked slave answer ∷ []) ∙ same) last sofar
  turns-are book (SlaveReported slave outcome ∷ calls) log all same last sofar = turns-are (after book (SlaveReported slave outcome)) calls log all.1 (base-replayed book (SlaveReported slave outcome ∷ []) ∙ same) last sofar
  turns-are book (Finished ∷ calls) log all same last sofar = turns-are (after book Finished) calls log all.1 (base-replayed book (Finished ∷ []) ∙ same) last sofar
