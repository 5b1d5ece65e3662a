-- A step that writes is handed out as a write.
use Rattle.std.proofs.Common.{◌≡◌, sym}
use Rattle.book_model.specs.Book.{Book}
use Rattle.book_model.specs.Book as book
use Rattle.book_model.specs.DiskSteps.{disk_next, doing_next}
use Rattle.book_parts.specs.Spot.{as_place}
use Rattle.book_core.specs.declared.step.Step.{Step}
use Rattle.book_core.specs.declared.step.Step.TheVariants.{Resting, Payload, PayloadSync, OpenGate, OpenSync, CloseGate, CloseSync, FarGate, Mark, MarkSync, Version, VersionSync}
use Rattle.book_core.specs.Parts.{next_entries}
use Rattle.book_core.specs.Handing.{IsNext, IsWrite, TakesMemory}

pub writes : (b : Book) (step : Step) → IsNext b step → IsWrite step → TakesMemory (disk_next b).0
writes b (Payload spot) next is =
    let doing : doing_next b b.doing ≡ book.Payload (as_place spot) (next_entries b) = sym next.doing in
    rw (next.idle, next.no_fault, doing) tt
writes b Mark next is =
    let doing : doing_next b b.doing ≡ book.Mark = sym next.doing in
    rw (next.idle, next.no_fault, doing) tt
writes b Version next is =
    let doing : doing_next b b.doing ≡ book.Version = sym next.doing in
    rw (next.idle, next.no_fault, doing) tt
writes b Resting next is = absurd is
writes b (PayloadSync spot) next is = absurd is
writes b (OpenGate spot) next is = absurd is
writes b (OpenSync spot) next is = absurd is
writes b CloseGate next is = absurd is
writes b CloseSync next is = absurd is
writes b FarGate next is = absurd is
writes b MarkSync next is = absurd is
writes b VersionSync next is = absurd is
