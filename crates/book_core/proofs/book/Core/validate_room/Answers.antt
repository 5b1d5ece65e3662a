use Rattle.std.proofs.Common.{◌≡◌, ◌/◌, ◌∙◌, ℕ, sym, ap, arith}
use Rattle.jrn_format.specs.Batch.{entry_size}
use Rattle.book_model.specs.Book.{Book}
use Rattle.book_core.proofs.SubmitLaws.{too-large, is-small, room-full}
use Rattle.book_core.proofs.book.Core.validate_room.Goals as goal

pub returns-then-bytes-from : goal.returns-then-bytes-from
returns-then-bytes-from c =
    let runs = c.args.change.now.runs.items in
    let half : c.from.result ≡ c.args.self.now.capacity / 2 = c.from.ensures ∙ ap (λ (n : ℕ). n / 2) (c.capacity.ensures ∙ ap (λ (b : Book). b.capacity) c.self.view_is) in
    let size : c.from-bytes.result ≡ entry_size runs = c.from-bytes.ensures ∙ c.entry_bytes.ensures in
    too-large c.args.self.now runs (omega (arith, half, size, c.if-bytes-from.true))

pub returns-then-is_full : goal.returns-then-is_full
returns-then-is_full c =
    let runs = c.args.change.now.runs.items in
    let half : c.from.result ≡ c.args.self.now.capacity / 2 = c.from.ensures ∙ ap (λ (n : ℕ). n / 2) (c.capacity.ensures ∙ ap (λ (b : Book). b.capacity) c.self.view_is) in
    let size : c.from-bytes.result ≡ entry_size runs = c.from-bytes.ensures ∙ c.entry_bytes.ensures in
    room-full c.args.self.now runs (is-small c.args.self.now runs (omega (arith, c.if-len-gt-MOST_RUNS.false, c.len.ensures)) (omega (arith, half, size, c.if-bytes-from.false)))
    (sym (c.is_full.ensures runs (sym size)) ∙ c.if-is_full.true)
