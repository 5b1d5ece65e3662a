use Rattle.std.proofs.Common.{◌≡◌, ◌⊎◌, ℕ, ◌+◌, ◌∙◌, length, inl, inr, ap, arith}
use Rattle.std.proofs.lemmas.List.{take_all}
use Rattle.jrn_format.specs.declared.journal.Form.{Form}
use Rattle.jrn_format.specs.declared.journal.Form.TheVariants.{Two, Moving}
use Rattle.jrn_format.specs.Batch.{entry_size}
use Rattle.book_parts.proofs.SizeLaws.{head_size, entries_bytes, size_is, entry_within, entries-more}
use Rattle.book_parts.proofs.sizes.batch_size.Goals as goal
use Rattle.book_parts.proofs.sizes.batch_size.Goals.{in-One, in-Two}

head : (form : Form) (size : ℕ) → size ≡ 8 → (form ≡ Two) ⊎ (form ≡ Moving) → size ≡ head_size form + 0
head form size is (inl two) = rw two is
head form size is (inr moving) = rw moving is

pub loop-entry-init : goal.loop-entry-init
loop-entry-init c = elim c.match-form.branch [ in-One w ↦ rw w.in-One.is w.size-is | in-Two w ↦ head c.args.form c.match-form.size w.size-is w.in-Two.is ]

pub size_of-size-requires-clause-fits : goal.size_of-size-requires-clause-fits
size_of-size-requires-clause-fits c =
    let entries : c.as_slice-entry-items.result.now ≡ c.args.batch.now.entries = c.as_slice-entry-items.ensures in
    let i = c.loop-entry.entry-index in
    let within = entry_within c.args.form c.args.batch.now i c.entry-item.result (omega (arith, c.loop-entry-test.true, ap length entries)) (rw entries at c.entry-item.is) in
    rw c.as_slice.ensures (omega (arith, within, c.requires.fits))

pub overflow_add-size : goal.overflow_add-size
overflow_add-size c =
    let entries : c.as_slice-entry-items.result.now ≡ c.args.batch.now.entries = c.as_slice-entry-items.ensures in
    let i = c.loop-entry.entry-index in
    let within = entry_within c.args.form c.args.batch.now i c.entry-item.result (omega (arith, c.loop-entry-test.true, ap length entries)) (rw entries at c.entry-item.is) in
    let so_far = rw entries at c.loop-entry.invariant in
    omega (arith, within, so_far, c.requires.fits, c.size_of-size.ensures.sum, ap entry_size c.as_slice.ensures)

pub loop-entry-preserved : goal.loop-entry-preserved
loop-entry-preserved c =
    let more = entries-more c.as_slice-entry-items.result.now c.loop-entry.entry-index c.entry-item.result c.loop-entry-test.true c.entry-item.is in
    omega (arith, more, c.loop-entry.invariant, c.size_of-size.ensures.sum, ap entry_size c.as_slice.ensures)

pub returns : goal.returns
returns c =
    let all = take_all c.loop-entry.entry-index c.as_slice-entry-items.result.now c.loop-entry-test.false ∙ c.as_slice-entry-items.ensures in
    omega (arith, c.loop-entry.invariant, ap entries_bytes all, size_is c.args.form c.args.batch.now)
