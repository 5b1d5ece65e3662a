use Rattle.std.proofs.Common.{◌≡◌, ◌∙◌, false, true, refl, sym, ap}
use Rattle.book_model.specs.declared.next.DiskNext.{DiskNext}
use Rattle.desk_book.specs.Asking.{is_disk_job}
use Rattle.desk_book.specs.Logs.{with_job}
use Rattle.desk_book.proofs.HeardLaws.{disk-idle}
use Rattle.desk_book.proofs.LogLaws.{with-disk-job, with-disk-rest}
use Rattle.desk_book.proofs.handing.hand_out.Goals as goal

pub returns-then-is_job : goal.returns-then-is_job
returns-then-is_job c =
    let log = c.args.notes.now.entries in
    let job : is_disk_job c.args.next ≡ true = sym c.is_job.ensures ∙ c.if-is_job.true in
    record {
      noted = c.hand_out.ensures ∙ ap (λ (j : DiskNext). with_job log j) c.copied.ensures ∙ sym (with-disk-job log c.args.next job);
      tells = (c.copied-copy.ensures, job, refl);
    }

pub returns : goal.returns
returns c =
    let none : is_disk_job c.args.next ≡ false = sym c.is_job.ensures ∙ c.if-is_job.false in
    record {
      noted = sym (with-disk-rest c.args.notes.now.entries c.args.next none);
      tells = disk-idle c.args.next none c.in_default.not-Stop;
    }
