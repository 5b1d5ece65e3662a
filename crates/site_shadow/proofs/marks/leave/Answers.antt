use Rattle.std.proofs.Common.{ℕ, List, take, sym, subst}
use Rattle.site_core.specs.Disk.{StopImage}
use Rattle.site_shadow.specs.Unsynced.{DiffersAtMarks}
use Rattle.site_shadow.proofs.Remembered.{StopImage-cut, StopImage-torn}
use Rattle.site_shadow.proofs.marks.leave.Goals as goal

pub returns-in-Old : goal.returns-in-Old
returns-in-Old c = λ disk bytes synced keeps.
    let torn : DiffersAtMarks c.args.before.now disk.bytes c.tear.new.bytes.items = subst (λ (b : List ℕ). DiffersAtMarks c.args.before.now b c.tear.new.bytes.items) (sym bytes) c.tear.ensures in
    let cut : StopImage disk (take c.args.synced_length c.tear.new.bytes.items) = subst (λ (n : ℕ). StopImage disk (take n c.tear.new.bytes.items)) synced (StopImage-cut c.args.before.now disk c.tear.new.bytes.items keeps torn) in
    subst (λ (b : List ℕ). StopImage disk b) (sym c.truncate.ensures.items) cut

pub returns-in-Fill : goal.returns-in-Fill
returns-in-Fill c = λ disk bytes synced keeps.
    let torn : DiffersAtMarks c.args.before.now disk.bytes c.tear-in-Fill.new.bytes.items = subst (λ (b : List ℕ). DiffersAtMarks c.args.before.now b c.tear-in-Fill.new.bytes.items) (sym bytes) c.tear-in-Fill.ensures in
    StopImage-torn c.args.before.now disk c.tear-in-Fill.new.bytes.items keeps torn
