use Rattle.std.specs.Prelude.{is_some}
use Rattle.book_model.proofs.KeptLaws.{kept}
use Rattle.book_model.proofs.disk_keeping.each_stop_is_kept.Goals as goal

pub returns : goal.returns
returns c = λ frame book machine gone disk image left line of fits disk_fits may stop. kept frame book machine gone disk image left line of fits may stop book.doing book.is_handed_out (is_some book.fault) disk_fits
