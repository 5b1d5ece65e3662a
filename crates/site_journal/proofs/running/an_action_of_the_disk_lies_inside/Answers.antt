use Rattle.site_journal.proofs.InsideLaws.{bytes-inside, gate-byte-inside}
use Rattle.site_journal.proofs.running.an_action_of_the_disk_lies_inside.Goals as goal

pub returns : goal.returns
returns c = record {
  bytes = λ frame book took machine old at written up is. bytes-inside frame book took machine old up at written is;
  gate = λ frame book took machine old at closed up is. gate-byte-inside frame book took machine old up at closed is;
}
