use Rattle.esc_rom.proofs.WordLaws.{written_stays}
use Rattle.esc_rom.proofs.laws.written_stays.Goals as goal

pub returns : goal.returns
returns c = written_stays
