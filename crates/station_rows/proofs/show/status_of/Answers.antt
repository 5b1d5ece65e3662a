use Rattle.std.proofs.Common.{refl, inr}
use Rattle.station_rows.proofs.show.status_of.Goals as goal

pub returns-else-is_sound : goal.returns-else-is_sound
returns-else-is_sound c = inr ((λ sound. cc (c.is_sound.ensures.1 sound, c.if-is_sound.false)), refl)
