use Rattle.std.proofs.Common.{refl, sym}
use Rattle.site_file.specs.Device.{writes, fails}
use Rattle.site_file.proofs.files.FileDevice.rest_word.Goals as goal

pub returns-then-write_word-clause-asks : goal.returns-then-write_word-clause-asks
returns-then-write_word-clause-asks g c =
    writes c.in-Some.write (sym c.in-Some.ensures.write) c.if-self.false
    (rw c.in-Some-own_image.ensures.name at c.if-write_word.ensures.writes) refl c.if-self.false

pub returns-clause-asks : goal.returns-clause-asks
returns-clause-asks g c =
    rw (c.stay-2.ensures.stays, c.stay-2.ensures.failed) (fails c.in-Some.write (sym c.in-Some.ensures.write) c.if-self.false
    (rw c.in-Some-own_image.ensures.name at c.if-write_word.ensures.writes) refl refl)
