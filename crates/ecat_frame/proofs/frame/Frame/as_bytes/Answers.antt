use Rattle.ecat_frame.proofs.Spelled.{spelling-IsFrame}
use Rattle.ecat_frame.proofs.frame.Frame.as_bytes.Goals as goal

pub returns-clause-frame : goal.returns-clause-frame
returns-clause-frame c =
    rw (c.as_slice.ensures.value, ← c.self.view_is) (spelling-IsFrame _ _ c.self.invariant.is_spelling c.self.invariant.fits (rw c.as_slice.ensures.value at c.as_slice.ensures.fits))
