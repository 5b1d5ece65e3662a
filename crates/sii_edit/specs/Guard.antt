-- The identity that a slave is expected to have just before an edit.
use Rattle.std.specs.Prelude.{ℕ, ◌==◌, ◌&&◌, Bool, false, not, List, Option, Some, None}
use Rattle.sii_words.specs.Identity.{identity_of}
use Rattle.sii_words.specs.declared.identity.Identity.{Identity}
use Rattle.sii_edit.specs.declared.command.Expect.{Expect}

-- vendor, product and revision are the expected ones; the serial number isn't compared
abbrev pub is_same : Expect → Identity → Bool
is_same expect identity = expect.vendor == identity.vendor && expect.product == identity.product && expect.revision == identity.revision

-- the slave has another identity than expected; never, if none is expected
abbrev pub is_other : Option Expect → List ℕ → Bool
is_other None words = false
is_other (Some expect) words = not (is_same expect (identity_of words))
