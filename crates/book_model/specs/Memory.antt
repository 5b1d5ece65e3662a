-- A command that is refused memory.
use Rattle.std.specs.Prelude.{◌≡◌}
use Rattle.sii_edit.specs.declared.refusal.Cause.TheVariants as causes
use Rattle.sii_edit.specs.Refusal.{entire}
use Rattle.book_model.specs.declared.refusal.SubmitRefusal.{SubmitRefusal}
use Rattle.book_model.specs.declared.refusal.SubmitRefusal.TheVariants.{Command}

-- The refusal says that memory was refused.
abbrev pub OutOfMemory : SubmitRefusal → Type 0
OutOfMemory refusal = refusal ≡ Command (entire causes.Memory)
