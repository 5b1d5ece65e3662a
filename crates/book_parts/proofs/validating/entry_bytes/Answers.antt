use Rattle.book_parts.proofs.ChangeLaws.{size-fits}
use Rattle.book_parts.proofs.validating.entry_bytes.Goals as goal

pub size_of-requires-clause-fits : goal.size_of-requires-clause-fits
size_of-requires-clause-fits c = rw c.deref.ensures.value (size-fits c.args.change.now.runs.items c.requires.count c.requires.short)
