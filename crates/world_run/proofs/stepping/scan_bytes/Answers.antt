use Rattle.jrn_format.proofs.JournalGrammar.{never_both}
use Rattle.world_run.proofs.stepping.scan_bytes.Goals as goal

pub returns-in-Err-NotAJournal : goal.returns-in-Err-NotAJournal
returns-in-Err-NotAJournal c = λ journal is. never_both c.args.bytes.now c.args.sizes.now _ journal c.are_bytes.ensures (rw c.in-Err-NotAJournal.field-0-is at c.in-Err-NotAJournal.ensures.refused) is

pub returns-in-Err-BadVersion : goal.returns-in-Err-BadVersion
returns-in-Err-BadVersion c = λ journal is. never_both c.args.bytes.now c.args.sizes.now _ journal c.are_bytes.ensures (rw c.in-Err-BadVersion.field-0-is at c.in-Err-BadVersion.ensures.refused) is

pub returns-in-Err-WrongLine : goal.returns-in-Err-WrongLine
returns-in-Err-WrongLine c = λ journal is. never_both c.args.bytes.now c.args.sizes.now _ journal c.are_bytes.ensures (rw c.in-Err-WrongLine.field-0-is at c.in-Err-WrongLine.ensures.refused) is

pub returns-in-Err-BadJournal : goal.returns-in-Err-BadJournal
returns-in-Err-BadJournal c = λ journal is. never_both c.args.bytes.now c.args.sizes.now _ journal c.are_bytes.ensures (rw c.in-Err-BadJournal.field-0-is at c.in-Err-BadJournal.ensures.refused) is
