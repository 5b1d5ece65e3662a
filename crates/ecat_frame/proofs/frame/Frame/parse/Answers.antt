use Rattle.std.proofs.Common.{rules}
use Rattle.ecat_frame.proofs.Parsed.{says_where, reads_only, only_place}
use Rattle.ecat_frame.proofs.frame.Frame.parse.Goals as goal

pub returns-in_err-inside_of-clause-only : goal.returns-in_err-inside_of-clause-only
returns-in_err-inside_of-clause-only c = reads_only c.args.bytes.now c.from_residual.result (search rules) (search rules)

pub returns-in_err-inside_of-clause-place : goal.returns-in_err-inside_of-clause-place
returns-in_err-inside_of-clause-place c = only_place c.args.bytes.now c.from_residual.result (search rules) (search rules)

pub returns-clause-only : goal.returns-clause-only
returns-clause-only c =
    reads_only c.args.bytes.now c.read.result (search rules) (says_where c.args.bytes.now _ c.read.result c.in_ok-inside_of.ensures.ok c.read.ensures.err)

pub returns-clause-fault : goal.returns-clause-fault
returns-clause-fault c = says_where c.args.bytes.now _ c.read.result c.in_ok-inside_of.ensures.ok c.read.ensures.err

pub returns-clause-place : goal.returns-clause-place
returns-clause-place c =
    only_place c.args.bytes.now c.read.result (search rules) (says_where c.args.bytes.now _ c.read.result c.in_ok-inside_of.ensures.ok c.read.ensures.err)
