use Rattle.site_journal.specs.Running.{KeptWith}
use Rattle.world_law.specs.Law.{KeptFor}
use Rattle.site_journal.proofs.GoLaws.{stays-then}
use Rattle.site_journal.proofs.going.runs_in_a_row_keep.Goals as goal

pub returns : goal.returns
returns c = record {
  all = λ machine first mid last one two. stays-then (KeptFor machine) first mid last one two;
  with_commands = λ machine commands first mid last one two. stays-then (KeptWith machine commands) first mid last one two;
}
