use Rattle.std.proofs.Common.{◌∙◌, sym, subst}
use Rattle.std.proofs.lemmas.Bool.{false≢true}
use Rattle.station_threads.specs.Sites.{OwnSlaves}
use Rattle.station_threads.proofs.sites.own_parts.Goals.{in-Some, in-None, then-has_disk, else-has_disk}
use Rattle.station_threads.proofs.sites.own_parts.Goals as goal

pub returns-then-has_process : goal.returns-then-has_process
returns-then-has_process g c own = elim c.if-has_disk.branch [
  | then-has_disk w ↦ record {
    of_disk = sym w.if-has_disk.ensures.owned;
    of_slaves = subst (λ l. OwnSlaves g.S.Site.line l) c.deref.ensures.value (c.own_slaves.ensures own);
    of_cycle = elim c.match-sites.branch [
      | in-Some v ↦ rw v.in-Some.is (sym v.has_process-has_process.ensures ∙ sym v.has_process-is ∙ sym w.value-is ∙ c.if-has_process.true)
      | in-None v ↦ rw v.in-None.is tt
    ];
  }
  | else-has_disk w ↦ absurd (false≢true (sym w.if-has_disk.false ∙ sym w.value-is ∙ c.if-has_process.true))
]
