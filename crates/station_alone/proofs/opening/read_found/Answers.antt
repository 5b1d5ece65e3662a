use Rattle.std.proofs.Common.{subst, List, ℕ, Ok, Vec, Global}
use Rattle.sii_words.specs.declared.words.Words.{Words}
use Rattle.jrn_format.specs.declared.journal.Journal.{Journal}
use Rattle.site_journal.specs.Reading.{ReadsJournal}
use Rattle.station_alone.specs.declared.fault.OpenFault.{OpenFault}
use Rattle.station_alone.specs.declared.fault.OpenFault.TheVariants as faults
use Rattle.station_alone.specs.Opening.{FailsToOpen}
use Rattle.station_alone.proofs.OpenLaws.{err-exit, fails-without-memory, fails-at-slave, reads-found}
use Rattle.station_alone.proofs.opening.read_found.Goals as goal

pub returns-in_err-sizes-clause-fails : goal.returns-in_err-sizes-clause-fails
returns-in_err-sizes-clause-fails g c =
    let line = g.S.Site.line c.args.site.now in
    let seen = g.S.Site.seen c.args.site.now in
    err-exit c.from_residual.result faults.Memory (λ (fault : OpenFault). FailsToOpen line seen fault line seen) c.from_residual.ensures.1 (fails-without-memory line seen)

pub returns-in_err-words-clause-fails : goal.returns-in_err-words-clause-fails
returns-in_err-words-clause-fails g c =
    let its = g.S.Site.line c.args.site.now in
    let old = g.S.Site.seen c.args.site.now in
    let later = g.S.Site.line c.read_journal.new.site in
    let mid = g.S.Site.seen c.read_journal.new.site in
    let last = g.S.Site.line c.read_slaves.new.site in
    let new = g.S.Site.seen c.read_slaves.new.site in
    let found : ℕ × Journal = (c.in_ok-capacity.capacity, c.in_ok-capacity.journal) in
    let journal : ReadsJournal c.in_ok-sizes.sizes.items old (Ok found) mid = subst (λ (s : List ℕ). ReadsJournal s old (Ok found) mid) c.deref.ensures.value c.in_ok-capacity.ensures.reads in
    err-exit c.from_residual-in_err-words.result (faults.Slave c.in_err-words.field-0.0) (λ (fault : OpenFault). FailsToOpen its old fault last new) c.from_residual-in_err-words.ensures.1
    (fails-at-slave (Vec Words Global) (λ (plant : Vec Words Global). plant.items) its later last c.in_ok-sizes.sizes.items old mid new c.in_ok-sizes.ensures c.in_ok-capacity.ensures.line c.in_err-words.ensures.line found
    c.in_err-words.field-0.0 journal c.in_err-words.ensures.reads)

pub returns-clause-reads : goal.returns-clause-reads
returns-clause-reads g c =
    let its = g.S.Site.line c.args.site.now in
    let old = g.S.Site.seen c.args.site.now in
    let later = g.S.Site.line c.read_journal.new.site in
    let mid = g.S.Site.seen c.read_journal.new.site in
    let new = g.S.Site.seen c.read_slaves.new.site in
    let found : ℕ × Journal = (c.in_ok-capacity.capacity, c.in_ok-capacity.journal) in
    let journal : ReadsJournal c.in_ok-sizes.sizes.items old (Ok found) mid = subst (λ (s : List ℕ). ReadsJournal s old (Ok found) mid) c.deref.ensures.value c.in_ok-capacity.ensures.reads in
    reads-found its later c.in_ok-sizes.sizes.items old mid new c.in_ok-capacity.capacity c.in_ok-capacity.journal c.in_ok-words.words c.in_ok-sizes.ensures c.in_ok-capacity.ensures.line journal c.in_ok-words.ensures.reads
