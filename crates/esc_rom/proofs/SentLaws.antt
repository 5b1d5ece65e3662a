-- The courses of word access, by how they end.
use Rattle.std.proofs.Common.{◌≡◌, ℕ, ◌+◌, ◌<◌, true, false, List, [], ◌++◌, length, slice_index, Some, Result, Ok, Err, IfErr, refl, sym, subst, inl, inr}
use Rattle.site_core.specs.State.{Seen}
use Rattle.rom_steps.specs.declared.step.Stop.{Stop}
use Rattle.rom_steps.specs.declared.back.Rested.{Rested}
use Rattle.rom_steps.specs.Courses.{Asked}
use Rattle.rom_steps.specs.Accesses.{WaitsBy, OpensBy}
use Rattle.esc_rom.specs.declared.fault.RomFault.{RomFault}
use Rattle.esc_rom.specs.declared.fault.RomFault.TheVariants as rom
use Rattle.esc_rom.specs.Access.{OpensSlave, ReadsWords}
use Rattle.esc_rom.specs.Reading.{ReadsInParts, KeepsFirst}
use Rattle.esc_rom.specs.Courses.{AskedInTurn, Takes}
use Rattle.esc_rom.specs.Sent.{ReadsNext, FillsBy, OpensSlaveBy, ReadsAllBy, ReadsSlaveBy, FirstReadBy, no_slave, one_more_slave, ReadsLineBy}
use Rattle.esc_rom.proofs.Courses.{asked-then, RoundsSo}

-- READ

-- the slave was seen idle, and then so many pairs were read
pub record FillsSo (slave times : ℕ) (a b : Seen) : Type 0 where
  pub rested : Rested
  pub mid : Seen
  pub waits : Takes (WaitsBy slave) a (Ok (Some rested)) mid
  pub rounds : RoundsSo (ReadsNext slave) true times mid b

-- ONE SLAVE

module _ (slave : ℕ) {a b : Seen} where
  pub opened-by : Takes (OpensBy slave) a (Ok true) b → Takes (OpensSlaveBy slave) a (Ok tt) b
  opened-by takes = record { log = takes.log; asked = takes.asked; took = takes.took }

  pub unopened-by : Takes (OpensBy slave) a (Ok false) b → Takes (OpensSlaveBy slave) a (Err (rom.SlaveDead slave)) b
  unopened-by takes = record { log = takes.log; asked = takes.asked; took = takes.took }

  pub open-cut-by : (result : Result (Unit {0}) RomFault) → result ≡ Err rom.Stopped → {stop : Stop} → Takes (OpensBy slave) a (Err stop) b → Takes (OpensSlaveBy slave) a result b
  open-cut-by result is {stop} takes = subst (λ (r : Result (Unit {0}) RomFault). Takes (OpensSlaveBy slave) a r b) (sym is) (record { log = takes.log; asked = takes.asked; took = (stop, takes.took) })

-- the words of a slave of this size
module _ {T : Type 0} (slave : ℕ) {long size : ℕ} {a b : Seen} (is : long ≡ size) where
  pub read-by : (words : T) → Takes (FillsBy slave long) a (Ok true) b → Takes (ReadsAllBy slave size) a (Ok words) b
  read-by words takes = record { log = takes.log; asked = takes.asked; took = subst (λ (n : ℕ). FillsBy slave n takes.log (Ok true)) is takes.took }

  pub unread-by : Takes (FillsBy slave long) a (Ok false) b → Takes (ReadsAllBy {T = T} slave size) a (Err (rom.SlaveDead slave)) b
  unread-by takes = record { log = takes.log; asked = takes.asked; took = subst (λ (n : ℕ). FillsBy slave n takes.log (Ok false)) is takes.took }

  pub read-cut-by : (result : Result T RomFault) → result ≡ Err rom.Stopped → {stop : Stop} → Takes (FillsBy slave long) a (Err stop) b → Takes (ReadsAllBy slave size) a result b
  read-cut-by result stopped {stop} takes = subst (λ (r : Result T RomFault). Takes (ReadsAllBy slave size) a r b) (sym stopped)
      (record { log = takes.log; asked = takes.asked; took = (stop, subst (λ (n : ℕ). FillsBy slave n takes.log (Err stop)) is takes.took) })

pub read-refused-by : {T : Type 0} (slave size : ℕ) (seen : Seen) (result : Result T RomFault) → result ≡ Err rom.Memory → Takes (ReadsAllBy slave size) seen result seen
read-refused-by {T} slave size seen result refused =
    subst (λ (r : Result T RomFault). Takes (ReadsAllBy slave size) seen r seen) (sym refused) (record { log = []; asked = refl; took = refl })

reads-any : (T V : Type 0) (slave size : ℕ) (fault : RomFault) (log : List Asked) → ReadsAllBy {T = T} slave size log (Err fault) → ReadsAllBy {T = V} slave size log (Err fault)
reads-any T V slave size rom.Memory log so = so
reads-any T V slave size rom.Stopped log so = so
reads-any T V slave size (rom.SlaveDead dead) log so = so

module _ (slave size : ℕ) {a b : Seen} where
  pub reads-opened : {T : Type 0} {c : Seen} (result : Result T RomFault) → Takes (OpensSlaveBy slave) a (Ok tt) b → Takes (ReadsAllBy slave size) b result c → Takes (ReadsSlaveBy slave size) a result c
  reads-opened {c = c} (Ok words) one two = record {
    log = one.log ++ two.log;
    asked = asked-then one.log two.log a b c one.asked two.asked;
    took = record { front = one.log; after = two.log; log_is = refl; opens = one.took; reads = two.took };
  }
  reads-opened {T} {c} (Err fault) one two = record {
    log = one.log ++ two.log;
    asked = asked-then one.log two.log a b c one.asked two.asked;
    took = inr (record { front = one.log; after = two.log; log_is = refl; opens = one.took; reads = reads-any T (Unit {0}) slave size fault two.log two.took });
  }

  pub reads-unopened : {T : Type 0} (result : Result T RomFault) (fault : RomFault) → result ≡ Err fault → Takes (OpensSlaveBy slave) a (Err fault) b → Takes (ReadsSlaveBy slave size) a result b
  reads-unopened {T} result fault is takes =
      subst (λ (r : Result T RomFault). Takes (ReadsSlaveBy slave size) a r b) (sym is) (record { log = takes.log; asked = takes.asked; took = inl takes.took })

  pub parts-opened : {c : Seen} (result : Result (List ℕ) RomFault) → OpensSlave a slave (Ok tt) b → ReadsWords b slave size result c → ReadsInParts slave size a result c
  parts-opened (Ok words) opens reads = (b, opens, reads)
  parts-opened (Err fault) opens reads = inr (b, opens, reads)

  pub parts-unopened : (result : Result (List ℕ) RomFault) (fault : RomFault) → result ≡ Err fault → OpensSlave a slave (Err fault) b → ReadsInParts slave size a result b
  parts-unopened result fault is opens = subst (λ (r : Result (List ℕ) RomFault). ReadsInParts slave size a r b) (sym is) (inl opens)

-- A LINE

-- the first slaves were opened and read
pub record FirstSo (sizes : List ℕ) (count : ℕ) (a b : Seen) : Type 0 where
  pub log : List Asked
  pub asked : AskedInTurn log a b
  pub first : FirstReadBy sizes count log

pub first-none : (sizes : List ℕ) (seen : Seen) → FirstSo sizes 0 seen seen
first-none sizes seen = record { log = []; asked = refl; first = no_slave }

module _ (sizes : List ℕ) (count : ℕ) {a b c : Seen} (so : FirstSo sizes count a b) where
  pub first-more : (words : List ℕ) → Takes (ReadsSlaveBy count (slice_index sizes count)) b (Ok words) c → FirstSo sizes (count + 1) a c
  first-more words takes =
      let took = takes.took in
      record {
        log = so.log ++ takes.log;
        asked = asked-then so.log takes.log a b c so.asked takes.asked;
        first = one_more_slave so.first (record { front = took.front; after = took.after; log_is = took.log_is; opens = took.opens; reads = took.reads });
      }

  pub line-breaks : {T : Type 0} (fault : RomFault) → count < length sizes → Takes (ReadsSlaveBy {T = List ℕ} count (slice_index sizes count)) b (Err fault) c
      → Takes (ReadsLineBy {T = T} sizes) a (Err fault) c
  line-breaks fault inside takes = record {
    log = so.log ++ takes.log;
    asked = asked-then so.log takes.log a b c so.asked takes.asked;
    took = inl (record { count = count; inside = inside; front = so.log; after = takes.log; log_is = refl; first = so.first; last = takes.took });
  }

pub line-no-memory : {T : Type 0} (sizes : List ℕ) (count : ℕ) {a b : Seen} → count < length sizes → FirstSo sizes (count + 1) a b → Takes (ReadsLineBy {T = T} sizes) a (Err rom.Memory) b
line-no-memory sizes count inside so = record { log = so.log; asked = so.asked; took = inr (record { count = count; inside = inside; read = so.first; memory = refl }) }

pub line-read : {T : Type 0} (sizes : List ℕ) (count : ℕ) {a b : Seen} (value : T) → count ≡ length sizes → FirstSo sizes count a b → Takes (ReadsLineBy sizes) a (Ok value) b
line-read sizes count value all so = record { log = so.log; asked = so.asked; took = subst (λ (n : ℕ). FirstReadBy sizes n so.log) all so.first }

-- what is known after a fault
pub kept-as : {T : Type 0} (sizes : List ℕ) (a b : Seen) (result : Result T RomFault) (fault : RomFault) → result ≡ Err fault → KeepsFirst sizes a fault b
    → IfErr result (λ other. KeepsFirst sizes a other b)
kept-as {T} sizes a b result fault is kept = subst (λ (r : Result T RomFault). IfErr r (λ other. KeepsFirst sizes a other b)) (sym is) kept
