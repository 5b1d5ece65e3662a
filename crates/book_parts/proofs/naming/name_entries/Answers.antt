use Rattle.std.proofs.Common.{◌∙◌, List, ap, sym, subst, arith}
use Rattle.std.proofs.lemmas.List.{take_all}
use Rattle.jrn_format.specs.declared.journal.Entry.{Entry}
use Rattle.book_model.specs.Entries.{namings}
use Rattle.book_parts.specs.Works.{words_named, entries_named, work_at, with_queue, RunsLie, HasRooms}
use Rattle.book_parts.proofs.StepLaws.{entry-lies, entry-room, entry-live}
use Rattle.book_parts.proofs.naming.name_entries.Goals as goal

pub name_entry-requires : goal.name_entry-requires
name_entry-requires c =
    let entries = c.args.entries.now in
    let j = c.loop-entry.entry-index in
    let old = c.args.works.now in
    let now = c.loop-entry.works in
    let e = c.entry-item.result in
    record {
      inside = subst (λ (x : Entry). RunsLie now x.runs) (sym c.entry-item.is) (entry-lies old now entries j e c.requires.inside c.loop-entry-test.true c.loop-entry.invariant);
      room = subst (λ (x : Entry). HasRooms now x.runs) (sym c.entry-item.is) (entry-room old now entries j e c.requires.room c.loop-entry-test.true c.loop-entry.invariant);
    }

pub loop-entry-preserved : goal.loop-entry-preserved
loop-entry-preserved c =
    let entries = c.args.entries.now in
    let j = c.loop-entry.entry-index in
    let old = c.args.works.now in
    let now = c.loop-entry.works in
    let next = c.name_entry.new.works in
    let e = c.entry-item.result in
    entry-live old now next entries j e c.loop-entry-test.true c.loop-entry.invariant (omega arith)
    (λ i inside. c.name_entry.ensures i inside
    ∙ ap (λ (x : Entry). with_queue (work_at now i) (words_named (work_at now i).queue (namings x.runs i) x.number)) c.entry-item.is)

pub returns : goal.returns
returns c = λ i inside.
    let all = take_all c.loop-entry.entry-index c.args.entries.now (omega arith) in
    c.loop-entry.invariant.each i inside ∙ ap (λ (l : List Entry). with_queue (work_at c.args.works.now i) (entries_named (work_at c.args.works.now i).queue l i)) all
