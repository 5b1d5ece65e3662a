use Rattle.std.proofs.Common.{◌≡◌, ◌<◌, ◌+◌, ◌∙◌, List, ap, sym, subst, arith, length, take, set, get_or}
use Rattle.std.proofs.lemmas.List.{get_or_read, take_all}
use Rattle.sii_words.specs.declared.run.Run.{Run}
use Rattle.book_model.specs.Entries.{named_from, namings}
use Rattle.book_parts.specs.declared.work.SlaveWork.{SlaveWork}
use Rattle.book_parts.specs.Works.{words_named, work_at, no_work, with_queue, no_run}
use Rattle.book_parts.proofs.StepLaws.{RunsLive, RunNeeds, lie-at, run-needs, run-live}
use Rattle.book_parts.proofs.naming.name_entry.Goals as goal

pub bounds-works-run : goal.bounds-works-run
bounds-works-run c =
    let runs = c.args.entry.now.runs in
    let j = c.loop-run.run-index in
    let within : j < length runs = omega (arith, ap length c.as_slice-run-items.ensures) in
    let run_is : c.run-item.result ≡ get_or runs j no_run = get_or_read runs j c.run-item.result within (c.run-item.is ∙ ap (λ (l : List Run). get_or l j c.run-item.result) c.as_slice-run-items.ensures) no_run in
    let lies = lie-at c.args.works.now runs j c.requires.inside within in
    let slave : c.run-item.result.slave < length c.args.works.now = subst (λ (r : Run). r.slave < length c.args.works.now) (sym run_is) lies.slave in
    omega (arith, c.loop-run.invariant.same)

pub name_run-requires : goal.name_run-requires
name_run-requires c =
    let runs = c.args.entry.now.runs in
    let j = c.loop-run.run-index in
    let now = c.loop-run.works in
    let within : j < length runs = omega (arith, ap length c.as_slice-run-items.ensures) in
    let run_is : c.run-item.result ≡ get_or runs j no_run = get_or_read runs j c.run-item.result within (c.run-item.is ∙ ap (λ (l : List Run). get_or l j c.run-item.result) c.as_slice-run-items.ensures) no_run in
    let lies = lie-at c.args.works.now runs j c.requires.inside within in
    let slave : c.run-item.result.slave < length now = let s : c.run-item.result.slave < length c.args.works.now = subst (λ (r : Run). r.slave < length c.args.works.now) (sym run_is) lies.slave in omega (arith, c.loop-run.invariant.same) in
    let work_is : get_or now c.run-item.result.slave c.index-works-run.result ≡ work_at now c.run-item.result.slave =
    sym c.index-works-run.is ∙ get_or_read now c.run-item.result.slave c.index-works-run.result slave c.index-works-run.is no_work in
    let needs = run-needs c.args.works.now now runs j c.args.entry.now.number c.requires.inside c.requires.room within c.loop-run.invariant in
    let here : RunNeeds (work_at now c.run-item.result.slave) c.run-item.result = subst (λ (r : Run). RunNeeds (work_at now r.slave) r) (sym run_is) needs in
    let n : RunNeeds (get_or now c.run-item.result.slave c.index-works-run.result) c.run-item.result = subst (λ (w : SlaveWork). RunNeeds w c.run-item.result) (sym work_is) here in
    record { inside = n.inside; few = n.few; room = n.room }

pub loop-run-preserved : goal.loop-run-preserved
loop-run-preserved c =
    let runs = c.args.entry.now.runs in
    let number = c.args.entry.now.number in
    let j = c.loop-run.run-index in
    let old = c.args.works.now in
    let now = c.loop-run.works in
    let queue = c.name_run.new.queue in
    let within : j < length runs = omega (arith, ap length c.as_slice-run-items.ensures) in
    let run_is : c.run-item.result ≡ get_or runs j no_run = get_or_read runs j c.run-item.result within (c.run-item.is ∙ ap (λ (l : List Run). get_or l j c.run-item.result) c.as_slice-run-items.ensures) no_run in
    let lies = lie-at old runs j c.requires.inside within in
    let slave : c.run-item.result.slave < length now = let s : c.run-item.result.slave < length old = subst (λ (r : Run). r.slave < length old) (sym run_is) lies.slave in omega (arith, c.loop-run.invariant.same) in
    let work_is : get_or now c.run-item.result.slave c.index-works-run.result ≡ work_at now c.run-item.result.slave =
    sym c.index-works-run.is ∙ get_or_read now c.run-item.result.slave c.index-works-run.result slave c.index-works-run.is no_work in
    let is = c.name_run.ensures
    ∙ ap (λ (w : SlaveWork). words_named w.queue (named_from c.run-item.result.first c.run-item.result.words) number) work_is
    ∙ ap (λ (r : Run). words_named (work_at now r.slave).queue (named_from r.first r.words) number) run_is in
    subst (λ (w : SlaveWork). RunsLive old (set now c.run-item.result.slave (with_queue w queue)) (take (j + 1) runs) number) (sym work_is)
    (subst (λ (r : Run). RunsLive old (set now r.slave (with_queue (work_at now r.slave) queue)) (take (j + 1) runs) number) (sym run_is)
    (run-live old now runs j number queue c.requires.inside within c.loop-run.invariant is))

pub returns : goal.returns
returns c = λ i inside.
    let all = take_all c.loop-run.run-index c.args.entry.now.runs (omega (arith, ap length c.as_slice-run-items.ensures)) in
    c.loop-run.invariant.each i inside
    ∙ ap (λ (l : List Run). with_queue (work_at c.args.works.now i) (words_named (work_at c.args.works.now i).queue (namings l i) c.args.entry.now.number)) all
