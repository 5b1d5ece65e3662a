use Rattle.std.proofs.Common.{◌≡◌, ◌<◌, ◌+◌, ◌∙◌, ℕ, List, ap, sym, subst, arith, length, take, set, get_or}
use Rattle.sii_words.specs.declared.run.Run.{Run}
use Rattle.book_parts.specs.Works.{Counted}
use Rattle.book_parts.proofs.StepLaws.{run-read}
use Rattle.book_parts.proofs.RoomLaws.{of-slaves-at, counted-run}
use Rattle.book_parts.proofs.reserving.count_entry.Goals as goal

pub bounds-counts-slave : goal.bounds-counts-slave
bounds-counts-slave c =
    let runs = c.args.entry.now.runs in
    let j = c.loop-run.run-index in
    let within : j < length runs = omega (arith, ap length c.as_slice-run-items.ensures) in
    let run_is = run-read runs c.as_slice-run-items.result.now j c.run-item.result c.as_slice-run-items.ensures c.loop-run-test.true c.run-item.is in
    let slave : c.run-item.result.slave < length c.args.counts.now = subst (λ (r : Run). r.slave < length c.args.counts.now) (sym run_is) (of-slaves-at (length c.args.counts.now) runs j c.requires within) in
    omega (arith, c.loop-run.invariant.same)

pub bounds-counts-slave-in-Some : goal.bounds-counts-slave-in-Some
bounds-counts-slave-in-Some c =
    let runs = c.args.entry.now.runs in
    let j = c.loop-run.run-index in
    let within : j < length runs = omega (arith, ap length c.as_slice-run-items.ensures) in
    let run_is = run-read runs c.as_slice-run-items.result.now j c.run-item.result c.as_slice-run-items.ensures c.loop-run-test.true c.run-item.is in
    let slave : c.run-item.result.slave < length c.args.counts.now = subst (λ (r : Run). r.slave < length c.args.counts.now) (sym run_is) (of-slaves-at (length c.args.counts.now) runs j c.requires within) in
    omega (arith, c.loop-run.invariant.same)

pub loop-run-preserved : goal.loop-run-preserved
loop-run-preserved c =
    let runs = c.args.entry.now.runs in
    let old = c.args.counts.now in
    let now = c.loop-run.counts in
    let j = c.loop-run.run-index in
    let count = c.in-Some.count in
    let within : j < length runs = omega (arith, ap length c.as_slice-run-items.ensures) in
    let run_is = run-read runs c.as_slice-run-items.result.now j c.run-item.result c.as_slice-run-items.ensures c.loop-run-test.true c.run-item.is in
    let sum = c.in-Some.ensures.1 ∙ ap (λ (l : List ℕ). get_or now c.run-item.result.slave 0 + length l) c.as_slice.ensures in
    subst (λ (r : Run). Counted old (set now r.slave count) (take (j + 1) runs)) (sym run_is)
    (counted-run old now runs j count within (of-slaves-at (length old) runs j c.requires within) c.loop-run.invariant
    (subst (λ (r : Run). count ≡ get_or now r.slave 0 + length r.words) run_is sum))
