use Rattle.std.proofs.Common.{◌≡◌, ◌+◌, [], ◌∷◌, ℕ, take, length, get_or, ◌<◌, refl, sym, ap, arith, length-take-le}
use Rattle.std.proofs.lemmas.List.{take_more}
use Rattle.sii_words.specs.declared.run.Run.{Run}
use Rattle.sii_words.specs.Redo.{redone}
use Rattle.sii_words.specs.Plant.{with_word}
use Rattle.sii_words.proofs.RedoLaws.{SameShape-redone}
use Rattle.sii_words.proofs.GivenLaws.{redone-empty_run, redone-more}
use Rattle.sii_words.proofs.redoing.write_run.Goals as goal

pub loop-place-init : goal.loop-place-init
loop-place-init c = sym (redone-empty_run c.args.plant.now c.args.run.now.slave c.args.run.now.first)

pub set-requires-clause-slave : goal.set-requires-clause-slave
set-requires-clause-slave c =
    let run = c.args.run.now in
    let done : Run = record { slave = run.slave; first = run.first; words = take c.loop-place.place run.words } in
    let shape = SameShape-redone c.args.plant.now (done ∷ []) in
    omega (arith, ap length c.loop-place.invariant, shape.slaves, c.requires.slave)

pub set-requires-clause-word : goal.set-requires-clause-word
set-requires-clause-word c =
    let run = c.args.run.now in
    let done : Run = record { slave = run.slave; first = run.first; words = take c.loop-place.place run.words } in
    let shape = SameShape-redone c.args.plant.now (done ∷ []) in
    rw (c.loop-place.invariant, c.from.ensures) (omega (arith, shape.words run.slave, c.requires.words, ap length c.as_slice-word-items.ensures))

pub loop-place-preserved : goal.loop-place-preserved
loop-place-preserved c =
    let plant = c.args.plant.now in
    let run = c.args.run.now in
    let place = c.loop-place.place in
    let there : place < length run.words = omega (arith, ap length c.as_slice-word-items.ensures) in
    let done : Run = record { slave = run.slave; first = run.first; words = take place run.words } in
    let word : ℕ = get_or run.words place 0 in
    let size : length (take place run.words) ≡ place = length-take-le place run.words (omega arith) in
    let written : c.set.new.self ≡ with_word (redone plant (done ∷ [])) run.slave (run.first + place) word =
    rw (c.set.ensures, c.loop-place.invariant, c.from.ensures, c.from-first.ensures, c.as_slice-word-items.ensures) refl in
    let next = redone-more plant done word c.requires.slave (omega (arith, c.requires.words)) in
    rw (take_more run.words place 0 there, written) (rw size at next)
