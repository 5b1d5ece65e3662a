use Rattle.std.proofs.Common.{◌<◌, ◌+◌, ◌∙◌, ℕ, List, ap, arith, length, take, get_or}
use Rattle.std.proofs.lemmas.List.{length-take-le, take_all}
use Rattle.book_model.specs.Pending.{Pending, word_named}
use Rattle.book_model.specs.Entries.{named_from}
use Rattle.book_parts.specs.Works.{words_named}
use Rattle.book_parts.proofs.NamedLaws.{length-named_from, named-cells, named-room, run-more}
use Rattle.book_parts.proofs.naming.name_run.Goals as goal

pub name-requires-clause-inside : goal.name-requires-clause-inside
name-requires-clause-inside c =
    let words = ap length c.as_slice-value-items.ensures in
    let ns = take c.loop-place.place (named_from c.args.run.now.first c.args.run.now.words) in
    let cells = ap (λ (p : Pending). length p.cells) c.loop-place.invariant ∙ named-cells c.args.queue.now ns c.args.number in
    omega arith

pub name-requires-clause-room : goal.name-requires-clause-room
name-requires-clause-room c =
    let words = ap length c.as_slice-value-items.ensures in
    let all = named_from c.args.run.now.first c.args.run.now.words in
    let ns = take c.loop-place.place all in
    let few = length-take-le c.loop-place.place all (omega (arith, length-named_from c.args.run.now.first c.args.run.now.words)) in
    let room = ap (λ (p : Pending). p.room) c.loop-place.invariant ∙ named-room c.args.queue.now ns c.args.number in
    omega arith

pub loop-place-preserved : goal.loop-place-preserved
loop-place-preserved c =
    let words = c.as_slice-value-items.ensures in
    let inside : c.loop-place.place < length c.args.run.now.words = omega (arith, ap length words) in
    c.name.ensures ∙ ap (λ (l : List ℕ). word_named c.loop-place.queue (c.args.run.now.first + c.loop-place.place) (get_or l c.loop-place.place 0) c.args.number) words
    ∙ run-more c.args.queue.now c.loop-place.queue c.args.run.now.first c.loop-place.place c.args.number c.args.run.now.words inside c.loop-place.invariant

pub returns : goal.returns
returns c =
    let all = named_from c.args.run.now.first c.args.run.now.words in
    c.loop-place.invariant ∙ ap (λ (l : List (ℕ × ℕ)). words_named c.args.queue.now l c.args.number) (take_all c.loop-place.place all (omega (arith, ap length c.as_slice-value-items.ensures, length-named_from c.args.run.now.first c.args.run.now.words)))
