use Rattle.std.proofs.Common.{◌≡◌, ◌∙◌, refl, ap, arith, length}
use Rattle.std.proofs.lemmas.List.{get_or_read}
use Rattle.std.specs.Vec.{vec_capacity}
use Rattle.book_model.specs.declared.due.Word.{Word}
use Rattle.book_model.specs.declared.due.Held.TheVariants.{Value}
use Rattle.book_model.specs.Pending.{Pending, word_written}
use Rattle.book_model.specs.Queue.{room_in, no_word, word_at}
use Rattle.book_model.proofs.QueueLaws.{inside-words, stands-set, cursor-set}
use Rattle.book_model.proofs.WrittenLaws.{writes}
use Rattle.book_model.proofs.SettledLaws.{settled-set}
use Rattle.book_model.proofs.queue.SlaveQueue.written.Goals as goal

pub mark_after-mark-requires-clause-inside : goal.mark_after-mark-requires-clause-inside
mark_after-mark-requires-clause-inside c =
    let inside = inside-words c.self.inside.namings.items c.self.inside.words.items (room_in (vec_capacity c.self.inside.namings) (length c.self.inside.namings.items)) c.args.word c.args.self.now c.self.view_is c.requires in
    omega (arith, ap length c.deref-2.ensures.value)

pub index-requires : goal.index-requires
index-requires c =
    let inside = inside-words c.self.inside.namings.items c.self.inside.words.items (room_in (vec_capacity c.self.inside.namings) (length c.self.inside.namings.items)) c.args.word c.args.self.now c.self.view_is c.requires in
    omega (arith, c.self.inside.words.ok.0)

pub index_mut-requires : goal.index_mut-requires
index_mut-requires c =
    let inside = inside-words c.self.inside.namings.items c.self.inside.words.items (room_in (vec_capacity c.self.inside.namings) (length c.self.inside.namings.items)) c.args.word c.args.self.now c.self.view_is c.requires in
    omega (arith, c.self.inside.words.ok.0)

pub invariant_of-self : goal.invariant_of-self
invariant_of-self c =
    let namings = c.self.inside.namings.items in
    let words = c.self.inside.words.items in
    let inside = inside-words namings words (room_in (vec_capacity c.self.inside.namings) (length namings)) c.args.word c.args.self.now c.self.view_is c.requires in
    let old : c.index.result.now ≡ word_at words c.args.word = get_or_read words c.args.word c.index.result.now inside c.index.ensures no_word in
    let end : c.index.result.now.end ≡ (word_at words c.args.word).end = ap (λ (w : Word). w.end) old in
    let stands = c.self.invariant.0.each_word c.args.word inside in
    let most = rw c.deref-2.ensures.value at c.mark_after-mark.ensures.inside in
    let past = c.self.invariant.1.past c.args.word inside in
    let new : Word = record { held = Value c.args.value; end = c.index.result.now.end; mark = c.mark_after-mark.result } in (
      stands-set namings words c.args.word new c.self.invariant.0 inside (record { end = end ∙ stands.end; mark = omega (arith, most, end) }),
      cursor-set namings words c.self.inside.cursor c.args.word new c.self.invariant.1 inside (λ le. let p = past (omega arith) in let g = rw c.deref-2.ensures.value at c.mark_after-mark.ensures.grows in omega arith),
      rw (c.deref-3.ensures.value, c.deref-4.ensures.value) at c.settled_from-self-inside.ensures,
      c.self.invariant.3,
    )

pub returns : goal.returns
returns c =
    let namings = c.self.inside.namings.items in
    let words = c.self.inside.words.items in
    let room = room_in (vec_capacity c.self.inside.namings) (length namings) in
    let inside = inside-words namings words room c.args.word c.args.self.now c.self.view_is c.requires in
    let owed = rw (c.deref.ensures.value, c.deref-2.ensures.value) at c.mark_after-mark.ensures.owed in
    writes namings words room c.args.word c.args.value (record { held = Value c.args.value; end = c.index.result.now.end; mark = c.mark_after-mark.result }) inside refl owed
    ∙ ap (λ (p : Pending). word_written p c.args.word c.args.value) c.self.view_is

pub settled_from-self-inside-requires : goal.settled_from-self-inside-requires
settled_from-self-inside-requires c =
    let namings = c.self.inside.namings.items in
    let words = c.self.inside.words.items in
    let inside = inside-words namings words (room_in (vec_capacity c.self.inside.namings) (length namings)) c.args.word c.args.self.now c.self.view_is c.requires in
    let old : c.index.result.now ≡ word_at words c.args.word = get_or_read words c.args.word c.index.result.now inside c.index.ensures no_word in
    let end : c.index.result.now.end ≡ (word_at words c.args.word).end = ap (λ (w : Word). w.end) old in
    let stands = c.self.invariant.0.each_word c.args.word inside in
    let most = rw c.deref-2.ensures.value at c.mark_after-mark.ensures.inside in
    let grows = rw c.deref-2.ensures.value at c.mark_after-mark.ensures.grows in
    let new : Word = record { held = Value c.args.value; end = c.index.result.now.end; mark = c.mark_after-mark.result } in
    rw (c.deref-3.ensures.value, c.deref-4.ensures.value) (record {
      stands = stands-set namings words c.args.word new c.self.invariant.0 inside (record { end = end ∙ stands.end; mark = omega (arith, most, end) });
      settled = settled-set namings words c.self.inside.settled c.args.word new c.self.invariant.2.before inside grows;
    })
