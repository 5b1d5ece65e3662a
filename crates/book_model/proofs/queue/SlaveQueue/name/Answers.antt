use Rattle.std.proofs.Common.{◌≡◌, ◌<◌, ◌≤◌, ◌+◌, ◌-◌, ◌∙◌, ℕ, List, [], ◌∷◌, ◌++◌, refl, sym, ap, subst, arith, length, set}
use Rattle.std.specs.Prelude.{if◌then◌else◌}
use Rattle.std.proofs.lemmas.List.{get_or_read, length_push, length-map}
use Rattle.std.specs.Vec.{vec_capacity}
use Rattle.book_model.specs.Cells.{is_held}
use Rattle.book_model.specs.declared.due.Naming.{Naming}
use Rattle.book_model.specs.declared.due.Word.{Word}
use Rattle.book_model.specs.Pending.{Pending, word_named}
use Rattle.book_model.specs.Queue.{room_in, no_word, word_at, live_of, known_of, pending_of, pair_of, Stands, Cursor}
use Rattle.book_model.proofs.QueueLaws.{inside-words}
use Rattle.book_model.proofs.NameLaws.{stands-named, cursor-named, names, mark-within, mark-more}
use Rattle.book_model.proofs.RoomLaws.{room-less, room-some}
use Rattle.book_model.proofs.EndLaws.{end-le}
use Rattle.book_model.proofs.SettledLaws.{settled-named}
use Rattle.book_model.proofs.queue.SlaveQueue.name.Goals as goal

pub index-old-requires : goal.index-old-requires
index-old-requires c =
    let inside = inside-words c.self.inside.namings.items c.self.inside.words.items (room_in (vec_capacity c.self.inside.namings) (length c.self.inside.namings.items)) c.args.word c.args.self.now c.self.view_is c.requires.inside in
    omega (arith, c.self.inside.words.ok.0)

pub index_mut-requires : goal.index_mut-requires
index_mut-requires c =
    let inside = inside-words c.self.inside.namings.items c.self.inside.words.items (room_in (vec_capacity c.self.inside.namings) (length c.self.inside.namings.items)) c.args.word c.args.self.now c.self.view_is c.requires.inside in
    omega (arith, c.self.inside.words.ok.0)

pub invariant_of-self : goal.invariant_of-self
invariant_of-self c =
    let namings = c.self.inside.namings.items in
    let words = c.self.inside.words.items in
    let inside = inside-words namings words (room_in (vec_capacity c.self.inside.namings) (length namings)) c.args.word c.args.self.now c.self.view_is c.requires.inside in
    let old : c.index-old.result.now ≡ word_at words c.args.word = get_or_read words c.args.word c.index-old.result.now inside c.index-old.ensures no_word in
    let n : Naming = record { word = c.args.word; value = c.args.value; before = c.index-old.result.now.end; entry = c.args.number } in
    let new : Word = record { held = c.index-old.result.now.held; end = c.len-end.result; mark = c.mark_named.result } in
    let end : c.len-end.result ≡ length namings + 1 = omega (arith, c.self.inside.namings.ok.0, c.len-end.ensures, c.push_reserved.ensures.len) in
    let w = c.self.invariant.0.each_word c.args.word inside in
    let low : c.index-old.result.now.mark ≤ c.len-end.result = subst (λ (v : Word). v.mark ≤ c.len-end.result) (sym old) (omega (arith, w.end, w.mark, end-le c.args.word (live_of namings), length-map namings pair_of)) in
    let mark : c.mark_named.result ≤ c.len-end.result = mark-within (is_held (known_of c.index-old.result.now.held) c.args.value) c.mark_named.result c.len-end.result c.index-old.result.now.mark c.mark_named.ensures low in
    let s : Stands (namings ++ n ∷ []) (set words c.args.word new) = stands-named namings words c.args.word n new c.self.invariant.0 inside refl (ap (λ (v : Word). v.end) old) end mark in
    let some : 0 < room_in (vec_capacity c.self.inside.namings) (length namings) = subst (λ (p : Pending). 0 < p.room) (sym c.self.view_is) c.requires.room in
    let k : Cursor c.self.inside.cursor (namings ++ n ∷ []) (set words c.args.word new) = cursor-named namings words c.self.inside.cursor c.args.word n new c.self.invariant.1 inside end in (
      subst (λ (l : List Naming). Stands l (set words c.args.word new)) (sym c.push_reserved.ensures.items) s,
      subst (λ (l : List Naming). Cursor c.self.inside.cursor l (set words c.args.word new)) (sym c.push_reserved.ensures.items) k,
      rw (c.deref.ensures.value, c.deref-2.ensures.value) at c.settled_from-self-inside.ensures,
      rw (c.push_reserved.ensures.items, length_push namings n) (room-some (vec_capacity c.self.inside.namings) (length namings) some).1,
    )

pub returns : goal.returns
returns c =
    let namings = c.self.inside.namings.items in
    let words = c.self.inside.words.items in
    let room = room_in (vec_capacity c.self.inside.namings) (length namings) in
    let inside = inside-words namings words room c.args.word c.args.self.now c.self.view_is c.requires.inside in
    let old : c.index-old.result.now ≡ word_at words c.args.word = get_or_read words c.args.word c.index-old.result.now inside c.index-old.ensures no_word in
    let n : Naming = record { word = c.args.word; value = c.args.value; before = c.index-old.result.now.end; entry = c.args.number } in
    let new : Word = record { held = c.index-old.result.now.held; end = c.len-end.result; mark = c.mark_named.result } in
    let end : c.len-end.result ≡ length namings + 1 = omega (arith, c.self.inside.namings.ok.0, c.len-end.ensures, c.push_reserved.ensures.len) in
    let mark : c.mark_named.result ≡ (if is_held (known_of (word_at words c.args.word).held) c.args.value then length namings + 1 else (word_at words c.args.word).mark) =
    c.mark_named.ensures ∙ ap (λ (w : Word). if is_held (known_of w.held) c.args.value then c.len-end.result else w.mark) old
    ∙ ap (λ (e : ℕ). if is_held (known_of (word_at words c.args.word).held) c.args.value then e else (word_at words c.args.word).mark) end in
    let less : room_in (vec_capacity c.push_reserved.new.self) (length c.push_reserved.new.self.items) ≡ room - 1 =
    rw (c.push_reserved.ensures.capacity, c.push_reserved.ensures.items, length_push namings n) (room-less (vec_capacity c.self.inside.namings) (length namings)) in
    ap (λ (l : List Naming). pending_of l (set words c.args.word new) (room_in (vec_capacity c.push_reserved.new.self) (length c.push_reserved.new.self.items))) c.push_reserved.ensures.items
    ∙ ap (pending_of (namings ++ n ∷ []) (set words c.args.word new)) less
    ∙ names namings words room c.args.word c.args.value n new c.self.invariant.0 inside refl (ap (λ (w : Word). w.held) old) mark
    ∙ ap (λ (p : Pending). word_named p c.args.word c.args.value c.args.number) c.self.view_is

pub settled_from-self-inside-requires : goal.settled_from-self-inside-requires
settled_from-self-inside-requires c =
    let namings = c.self.inside.namings.items in
    let words = c.self.inside.words.items in
    let inside = inside-words namings words (room_in (vec_capacity c.self.inside.namings) (length namings)) c.args.word c.args.self.now c.self.view_is c.requires.inside in
    let old : c.index-old.result.now ≡ word_at words c.args.word = get_or_read words c.args.word c.index-old.result.now inside c.index-old.ensures no_word in
    let n : Naming = record { word = c.args.word; value = c.args.value; before = c.index-old.result.now.end; entry = c.args.number } in
    let new : Word = record { held = c.index-old.result.now.held; end = c.len-end.result; mark = c.mark_named.result } in
    let end : c.len-end.result ≡ length namings + 1 = omega (arith, c.self.inside.namings.ok.0, c.len-end.ensures, c.push_reserved.ensures.len) in
    let w = c.self.invariant.0.each_word c.args.word inside in
    let low : c.index-old.result.now.mark ≤ c.len-end.result = subst (λ (v : Word). v.mark ≤ c.len-end.result) (sym old) (omega (arith, w.end, w.mark, end-le c.args.word (live_of namings), length-map namings pair_of)) in
    let mark : c.mark_named.result ≤ c.len-end.result = mark-within (is_held (known_of c.index-old.result.now.held) c.args.value) c.mark_named.result c.len-end.result c.index-old.result.now.mark c.mark_named.ensures low in
    let s : Stands (namings ++ n ∷ []) (set words c.args.word new) = stands-named namings words c.args.word n new c.self.invariant.0 inside refl (ap (λ (v : Word). v.end) old) end mark in
    let grows : (word_at words c.args.word).mark ≤ c.mark_named.result =
    subst (λ (v : Word). v.mark ≤ c.mark_named.result) old (mark-more (is_held (known_of c.index-old.result.now.held) c.args.value) c.mark_named.result c.len-end.result c.index-old.result.now.mark c.mark_named.ensures low) in
    rw (c.deref.ensures.value, c.deref-2.ensures.value, c.push_reserved.ensures.items) (record {
      stands = s;
      settled = settled-named namings words c.self.inside.settled c.args.word n new c.self.invariant.2.before inside grows;
    })
