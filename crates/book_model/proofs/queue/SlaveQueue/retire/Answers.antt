use Rattle.std.proofs.Common.{true, ◌≡◌, ◌≤◌, ◌+◌, ◌-◌, ◌∙◌, List, length, take, drop, map, sym, ap, subst, arith}
use Rattle.std.proofs.lemmas.List.{with_items_is, length-map, length-drop}
use Rattle.std.specs.Vec.{vec_capacity, with_items}
use Rattle.book_model.specs.declared.due.Naming.{Naming}
use Rattle.book_model.specs.declared.due.Word.{Word}
use Rattle.book_model.specs.Pending.{Pending, retired, can_retire}
use Rattle.book_model.specs.Queue.{CanRetire}
use Rattle.book_model.specs.Queue.{room_in, naming_down, word_down, pending_of}
use Rattle.book_model.proofs.DownLaws.{moved-items, inside-live, stands-down, cursor-down, retires}
use Rattle.book_model.proofs.RoomLaws.{room-more}
use Rattle.book_model.proofs.SettledLaws.{settled-down, settled-can}
use Rattle.book_model.proofs.queue.SlaveQueue.retire.Goals as goal

pub invariant_of-self : goal.invariant_of-self
invariant_of-self c =
    let count = c.args.count in
    let namings = c.self.inside.namings.items in
    let words = c.self.inside.words.items in
    let some = c.namings_down.new.namings in
    let few : count ≤ length namings = inside-live namings words (room_in (vec_capacity c.self.inside.namings) (length namings)) count c.args.self.now c.self.view_is c.requires.inside in
    let back = with_items_is c.self.inside.namings some (omega (arith, c.namings_down.auto.namings, c.deref_mut-2.ensures.len)) in
    let left : c.truncate.new.self.items ≡ map (naming_down count) (drop count namings) =
    moved-items namings c.deref_mut-2.result.now some c.truncate.new.self.items count c.len.result c.deref_mut-2.ensures.value c.namings_down.ensures (omega (arith, c.deref_mut-2.ensures.len, c.len.ensures))
    (c.truncate.ensures.items ∙ ap (take (c.len.result - count)) back) in
    let wrote : c.words_down.new.words ≡ map (word_down count) words = c.words_down.ensures ∙ ap (map (word_down count)) c.deref_mut.ensures.value in
    let all : (with_items c.self.inside.words c.words_down.new.words).items ≡ map (word_down count) words =
    with_items_is c.self.inside.words c.words_down.new.words (omega (arith, ap length wrote, length-map words (word_down count), c.self.inside.words.ok.0)) ∙ wrote in
    let room = room_in (vec_capacity c.self.inside.namings) (length namings) in
    let can : CanRetire (pending_of namings words room) count = settled-can namings words count room (subst (λ (p : Pending). can_retire p count ≡ true) (sym c.self.view_is) c.requires.settled) in
    let s = stands-down namings words count c.self.invariant.0 few in
    let k = cursor-down namings words c.self.inside.cursor count c.self.invariant.1 in
    let t = settled-down namings words c.self.inside.settled count room c.self.invariant.0 c.self.invariant.2 few can in
    rw (left, all, c.saturating_sub-self-inside.ensures, c.saturating_sub-self-inside-2.ensures) (s, k, t, rw (length-map (drop count namings) (naming_down count), length-drop count namings) (omega (arith, c.self.invariant.3)))

pub returns : goal.returns
returns c =
    let count = c.args.count in
    let namings = c.self.inside.namings.items in
    let words = c.self.inside.words.items in
    let some = c.namings_down.new.namings in
    let few : count ≤ length namings = inside-live namings words (room_in (vec_capacity c.self.inside.namings) (length namings)) count c.args.self.now c.self.view_is c.requires.inside in
    let back = with_items_is c.self.inside.namings some (omega (arith, c.namings_down.auto.namings, c.deref_mut-2.ensures.len)) in
    let left : c.truncate.new.self.items ≡ map (naming_down count) (drop count namings) =
    moved-items namings c.deref_mut-2.result.now some c.truncate.new.self.items count c.len.result c.deref_mut-2.ensures.value c.namings_down.ensures (omega (arith, c.deref_mut-2.ensures.len, c.len.ensures))
    (c.truncate.ensures.items ∙ ap (take (c.len.result - count)) back) in
    let wrote : c.words_down.new.words ≡ map (word_down count) words = c.words_down.ensures ∙ ap (map (word_down count)) c.deref_mut.ensures.value in
    let all : (with_items c.self.inside.words c.words_down.new.words).items ≡ map (word_down count) words =
    with_items_is c.self.inside.words c.words_down.new.words (omega (arith, ap length wrote, length-map words (word_down count), c.self.inside.words.ok.0)) ∙ wrote in
    let room = room_in (vec_capacity c.self.inside.namings) (length namings) in
    let more : room_in (vec_capacity c.truncate.new.self) (length c.truncate.new.self.items) ≡ room + count =
    rw (c.truncate.ensures.capacity, left, length-map (drop count namings) (naming_down count), length-drop count namings)
    (room-more (vec_capacity c.self.inside.namings) (length namings) count (omega (arith, c.self.inside.namings.ok.0, c.self.inside.namings.ok.1)) c.self.invariant.3 few) in
    let can : CanRetire (pending_of namings words room) count = settled-can namings words count room (subst (λ (p : Pending). can_retire p count ≡ true) (sym c.self.view_is) c.requires.settled) in
    ap (λ (l : List Naming). pending_of l (with_items c.self.inside.words c.words_down.new.words).items (room_in (vec_capacity c.truncate.new.self) (length c.truncate.new.self.items))) left
    ∙ ap (λ (l : List Word). pending_of (map (naming_down count) (drop count namings)) l (room_in (vec_capacity c.truncate.new.self) (length c.truncate.new.self.items))) all
    ∙ ap (pending_of (map (naming_down count) (drop count namings)) (map (word_down count) words)) more
    ∙ retires namings words room count can
    ∙ ap (λ (p : Pending). retired p count) c.self.view_is
