use Rattle.std.proofs.Common.{◌∙◌, sym, ap, arith, length}
use Rattle.std.specs.Vec.{vec_capacity}
use Rattle.book_model.specs.declared.due.Held.{Held}
use Rattle.book_model.specs.Cells.{since, cell_of}
use Rattle.book_model.specs.Pending.{Pending}
use Rattle.book_model.specs.Queue.{room_in, known_of}
use Rattle.book_model.proofs.QueueLaws.{inside-words, held-at}
use Rattle.book_model.proofs.queue.SlaveQueue.issues.Goals as goal

pub index-requires : goal.index-requires
index-requires c =
    let inside = inside-words c.self.inside.namings.items c.self.inside.words.items (room_in (vec_capacity c.self.inside.namings) (length c.self.inside.namings.items)) c.args.word c.args.self.now c.self.view_is c.requires in
    omega (arith, c.self.inside.words.ok.0)

pub returns-in-Value : goal.returns-in-Value
returns-in-Value c =
    let room = room_in (vec_capacity c.self.inside.namings) (length c.self.inside.namings.items) in
    let inside = inside-words c.self.inside.namings.items c.self.inside.words.items room c.args.word c.args.self.now c.self.view_is c.requires in
    ap (λ (h : Held). since (known_of h)) (sym c.in-Value.is)
    ∙ held-at c.self.inside.namings.items c.self.inside.words.items room c.args.word c.index.result.now inside c.index.ensures
    ∙ ap (λ (p : Pending). since (cell_of p.cells c.args.word).known) c.self.view_is

pub returns-in-Issued : goal.returns-in-Issued
returns-in-Issued c =
    let room = room_in (vec_capacity c.self.inside.namings) (length c.self.inside.namings.items) in
    let inside = inside-words c.self.inside.namings.items c.self.inside.words.items room c.args.word c.args.self.now c.self.view_is c.requires in
    ap (λ (h : Held). since (known_of h)) (sym c.in-Issued.is)
    ∙ held-at c.self.inside.namings.items c.self.inside.words.items room c.args.word c.index.result.now inside c.index.ensures
    ∙ ap (λ (p : Pending). since (cell_of p.cells c.args.word).known) c.self.view_is
