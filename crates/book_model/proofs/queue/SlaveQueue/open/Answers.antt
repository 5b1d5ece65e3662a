use Rattle.std.proofs.Common.{◌∙◌, List, [], ap, sym, subst, arith}
use Rattle.book_model.specs.declared.due.Naming.{Naming}
use Rattle.book_model.specs.declared.due.Word.{Word}
use Rattle.book_model.specs.Queue.{live_of, cells_from, Stands, Cursor, SettledTo, IsInReach}
use Rattle.book_model.proofs.OpenLaws.{cells-read, stands-read, cursor-read, settled-read}
use Rattle.book_model.proofs.queue.SlaveQueue.open.Goals as goal

pub invariant_of-result : goal.invariant_of-result
invariant_of-result c =
    let words = c.args.words.now in
    let P : List Naming → List Word → Type 0 = λ n w. Stands n w × Cursor 0 n w × SettledTo 0 n w × IsInReach n in
    subst (λ (n : List Naming). P n c.in_ok-read_words.field-0.items) (sym c.new.ensures.items)
    (subst (λ (w : List Word). P [] w) (sym c.in_ok-read_words.ensures) (stands-read words, cursor-read words, settled-read words, omega arith))

pub returns-clause-cells : goal.returns-clause-cells
returns-clause-cells c =
    ap (λ (n : List Naming). cells_from (live_of n) 0 c.in_ok-read_words.field-0.items) c.new.ensures.items
    ∙ ap (λ (w : List Word). cells_from [] 0 w) c.in_ok-read_words.ensures ∙ cells-read 0 c.args.words.now
