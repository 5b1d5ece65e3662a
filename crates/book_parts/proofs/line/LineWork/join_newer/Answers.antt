use Rattle.std.proofs.Common.{◌≡◌, ◌∙◌, List, ◌++◌, sym, subst, ap, arith, length, append_assoc}
use Rattle.std.proofs.lemmas.List.{with_items_is}
use Rattle.std.specs.Vec.{with_items}
use Rattle.book_model.specs.Entries.{runs_of}
use Rattle.book_parts.specs.declared.work.SlaveWork.{SlaveWork}
use Rattle.book_parts.specs.Line.{LineState, AreOfLine, NeverFall, with_newer}
use Rattle.book_parts.specs.Works.{line_of}
use Rattle.book_parts.proofs.StepLaws.{EntriesLive}
use Rattle.book_parts.proofs.LineLaws.{lies, stands-newer, with-newer}
use Rattle.book_parts.proofs.line.LineWork.join_newer.Goals as goal

pub name_entries-requires-clause-inside : goal.name_entries-requires-clause-inside
name_entries-requires-clause-inside c =
    let runs = runs_of c.args.entries.now in
    rw c.deref_mut.ensures.value (lies c.self.inside.works.items c.self.inside.older c.self.inside.newer runs c.self.invariant.each (subst (λ (l : LineState). AreOfLine l.slaves runs) (sym c.self.view_is) c.requires.inside))

pub invariant_of-self : goal.invariant_of-self
invariant_of-self c =
    let items = c.self.inside.works.items in
    let older = c.self.inside.older in
    let newer = c.self.inside.newer in
    let entries = c.args.entries.now in
    let new = c.name_entries.new.works in
    let len : length new ≡ length items = omega (arith, c.name_entries.auto.works, ap length c.deref_mut.ensures.value) in
    let back : (with_items c.self.inside.works new).items ≡ new = with_items_is c.self.inside.works new (omega (arith, len, c.self.inside.works.ok.0)) in
    let live : EntriesLive items new entries = record { same = len; each = rw c.deref_mut.ensures.value at c.name_entries.ensures } in
    let order : NeverFall ((older ++ newer) ++ entries) = subst (λ (l : LineState). NeverFall ((l.older ++ l.newer) ++ entries)) (sym c.self.view_is) c.requires.order in
    rw (back, c.note_all.ensures) (record { each = stands-newer items new older newer entries c.self.invariant.each live; order = subst NeverFall (append_assoc older newer entries) order })

pub returns : goal.returns
returns c =
    let items = c.self.inside.works.items in
    let older = c.self.inside.older in
    let newer = c.self.inside.newer in
    let entries = c.args.entries.now in
    let new = c.name_entries.new.works in
    let len : length new ≡ length items = omega (arith, c.name_entries.auto.works, ap length c.deref_mut.ensures.value) in
    let back : (with_items c.self.inside.works new).items ≡ new = with_items_is c.self.inside.works new (omega (arith, len, c.self.inside.works.ok.0)) in
    let live : EntriesLive items new entries = record { same = len; each = rw c.deref_mut.ensures.value at c.name_entries.ensures } in
    ap (λ (l : List SlaveWork). line_of l older c.note_all.new.history) back
    ∙ ap (line_of new older) c.note_all.ensures
    ∙ with-newer items new older newer entries live
    ∙ ap (λ (l : LineState). with_newer l entries) c.self.view_is
